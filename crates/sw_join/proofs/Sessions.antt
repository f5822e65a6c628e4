-- Sessions are drawn once.
use Rattle.std.proofs.Common.{◌≡◌, ◌⊎◌, ℕ, ◌+◌, ◌*◌, ◌<◌, ◌≤◌, ◌^◌, ◌%◌, ◌/◌, ◌==◌, Bool, true, false, if◌then◌else◌, List, [], ◌∷◌, ◌++◌, length, refl, ap, ◌∙◌, sym, subst, arith, Option, Some, None, slice_get, inl, inr, zero, suc}
use Rattle.std.proofs.lemmas.Bool.{cases_lt}
use Rattle.sw_lists.proofs.Lists.{each_append, each_left, each_more, each_right, eq_is, eq_other, eq_same, equal_or_not, length_append, perm_distinct, perm_each, perm_has, perm_length, perm_refl, perm_sym, rises_distinct, rises_right}
use Rattle.sw_lists.proofs.Sums.{sum_add, sum_le}
use Rattle.sw_lists.specs.Lists.{collect, Each, Has}
use Rattle.sw_lists.specs.Numbers.{Rises, Distinct, sum_below}
use Rattle.sw_lists.specs.Perm.{Perm, Nil, Skip, Swap, Then}
use Rattle.sw_step.specs.declared.actor.ActorId.{ActorId}
use Rattle.sw_step.specs.declared.actor.ActorId.TheVariants.{Door, Reactor}
use Rattle.sw_record.specs.Sessions.{some_of, sess, accepted_by, accepted_in, accepted, SessionsOnce, SessionsRise}
use Rattle.sw_record.specs.Terms.{Terms, session_of, ended_of, reactor_of}
use Rattle.sw_record.specs.Words.{NoSlot, NumbersSpent, Ended}
use Rattle.sw_record.specs.declared.record.LinkRecord.{LinkRecord}
use Rattle.sw_record.specs.declared.record.LinkState.{LinkState}
use Rattle.sw_record.specs.declared.record.LinkState.TheVariants.{Waiting, Live, Over}
use Rattle.sw_record.specs.declared.record.Record.{Record}
use Rattle.sw_past.specs.Claims.{Claim, Drew, Full, Spent, drew, drew_in, IsTaken, AreTaken, IsClaimed, last_then, IsClaims}
use Rattle.sw_past.specs.Messages.{Message, FreshMsg}
use Rattle.sw_past.specs.Past.{Mail, Past, drawn}
use Rattle.sw_past.specs.Routes.{MayPush}
use Rattle.sw_join.proofs.Claims.{claims_rise}
use Rattle.sw_join.proofs.Told.{shows, took_all}
use Rattle.sw_join.specs.Laws.{Aim, Ending, Joint, Locals}
use Rattle.sw_join.specs.Sessions.{WordLaws}
use Rattle.sw_join.specs.Shown.{FitsClaim, FitsClaims, IsShown}

-- numbers less than a slot count apart have different slots
times : (n a b : ℕ) → a < b → n * a + n ≤ n * b
times n a zero lt = absurd (omega arith)
times n a (suc b) lt = elim (equal_or_not a b) [
  | inl e ↦ (let f : n * a ≡ n * b = ap (λ x. n * x) e in omega arith)
  | inr o ↦ (let r : n * a + n ≤ n * b = times n a b (omega (arith, o)) in omega arith)
]

apart_slots : (n a b : ℕ) → a < b → b < a + n → a % n ≡ b % n → ⊥
apart_slots n a b lt less e =
    let x : n * (a / n) + a % n ≡ a = omega arith in
    let y : n * (b / n) + b % n ≡ b = omega arith in
    elim (cases_lt (a / n) (b / n)) [
      | inl l ↦ (let r : n * (a / n) + n ≤ n * (b / n) = times n (a / n) (b / n) l in omega arith)
      | inr g ↦ elim (equal_or_not (b / n) (a / n)) [
        | inl q ↦ (let f : n * (b / n) ≡ n * (a / n) = ap (λ z. n * z) q in omega arith)
        | inr o ↦ (let r : n * (b / n) + n ≤ n * (a / n) = times n (b / n) (a / n) (omega (arith, o)) in omega arith)
      ]
    ]

-- each d is in the slot of at most one of the numbers behind last
abbrev hit : ℕ → ℕ → ℕ → ℕ → ℕ
hit n last d k = if d % n == (last + 1 + k) % n then 1 else 0

hit_none : (n last d m : ℕ) → m < n → d % n ≡ (last + 1 + m) % n → (k : ℕ) → k ≤ m → sum_below (hit n last d) k ≡ 0
hit_none n last d m lt e zero le = refl
hit_none n last d m lt e (suc k) le =
    let a : sum_below (hit n last d) k ≡ 0 = hit_none n last d m lt e k (omega arith) in
    let b : hit n last d k ≡ 0 = rw (eq_other (d % n) ((last + 1 + k) % n) (λ q. apart_slots n (last + 1 + k) (last + 1 + m) (omega arith) (omega arith) (sym q ∙ e))) refl in
    omega arith

hit_most : (n last d k : ℕ) → k ≤ n → sum_below (hit n last d) k ≤ 1
hit_most n last d zero le = omega arith
hit_most n last d (suc k) le = pick (d % n == (last + 1 + k) % n) refl (hit_most n last d k (omega arith))
  where
    pick : (b : Bool) → d % n == (last + 1 + k) % n ≡ b → sum_below (hit n last d) k ≤ 1 → sum_below (hit n last d) k + hit n last d k ≤ 1
    pick true q r =
        let a : sum_below (hit n last d) k ≡ 0 = hit_none n last d k (omega arith) (eq_is (d % n) ((last + 1 + k) % n) q) k (omega arith) in
        let b : hit n last d k ≡ 1 = rw q refl in
        omega arith
    pick false q r = let b : hit n last d k ≡ 0 = rw q refl in omega arith

abbrev hits : ℕ → ℕ → List ℕ → ℕ → ℕ
hits n last [] k = 0
hits n last (d ∷ ds) k = hit n last d k + hits n last ds k

hits_most : (n last : ℕ) (ds : List ℕ) → sum_below (hits n last ds) n ≤ length ds
hits_most n last [] = zeros n
  where
    zeros : (m : ℕ) → sum_below (hits n last []) m ≤ 0
    zeros zero = omega arith
    zeros (suc m) = let a : sum_below (hits n last []) m ≤ 0 = zeros m in omega arith
hits_most n last (d ∷ ds) =
    let a : sum_below (λ k. hit n last d k + hits n last ds k) n ≡ sum_below (hit n last d) n + sum_below (hits n last ds) n = sum_add (hit n last d) (hits n last ds) n in
    let b : sum_below (hit n last d) n ≤ 1 = hit_most n last d n (omega arith) in
    let c : sum_below (hits n last ds) n ≤ length ds = hits_most n last ds in
    omega arith

hits_one : (n last k : ℕ) (ds : List ℕ) → IsTaken n ds (last + 1 + k) → 1 ≤ hits n last ds k
hits_one n last k ds i = at ds i.1.0.0 i.1.0.1
  where
    at : (xs : List ℕ) (m : ℕ) → slice_get xs m ≡ Some i.0 → 1 ≤ hits n last xs k
    at [] m e = absurd (cc)
    at (x ∷ xs) zero e = let q : x ≡ i.0 = cc in let b : hit n last x k ≡ 1 = rw (eq_same (x % n) ((last + 1 + k) % n) (ap (λ z. z % n) q ∙ i.1.1)) refl in omega arith
    at (x ∷ xs) (suc m) e = let r : 1 ≤ hits n last xs k = at xs m e in omega arith

-- where a whole round of numbers is taken, there are as many sessions as slots
full_round : (n last : ℕ) (ds : List ℕ) → AreTaken n ds last (last + n + 1) → n ≤ length ds
full_round n last ds t =
    let a : sum_below (λ k. 1) n ≤ sum_below (hits n last ds) n = sum_le (λ k. 1) (hits n last ds) n (λ k lt. hits_one n last k ds (t (last + 1 + k) (omega arith) (omega arith))) in
    let b : sum_below (λ k. 1) n ≡ n = ones n in
    let c : sum_below (hits n last ds) n ≤ length ds = hits_most n last ds in
    omega arith
  where
    ones : (m : ℕ) → sum_below (λ k. 1) m ≡ m
    ones zero = refl
    ones (suc m) = omega (arith, ones m)

full_count : (n last : ℕ) (ds : List ℕ) (xs : List (ℕ × Claim)) → IsClaims n last ds xs → (k ip : ℕ) → slice_get xs k ≡ Some (ip, Full) → n ≤ length ds + length (collect drew_in xs)
full_count n last ds [] c k ip e = absurd (cc)
full_count n last ds ((p, claim) ∷ xs) c zero ip e =
    let q : ◌≡◌ {A = ℕ × Claim} (p, claim) (ip, Full) = cc in
    let f : claim ≡ Full = ap (λ (x : ℕ × Claim). x.1) q in
    let r : n ≤ length ds = full_round n last ds (subst (IsClaimed n last ds) f c.1) in omega arith
full_count n last ds ((p, claim) ∷ xs) c (suc k) ip e =
    let r : n ≤ length (ds ++ drew claim) + length (collect drew_in xs) = full_count n (last_then n last claim) (ds ++ drew claim) xs c.2 k ip e in
    omega (arith, length_append ds (drew claim), length_append (drew claim) (collect drew_in xs))

last_most : (n last : ℕ) (ds : List ℕ) (c : Claim) → IsClaimed n last ds c → last_then n last c ≤ last + n
last_most n last ds (Drew s) i = i.1
last_most n last ds Full i = omega arith
last_most n last ds Spent i = let a : 2 ^ 32 ≤ last + n = i.0 in omega arith

spent_count : (n last : ℕ) (ds : List ℕ) (xs : List (ℕ × Claim)) → IsClaims n last ds xs → (k ip : ℕ) → slice_get xs k ≡ Some (ip, Spent) → 2 ^ 32 ≤ last + n * (k + 1)
spent_count n last ds [] c k ip e = absurd (cc)
spent_count n last ds ((p, claim) ∷ xs) c zero ip e =
    let q : ◌≡◌ {A = ℕ × Claim} (p, claim) (ip, Spent) = cc in
    let f : claim ≡ Spent = ap (λ (x : ℕ × Claim). x.1) q in
    let a : 2 ^ 32 ≤ last + n = (subst (IsClaimed n last ds) f c.1).0 in omega arith
spent_count n last ds ((p, claim) ∷ xs) c (suc k) ip e =
    let r : 2 ^ 32 ≤ last_then n last claim + n * (k + 1) = spent_count n (last_then n last claim) (ds ++ drew claim) xs c.2 k ip e in
    let m : last_then n last claim ≤ last + n = last_most n last ds claim c.1 in
    omega arith

-- where there are as many slots as claims, each claim draws the next number
not_taken : (n base last : ℕ) (ds : List ℕ) → Each (λ d. (base < d) × (d ≤ last)) ds → last < base + n → IsTaken n ds (last + 1) → ⊥
not_taken n base last ds h lt i =
    let b = has_each ds h i.1.0.0 i.1.0.1 in
    let low : base < i.0 = b.0 in
    let high : i.0 ≤ last = b.1 in
    apart_slots n i.0 (last + 1) (omega arith) (omega arith) i.1.1
  where
    has_each : (xs : List ℕ) → Each (λ d. (base < d) × (d ≤ last)) xs → (k : ℕ) → slice_get xs k ≡ Some i.0 → (base < i.0) × (i.0 ≤ last)
    has_each [] g k e = absurd (cc)
    has_each (x ∷ xs) g zero e = subst (λ z. (base < z) × (z ≤ last)) (let q : x ≡ i.0 = cc in q) g.0
    has_each (x ∷ xs) g (suc k) e = has_each xs g.1 k e

next_one : (n base last : ℕ) (ds : List ℕ) (c : Claim) → IsClaimed n last ds c → Each (λ d. (base < d) × (d ≤ last)) ds → base ≤ last → last < base + n → last + 1 < 2 ^ 32 → c ≡ Drew (last + 1)
next_one n base last ds (Drew s) i h le lt fits = elim (equal_or_not s (last + 1)) [
  | inl e ↦ ap Drew e
  | inr o ↦ absurd (let a : last < s = i.0 in not_taken n base last ds h lt (i.3 (last + 1) (omega arith) (omega (arith, o))))
]
next_one n base last ds Full i h le lt fits = absurd (not_taken n base last ds h lt (i (last + 1) (omega arith) (omega arith)))
next_one n base last ds Spent i h le lt fits = absurd (not_taken n base last ds h lt (i.1 (last + 1) (omega arith) (omega arith)))

next_at : (n base last : ℕ) (ds : List ℕ) (xs : List (ℕ × Claim)) → IsClaims n last ds xs → Each (λ d. (base < d) × (d ≤ last)) ds → base ≤ last → last + length xs ≤ base + n → (k : ℕ) (x : ℕ × Claim) → slice_get xs k ≡ Some x → last + k + 1 < 2 ^ 32 → x.1 ≡ Drew (last + k + 1)
next_at n base last ds [] c h le few k x e fits = absurd (cc)
next_at n base last ds (y ∷ xs) c h le few zero x e fits =
    let q : y ≡ x = cc in
    ap (λ (z : ℕ × Claim). z.1) (sym q) ∙ next_one n base last ds y.1 c.1 h le (omega arith) (omega arith) ∙ ap Drew (omega arith)
next_at n base last ds (y ∷ xs) c h le few (suc k) x e fits =
    let f : y.1 ≡ Drew (last + 1) = next_one n base last ds y.1 c.1 h le (omega arith) (omega arith) in
    let g : IsClaims n (last + 1) (ds ++ (last + 1) ∷ []) xs = subst (λ (z : Claim). IsClaims n (last_then n last z) (ds ++ drew z) xs) f c.2 in
    next_at n base (last + 1) (ds ++ (last + 1) ∷ []) xs g
    (each_append (λ d. (base < d) × (d ≤ last + 1)) ds ((last + 1) ∷ []) (each_more (λ d. (base < d) × (d ≤ last)) (λ d. (base < d) × (d ≤ last + 1)) ds (λ d b. (b.0, (let a : d ≤ last = b.1 in omega arith))) h) (((omega arith), (omega arith)), tt))
    (omega arith) (omega arith) k x e (omega arith)
    ∙ ap Drew (omega arith)

-- the accepted links and their claims
fits_at : (t : Terms) (ls : List LinkRecord) (xs : List (ℕ × Claim)) → FitsClaims t ls xs → (k : ℕ) (l : LinkRecord) → slice_get ls k ≡ Some l → (x : ℕ × Claim) × ((slice_get xs k ≡ Some x) × ((l.ip ≡ x.0) × FitsClaim t x.0 l.state x.1))
fits_at t [] xs f k l e = absurd (cc)
fits_at t (m ∷ ls) [] f k l e = absurd f
fits_at t (m ∷ ls) (x ∷ xs) f zero l e = (x, (refl, subst (λ (z : LinkRecord). (z.ip ≡ x.0) × FitsClaim t x.0 z.state x.1) (let q : m ≡ l = cc in q) (f.0, f.1)))
fits_at t (m ∷ ls) (x ∷ xs) f (suc k) l e = fits_at t ls xs f.2 k l e

pub fits_length : (t : Terms) (ls : List LinkRecord) (xs : List (ℕ × Claim)) → FitsClaims t ls xs → length ls ≡ length xs
fits_length t [] [] f = refl
fits_length t [] (x ∷ xs) f = absurd f
fits_length t (l ∷ ls) [] f = absurd f
fits_length t (l ∷ ls) (x ∷ xs) f = ap (λ k. suc k) (fits_length t ls xs f.2)

at_accepted : (ls : List LinkRecord) (l : LinkRecord) (e : Ended) (at : ℕ) → slice_get ls at ≡ Some l → ended_of l.state ≡ Some e → Has l (collect accepted_in ls)
at_accepted [] l e at there is = absurd (cc)
at_accepted (k ∷ ls) l e zero there is = let q : k ≡ l = cc in first k.state refl (ap (λ (z : LinkRecord). ended_of z.state) q ∙ is) q
  where
    first : (s : LinkState) → k.state ≡ s → ended_of s ≡ Some e → k ≡ l → Has l (accepted_by s k ++ collect accepted_in ls)
    first Waiting p i q = absurd (cc)
    first (Live x) p i q = (0, ap (λ z. Some z) q)
    first (Over x) p i q = (0, ap (λ z. Some z) q)
at_accepted (k ∷ ls) l e (suc at) there is = more k.state (at_accepted ls l e at there is)
  where
    more : (s : LinkState) → Has l (collect accepted_in ls) → Has l (accepted_by s k ++ collect accepted_in ls)
    more Waiting h = h
    more (Live x) h = (suc h.0, h.1)
    more (Over x) h = (suc h.0, h.1)

-- the sessions of links are those that were drawn, in order
fits_sess : (t : Terms) (ip : ℕ) (s : LinkState) (c : Claim) → FitsClaim t ip s c → some_of (session_of s) ≡ drew c
fits_sess t ip Waiting c f = absurd f
fits_sess t ip (Live e) (Drew s) f = ap some_of f.0
fits_sess t ip (Live e) Full f = absurd f
fits_sess t ip (Live e) Spent f = absurd f
fits_sess t ip (Over e) (Drew s) f = ap some_of f.0
fits_sess t ip (Over e) Full f = ap some_of f.0
fits_sess t ip (Over e) Spent f = ap some_of f.0

accepted_sess : (t : Terms) (ls : List LinkRecord) (xs : List (ℕ × Claim)) → FitsClaims t ls xs → collect sess ls ≡ collect drew_in xs
accepted_sess t [] [] f = refl
accepted_sess t [] (x ∷ xs) f = absurd f
accepted_sess t (l ∷ ls) [] f = absurd f
accepted_sess t (l ∷ ls) (x ∷ xs) f = ap (λ (zs : List ℕ). zs ++ collect sess ls) (fits_sess t x.0 l.state x.1 f.1) ∙ ap (λ zs. drew_in x ++ zs) (accepted_sess t ls xs f.2)

skip_waiting : (ls : List LinkRecord) → collect sess (collect accepted_in ls) ≡ collect sess ls
skip_waiting [] = refl
skip_waiting (l ∷ ls) = pick l.state refl (skip_waiting ls)
  where
    pick : (s : LinkState) → l.state ≡ s → collect sess (collect accepted_in ls) ≡ collect sess ls → collect sess (accepted_by s l ++ collect accepted_in ls) ≡ sess l ++ collect sess ls
    pick Waiting p r = r ∙ ap (λ (zs : List ℕ). zs ++ collect sess ls) (sym (ap (λ (z : LinkState). some_of (session_of z)) p))
    pick (Live e) p r = ap (λ zs. sess l ++ zs) r
    pick (Over e) p r = ap (λ zs. sess l ++ zs) r

distinct_right : (xs ys : List ℕ) → Distinct (xs ++ ys) → Distinct ys
distinct_right [] ys h = h
distinct_right (x ∷ xs) ys h = distinct_right xs ys h.1

pub link_has : (ls : List LinkRecord) (at : ℕ) (l : LinkRecord) (s : ℕ) → slice_get ls at ≡ Some l → session_of l.state ≡ Some s → Has s (collect sess ls)
link_has [] at l s e c = absurd (cc)
link_has (m ∷ ls) zero l s e c = let q : m ≡ l = cc in let f : sess m ≡ s ∷ [] = ap some_of (ap (λ (z : LinkRecord). session_of z.state) q ∙ c) in (0, ap (λ (zs : List ℕ). slice_get (zs ++ collect sess ls) 0) f)
link_has (m ∷ ls) (suc at) l s e c = let r = link_has ls at l s e c in shift (session_of m.state) r
  where
    shift : (o : Option ℕ) → Has s (collect sess ls) → Has s (some_of o ++ collect sess ls)
    shift None h = h
    shift (Some n) h = (suc h.0, h.1)

has_each : (P : ℕ → Type 0) (x : ℕ) (xs : List ℕ) → Each P xs → Has x xs → P x
has_each P x [] h k = absurd (let q : slice_get [] k.0 ≡ Some x = k.1 in cc)
has_each P x (y ∷ ys) h (zero, e) = subst P (let q : y ≡ x = cc in q) h.0
has_each P x (y ∷ ys) h (suc n, e) = has_each P x ys h.1 (n, e)

-- in another order the sessions are the same
sess_skip : (o : Option ℕ) (xs ys : List ℕ) → Perm ℕ xs ys → Perm ℕ (some_of o ++ xs) (some_of o ++ ys)
sess_skip None xs ys p = p
sess_skip (Some s) xs ys p = Skip s p

sess_swap : (o q : Option ℕ) (xs : List ℕ) → Perm ℕ (some_of o ++ (some_of q ++ xs)) (some_of q ++ (some_of o ++ xs))
sess_swap None q xs = perm_refl (some_of q ++ xs)
sess_swap (Some s) None xs = perm_refl (s ∷ xs)
sess_swap (Some s) (Some u) xs = Swap s u xs

perm_sess : {xs ys : List LinkRecord} → Perm LinkRecord xs ys → Perm ℕ (collect sess xs) (collect sess ys)
perm_sess Nil = Nil
perm_sess (Skip x {xs = as₁} {ys = bs₁} p) = sess_skip (session_of x.state) (collect sess as₁) (collect sess bs₁) (perm_sess p)
perm_sess (Swap x y xs) = sess_swap (session_of x.state) (session_of y.state) (collect sess xs)
perm_sess (Then p q) = Then (perm_sess p) (perm_sess q)

pub sess_drawn : (t : Terms) (h : Past) (r : Record) → IsShown t h r → Perm ℕ (collect sess r.links) (drawn h)
sess_drawn t h r i = subst (λ (zs : List ℕ). Perm ℕ zs (drawn h)) (skip_waiting r.links) (subst (λ (zs : List ℕ). Perm ℕ (collect sess (accepted r)) zs) (accepted_sess t i.net h.accepts i.accepts) (perm_sess i.arranged))

differ_links : (ls : List LinkRecord) → Distinct (collect sess ls) → (i j : ℕ) (l k : LinkRecord) (s u : ℕ) → slice_get ls i ≡ Some l → slice_get ls j ≡ Some k → session_of l.state ≡ Some s → session_of k.state ≡ Some u → i < j → ¬ (s ≡ u)
differ_links [] r i j l k s u a b c d lt = absurd (cc)
differ_links (m ∷ ls) r i zero l k s u a b c d lt = absurd (omega arith)
differ_links (m ∷ ls) r zero (suc j) l k s u a b c d lt =
    let q : m ≡ l = cc in
    let e : sess m ≡ s ∷ [] = ap some_of (ap (λ (z : LinkRecord). session_of z.state) q ∙ c) in
    let f : Distinct (s ∷ collect sess ls) = subst (λ (zs : List ℕ). Distinct (zs ++ collect sess ls)) e r in
    has_each (λ n. ¬ (s ≡ n)) u (collect sess ls) f.0 (link_has ls j k u b d)
differ_links (m ∷ ls) r (suc i) (suc j) l k s u a b c d lt = differ_links ls (distinct_right (sess m) (collect sess ls) r) i j l k s u a b c d (omega arith)

rises_links : (ls : List LinkRecord) → Rises (collect sess ls) → (i j : ℕ) (l k : LinkRecord) (s u : ℕ) → slice_get ls i ≡ Some l → slice_get ls j ≡ Some k → session_of l.state ≡ Some s → session_of k.state ≡ Some u → i < j → s < u
rises_links [] r i j l k s u a b c d lt = absurd (cc)
rises_links (m ∷ ls) r i zero l k s u a b c d lt = absurd (omega arith)
rises_links (m ∷ ls) r zero (suc j) l k s u a b c d lt =
    let q : m ≡ l = cc in
    let e : sess m ≡ s ∷ [] = ap some_of (ap (λ (z : LinkRecord). session_of z.state) q ∙ c) in
    let f : Rises (s ∷ collect sess ls) = subst (λ (zs : List ℕ). Rises (zs ++ collect sess ls)) e r in
    behind ls f.0 j b
  where
    behind : (xs : List LinkRecord) → Each (λ n. s < n) (collect sess xs) → (n : ℕ) → slice_get xs n ≡ Some k → s < u
    behind [] g n e = absurd (cc)
    behind (x ∷ xs) g zero e =
        let q : x ≡ k = cc in
        let z : sess x ≡ u ∷ [] = ap some_of (ap (λ (y : LinkRecord). session_of y.state) q ∙ d) in
        (subst (λ (zs : List ℕ). Each (λ n. s < n) zs) z (each_left (λ n. s < n) (sess x) (collect sess xs) g)).0
    behind (x ∷ xs) g (suc n) e = behind xs (each_right (λ n. s < n) (sess x) (collect sess xs) g) n e
rises_links (m ∷ ls) r (suc i) (suc j) l k s u a b c d lt = rises_links ls (rises_right (sess m) (collect sess ls) r) i j l k s u a b c d (omega arith)

-- a fresh link of s was pushed to the reactor of s
fresh_at : (t : Terms) (n s ip : ℕ) (early rest : Mail) → Each (λ (e : ActorId × Message). MayPush t e.0 (Reactor n) e.1) (early ++ (Door, FreshMsg ip s) ∷ rest) → n ≡ reactor_of t s
fresh_at t n s ip early rest h =
    let r = (each_right (λ (e : ActorId × Message). MayPush t e.0 (Reactor n) e.1) early ((Door, FreshMsg ip s) ∷ rest) h).0 in
    let q : Reactor n ≡ Reactor (reactor_of t s) = r.1 in
    cc

fits_ended : (t : Terms) (ip : ℕ) (s : LinkState) (c : Claim) (e : Ended) → FitsClaim t ip s c → ended_of s ≡ Some e → (e.ip ≡ ip) × ((u : ℕ) → e.session ≡ Some u → e.fd ≡ u % t.max_conn)
fits_ended t ip Waiting c e f q = absurd f
fits_ended t ip (Live x) (Drew s) e f q = let z : x ≡ e = cc in subst (λ (y : Ended). (y.ip ≡ ip) × ((u : ℕ) → y.session ≡ Some u → y.fd ≡ u % t.max_conn)) z (f.2, λ u k. let a : x.session ≡ Some s = f.0 in let b : s ≡ u = cc in f.1 ∙ ap (λ v. v % t.max_conn) b)
fits_ended t ip (Live x) Full e f q = absurd f
fits_ended t ip (Live x) Spent e f q = absurd f
fits_ended t ip (Over x) (Drew s) e f q = let z : x ≡ e = cc in subst (λ (y : Ended). (y.ip ≡ ip) × ((u : ℕ) → y.session ≡ Some u → y.fd ≡ u % t.max_conn)) z (f.2, λ u k. let a : x.session ≡ Some s = f.0 in let b : s ≡ u = cc in f.1 ∙ ap (λ v. v % t.max_conn) b)
fits_ended t ip (Over x) Full e f q = let z : x ≡ e = cc in subst (λ (y : Ended). (y.ip ≡ ip) × ((u : ℕ) → y.session ≡ Some u → y.fd ≡ u % t.max_conn)) z (f.2, λ u k. absurd (let a : x.session ≡ None = f.0 in cc))
fits_ended t ip (Over x) Spent e f q = let z : x ≡ e = cc in subst (λ (y : Ended). (y.ip ≡ ip) × ((u : ℕ) → y.session ≡ Some u → y.fd ≡ u % t.max_conn)) z (f.2, λ u k. absurd (let a : x.session ≡ None = f.0 in cc))

-- where a link stands among the accepted ones, with its claim
record IsAt (t : Terms) (h : Past) (k : LinkRecord) : Type 0 where
  n : ℕ
  claim : ℕ × Claim
  there : slice_get h.accepts n ≡ Some claim
  ip : k.ip ≡ claim.0
  fits : FitsClaim t claim.0 k.state claim.1

place : (t : Terms) (h : Past) (r : Record) → IsShown t h r → (at : ℕ) (k : LinkRecord) (e : Ended) → slice_get r.links at ≡ Some k → ended_of k.state ≡ Some e → IsAt t h k
place t h r i at k e there is =
    let g = perm_has k i.arranged (at_accepted r.links k e at there is) in
    let f = fits_at t i.net h.accepts i.accepts g.0 k g.1 in
    record { n = g.0; claim = f.0; there = f.1.0; ip = f.1.1.0; fits = f.1.1.1 }

ended_is : (s : LinkState) (e : Ended) → s ≡ Over e → ended_of s ≡ Some e
ended_is s e q = rw q refl

live_is : (s : LinkState) (e : Ended) → s ≡ Live e → ended_of s ≡ Some e
live_is s e q = rw q refl

-- an end by its claim
abbrev Drawn : Ended → Type 0
Drawn e = ((s : ℕ) × (e.session ≡ Some s)) × ((¬ (e.cause ≡ NoSlot)) × (¬ (e.cause ≡ NumbersSpent)))

abbrev Refused : Ended → Claim → Type 0
Refused e c = (e.session ≡ None) × (((e.cause ≡ NoSlot) × (c ≡ Full)) ⊎ ((e.cause ≡ NumbersSpent) × (c ≡ Spent)))

ends_as : (t : Terms) (ip : ℕ) (e : Ended) (c : Claim) → FitsClaim t ip (Over e) c → Drawn e ⊎ Refused e c
ends_as t ip e (Drew s) f = inl ((s, f.0), (f.3, f.4))
ends_as t ip e Full f = inr (f.0, inl (f.3, refl))
ends_as t ip e Spent f = inr (f.0, inr (f.3, refl))

ends_at : (t : Terms) (h : Past) (k : LinkRecord) (e : Ended) → k.state ≡ Over e → (p : IsAt t h k) → Drawn e ⊎ Refused e p.claim.1
ends_at t h k e state p = ends_as t p.claim.0 e p.claim.1 (subst (λ (s : LinkState). FitsClaim t p.claim.0 s p.claim.1) state p.fits)

no_slot_at : (t : Terms) (h : Past) (k : LinkRecord) (e : Ended) → e.cause ≡ NoSlot → (c : Claim) → Drawn e ⊎ Refused e c → (e.session ≡ None) × (c ≡ Full)
no_slot_at t h k e q c (inl d) = absurd (d.1.0 q)
no_slot_at t h k e q c (inr (n, inl f)) = (n, f.1)
no_slot_at t h k e q c (inr (n, inr f)) = absurd (let a : NoSlot ≡ NumbersSpent = sym q ∙ f.0 in cc)

spent_at : (t : Terms) (h : Past) (k : LinkRecord) (e : Ended) → e.cause ≡ NumbersSpent → (c : Claim) → Drawn e ⊎ Refused e c → (e.session ≡ None) × (c ≡ Spent)
spent_at t h k e q c (inl d) = absurd (d.1.1 q)
spent_at t h k e q c (inr (n, inl f)) = absurd (let a : NoSlot ≡ NumbersSpent = sym f.0 ∙ q in cc)
spent_at t h k e q c (inr (n, inr f)) = (n, f.1)

get_within : (xs : List (ℕ × Claim)) (n : ℕ) (x : ℕ × Claim) → slice_get xs n ≡ Some x → n < length xs
get_within [] n x e = absurd (cc)
get_within (y ∷ ys) zero x e = omega arith
get_within (y ∷ ys) (suc n) x e = let r : n < length ys = get_within ys n x e in omega arith

mul_le : (n a b : ℕ) → a ≤ b → n * a ≤ n * b
mul_le n a b le = elim (equal_or_not a b) [
  | inl e ↦ (let f : n * a ≡ n * b = ap (λ x. n * x) e in omega arith)
  | inr o ↦ (let r : n * a + n ≤ n * b = times n a b (omega (arith, o)) in omega arith)
]

drew_session : (t : Terms) (ip s : ℕ) (state : LinkState) → FitsClaim t ip state (Drew s) → session_of state ≡ Some s
drew_session t ip s Waiting f = absurd f
drew_session t ip s (Live e) f = f.0
drew_session t ip s (Over e) f = f.0

live_session : (t : Terms) (ip : ℕ) (e : Ended) (c : Claim) → FitsClaim t ip (Live e) c → (s : ℕ) × ((e.session ≡ Some s) × (e.fd ≡ s % t.max_conn))
live_session t ip e (Drew s) f = (s, (f.0, f.1))
live_session t ip e Full f = absurd f
live_session t ip e Spent f = absurd f

distinct_sess : (t : Terms) (a : Aim) (w : Ending) (h : Past) (r : Record) → Locals t a w h → Joint t h → IsShown t h r → Distinct (collect sess r.links)
distinct_sess t a w h r l j i = perm_distinct (perm_sym (sess_drawn t h r i)) (rises_distinct (drawn h) (claims_rise t.max_conn t.session_last [] h.accepts l.door.claims).1)

-- a link whose slot was drawn again doesn't live
released_live : (t : Terms) (a : Aim) (w : Ending) (h : Past) (r : Record) → Locals t a w h → Joint t h → IsShown t h r → (released : ℕ → List ℕ) → WordLaws t h released → (m : ℕ) (k : LinkRecord) (e : Ended) (s u : ℕ) → slice_get r.links m ≡ Some k → session_of k.state ≡ Some s → k.state ≡ Live e → Has s (drawn h) → Has u (drawn h) → s < u → s % t.max_conn ≡ u % t.max_conn → ⊥
released_live t a w h r l j i released words mm k e s u there ks is hs hu less slots =
    let g = words.again s u hs hu less slots in
    let d = words.release g.0 g.1.0 s g.1.1 in
    let m = (shows t a w h l j g.0 g.1.0).keeps s d.0.0 d.0.1.0 d.0.1.1 in
    let at : g.0 ≡ reactor_of t s = fresh_at t g.0 s d.0.0.ip m.early (m.mid ++ m.later) (subst (Each (λ (x : ActorId × Message). MayPush t x.0 (Reactor g.0) x.1)) m.split (took_all t a w h l j (Reactor g.0))) in
    elim (i.link s k (record { at = mm; there = there; session = ks })) [
      | inl c ↦ (let x = d.1 k (subst (λ z. Has k (h.kept z)) (sym at) c.1) ks in let y : ◌≡◌ {A = LinkState} (Live e) (Over x.0) = sym is ∙ x.1 in absurd (cc))
      | inr c ↦ c.unkept d.0.0 (subst (λ z. Has d.0.0 (h.kept z)) at d.0.1.0) d.0.1.1
    ]

-- two links that live don't share a slot
two_live : (t : Terms) (a : Aim) (w : Ending) (h : Past) (r : Record) → Locals t a w h → Joint t h → IsShown t h r → (released : ℕ → List ℕ) → WordLaws t h released → (m n : ℕ) (k o : LinkRecord) (e f : Ended) → slice_get r.links m ≡ Some k → slice_get r.links n ≡ Some o → k.state ≡ Live e → o.state ≡ Live f → e.fd ≡ f.fd → m < n → ⊥
two_live t a w h r l j i released words m n k o e f there theres is iss same lt =
    let p : IsAt t h k = place t h r i m k e there (live_is k.state e is) in
    let q : IsAt t h o = place t h r i n o f theres (live_is o.state f iss) in
    let s = live_session t p.claim.0 e p.claim.1 (subst (λ (z : LinkState). FitsClaim t p.claim.0 z p.claim.1) is p.fits) in
    let u = live_session t q.claim.0 f q.claim.1 (subst (λ (z : LinkState). FitsClaim t q.claim.0 z q.claim.1) iss q.fits) in
    let ks : session_of k.state ≡ Some s.0 = ap session_of is ∙ s.1.0 in
    let os : session_of o.state ≡ Some u.0 = ap session_of iss ∙ u.1.0 in
    let all : Perm ℕ (collect sess r.links) (drawn h) = sess_drawn t h r i in
    let other : ¬ (s.0 ≡ u.0) = differ_links r.links (distinct_sess t a w h r l j i) m n k o s.0 u.0 there theres ks os lt in
    let hs : Has s.0 (drawn h) = perm_has s.0 all (link_has r.links m k s.0 there ks) in
    let hu : Has u.0 (drawn h) = perm_has u.0 all (link_has r.links n o u.0 theres os) in
    let slots : s.0 % t.max_conn ≡ u.0 % t.max_conn = sym s.1.1 ∙ same ∙ u.1.1 in
    elim (cases_lt s.0 u.0) [
      | inl less ↦ released_live t a w h r l j i released words m k e s.0 u.0 there ks is hs hu less slots
      | inr ge ↦ released_live t a w h r l j i released words n o f u.0 s.0 theres os iss hu hs (omega (arith, other)) (sym slots)
    ]

pub sessions_once : (t : Terms) (a : Aim) (w : Ending) (h : Past) (r : Record) → Locals t a w h → Joint t h → (i : IsShown t h r) → (released : ℕ → List ℕ) → WordLaws t h released → SessionsOnce t r i.net
sessions_once t a w h r l j i released words =
    let all : Perm ℕ (collect sess r.links) (drawn h) = sess_drawn t h r i in
    let rises = claims_rise t.max_conn t.session_last [] h.accepts l.door.claims in
    let len : length (accepted r) ≡ length h.accepts = perm_length i.arranged ∙ fits_length t i.net h.accepts i.accepts in
    record {
      over_has = λ at k e there state slot spent. elim (ends_at t h k e state (place t h r i at k e there (ended_is k.state e state))) [ inl x ↦ x.0 | inr x ↦ absurd (elim x.1 [ inl y ↦ slot y.0 | inr y ↦ spent y.0 ]) ];
      over_none = λ at k e there state why. elim (ends_at t h k e state (place t h r i at k e there (ended_is k.state e state))) [ inl x ↦ absurd (elim why [ inl y ↦ x.1.0 y | inr y ↦ x.1.1 y ]) | inr x ↦ x.0 ];
      above = λ s k has. has_each (λ n. t.session_last < n) s (collect sess r.links) (perm_each (λ n. t.session_last < n) (perm_sym all) rises.0) (link_has r.links has.at k s has.there has.session);
      differ = λ m n k o s u there theres is iss lt. differ_links r.links (distinct_sess t a w h r l j i) m n k o s u there theres is iss lt;
      descriptor = λ at k e s there is session. (let p = place t h r i at k e there is in (fits_ended t p.claim.0 k.state p.claim.1 e p.fits is).1 s session);
      address = λ at k e there is. (let p = place t h r i at k e there is in (fits_ended t p.claim.0 k.state p.claim.1 e p.fits is).0 ∙ sym p.ip);
      one_lives = λ m n k o e f there theres is iss same. elim (cases_lt m n) [
        | inl lt ↦ absurd (two_live t a w h r l j i released words m n k o e f there theres is iss same lt)
        | inr ge ↦ elim (equal_or_not m n) [ inl q ↦ q | inr other ↦ absurd (two_live t a w h r l j i released words n m o k f e theres there iss is (sym same) (omega (arith, other))) ]
      ];
      next = λ few n k there fits. (let x = fits_at t i.net h.accepts i.accepts n k there in
          let c : x.0.1 ≡ Drew (t.session_last + n + 1) = next_at t.max_conn t.session_last t.session_last [] h.accepts l.door.claims tt (omega arith) (omega arith) n x.0 x.1.0 fits in
          drew_session t x.0.0 (t.session_last + n + 1) k.state (subst (FitsClaim t x.0.0 k.state) c x.1.1.1));
      no_slot = λ at k e there state cause. (let p = place t h r i at k e there (ended_is k.state e state) in
          let x = no_slot_at t h k e cause p.claim.1 (ends_at t h k e state p) in
          let z : t.max_conn ≤ 0 + length (drawn h) = full_count t.max_conn t.session_last [] h.accepts l.door.claims p.n p.claim.0 (p.there ∙ ap (λ (c : Claim). Some (p.claim.0, c)) x.1) in
          (x.0, omega (arith, perm_length all)));
      numbers_spent = λ at k e there state cause. (let p = place t h r i at k e there (ended_is k.state e state) in
          let x = spent_at t h k e cause p.claim.1 (ends_at t h k e state p) in
          let z : 2 ^ 32 ≤ t.session_last + t.max_conn * (p.n + 1) = spent_count t.max_conn t.session_last [] h.accepts l.door.claims p.n p.claim.0 (p.there ∙ ap (λ (c : Claim). Some (p.claim.0, c)) x.1) in
          let lt : p.n < length h.accepts = get_within h.accepts p.n p.claim p.there in
          let more : t.max_conn * (p.n + 1) ≤ t.max_conn * length (accepted r) = mul_le t.max_conn (p.n + 1) (length (accepted r)) (omega arith) in
          (x.0, omega arith));
    }

-- in the core
pub sessions_rise : (t : Terms) (a : Aim) (w : Ending) (h : Past) (r : Record) → Locals t a w h → (i : IsShown t h r) → accepted r ≡ i.net → SessionsRise r
sessions_rise t a w h r l i order m n k o s u there theres is iss lt =
    rises_links r.links (subst Rises (sym (accepted_sess t i.net h.accepts i.accepts) ∙ sym (ap (collect sess) order) ∙ skip_waiting r.links) (claims_rise t.max_conn t.session_last [] h.accepts l.door.claims).1) m n k o s u there theres is iss lt
