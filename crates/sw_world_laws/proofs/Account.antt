-- The world's record shows what the actors keep.
use Rattle.std.proofs.Common.{◌≡◌, ◌⊎◌, ℕ, ◌<◌, ◌≤◌, ◌%◌, Bool, true, false, if◌then◌else◌, List, [], ◌∷◌, ◌++◌, refl, ap, ◌∙◌, sym, subst, append-nil, arith, Option, Some, None, slice_get, inl, inr, zero, suc}
use Rattle.std.proofs.lemmas.Bool.Decides.{nat_tests}
use Rattle.sw_lists.specs.Lists.{when, collect, IsPrefix, Each, Has}
use Rattle.sw_lists.specs.Numbers.{Rises}
use Rattle.sw_lists.proofs.Lists.{eq_is, eq_same, collect-append, perm_refl, prefix_collect}
use Rattle.sw_step.specs.declared.actor.ActorId.{ActorId}
use Rattle.sw_step.specs.declared.actor.ActorId.TheVariants.{Door, Reactor}
use Rattle.sw_step.specs.Actors.{is}
use Rattle.sw_record.specs.Words.{NoSlot, NumbersSpent, Ended}
use Rattle.sw_record.specs.declared.record.LinkState.{LinkState}
use Rattle.sw_record.specs.declared.record.LinkState.TheVariants.{Waiting, Live, Over}
use Rattle.sw_record.specs.declared.record.LinkRecord.{LinkRecord}
use Rattle.sw_record.specs.Terms.{Terms, reactor_of, session_of, ended_of}
use Rattle.sw_record.specs.Sessions.{accepted_in, accepted_by}
use Rattle.sw_record.specs.declared.record.Record.{Record}
use Rattle.sw_past.specs.Messages.{FreshMsg}
use Rattle.sw_past.specs.Claims.{Claim, Drew, Full, Spent, drew_in}
use Rattle.sw_past.specs.Past.{Mail, Past, bare, of, with}
use Rattle.sw_join.specs.Shown.{FitsClaim, FitsClaims, IsComing, IsShown}
use Rattle.sw_join.proofs.Claims.{claims_rise}
use Rattle.sw_join.proofs.Told.{shows}
use Rattle.sw_record.specs.Places.{Ran}
use Rattle.sw_join.specs.Modes.{AimOf, EndOf}
use Rattle.sw_world_ports.specs.Made.{accept_in}
use Rattle.sw_world_ports.proofs.Haves.{has_left, has_right, has_split, has_one, each_has}
use Rattle.sw_world_laws.specs.Shows.{FitsKept, fresh_pair, drew_pair}
use Rattle.sw_world_laws.specs.Actors.{Actors}
use Rattle.sw_world_laws.specs.World.{Core}
use Rattle.sw_world_laws.specs.History.{History, past_of}
use Rattle.sw_world_laws.specs.Law.{Holds}
use Rattle.sw_world_laws.specs.Account.{is_session, link_in, untouched, coming, refusal, link_or, link_by, links_by, waits, account_of, account}
use Rattle.sw_world_laws.proofs.Locals.{locals, joint, door_shown}
use Rattle.sw_world_laws.proofs.Turns.{more_of}

-- a session's link among a reactor's
is_some_of : (s : ℕ) (o : Option ℕ) → is_session s o ≡ true → o ≡ Some s
is_some_of s None e = absurd (cc)
is_some_of s (Some u) e = ap (λ (v : ℕ). Some v) (eq_is u s e)

pub data Found (s : ℕ) (ls : List LinkRecord) : Option LinkRecord → Type 0 where
  There : (l : LinkRecord) → Has l ls → session_of l.state ≡ Some s → Found s ls (Some l)
  Nowhere : ((k : LinkRecord) → Has k ls → session_of k.state ≡ Some s → ⊥) → Found s ls None

pub found : (s : ℕ) (ls : List LinkRecord) → Found s ls (link_in s ls)
found s [] = Nowhere (λ k has e. absurd (let q = has.1 in cc))
found s (l ∷ ls) = pick (is_session s (session_of l.state)) refl (found s ls)
  where
    more : (o : Option LinkRecord) → is_session s (session_of l.state) ≡ false → Found s ls o → Found s (l ∷ ls) o
    more o e (There k has i) = There k (suc has.0, has.1) i
    more o e (Nowhere none) = Nowhere (λ k has i. none_at k has i)
      where
        none_at : (k : LinkRecord) → Has k (l ∷ ls) → session_of k.state ≡ Some s → ⊥
        none_at k (zero, q) i = absurd (let j : l ≡ k = cc in let v : is_session s (session_of l.state) ≡ true = ap (λ (x : LinkRecord). is_session s (session_of x.state)) j ∙ ap (is_session s) i ∙ eq_same s s refl in let w : true ≡ false = sym v ∙ e in cc)
        none_at k (suc n, q) i = none k (n, q) i

    pick : (b : Bool) → is_session s (session_of l.state) ≡ b → Found s ls (link_in s ls) → Found s (l ∷ ls) (if b then Some l else link_in s ls)
    pick true e f = There l (0, refl) (is_some_of s (session_of l.state) e)
    pick false e f = more (link_in s ls) e f

-- an item of what was collected is an item of one
pub has_collect : {A B : Type 0} (f : A → List B) (xs : List A) (b : B) → Has b (collect f xs) → (a : A) × (Has a xs × Has b (f a))
has_collect f [] b h = absurd (let q = h.1 in cc)
has_collect f (x ∷ xs) b h = elim (has_split b (f x) (collect f xs) h) [
  | inl k ↦ (x, ((0, refl), k))
  | inr k ↦ (let r = has_collect f xs b k in (r.0, ((suc r.1.0.0, r.1.0.1), r.1.1)))
]

pub collect_has : {A B : Type 0} (f : A → List B) (xs : List A) (a : A) (b : B) → Has a xs → Has b (f a) → Has b (collect f xs)
collect_has f [] a b (k, q) h = absurd (cc)
collect_has f (x ∷ xs) a b (zero, q) h = has_left b (f x) (collect f xs) (subst (λ y. Has b (f y)) (sym (let e : x ≡ a = cc in e)) h)
collect_has f (x ∷ xs) a b (suc k, q) h = has_right b (f x) (collect f xs) (collect_has f xs a b (k, q) h)

pub has_session : (a : List (ℕ × Claim)) (ip s : ℕ) → Has (ip, s) (collect drew_pair a) → Has s (collect drew_in a)
has_session a ip s h = let r = has_collect drew_pair a (ip, s) h in at r.0 r.1.0 r.1.1
  where
    at : (x : ℕ × Claim) → Has x a → Has (ip, s) (drew_pair x) → Has s (collect drew_in a)
    at (i, Drew u) has k = collect_has drew_in a (i, Drew u) s has (0, ap (λ (y : ℕ × ℕ). Some y.1) (has_one (ip, s) (i, u) k))
    at (i, Full) has k = absurd (let q = k.1 in cc)
    at (i, Spent) has k = absurd (let q = k.1 in cc)

later : (u s : ℕ) (xs : List (ℕ × Claim)) → Each (λ m. u < m) (collect drew_in xs) → (j : ℕ) → u ≡ s → Has (j, s) (collect drew_pair xs) → ⊥
later u s xs e j q h = let lt : u < s = each_has (λ m. u < m) (collect drew_in xs) s e (has_session xs j s h) in absurd (omega arith)

-- pairs of the door's claims with one session have one address
one_ip : (a : List (ℕ × Claim)) → Rises (collect drew_in a) → (i j s : ℕ) → Has (i, s) (collect drew_pair a) → Has (j, s) (collect drew_pair a) → i ≡ j
one_ip [] r i j s hi hj = absurd (let q = hi.1 in cc)
one_ip ((ip, Full) ∷ xs) r i j s hi hj = one_ip xs r i j s hi hj
one_ip ((ip, Spent) ∷ xs) r i j s hi hj = one_ip xs r i j s hi hj
one_ip ((ip, Drew u) ∷ xs) r i j s (zero, p) (zero, q) = ap (λ (x : ℕ × ℕ). x.0) (let e : (i, s) ≡ (j, s) = cc in e)
one_ip ((ip, Drew u) ∷ xs) r i j s (suc m, p) (suc n, q) = one_ip xs r.1 i j s (m, p) (n, q)
one_ip ((ip, Drew u) ∷ xs) r i j s (zero, p) (suc n, q) = absurd (let e : (ip, u) ≡ (i, s) = cc in later u s xs r.0 j (ap (λ (x : ℕ × ℕ). x.1) e) (n, q))
one_ip ((ip, Drew u) ∷ xs) r i j s (suc m, p) (zero, q) = absurd (let e : (ip, u) ≡ (j, s) = cc in later u s xs r.0 i (ap (λ (x : ℕ × ℕ). x.1) e) (m, p))

-- the address of a kept link is the one that the door accepted
pub kept_pair : (t : Terms) (legal : List Ran → Type 0) (p : Actors t) (c : Core p.State) (h : History) → Holds t legal p c h → (n : ℕ) → n < t.reactor_num → (s : ℕ) (l : LinkRecord) → Has l (p.kept (c.states (Reactor n))) → session_of l.state ≡ Some s → Has (l.ip, s) (collect drew_pair (collect accept_in (h.dids Door)))
kept_pair t legal p c h k n lt s l has e =
    let past : Past = past_of t p c h in
    let kept = (shows t (AimOf t) (EndOf t) past (locals t legal p c h k) (joint t legal p c h k) n lt).keeps s l has e in
    let here : Has (l.ip, s) (collect fresh_pair (of Door (kept.early ++ (Door, FreshMsg l.ip s) ∷ (kept.mid ++ kept.later)))) =
    subst (λ (ms : List (ℕ × ℕ)). Has (l.ip, s) ms) (sym (ap (collect fresh_pair) (collect-append (with Door) kept.early ((Door, FreshMsg l.ip s) ∷ (kept.mid ++ kept.later))) ∙ collect-append fresh_pair (of Door kept.early) (FreshMsg l.ip s ∷ of Door (kept.mid ++ kept.later))))
    (has_right (l.ip, s) (collect fresh_pair (of Door kept.early)) ((l.ip, s) ∷ collect fresh_pair (of Door (kept.mid ++ kept.later))) (0, refl)) in
    let took : Has (l.ip, s) (collect fresh_pair (of Door (h.took (Reactor n)))) = subst (λ (ms : Mail). Has (l.ip, s) (collect fresh_pair (of Door ms))) (sym kept.split) here in
    let pipe : IsPrefix (of Door (h.took (Reactor n))) (of (Reactor n) (h.pushed Door)) = (joint t legal p c h k).pipes (Reactor n) Door in
    let pushed : Has (l.ip, s) (collect fresh_pair (of (Reactor n) (h.pushed Door))) = has_prefix (l.ip, s) (collect fresh_pair (of Door (h.took (Reactor n)))) (collect fresh_pair (of (Reactor n) (h.pushed Door))) (prefix_collect fresh_pair (of Door (h.took (Reactor n))) (of (Reactor n) (h.pushed Door)) pipe) took in
    let all : Has (l.ip, s) (collect fresh_pair (bare (h.pushed Door))) = has_share (Reactor n) (l.ip, s) (h.pushed Door) pushed in
    has_prefix (l.ip, s) (collect fresh_pair (bare (h.pushed Door))) (collect drew_pair (collect accept_in (h.dids Door))) (door_shown t legal p c h k).fresh all
  where
    has_prefix : (x : ℕ × ℕ) (xs ys : List (ℕ × ℕ)) → IsPrefix xs ys → Has x xs → Has x ys
    has_prefix x xs ys q i = subst (λ (zs : List (ℕ × ℕ)). Has x zs) q.1 (has_left x xs q.0 i)

    has_share : (y : ActorId) (x : ℕ × ℕ) (ms : Mail) → Has x (collect fresh_pair (of y ms)) → Has x (collect fresh_pair (bare ms))
    has_share y x [] i = i
    has_share y x (m ∷ ms) i = one (is m.0 y) i (λ q. has_share y x ms q)
      where
        one : (b : Bool) → Has x (collect fresh_pair (when b m.1 ++ of y ms)) → (Has x (collect fresh_pair (of y ms)) → Has x (collect fresh_pair (bare ms))) → Has x (fresh_pair m.1 ++ collect fresh_pair (bare ms))
        one true q f = elim (has_split x (fresh_pair m.1) (collect fresh_pair (of y ms)) q) [ inl u ↦ has_left x (fresh_pair m.1) (collect fresh_pair (bare ms)) u | inr u ↦ has_right x (fresh_pair m.1) (collect fresh_pair (bare ms)) (f u) ]
        one false q f = has_right x (fresh_pair m.1) (collect fresh_pair (bare ms)) (f q)

-- what is said of a state with a session
fits_state : (t : Terms) (ip s : ℕ) (l : LinkRecord) → session_of l.state ≡ Some s → FitsKept t s l → l.ip ≡ ip → (state : LinkState) → l.state ≡ state → FitsClaim t ip state (Drew s)
fits_state t ip s l e f i Waiting q = absurd (let k : None ≡ Some s = sym (ap session_of q) ∙ e in cc)
fits_state t ip s l e f i (Live d) q =
    let same : f.ended ≡ d = (let k : Some f.ended ≡ Some d = sym f.is ∙ ap ended_of q in cc) in
    (sym (ap session_of q) ∙ e, ap (λ (x : Ended). x.fd) (sym same) ∙ f.fd, ap (λ (x : Ended). x.ip) (sym same) ∙ f.ip ∙ i)
fits_state t ip s l e f i (Over d) q =
    let same : f.ended ≡ d = (let k : Some f.ended ≡ Some d = sym f.is ∙ ap ended_of q in cc) in
    (sym (ap session_of q) ∙ e, ap (λ (x : Ended). x.fd) (sym same) ∙ f.fd, ap (λ (x : Ended). x.ip) (sym same) ∙ f.ip ∙ i, (λ z. f.cause.0 (ap (λ (x : Ended). x.cause) same ∙ z)), (λ z. f.cause.1 (ap (λ (x : Ended). x.cause) same ∙ z)))

-- each accepted link: it is its reactor's, on its way there, or without a session
pub data Shape (t : Terms) (h : Past) (ip : ℕ) : Claim → LinkRecord → Type 0 where
  Kept : (s : ℕ) (l : LinkRecord) → reactor_of t s < t.reactor_num → Has l (h.kept (reactor_of t s)) → session_of l.state ≡ Some s → l.ip ≡ ip → FitsClaim t ip l.state (Drew s) → Shape t h ip (Drew s) l
  Coming : (s : ℕ) → ((k : LinkRecord) → Has k (h.kept (reactor_of t s)) → session_of k.state ≡ Some s → ⊥) → Shape t h ip (Drew s) (untouched ip (Live (coming t ip s)))
  NoneFull : Shape t h ip Full (untouched ip (Over (refusal ip NoSlot)))
  NoneSpent : Shape t h ip Spent (untouched ip (Over (refusal ip NumbersSpent)))

pub less_mod : (a n : ℕ) → 1 ≤ n → a % n < n
less_mod a n h = grind (arith, nat_tests)

pub shape : (t : Terms) (legal : List Ran → Type 0) (p : Actors t) (c : Core p.State) (h : History) → 1 ≤ t.reactor_num → Holds t legal p c h → (x : ℕ × Claim) → Has x (collect accept_in (h.dids Door)) → Shape t (past_of t p c h) x.0 x.1 (link_by t (past_of t p c h).kept x.0 x.1)
shape t legal p c h some l (ip, Full) has = NoneFull
shape t legal p c h some l (ip, Spent) has = NoneSpent
shape t legal p c h some l (ip, Drew s) has = by (link_in s (p.kept (c.states (Reactor (reactor_of t s))))) (found s (p.kept (c.states (Reactor (reactor_of t s)))))
  where
    lt : reactor_of t s < t.reactor_num
    lt = less_mod (s % t.max_conn) t.reactor_num some

    by : (o : Option LinkRecord) → Found s (p.kept (c.states (Reactor (reactor_of t s)))) o → Shape t (past_of t p c h) ip (Drew s) (link_or t ip s o)
    by o (Nowhere none) = Coming s none
    by o (There k there e) =
        let claims = l.ports.words.book.claims in
        let rises : Rises (collect drew_in (collect accept_in (h.dids Door))) = (claims_rise t.max_conn t.session_last [] (collect accept_in (h.dids Door)) claims).1 in
        let same : k.ip ≡ ip = one_ip (collect accept_in (h.dids Door)) rises k.ip ip s (kept_pair t legal p c h l (reactor_of t s) lt s k there e) (collect_has drew_pair (collect accept_in (h.dids Door)) (ip, Drew s) (ip, s) has (0, refl)) in
        Kept s k lt there e same (fits_state t ip s k e ((more_of t legal p c h l (reactor_of t s) lt).fits s k there e) same k.state refl)

-- so the record shows what the actors keep
shape_written : (t : Terms) (h : Past) (ip : ℕ) (x : Claim) (l : LinkRecord) → Shape t h ip x l → session_of l.state ≡ None → l.written ≡ []
shape_written t h ip x l (Kept s k lt has e i f) n = absurd (let q : None ≡ Some s = sym n ∙ e in cc)
shape_written t h ip x l (Coming s none) n = refl
shape_written t h ip x l NoneFull n = refl
shape_written t h ip x l NoneSpent n = refl

shape_link : (t : Terms) (h : Past) (ip : ℕ) (x : Claim) (l : LinkRecord) → Shape t h ip x l → (s : ℕ) → session_of l.state ≡ Some s → ((reactor_of t s < t.reactor_num) × Has l (h.kept (reactor_of t s))) ⊎ IsComing t h s l
shape_link t h ip x l (Kept u k lt has e i f) s q =
    let same : u ≡ s = (let v : Some u ≡ Some s = sym e ∙ q in cc) in
    inl (subst (λ (w : ℕ). (reactor_of t w < t.reactor_num) × Has k (h.kept (reactor_of t w))) same (lt, has))
shape_link t h ip x l (Coming u none) s q =
    let same : u ≡ s = (let v : Some u ≡ Some s = q in cc) in
    inr (record {
      written = refl;
      unkept = subst (λ (w : ℕ). (k : LinkRecord) → Has k (h.kept (reactor_of t w)) → session_of k.state ≡ Some w → ⊥) same none;
      unbound = λ e i. (let v : coming t ip u ≡ e = cc in ap (λ (y : Ended). y.uid) (sym v));
      lives = λ e i. absurd (cc);
    })
shape_link t h ip x l NoneFull s q = absurd (cc)
shape_link t h ip x l NoneSpent s q = absurd (cc)

shape_fits : (t : Terms) (h : Past) (ip : ℕ) (x : Claim) (l : LinkRecord) → Shape t h ip x l → (accepted_in l ≡ l ∷ []) × ((l.ip ≡ ip) × FitsClaim t ip l.state x)
shape_fits t h ip x l (Kept s k lt has e i f) = (by k.state refl, (i, f))
  where
    by : (state : LinkState) → k.state ≡ state → accepted_by k.state k ≡ k ∷ []
    by Waiting q = absurd (let v : None ≡ Some s = sym (ap session_of q) ∙ e in cc)
    by (Live d) q = ap (λ (y : LinkState). accepted_by y k) q
    by (Over d) q = ap (λ (y : LinkState). accepted_by y k) q
shape_fits t h ip x l (Coming s none) = (refl, (refl, (refl, refl, refl)))
shape_fits t h ip x l NoneFull = (refl, (refl, (refl, refl, refl, refl)))
shape_fits t h ip x l NoneSpent = (refl, (refl, (refl, refl, refl, refl)))

pub no_waiting : (ws : List ℕ) → collect accepted_in (collect waits ws) ≡ []
no_waiting [] = refl
no_waiting (w ∷ ws) = no_waiting ws

all_fit : (t : Terms) (h : Past) (xs : List (ℕ × Claim)) → ((x : ℕ × Claim) → Has x xs → Shape t h x.0 x.1 (link_by t h.kept x.0 x.1)) → FitsClaims t (collect accepted_in (collect (links_by t h.kept) xs)) xs
all_fit t h [] f = tt
all_fit t h (x ∷ xs) f =
    let q = shape_fits t h x.0 x.1 (link_by t h.kept x.0 x.1) (f x (0, refl)) in
    subst (λ (ls : List LinkRecord). FitsClaims t (ls ++ collect accepted_in (collect (links_by t h.kept) xs)) (x ∷ xs)) (sym q.0) (q.1.0, q.1.1, all_fit t h xs (λ y has. f y (suc has.0, has.1)))

-- the record, with the accepted links of the history
abbrev pub account_by : (t : Terms) (p : Actors t) → Core p.State → History → Record
account_by t p c h = account_of t (λ y. p.log (c.states y)) (λ n. p.kept (c.states (Reactor n))) (collect accept_in (h.dids Door)) c.ports.waiting

pub account_is : (t : Terms) (legal : List Ran → Type 0) (p : Actors t) (c : Core p.State) (h : History) → Holds t legal p c h → account_by t p c h ≡ account t p c
account_is t legal p c h l = ap (λ (xs : List (ℕ × Claim)). account_of t (λ y. p.log (c.states y)) (λ n. p.kept (c.states (Reactor n))) xs c.ports.waiting) (sym l.ports.given)

pub is_shown : (t : Terms) (legal : List Ran → Type 0) (p : Actors t) (c : Core p.State) (h : History) → 1 ≤ t.reactor_num → Holds t legal p c h → IsShown t (past_of t p c h) (account_by t p c h)
is_shown t legal p c h some l =
    record {
      workers = refl;
      taskers = refl;
      nothing = λ at k e none. elim (one at k e) [ inl s ↦ shape_written t past s.0.0 s.0.1 k s.1 none | inr w ↦ ap (λ (y : LinkRecord). y.written) (sym w.1) ];
      link = λ s k has. elim (one has.at k has.there) [ inl q ↦ shape_link t past q.0.0 q.0.1 k q.1 s has.session | inr w ↦ absurd (let v : None ≡ Some s = ap (λ (y : LinkRecord). session_of y.state) w.1 ∙ has.session in cc) ];
      net = collect accepted_in (account_by t p c h).links;
      arranged = perm_refl (collect accepted_in (account_by t p c h).links);
      accepts = subst (λ (ls : List LinkRecord). FitsClaims t ls accepts) (sym (collect-append accepted_in (collect (links_by t past.kept) accepts) (collect waits c.ports.waiting) ∙ ap (λ (ls : List LinkRecord). collect accepted_in (collect (links_by t past.kept) accepts) ++ ls) (no_waiting c.ports.waiting) ∙ append-nil (collect accepted_in (collect (links_by t past.kept) accepts))))
          (all_fit t past accepts (λ x has. shape t legal p c h some l x has));
    }
  where
    past : Past
    past = past_of t p c h

    accepts : List (ℕ × Claim)
    accepts = collect accept_in (h.dids Door)

    one : (at : ℕ) (k : LinkRecord) → slice_get (account_by t p c h).links at ≡ Some k → ((x : ℕ × Claim) × Shape t past x.0 x.1 k) ⊎ ((ip : ℕ) × (untouched ip Waiting ≡ k))
    one at k e = elim (has_split k (collect (links_by t past.kept) accepts) (collect waits c.ports.waiting) (at, e)) [
      | inl q ↦ (let r = has_collect (links_by t past.kept) accepts k q in inl (r.0, subst (λ (y : LinkRecord). Shape t past r.0.0 r.0.1 y) (has_one k (link_by t past.kept r.0.0 r.0.1) r.1.1) (shape t legal p c h some l r.0 r.1.0)))
      | inr q ↦ (let r = has_collect waits c.ports.waiting k q in inr (r.0, has_one k (untouched r.0 Waiting) r.1.1))
    ]

-- its links are in the order in which the net gave them
pub net_is : (t : Terms) (legal : List Ran → Type 0) (p : Actors t) (c : Core p.State) (h : History) (some : 1 ≤ t.reactor_num) (l : Holds t legal p c h) → (is_shown t legal p c h some l).net ≡ collect accepted_in (account_by t p c h).links
unfolding is_shown
net_is t legal p c h some l = refl
