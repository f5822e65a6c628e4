-- A worker's handlers go on as the tables' do.
use Rattle.std.proofs.Common.{◌≡◌, ◌⊎◌, ℕ, ◌+◌, ◌-◌, ◌<◌, ◌≤◌, ◌==◌, nat_lt, ltb, min, Bool, true, false, if◌then◌else◌, List, [], ◌∷◌, ◌++◌, length, refl, ap, ◌∙◌, sym, subst, append-nil, arith, inl, inr}
use Rattle.std.proofs.lemmas.Bool.Decides.{nat_tests}
use Rattle.std.proofs.lemmas.List.{length-set}
use Rattle.sw_lists.specs.Lists.{collect}
use Rattle.sw_lists.proofs.Lists.{length_append}
use Rattle.sw_step.specs.declared.actor.ActorId.{ActorId}
use Rattle.sw_port_book.specs.Plain.{Words}
use Rattle.sw_port_board.specs.PlainBoard.{PlainWords}
use Rattle.sw_tmodel.specs.Plain.{PlainTable}
use Rattle.sw_record.specs.Words.{Event, Act, Answer, Given, EventGiven, AnswerGiven, Log}
use Rattle.sw_record.specs.Terms.{Terms}
use Rattle.sw_hand.specs.Ports.{Acting}
use Rattle.sw_hand_calls.specs.Calls.{PortCall, Gave, Starved, Looked, Bound, Called, Idled, Summed, Stepped, Around, AreMade}
use Rattle.sw_worker.specs.Generations.{Line, is_due as line_due, renewed, counted, Acts, ActsAt}
use Rattle.sw_hand_laws.specs.Hand.{Stage, Hand, is_due}
use Rattle.sw_hand_laws.specs.Moved.{Moved, Waits, Answers, Aims, Sends, Fulls, Hears, Skips, Overs, Leaves, Lefts, Stops, Nones, SkipStops, SkipNones, Nexts, Lasts}
use Rattle.sw_hand_fits.specs.Matches.{gave_in, wants_in}
use Rattle.sw_world_hand_fits.specs.Plain.{plain_rules}
use Rattle.sw_world_hand_fits.specs.Hands.{LineIs}

-- what a handler was given, with its acts, from the first to the last
abbrev pub Passed : {H : Type 0} → Acting H → Log → H → H → Type 0
Passed acts [] x y = y ≡ x
Passed {H} acts (e ∷ es) x y = (m : H) × (acts x e.0 e.1 m × Passed acts es m y)

still_passed : {H : Type 0} (acts : Acting H) (es : Log) (x m y : H) → m ≡ x → Passed acts es m y → Passed acts es x y
still_passed acts es x m y q h = subst (λ z. Passed acts es z y) q h

pub passed : {H : Type 0} (acts : Acting H) (calls : List PortCall) (a b : Around H Words PlainTable PlainWords) → collect wants_in calls ≡ [] → AreMade (plain_rules acts) calls a b → Passed acts (collect gave_in calls) a.handler b.handler
passed acts [] a b n made = ap (λ x. x.handler) made
passed acts (Gave g act ∷ xs) a b n (m, (w, rest)) = (m.handler, (w.0, passed acts xs m b n rest))
passed acts (Starved g ∷ xs) a b n made = absurd (cc)
passed acts (Looked s x ∷ xs) a b n (m, (w, rest)) = still_passed acts (collect gave_in xs) a.handler m.handler b.handler (ap (λ x. x.handler) w.1) (passed acts xs m b n rest)
passed acts (Bound s u x ∷ xs) a b n (m, (w, rest)) = still_passed acts (collect gave_in xs) a.handler m.handler b.handler (ap (λ x. x.handler) w.1) (passed acts xs m b n rest)
passed acts (Called c row found x ∷ xs) a b n (m, (w, rest)) = still_passed acts (collect gave_in xs) a.handler m.handler b.handler (ap (λ x. x.handler) w.1) (passed acts xs m b n rest)
passed acts (Idled k x ∷ xs) a b n (m, (w, rest)) = still_passed acts (collect gave_in xs) a.handler m.handler b.handler (ap (λ x. x.handler) w.1) (passed acts xs m b n rest)
passed acts (Summed c k ∷ xs) a b n (m, (w, rest)) = still_passed acts (collect gave_in xs) a.handler m.handler b.handler (ap (λ x. x.handler) w.1) (passed acts xs m b n rest)
passed acts (Stepped x ∷ xs) a b n (m, (w, rest)) = still_passed acts (collect gave_in xs) a.handler m.handler b.handler (ap (λ x. x.handler) w.1) (passed acts xs m b n rest)

-- the tables' handlers behind one entry, or none
pub data Lined (limit : ℕ) (f g : Hand) : Type 0 where
  Same : g.log ≡ f.log → g.current ≡ f.current → g.gone ≡ f.gone → g.events ≡ f.events → g.left ≡ f.left → Lined limit f g
  More : (a : Answer) (act : Act) → g.log ≡ f.log ++ (AnswerGiven a, act) ∷ [] → g.current ≡ f.current ++ (AnswerGiven a, act) ∷ [] → g.gone ≡ f.gone → g.events ≡ f.events → g.left ≡ f.left → Lined limit f g
  Next : (e : Event) (act : Act) → g.log ≡ f.log ++ (EventGiven e, act) ∷ [] → g.current ≡ (if is_due limit f then (EventGiven e, act) ∷ [] else f.current ++ (EventGiven e, act) ∷ []) → g.gone ≡ (if is_due limit f then f.gone ++ f.current ∷ [] else f.gone) → g.events ≡ (if is_due limit f then 1 else f.events + 1) → g.left ≡ (if is_due limit f then f.left - 1 else f.left) → Lined limit f g

pub moved_line : (t : Terms) (y : ActorId) (c : ℕ) (a b : Stage) (f g : Hand) → Moved t y c a f b g → Lined c f g
moved_line t y c a b f g (Waits st h) = Same refl refl refl refl refl
moved_line t y c a b f g (Answers h e act after an next m s k) = More an next refl refl refl refl refl
moved_line t y c a b f g (Aims h e act after to m an k n r) = Same refl refl refl refl refl
moved_line t y c a b f g (Sends h e act to m an next) = More an next refl refl refl refl refl
moved_line t y c a b f g (Fulls h e d x to m an after next) = More _ next refl refl refl refl refl
moved_line t y c a b f g (Hears h from e act k) = Next e act refl refl refl refl refl
moved_line t y c a b f g (Skips h from m k) = Same refl refl refl refl refl
moved_line t y c a b f g (Overs h e k) = Same refl refl refl refl refl
moved_line t y c a b f g (Leaves h e to m k) = Same refl refl refl refl refl
moved_line t y c a b f g (Lefts h e to m) = Same refl refl refl refl refl
moved_line t y c a b f g (Stops h) = Same refl refl refl refl refl
moved_line t y c a b f g (Nones h) = Same refl refl refl refl refl
moved_line t y c a b f g (SkipStops h from m k) = Same refl refl refl refl refl
moved_line t y c a b f g (SkipNones h from m k) = Same refl refl refl refl refl
moved_line t y c a b f g (Nexts h j) = Same refl refl refl refl refl
moved_line t y c a b f g (Lasts h j) = Same refl refl refl refl refl

-- what stands behind the same beginning
pub cancel : {A : Type 0} (xs ys zs : List A) → xs ++ ys ≡ xs ++ zs → ys ≡ zs
cancel [] ys zs q = q
cancel (x ∷ xs) ys zs q = cancel xs ys zs (let i : xs ++ ys ≡ xs ++ zs = cc in i)

-- the counts alone
pub record Counts {H : Type 0} (limit gone events left : ℕ) (l : Line H) : Type 0 where
  pub most : l.most ≡ limit
  pub at : l.at ≡ gone
  pub left_is : length l.items ≡ l.at + 1 + left
  pub events_are : l.events ≡ min events limit
  pub few : (limit ≡ 0) ⊎ ((left ≡ 0) ⊎ (events ≤ limit))

pub counts_of : {H : Type 0} (limit : ℕ) (g : Hand) (l : Line H) → LineIs limit g l → Counts limit (length g.gone) g.events g.left l
counts_of limit g l k = record { most = k.most; at = k.at; left_is = k.left; events_are = k.events; few = k.few }

line_of : {H : Type 0} (limit gone events left : ℕ) (g : Hand) (l : Line H) → length g.gone ≡ gone → g.events ≡ events → g.left ≡ left → Counts limit gone events left l → LineIs limit g l
line_of limit gone events left g l q r w k = record {
  most = k.most;
  at = k.at ∙ sym q;
  left = k.left_is ∙ ap (λ n. l.at + 1 + n) (sym w);
  events = k.events_are ∙ ap (λ n. min n limit) (sym r);
  few = subst (λ n. (limit ≡ 0) ⊎ ((g.left ≡ 0) ⊎ (n ≤ limit))) (sym r) (subst (λ n. (limit ≡ 0) ⊎ ((n ≡ 0) ⊎ (events ≤ limit))) (sym w) k.few);
}

-- the handler at hand acts, and all else stays
acted : {H : Type 0} (acts : Acting H) (limit gone events left : ℕ) (l k : Line H) (g : Given) (act : Act) → ActsAt acts l g act k → Counts limit gone events left l → Counts limit gone events left k
acted acts limit gone events left l k g act (old, (new, (there, does, q))) c = subst (Counts limit gone events left) (sym q) (record { most = c.most; at = c.at; left_is = length-set l.items l.at new ∙ c.left_is; events_are = c.events_are; few = c.few })

-- another handler is due in the code where it is in the tables
pub due_by : {H : Type 0} (limit gone events left : ℕ) (l : Line H) (u v w : Bool) → Counts limit gone events left l → (limit == 0) ≡ u → (events == limit) ≡ v → ltb 0 left ≡ w → line_due l ≡ (if u then false else if v then w else false)
due_by limit gone events left l true v w c p q r = ap (λ n. if n == 0 then false else if l.events == n then nat_lt (l.at + 1) (length l.items) else false) c.most ∙ ap (λ b. if b then false else if l.events == limit then nat_lt (l.at + 1) (length l.items) else false) p
due_by limit gone events left l false true true c p q r =
    let e : l.events ≡ limit = (let a : events ≡ limit = grind (arith, nat_tests) in omega (arith, c.events_are, a)) in
    let s : nat_lt (l.at + 1) (length l.items) ≡ true = (let b : 0 < left = grind (arith, nat_tests) in let d : l.at + 1 < length l.items = omega (arith, c.left_is, b) in grind (arith, nat_tests)) in
    ap (λ n. if n == 0 then false else if l.events == n then nat_lt (l.at + 1) (length l.items) else false) c.most ∙ ap (λ b. if b then false else if l.events == limit then nat_lt (l.at + 1) (length l.items) else false) p ∙ ap (λ b. if b then nat_lt (l.at + 1) (length l.items) else false) (let t : (l.events == limit) ≡ true = grind (arith, nat_tests) in t) ∙ s
due_by limit gone events left l false v false c p q r =
    let s : nat_lt (l.at + 1) (length l.items) ≡ false = (let b : left ≡ 0 = grind (arith, nat_tests) in let d : length l.items ≡ l.at + 1 = omega (arith, c.left_is, b) in grind (arith, nat_tests)) in
    ap (λ n. if n == 0 then false else if l.events == n then nat_lt (l.at + 1) (length l.items) else false) c.most ∙ ap (λ b. if b then false else if l.events == limit then nat_lt (l.at + 1) (length l.items) else false) p ∙ ap (λ b. if l.events == limit then b else false) s ∙ either (l.events == limit) ∙ sym (either v)
  where
    either : (b : Bool) → (if b then false else false) ≡ false
    either true = refl
    either false = refl
due_by limit gone events left l false false true c p q r =
    let e : (l.events == limit) ≡ false = (let a : ¬ (events ≡ limit) = grind (arith, nat_tests) in let b : ¬ (left ≡ 0) = grind (arith, nat_tests) in let z : ¬ (limit ≡ 0) = grind (arith, nat_tests) in let lt : ¬ (l.events ≡ limit) = under c.few a b z in grind (arith, nat_tests)) in
    ap (λ n. if n == 0 then false else if l.events == n then nat_lt (l.at + 1) (length l.items) else false) c.most ∙ ap (λ b. if b then false else if l.events == limit then nat_lt (l.at + 1) (length l.items) else false) p ∙ ap (λ b. if b then nat_lt (l.at + 1) (length l.items) else false) e
  where
    under : (limit ≡ 0) ⊎ ((left ≡ 0) ⊎ (events ≤ limit)) → ¬ (events ≡ limit) → ¬ (left ≡ 0) → ¬ (limit ≡ 0) → ¬ (l.events ≡ limit)
    under (inl z) a b n = absurd (n z)
    under (inr (inl z)) a b n = absurd (b z)
    under (inr (inr le)) a b n = λ e. absurd (omega (arith, c.events_are, e, le, a))

-- the next handler, and one more event
pub heard_line : {H : Type 0} (limit gone events left : ℕ) (l : Line H) (v : Bool) → Counts limit gone events left l → line_due l ≡ v → (v ≡ true → (¬ (limit ≡ 0)) × (¬ (left ≡ 0))) → (v ≡ false → (limit ≡ 0) ⊎ ((left ≡ 0) ⊎ (events + 1 ≤ limit))) → Counts limit (if v then gone + 1 else gone) (if v then 1 else events + 1) (if v then left - 1 else left) (counted (renewed l))
heard_line {H} limit gone events left l true c q due few =
    let k : ¬ (limit ≡ 0) = (due refl).0 in
    let n : ¬ (left ≡ 0) = (due refl).1 in
    let r : renewed l ≡ record l { at = l.at + 1; events = 0 } = ap (λ b. if b then record l { at = l.at + 1; events = 0 } else l) q in
    let s : nat_lt 0 l.most ≡ true = (let a : 0 < l.most = omega (arith, c.most, k) in grind (arith, nat_tests)) in
    subst (Counts limit (gone + 1) 1 (left - 1)) (sym (ap counted r ∙ ap (λ b. if b then record l { at = l.at + 1; events = 1 } else record l { at = l.at + 1; events = 0 }) s))
    (record { most = c.most; at = omega (arith, c.at); left_is = omega (arith, c.left_is, n); events_are = omega (arith, k); few = inr (inr (omega (arith, k))) })
heard_line {H} limit gone events left l false c q due few = subst (λ (x : Line H). Counts limit gone (events + 1) left (counted x)) (sym (ap (λ b. if b then record l { at = l.at + 1; events = 0 } else l) q)) (pick (nat_lt l.events l.most) refl)
  where
    pick : (b : Bool) → nat_lt l.events l.most ≡ b → Counts limit gone (events + 1) left (if b then record l { events = l.events + 1 } else l)
    pick true p = record { most = c.most; at = c.at; left_is = c.left_is; events_are = (let a : l.events < l.most = grind (arith, nat_tests) in omega (arith, a, c.events_are, c.most)); few = few refl }
    pick false p = record { most = c.most; at = c.at; left_is = c.left_is; events_are = (let a : l.most ≤ l.events = grind (arith, nat_tests) in omega (arith, a, c.events_are, c.most)); few = few refl }

-- when another handler is due, and when none is
pub due_then : (limit events left : ℕ) (u v w : Bool) → (limit == 0) ≡ u → (events == limit) ≡ v → ltb 0 left ≡ w → (if u then false else if v then w else false) ≡ true → (¬ (limit ≡ 0)) × (¬ (left ≡ 0))
due_then limit events left false true true p q r e = (grind (arith, nat_tests), grind (arith, nat_tests))
due_then limit events left true v w p q r e = absurd (cc)
due_then limit events left false false w p q r e = absurd (cc)
due_then limit events left false true false p q r e = absurd (cc)

due_not : (limit events left : ℕ) (u v w : Bool) → (limit == 0) ≡ u → (events == limit) ≡ v → ltb 0 left ≡ w → (if u then false else if v then w else false) ≡ false → (limit ≡ 0) ⊎ ((left ≡ 0) ⊎ (events ≤ limit)) → (limit ≡ 0) ⊎ ((left ≡ 0) ⊎ (events + 1 ≤ limit))
due_not limit events left true v w p q r e few = inl (grind (arith, nat_tests))
due_not limit events left false true true p q r e few = absurd (cc)
due_not limit events left false v false p q r e few = inr (inl (grind (arith, nat_tests)))
due_not limit events left false false true p q r e (inl z) = inl z
due_not limit events left false false true p q r e (inr (inl z)) = inr (inl z)
due_not limit events left false false true p q r e (inr (inr le)) = inr (inr (let a : ¬ (events ≡ limit) = grind (arith, nat_tests) in omega (arith, a, le)))

gone_length : {A : Type 0} (v : Bool) (xs : List A) (x : A) → length (if v then xs ++ x ∷ [] else xs) ≡ (if v then length xs + 1 else length xs)
gone_length true xs x = length_append xs (x ∷ [])
gone_length false xs x = refl

-- one entry alone
pub one_passed : {H : Type 0} (acts : Acting H) (es : Log) (e : Given × Act) (x y : H) → es ≡ e ∷ [] → Passed acts es x y → acts x e.0 e.1 y
one_passed acts es e x y q h = let k = subst (λ (l : Log). Passed acts l x y) q h in subst (acts x e.0 e.1) (sym k.1.1) k.1.0

pub line_turn : {H : Type 0} (acts : Acting H) (limit : ℕ) (f g : Hand) (l k : Line H) (gave : Log) → LineIs limit f l → Lined limit f g → g.log ≡ f.log ++ gave → Passed (Acts acts) gave l k → LineIs limit g k
line_turn {H} acts limit f g l k gave is (Same a cur b c d) q h =
    let none : [] ≡ gave = cancel f.log [] gave (append-nil f.log ∙ sym a ∙ q) in
    let same : k ≡ l = subst (λ (es : Log). Passed (Acts acts) es l k) (sym none) h in
    line_of limit (length f.gone) f.events f.left g k (ap length b) c d (subst (Counts limit (length f.gone) f.events f.left) (sym same) (counts_of limit f l is))
line_turn {H} acts limit f g l k gave is (More a act b cur c d e) q h =
    let one : gave ≡ (AnswerGiven a, act) ∷ [] = cancel f.log gave ((AnswerGiven a, act) ∷ []) (sym q ∙ b) in
    line_of limit (length f.gone) f.events f.left g k (ap length c) d e (acted acts limit (length f.gone) f.events f.left l k (AnswerGiven a) act (one_passed (Acts acts) gave (AnswerGiven a, act) l k one h) (counts_of limit f l is))
line_turn {H} acts limit f g l k gave is (Next ev act b cur c d e) q h =
    let one : gave ≡ (EventGiven ev, act) ∷ [] = cancel f.log gave ((EventGiven ev, act) ∷ []) (sym q ∙ b) in
    let v : Bool = is_due limit f in
    let u : Counts limit (length f.gone) f.events f.left l = counts_of limit f l is in
    line_of limit (if v then length f.gone + 1 else length f.gone) (if v then 1 else f.events + 1) (if v then f.left - 1 else f.left) g k (ap length c ∙ gone_length v f.gone f.current) d e
    (acted acts limit (if v then length f.gone + 1 else length f.gone) (if v then 1 else f.events + 1) (if v then f.left - 1 else f.left) (counted (renewed l)) k (EventGiven ev) act (one_passed (Acts acts) gave (EventGiven ev, act) l k one h)
    (heard_line limit (length f.gone) f.events f.left l v u (due_by limit (length f.gone) f.events f.left l (limit == 0) (f.events == limit) (ltb 0 f.left) u refl refl refl) (due_then limit f.events f.left (limit == 0) (f.events == limit) (ltb 0 f.left) refl refl refl) (λ n. due_not limit f.events f.left (limit == 0) (f.events == limit) (ltb 0 f.left) refl refl refl n u.few)))
