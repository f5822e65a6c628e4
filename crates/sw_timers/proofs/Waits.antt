-- Entries and their turns.
use Rattle.std.proofs.Common.{◌≡◌, ℕ, ◌+◌, ◌-◌, ◌<◌, ◌≤◌, ◌≢◌, ◌⊎◌, inl, inr, Bool, true, false, cond, List, [], ◌∷◌, Option, Some, None, refl, ap, sym, subst, ◌∙◌, true≢false, arith}
use Rattle.std.specs.Prelude.{All, Contains, nat_lt, ◌==◌, is_some, unwrap_or}
use Rattle.std.specs.Ordering.{nat_cmp, is_eq, eq_by_cmp}
use Rattle.std.specs.declared.cmp.Ordering.TheVariants.{Less, Equal, Greater}
use Rattle.std.specs.Cmp.{nat_cmp_total}
use Rattle.std.specs.FinMap as map
use Rattle.std.specs.FinMap.{get-insert, get-remove, len-insert, len-remove}
use Rattle.std.proofs.lemmas.List.Elements.{All-contains}
use Rattle.std.proofs.lemmas.Bool.{cases_eq}
use Rattle.std.proofs.lemmas.Bool.Decides.{nat_tests}
use Rattle.sw_timers.specs.declared.alarm.Alarm.{Alarm}
use Rattle.sw_timers.specs.declared.timers.TheConstants.{MOST_ENTRIES}
use Rattle.sw_timers.specs.Due.{Waiting, NoneWaits, IsFirst, NoneIsDue, IsNext, answered, moved_by, again}
use Rattle.sw_timers.specs.Queued.{Turn, Turns, turn_of, IsSooner, head_of, has_moment, is_kept, AreQueued, IsKept}

same_some : {X : Type 0} (x y : X) → Some x ≡ Some y → x ≡ y
same_some x y e = ap (λ (o : Option _). unwrap_or o x) e

not_none : {X : Type 0} (x : X) → None ≡ Some x → ⊥
not_none x e = true≢false (sym (ap is_some e))

-- ---- one id changed

tested : (l e : Bool) → e ≡ false → is_eq (cond l Less (cond e Equal Greater)) ≡ false
tested true e h = refl
tested false e h = ap (λ b. is_eq (cond b Equal Greater)) h

differ : (q k : ℕ) → q ≢ k → (q == k) ≡ false
differ q k ne = grind (arith, nat_tests)

other : (q k : ℕ) → q ≢ k → eq_by_cmp nat_cmp q k ≡ false
other q k ne = tested (nat_lt q k) (q == k) (differ q k ne)

matched : (n : ℕ) → (n == n) ≡ true
matched n = grind (arith, nat_tests)

unless_below : (n : ℕ) → nat_lt n n ≡ false
unless_below n = grind (arith, nat_tests)

alike : (k : ℕ) → eq_by_cmp nat_cmp k k ≡ true
alike k = ap (λ b. is_eq (cond b Less (cond (k == k) Equal Greater))) (unless_below k) ∙ ap (λ b. is_eq (cond b Equal Greater)) (matched k)

pub get_put : (w : Waiting) (k : ℕ) (v : Alarm) → map.get (map.insert w k v) k ≡ Some v
get_put w k v = get-insert nat_cmp_total w k v k ∙ ap (λ b. cond b (Some v) (map.get w k)) (alike k)

pub get_beside : (w : Waiting) (k : ℕ) (v : Alarm) (q : ℕ) → q ≢ k → map.get (map.insert w k v) q ≡ map.get w q
get_beside w k v q ne = get-insert nat_cmp_total w k v q ∙ ap (λ b. cond b (Some v) (map.get w q)) (other q k ne)

pub get_taken : (w : Waiting) (k : ℕ) → map.get (map.remove w k) k ≡ None
get_taken w k = get-remove nat_cmp_total w k k ∙ ap (λ b. cond b None (map.get w k)) (alike k)

pub get_left : (w : Waiting) (k q : ℕ) → q ≢ k → map.get (map.remove w k) q ≡ map.get w q
get_left w k q ne = get-remove nat_cmp_total w k q ∙ ap (λ b. cond b None (map.get w q)) (other q k ne)

-- what holds of all entries holds of them with one more
all_put : (P : ℕ → Alarm → Type 0) (w : Waiting) (k : ℕ) (v : Alarm) → P k v → ((q : ℕ) (a : Alarm) → q ≢ k → map.get w q ≡ Some a → P q a) → (q : ℕ) (a : Alarm) → map.get (map.insert w k v) q ≡ Some a → P q a
all_put P w k v here rest q a is = elim (cases_eq q k) [
  | inl e ↦
      let same : v ≡ a = same_some v a (sym (get_put w k v) ∙ ap (map.get (map.insert w k v)) (sym e) ∙ is) in
      subst (λ n. P n a) (sym e) (subst (P k) same here)
  | inr ne ↦ rest q a ne (sym (get_beside w k v q ne) ∙ is)
]

all_left : (P : ℕ → Alarm → Type 0) (w : Waiting) (k : ℕ) → ((q : ℕ) (a : Alarm) → q ≢ k → map.get w q ≡ Some a → P q a) → (q : ℕ) (a : Alarm) → map.get (map.remove w k) q ≡ Some a → P q a
all_left P w k rest q a is = elim (cases_eq q k) [
  | inl e ↦ absurd (not_none a (sym (get_taken w k) ∙ ap (map.get (map.remove w k)) (sym e) ∙ is))
  | inr ne ↦ rest q a ne (sym (get_left w k q ne) ∙ is)
]

-- ---- turns that are kept

Loses : List Turn → List Turn → Type 0
Loses old new = (t : Turn) → Contains old t → (head_of old ≡ Some t.0) ⊎ Contains new t

kept_itself : (w : Waiting) (id : ℕ) (a : Alarm) → map.get w id ≡ Some a → is_kept w (a.moment, id) ≡ true
kept_itself w id a is = ap (has_moment a.moment) is ∙ matched a.moment

-- a first turn that no entry waits for may go
pub queued_left : (old new : List Turn) (w : Waiting) (r : ℕ × ℕ) → head_of old ≡ Some r → is_kept w r ≡ false → ((t : Turn) → Contains old t → (head_of old ≡ Some t.0) ⊎ Contains new t) → AreQueued old w → AreQueued new w
queued_left old new w r head gone loses q id a is = elim (loses (turn_of a.moment id) (q id a is)) [
  | inl h ↦
      let same : r ≡ (a.moment, id) = same_some r (a.moment, id) (sym head ∙ h) in
      absurd (true≢false (sym (kept_itself w id a is) ∙ ap (is_kept w) (sym same) ∙ gone))
  | inr h ↦ h
]

-- the first turn goes with its entry
others_stay : (old new : List Turn) (w : Waiting) (moment id : ℕ) → head_of old ≡ Some (moment, id) → ((t : Turn) → Contains old t → (head_of old ≡ Some t.0) ⊎ Contains new t) → AreQueued old w
    → (q : ℕ) (a : Alarm) → q ≢ id → map.get w q ≡ Some a → Contains new (turn_of a.moment q)
others_stay old new w moment id head loses queued q a ne is = elim (loses (turn_of a.moment q) (queued q a is)) [
  | inl h ↦ absurd (ne (ap (λ (r : ℕ × ℕ). r.1) (same_some (a.moment, q) (moment, id) (sym h ∙ head))))
  | inr h ↦ h
]

pub queued_taken : (old new : List Turn) (w : Waiting) (moment id : ℕ) → head_of old ≡ Some (moment, id) → ((t : Turn) → Contains old t → (head_of old ≡ Some t.0) ⊎ Contains new t) → AreQueued old w → AreQueued new (map.remove w id)
queued_taken old new w moment id head loses queued = all_left (λ q a. Contains new (turn_of a.moment q)) w id (others_stay old new w moment id head loses queued)

pub queued_moved : (old new more : List Turn) (w : Waiting) (moment id : ℕ) (v : Alarm) → head_of old ≡ Some (moment, id) → ((t : Turn) → Contains old t → (head_of old ≡ Some t.0) ⊎ Contains new t)
    → Contains more (turn_of v.moment id) → ((t : Turn) → Contains new t → Contains more t) → AreQueued old w → AreQueued more (map.insert w id v)
queued_moved old new more w moment id v head loses here keeps queued =
    all_put (λ q a. Contains more (turn_of a.moment q)) w id v here (λ q a ne is. keeps (turn_of a.moment q) (others_stay old new w moment id head loses queued q a ne is))

-- one entry more with its turn
pub queued_more : (old more : List Turn) (w : Waiting) (id : ℕ) (v : Alarm) → Contains more (turn_of v.moment id) → ((t : Turn) → Contains old t → Contains more t) → AreQueued old w → AreQueued more (map.insert w id v)
queued_more old more w id v here keeps queued = all_put (λ q a. Contains more (turn_of a.moment q)) w id v here (λ q a ne is. keeps (turn_of a.moment q) (queued q a is))

-- an entry less
pub queued_less : (ts : List Turn) (w : Waiting) (id : ℕ) → AreQueued ts w → AreQueued ts (map.remove w id)
queued_less ts w id queued = all_left (λ q a. Contains ts (turn_of a.moment q)) w id (λ q a ne is. queued q a is)

-- turns for which no entry waits may go
pub queued_kept : (old new : List Turn) (w : Waiting) → ((t : Turn) → Contains old t → is_kept w t.0 ≡ true → Contains new t) → AreQueued old w → AreQueued new w
queued_kept old new w keeps queued id a is = keeps (turn_of a.moment id) (queued id a is) (kept_itself w id a is)

-- ---- what is first

there_by : (moment : ℕ) (o : Option Alarm) → has_moment moment o ≡ true → (a : Alarm) × (o ≡ Some a) × (a.moment ≡ moment)
there_by moment None e = absurd (true≢false (sym e))
there_by moment (Some a) e = (a, refl, grind (arith, nat_tests))

pub first_is : (ts : List Turn) (w : Waiting) (moment id : ℕ) → AreQueued ts w → is_kept w (moment, id) ≡ true → All (λ (t : Turn). ¬ IsSooner t.0 (moment, id)) ts → IsFirst w moment id
first_is ts w moment id queued kept least = record {
  there = there_by moment (map.get w id) kept;
  least = λ j b is. All-contains (λ (t : Turn). ¬ IsSooner t.0 (moment, id)) ts (turn_of b.moment j) least (queued j b is);
}

nothing_in : (ts : List Turn) (t : Turn) → head_of ts ≡ None → Contains ts t → ⊥
nothing_in [] t e (k, lt, is) = absurd (omega (arith, lt))
nothing_in (x ∷ xs) t e c = absurd (not_none x.0 (sym e))

pub none_waits : (ts : List Turn) (w : Waiting) → AreQueued ts w → head_of ts ≡ None → NoneWaits w
none_waits ts w queued none j b is = nothing_in ts (turn_of b.moment j) none (queued j b is)

-- ---- what is due

pub none_due : (now : ℕ) (w : Waiting) → NoneWaits w → NoneIsDue now w
none_due now w none j b is = absurd (none j b is)

not_sooner : (m n : ℕ) (P : Type 0) → ((m < n) ⊎ P → ⊥) → n ≤ m
not_sooner m n P h = omega_by (nat_lt m n) refl
  where
    omega_by : (b : Bool) → nat_lt m n ≡ b → n ≤ m
    omega_by true e = let lt : m < n = grind (arith, nat_tests) in absurd (h (inl lt))
    omega_by false e = grind (arith, nat_tests)

pub first_later : (now moment id : ℕ) (w : Waiting) → IsFirst w moment id → now < moment → NoneIsDue now w
first_later now moment id w first lt j b is =
    let le : moment ≤ b.moment = not_sooner b.moment moment ((b.moment ≡ moment) × (j < id)) (first.least j b is) in
    omega (arith, lt, le)

pub first_next : (now moment id : ℕ) (w : Waiting) (a : Alarm) → IsFirst w moment id → moment ≤ now → map.get w id ≡ Some a → IsNext now w id a
first_next now moment id w a first le is =
    let same : first.there.0 ≡ a = same_some first.there.0 a (sym first.there.1 ∙ is) in
    let at : a.moment ≡ moment = ap (λ (x : Alarm). x.moment) (sym same) ∙ first.there.2 in
    record {
      there = is;
      due = omega (arith, le, at);
      least = λ j b there due. subst (λ m. ¬ ((b.moment < m) ⊎ ((b.moment ≡ m) × (j < id)))) (sym at) (first.least j b there);
    }

pub at_moment : (moment id : ℕ) (w : Waiting) (a : Alarm) → IsFirst w moment id → map.get w id ≡ Some a → a.moment ≡ moment
at_moment moment id w a first is = ap (λ (x : Alarm). x.moment) (sym (same_some first.there.0 a (sym first.there.1 ∙ is))) ∙ first.there.2

pub is_there : (moment id : ℕ) (w : Waiting) → IsFirst w moment id → map.get w id ≡ None → ⊥
is_there moment id w first none = not_none first.there.0 (sym none ∙ first.there.1)

-- ---- what is kept of timers

len_more : (b : Bool) (n : ℕ) → cond b n (n + 1) ≤ n + 1
len_more true n = omega arith
len_more false n = omega arith

len_less : (b : Bool) (n most : ℕ) → n ≤ most → cond b (n - 1) n ≤ most
len_less true n most le = omega arith
len_less false n most le = le

len_same : (o : Option Alarm) (n most : ℕ) (a : Alarm) → o ≡ Some a → n ≤ most → cond (is_some o) n (n + 1) ≤ most
len_same None n most a e le = absurd (not_none a e)
len_same (Some b) n most a e le = le

pub kept_more : (w : Waiting) (q r : Turns) (last : ℕ) (v : Alarm) → IsKept w q last → map.len w ≢ MOST_ENTRIES → AreQueued r.turns (map.insert w (last + 1) v) → IsKept (map.insert w (last + 1) v) r (last + 1)
kept_more w q r last v k room queued = record {
  queued = queued;
  given = all_put (λ id a. id ≤ last + 1) w (last + 1) v (omega arith) (λ id a ne is. let le : id ≤ last = k.given id a is in omega (arith, le));
  within =
      let within : map.len w ≤ MOST_ENTRIES = k.within in
      let len : map.len (map.insert w (last + 1) v) ≡ cond (is_some (map.get w (last + 1))) (map.len w) (map.len w + 1) = len-insert nat_cmp_total w (last + 1) v in
      let more : cond (is_some (map.get w (last + 1))) (map.len w) (map.len w + 1) ≤ map.len w + 1 = len_more (is_some (map.get w (last + 1))) (map.len w) in
      omega (arith, within, room, len, more);
}

pub kept_less : (w : Waiting) (q r : Turns) (last id : ℕ) → IsKept w q last → AreQueued r.turns (map.remove w id) → IsKept (map.remove w id) r last
kept_less w q r last id k queued = record {
  queued = queued;
  given = all_left (λ j a. j ≤ last) w id (λ j a ne is. k.given j a is);
  within = subst (λ n. n ≤ MOST_ENTRIES) (sym (len-remove nat_cmp_total w id)) (len_less (is_some (map.get w id)) (map.len w) MOST_ENTRIES k.within);
}

kept_moved : (w : Waiting) (q r : Turns) (last id : ℕ) (a : Alarm) (next : Option ℕ) → IsKept w q last → map.get w id ≡ Some a → AreQueued r.turns (moved_by id a w next) → IsKept (moved_by id a w next) r last
kept_moved w q r last id a None k is queued = kept_less w q r last id k queued
kept_moved w q r last id a (Some moment) k is queued = record {
  queued = queued;
  given = all_put (λ j b. j ≤ last) w id (record a { moment = moment }) (k.given id a is) (λ j b ne at. k.given j b at);
  within = subst (λ n. n ≤ MOST_ENTRIES) (sym (len-insert nat_cmp_total w id (record a { moment = moment }))) (len_same (map.get w id) (map.len w) MOST_ENTRIES a is k.within);
}

pub kept_answered : (w : Waiting) (q r : Turns) (last id : ℕ) (a : Alarm) → IsKept w q last → map.get w id ≡ Some a → AreQueued r.turns (answered id a w) → IsKept (answered id a w) r last
kept_answered w q r last id a k is queued = kept_moved w q r last id a (again a) k is queued

pub kept_entered : (w v : Waiting) (q r : Turns) (last : ℕ) (a : Alarm) → v ≡ map.insert w (last + 1) a → map.len w ≢ MOST_ENTRIES → IsKept w q last → AreQueued r.turns v → IsKept v r (last + 1)
kept_entered w v q r last a e room k queued = subst (λ (x : Waiting). IsKept x r (last + 1)) (sym e) (kept_more w q r last a k room (subst (AreQueued r.turns) e queued))

pub kept_cleared : (w v : Waiting) (q r : Turns) (last id : ℕ) → v ≡ map.remove w id → IsKept w q last → (AreQueued q.turns v → AreQueued r.turns v) → IsKept v r last
kept_cleared w v q r last id e k f = subst (λ (x : Waiting). IsKept x r last) (sym e) (kept_less w q r last id k (subst (AreQueued r.turns) e (f (subst (AreQueued q.turns) (sym e) (queued_less q.turns w id k.queued)))))

-- the turns may change beside the entries
pub kept_beside : (w : Waiting) (q r : Turns) (last : ℕ) → IsKept w q last → AreQueued r.turns w → IsKept w r last
kept_beside w q r last k queued = record { queued = queued; given = k.given; within = k.within }

pub kept_nothing : (q : Turns) → IsKept map.empty q 0
kept_nothing q = record {
  queued = λ id a is. absurd (not_none a (sym (map.get-empty nat_cmp id) ∙ is));
  given = λ id a is. absurd (not_none a (sym (map.get-empty nat_cmp id) ∙ is));
  within = subst (λ n. n ≤ MOST_ENTRIES) (sym (map.len-empty nat_cmp Alarm)) (omega arith);
}
