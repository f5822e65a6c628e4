-- Connections by slot: what a change in one slot makes of the list in order of arrival.
use Rattle.std.proofs.Common.{◌≡◌, ℕ, zero, suc, ◌<◌, ◌≤◌, ◌%◌, ◌==◌, ◌||◌, eqb, true, false, List, [], ◌∷◌, ◌++◌, length, map, take, drop, append-nil, slice_get, slice_set, remove, slice_index_or, Option, Some, None, refl, sym, ap, ◌∙◌, subst, arith, ◌⊎◌, inl, inr}
use Rattle.std.proofs.lemmas.List.{length-set, drop_all, take_all}
use Rattle.std.proofs.lemmas.Bool.{false≢true, cases_lt}
use Rattle.std.proofs.lemmas.Bool.Decides.{eqb_tells}
use Rattle.std.proofs.lemmas.Map.Steps.{length-le_from_distinct_below}
use Rattle.std.specs.List.{AllByRecursion, IsDistinct, list_any}
use Rattle.std.proofs.lemmas.Option.{slice_get_read}
use Rattle.sw_conn.specs.declared.conn.Conn.{Conn}
use Rattle.sw_conn.specs.Conn.{stops}
use Rattle.sw_reactor.proofs.Keeping.{some_is}
use Rattle.sw_reactor.specs.Line.{Lined, AtLine, AtPlace, AtSession, place_of, next_place, LivesAt, IsFree, lying, in_slot, with_one, line_of, lined, IsLine, stops_in}

abbrev pub IsThere : {X : Type 0} → Option X → Type 0
IsThere None = ⊥
IsThere (Some y) = Unit {0}

pub not_none : {X : Type 0} {Y : Type 0} (x : X) → None ≡ Some x → Y
not_none {X} {Y} x e = absurd (subst (λ (o : Option X). IsThere o) (sym e) tt)

pub same_or_not : (j k : ℕ) → (j ≡ k) ⊎ (¬ (j ≡ k))
same_or_not j k = elim (eqb_tells j k) [ inl h ↦ inl h.1 | inr h ↦ inr h.1 ]

-- a slot that was written, and any other
pub get_set_same : {X : Type 0} (xs : List X) (k : ℕ) (y : X) → k < length xs → slice_get (slice_set xs k y) k ≡ Some y
get_set_same [] k y lt = absurd (omega (arith, lt))
get_set_same (x ∷ xs) zero y lt = refl
get_set_same (x ∷ xs) (suc k) y lt = get_set_same xs k y (omega (arith, lt))

pub get_set_other : {X : Type 0} (xs : List X) (j k : ℕ) (y : X) → ¬ (j ≡ k) → slice_get (slice_set xs k y) j ≡ slice_get xs j
get_set_other [] j k y n = refl
get_set_other (x ∷ xs) zero zero y n = absurd (n refl)
get_set_other (x ∷ xs) zero (suc k) y n = refl
get_set_other (x ∷ xs) (suc j) zero y n = refl
get_set_other (x ∷ xs) (suc j) (suc k) y n = get_set_other xs j k y (λ e. n (ap suc e))

pub slot_same : {X : Type 0} (slots : List (Option X)) (k : ℕ) (o : Option X) → k < length slots → in_slot (slice_set slots k o) k ≡ o
slot_same slots k o lt = ap lying (get_set_same slots k o lt)

pub slot_other : {X : Type 0} (slots : List (Option X)) (j k : ℕ) (o : Option X) → ¬ (j ≡ k) → in_slot (slice_set slots k o) j ≡ in_slot slots j
slot_other slots j k o n = ap lying (get_set_other slots j k o n)

pub slot_within : {X : Type 0} (slots : List (Option X)) (k : ℕ) (c : X) → in_slot slots k ≡ Some c → k < length slots
slot_within [] k c e = not_none c e
slot_within (o ∷ slots) zero c e = omega arith
slot_within (o ∷ slots) (suc k) c e = let h = slot_within slots k c e in omega (arith, h)

-- each slot of the order holds something, and none stands in it twice
abbrev pub Lies : {X : Type 0} → List (Option X) → List ℕ → Type 0
Lies {X} slots order = (p k : ℕ) → slice_get order p ≡ Some k → (c : X) × (in_slot slots k ≡ Some c)

abbrev pub Once : List ℕ → Type 0
Once order = (p q k : ℕ) → slice_get order p ≡ Some k → slice_get order q ≡ Some k → p ≡ q

lies_rest : {X : Type 0} (slots : List (Option X)) (j : ℕ) (order : List ℕ) → Lies slots (j ∷ order) → Lies slots order
lies_rest slots j order h p k g = h (suc p) k g

pred_is : (p q : ℕ) → suc p ≡ suc q → p ≡ q
pred_is p q e = omega (arith, e)

once_rest : (j : ℕ) (order : List ℕ) → Once (j ∷ order) → Once order
once_rest j order h p q k g e = pred_is p q (h (suc p) (suc q) k g e)

pub line_length : {X : Type 0} (slots : List (Option X)) (order : List ℕ) → Lies slots order → length (line_of slots order) ≡ length order
line_length slots [] h = refl
line_length slots (j ∷ order) h =
    ap (λ o. length (with_one o (line_of slots order))) (h 0 j refl).1 ∙ ap suc (line_length slots order (lies_rest slots j order h))

pub line_at : {X : Type 0} (slots : List (Option X)) (order : List ℕ) → Lies slots order → (p k : ℕ) (c : X) → slice_get order p ≡ Some k → in_slot slots k ≡ Some c → slice_get (line_of slots order) p ≡ Some c
line_at slots [] h p k c g e = not_none k g
line_at slots (j ∷ order) h zero k c g e =
    ap (λ o. slice_get (with_one o (line_of slots order)) 0) (ap (in_slot slots) (some_is j k g) ∙ e)
line_at slots (j ∷ order) h (suc p) k c g e =
    ap (λ o. slice_get (with_one o (line_of slots order)) (suc p)) (h 0 j refl).1 ∙ line_at slots order (lies_rest slots j order h) p k c g e

-- a slot that the order doesn't have makes no difference
pub line_other : {X : Type 0} (slots : List (Option X)) (order : List ℕ) (k : ℕ) (o : Option X) → ((q : ℕ) → ¬ (slice_get order q ≡ Some k)) → line_of (slice_set slots k o) order ≡ line_of slots order
line_other slots [] k o n = refl
line_other slots (j ∷ order) k o n =
    ap (λ y. with_one y (line_of (slice_set slots k o) order)) (slot_other slots j k o (λ e. n 0 (ap Some e)))
    ∙ ap (with_one (in_slot slots j)) (line_other slots order k o (λ q. n (suc q)))

-- the connection at a place is changed
pub line_set : {X : Type 0} (slots : List (Option X)) (order : List ℕ) → Lies slots order → Once order → (p k : ℕ) (d : X) → slice_get order p ≡ Some k → k < length slots → line_of (slice_set slots k (Some d)) order ≡ slice_set (line_of slots order) p d
line_set slots [] h once p k d g lt = not_none k g
line_set slots (j ∷ order) h once zero k d g lt =
    let e = some_is j k g in
    let rest = line_other slots order k (Some d) (λ q i. absurd (zero_not q (once 0 (suc q) k g i))) in
    ap (λ y. with_one (in_slot (slice_set slots k (Some d)) y) (line_of (slice_set slots k (Some d)) order)) e
    ∙ (ap (λ o. with_one o (line_of (slice_set slots k (Some d)) order)) (slot_same slots k (Some d) lt)
    ∙ (ap (λ xs. d ∷ xs) rest
    ∙ sym (ap (λ o. slice_set (with_one o (line_of slots order)) 0 d) (h 0 j refl).1)))
  where
    zero_not : (q : ℕ) → 0 ≡ suc q → ⊥
    zero_not q e = omega (arith, e)
line_set slots (j ∷ order) h once (suc p) k d g lt =
    let other : ¬ (j ≡ k) = λ e. zero_not p (once 0 (suc p) k (ap Some e) g) in
    let here = (h 0 j refl).1 in
    ap (λ o. with_one o (line_of (slice_set slots k (Some d)) order)) (slot_other slots j k (Some d) other ∙ here)
    ∙ (ap (λ xs. (h 0 j refl).0 ∷ xs) (line_set slots order (lies_rest slots j order h) (once_rest j order once) p k d g lt)
    ∙ sym (ap (λ o. slice_set (with_one o (line_of slots order)) (suc p) d) here))
  where
    zero_not : (q : ℕ) → 0 ≡ suc q → ⊥
    zero_not q e = omega (arith, e)

-- what lies in a slot once one was written
pub slot_cases : {X : Type 0} (slots : List (Option X)) (j k : ℕ) (o : Option X) (x : X) → k < length slots → in_slot (slice_set slots k o) j ≡ Some x → ((j ≡ k) × (o ≡ Some x)) ⊎ ((¬ (j ≡ k)) × (in_slot slots j ≡ Some x))
slot_cases slots j k o x lt e =
    elim (same_or_not j k) [
      | inl h ↦ inl (h, sym (slot_same slots k o lt) ∙ (ap (in_slot (slice_set slots k o)) (sym h) ∙ e))
      | inr n ↦ inr (n, sym (slot_other slots j k o n) ∙ e)
    ]

-- the connection in a slot is changed, and has the same session
pub set_is_line : {L K : Type 0} (slots : List (Option (Conn L K))) (order : List ℕ) (room k : ℕ) (c d : Conn L K) → IsLine slots order room → in_slot slots k ≡ Some c → d.session ≡ c.session → IsLine (slice_set slots k (Some d)) order room
set_is_line {L} {K} slots order room k c d i e same =
    let lt = slot_within slots k c e in
    let n : length (slice_set slots k (Some d)) ≡ length slots = length-set slots k (Some d) in
    record {
      some = rw n i.some;
      fits = rw n i.fits;
      own = own lt n;
      listed = listed lt;
      lies = lies lt;
      once = i.once;
    }
  where
    own : k < length slots → length (slice_set slots k (Some d)) ≡ length slots → (j : ℕ) (x : Conn L K) → in_slot (slice_set slots k (Some d)) j ≡ Some x → x.session % length (slice_set slots k (Some d)) ≡ j
    own lt n j x h =
        elim (slot_cases slots j k (Some d) x lt h) [
          | inl w ↦ rw n (ap (λ (y : Conn L K). y.session % length slots) (sym (some_is d x w.1)) ∙ (ap (λ s. s % length slots) same ∙ (i.own k c e ∙ sym w.0)))
          | inr w ↦ rw n (i.own j x w.1)
        ]

    listed : k < length slots → (j : ℕ) (x : Conn L K) → in_slot (slice_set slots k (Some d)) j ≡ Some x → (p : ℕ) × (slice_get order p ≡ Some j)
    listed lt j x h =
        elim (slot_cases slots j k (Some d) x lt h) [
          | inl w ↦ subst (λ y. (p : ℕ) × (slice_get order p ≡ Some y)) (sym w.0) (i.listed k c e)
          | inr w ↦ i.listed j x w.1
        ]

    lies : k < length slots → (p j : ℕ) → slice_get order p ≡ Some j → (x : Conn L K) × (in_slot (slice_set slots k (Some d)) j ≡ Some x)
    lies lt p j g =
        elim (same_or_not j k) [
          | inl h ↦ (d, ap (in_slot (slice_set slots k (Some d))) h ∙ slot_same slots k (Some d) lt)
          | inr m ↦ ((i.lies p j g).0, slot_other slots j k (Some d) m ∙ (i.lies p j g).1)
        ]

-- the connection at a place of the order is changed
pub line_at_set : {L K : Type 0} (slots : List (Option (Conn L K))) (order : List ℕ) (room p k : ℕ) (c d : Conn L K) (P : Conn L K → Conn L K → Type 0) → IsLine slots order room → slice_get order p ≡ Some k → in_slot slots k ≡ Some c → P c d → AtLine (lined slots order) p P (lined (slice_set slots k (Some d)) order)
line_at_set slots order room p k c d P i g e h =
    ((c, (d, (line_at slots order i.lies p k c g e, h, line_set slots order i.lies i.once p k d g (slot_within slots k c e)))), length-set slots k (Some d))

-- the place of a session
place_here : {L K : Type 0} (s : ℕ) (c : Conn L K) (cs : List (Conn L K)) → c.session ≡ s → place_of s (c ∷ cs) ≡ Some 0
place_here s c cs e = rw (eq_true c.session s e) refl
  where
    eq_true : (m n : ℕ) → m ≡ n → (m == n) ≡ true
    eq_true m n h = elim (eqb_tells m n) [ inl w ↦ w.0 | inr w ↦ absurd (w.1 h) ]

place_later : {L K : Type 0} (s : ℕ) (c : Conn L K) (cs : List (Conn L K)) → ¬ (c.session ≡ s) → place_of s (c ∷ cs) ≡ next_place (place_of s cs)
place_later s c cs n = rw (eq_false c.session s n) refl
  where
    eq_false : (m n : ℕ) → ¬ (m ≡ n) → (m == n) ≡ false
    eq_false m n h = elim (eqb_tells m n) [ inl w ↦ absurd (h w.1) | inr w ↦ w.0 ]

-- the first one of a list that has a session is where it is, if no earlier one has it
pub place_is : {L K : Type 0} (s : ℕ) (cs : List (Conn L K)) (p : ℕ) (c : Conn L K) → slice_get cs p ≡ Some c → c.session ≡ s → ((q : ℕ) (x : Conn L K) → slice_get cs q ≡ Some x → x.session ≡ s → q ≡ p) → place_of s cs ≡ Some p
place_is s [] p c g e only = not_none c g
place_is s (x ∷ cs) zero c g e only = place_here s x cs (ap (λ y. y.session) (some_is x c g) ∙ e)
place_is s (x ∷ cs) (suc p) c g e only =
    place_later s x cs (λ h. zero_not p (only 0 x refl h)) ∙ ap next_place (place_is s cs p c g e (λ q y h k. pred_is q p (only (suc q) y h k)))
  where
    zero_not : (q : ℕ) → 0 ≡ suc q → ⊥
    zero_not q e = omega (arith, e)

pub place_none : {L K : Type 0} (s : ℕ) (cs : List (Conn L K)) → ((q : ℕ) (x : Conn L K) → slice_get cs q ≡ Some x → ¬ (x.session ≡ s)) → place_of s cs ≡ None
place_none s [] n = refl
place_none s (x ∷ cs) n = place_later s x cs (n 0 x refl) ∙ ap next_place (place_none s cs (λ q. n (suc q)))

-- each connection of the list lies in its slot
pub line_has : {X : Type 0} (slots : List (Option X)) (order : List ℕ) → Lies slots order → (q : ℕ) (x : X) → slice_get (line_of slots order) q ≡ Some x → (k : ℕ) × ((slice_get order q ≡ Some k) × (in_slot slots k ≡ Some x))
line_has slots [] h q x g = not_none x g
line_has slots (j ∷ order) h zero x g =
    (j, (refl, (h 0 j refl).1 ∙ (sym (ap (λ o. slice_get (with_one o (line_of slots order)) 0) (h 0 j refl).1) ∙ g)))
line_has slots (j ∷ order) h (suc q) x g =
    line_has slots order (lies_rest slots j order h) q x (sym (ap (λ o. slice_get (with_one o (line_of slots order)) (suc q)) (h 0 j refl).1) ∙ g)

-- a connection of the list has a session: then it lies in that session's slot
pub of_session : {L K : Type 0} (slots : List (Option (Conn L K))) (order : List ℕ) (room : ℕ) → IsLine slots order room → (q : ℕ) (x : Conn L K) → slice_get (line_of slots order) q ≡ Some x → (slice_get order q ≡ Some (x.session % length slots)) × (in_slot slots (x.session % length slots) ≡ Some x)
of_session slots order room i q x g =
    let has = line_has slots order i.lies q x g in
    let own = i.own has.0 x has.1.1 in
    (has.1.0 ∙ ap Some (sym own), ap (in_slot slots) own ∙ has.1.1)

-- the connection of a session is changed
pub session_set : {L K : Type 0} (slots : List (Option (Conn L K))) (order : List ℕ) (room s : ℕ) (c d : Conn L K) (P : Conn L K → Conn L K → Type 0) → IsLine slots order room → in_slot slots (s % length slots) ≡ Some c → c.session ≡ s → P c d → AtSession (lined slots order) s P (lined (slice_set slots (s % length slots) (Some d)) order)
session_set {L} {K} slots order room s c d P i e same h =
    let p = i.listed (s % length slots) c e in
    let here = line_at slots order i.lies p.0 (s % length slots) c p.1 e in
    let found = place_is s (line_of slots order) p.0 c here same (only p.0 p.1) in
    subst (λ o. AtPlace (lined slots order) o P (lined (slice_set slots (s % length slots) (Some d)) order)) (sym found) (line_at_set slots order room p.0 (s % length slots) c d P i p.1 e h)
  where
    only : (p : ℕ) → slice_get order p ≡ Some (s % length slots) → (q : ℕ) (x : Conn L K) → slice_get (line_of slots order) q ≡ Some x → x.session ≡ s → q ≡ p
    only p g q x k is = i.once q p (s % length slots) ((of_session slots order room i q x k).0 ∙ ap (λ y. Some (y % length slots)) is) g

-- no connection has the session
pub session_none : {L K : Type 0} (slots : List (Option (Conn L K))) (order : List ℕ) (room s : ℕ) (P : Conn L K → Conn L K → Type 0) → IsLine slots order room → ((c : Conn L K) → in_slot slots (s % length slots) ≡ Some c → ¬ (c.session ≡ s)) → AtSession (lined slots order) s P (lined slots order)
session_none {L} {K} slots order room s P i n =
    subst (λ o. AtPlace (lined slots order) o P (lined slots order)) (sym (place_none s (line_of slots order) other)) refl
  where
    other : (q : ℕ) (x : Conn L K) → slice_get (line_of slots order) q ≡ Some x → ¬ (x.session ≡ s)
    other q x k is = n x (ap (λ y. in_slot slots (y % length slots)) (sym is) ∙ (of_session slots order room i q x k).1) is

-- what code that indexes finds
pub read_at : {X : Type 0} (xs : List X) (i : ℕ) (x : X) → i < length xs → x ≡ slice_index_or xs i x → slice_get xs i ≡ Some x
read_at xs i x lt e = slice_get_read xs (length xs) i x refl lt e

pub lying_read : {X : Type 0} (slots : List (Option X)) (k : ℕ) (o : Option X) → k < length slots → o ≡ slice_index_or slots k o → in_slot slots k ≡ o
lying_read slots k o lt e = ap lying (read_at slots k o lt e)

pub order_within : {L K : Type 0} (slots : List (Option (Conn L K))) (order : List ℕ) (room at : ℕ) (l : Lined L K) → IsLine slots order room → lined slots order ≡ l → at < length l.conns → at < length order
order_within slots order room at l i v lt =
    let n : length (line_of slots order) ≡ length l.conns = ap (λ x. length x.conns) v in
    let m = line_length slots order i.lies in
    omega (arith, lt, n, m)

-- the slot at a place of the order
pub record Found {L K : Type 0} (slots : List (Option (Conn L K))) (order : List ℕ) (at k : ℕ) : Type 0 where
  pub place : slice_get order at ≡ Some k
  pub conn : Conn L K
  pub here : in_slot slots k ≡ Some conn
  pub within : k < length slots

pub found : {L K : Type 0} (slots : List (Option (Conn L K))) (order : List ℕ) (room at k : ℕ) (l : Lined L K) → IsLine slots order room → lined slots order ≡ l → at < length l.conns → k ≡ slice_index_or order at k → Found slots order at k
found slots order room at k l i v lt e =
    let place = read_at order at k (order_within slots order room at l i v lt) e in
    let lies = i.lies at k place in
    record { place = place; conn = lies.0; here = lies.1; within = slot_within slots k lies.0 lies.1 }

pub not_vacant : {L K : Type 0} (slots : List (Option (Conn L K))) (order : List ℕ) (at k : ℕ) (o : Option (Conn L K)) → Found slots order at k → o ≡ slice_index_or slots k o → o ≡ None → ⊥
not_vacant slots order at k o f e is = not_none f.conn (sym is ∙ (sym (lying_read slots k o f.within e) ∙ f.here))

pub lies_here : {L K : Type 0} (slots : List (Option (Conn L K))) (order : List ℕ) (at k : ℕ) (o : Option (Conn L K)) (c : Conn L K) → Found slots order at k → o ≡ slice_index_or slots k o → o ≡ Some c → in_slot slots k ≡ Some c
lies_here slots order at k o c f e is = lying_read slots k o f.within e ∙ is

-- the connection at a place was changed so, as the code sees it
pub at_place : {L K : Type 0} (slots : List (Option (Conn L K))) (order : List ℕ) (room at k : ℕ) (o : Option (Conn L K)) (c d : Conn L K) (P : Conn L K → Conn L K → Type 0) (l : Lined L K) → IsLine slots order room → lined slots order ≡ l → Found slots order at k → o ≡ slice_index_or slots k o → o ≡ Some c → P c d → AtLine l at P (lined (slice_set slots k (Some d)) order)
at_place slots order room at k o c d P l i v f e is h =
    subst (λ x. AtLine x at P (lined (slice_set slots k (Some d)) order)) v (line_at_set slots order room at k c d P i f.place (lies_here slots order at k o c f e is) h)

pub at_place_line : {L K : Type 0} (slots : List (Option (Conn L K))) (order : List ℕ) (room at k : ℕ) (o : Option (Conn L K)) (c d : Conn L K) → IsLine slots order room → Found slots order at k → o ≡ slice_index_or slots k o → o ≡ Some c → d.session ≡ c.session → IsLine (slice_set slots k (Some d)) order room
at_place_line slots order room at k o c d i f e is same = set_is_line slots order room k c d i (lies_here slots order at k o c f e is) same

-- the slot of a session that lives
pub record Living {L K : Type 0} (slots : List (Option (Conn L K))) (s k : ℕ) : Type 0 where
  pub slot : k ≡ s % length slots
  pub conn : Conn L K
  pub here : in_slot slots k ≡ Some conn
  pub own : conn.session ≡ s
  pub within : k < length slots

pub living : {L K : Type 0} (slots : List (Option (Conn L K))) (order : List ℕ) (room s k : ℕ) (l : Lined L K) → IsLine slots order room → lined slots order ≡ l → LivesAt s l k → Living slots s k
living slots order room s k l i v a =
    let g = subst (λ x. slice_get x.conns a.at ≡ Some a.conn) (sym v) a.there in
    let slot : k ≡ s % length slots = a.slot ∙ ap (λ x. s % x.room) (sym v) in
    let here : in_slot slots k ≡ Some a.conn = ap (in_slot slots) (slot ∙ ap (λ n. n % length slots) (sym a.own)) ∙ (of_session slots order room i a.at a.conn g).1 in
    record { slot = slot; conn = a.conn; here = here; own = a.own; within = slot_within slots k a.conn here }

pub not_gone : {L K : Type 0} (slots : List (Option (Conn L K))) (s k : ℕ) (o : Option (Conn L K)) → Living slots s k → o ≡ slice_index_or slots k o → o ≡ None → ⊥
not_gone slots s k o f e is = not_none f.conn (sym is ∙ (sym (lying_read slots k o f.within e) ∙ f.here))

pub at_session_line : {L K : Type 0} (slots : List (Option (Conn L K))) (order : List ℕ) (room s k : ℕ) (o : Option (Conn L K)) (c d : Conn L K) → IsLine slots order room → Living slots s k → o ≡ slice_index_or slots k o → o ≡ Some c → d.session ≡ c.session → IsLine (slice_set slots k (Some d)) order room
at_session_line slots order room s k o c d i f e is same = set_is_line slots order room k c d i (lying_read slots k o f.within e ∙ is) same

-- the connection of a session was changed so, as the code sees it
pub at_session : {L K : Type 0} (slots : List (Option (Conn L K))) (order : List ℕ) (room s k : ℕ) (o : Option (Conn L K)) (c d : Conn L K) (P : Conn L K → Conn L K → Type 0) (l : Lined L K) → IsLine slots order room → lined slots order ≡ l → Living slots s k → o ≡ slice_index_or slots k o → o ≡ Some c → P c d → AtSession l s P (lined (slice_set slots k (Some d)) order)
at_session slots order room s k o c d P l i v f e is h =
    let here : in_slot slots k ≡ Some c = lying_read slots k o f.within e ∙ is in
    let own : c.session ≡ s = ap (λ x. x.session) (some_is c f.conn (sym here ∙ f.here)) ∙ f.own in
    let there : in_slot slots (s % length slots) ≡ Some c = ap (in_slot slots) (sym f.slot) ∙ here in
    let done = session_set slots order room s c d P i there own h in
    subst (λ x. AtSession x s P (lined (slice_set slots k (Some d)) order)) v
    (subst (λ n. AtSession (lined slots order) s P (lined (slice_set slots n (Some d)) order)) (sym f.slot) done)

-- no connection has the session
pub at_none : {L K : Type 0} (l : Lined L K) (s : ℕ) (P : Conn L K → Conn L K → Type 0) → place_of s l.conns ≡ None → AtSession l s P l
at_none l s P e = subst (λ o. AtPlace l o P l) (sym e) refl

-- what a look into a session's slot tells
pub find_none : {L K : Type 0} (slots : List (Option (Conn L K))) (order : List ℕ) (room s k : ℕ) (o : Option (Conn L K)) (l : Lined L K) → IsLine slots order room → lined slots order ≡ l → k ≡ s % l.room → k < l.room → o ≡ slice_index_or slots k o → ((c : Conn L K) → o ≡ Some c → ¬ (c.session ≡ s)) → place_of s l.conns ≡ None
find_none {L} {K} slots order room s k o l i v e lt is no_one =
    subst (λ x. place_of s x.conns ≡ None) v (place_none s (line_of slots order) other)
  where
    n : length slots ≡ l.room
    n = ap (λ x. x.room) v

    here : in_slot slots k ≡ o
    here = lying_read slots k o (omega (arith, lt, n)) is

    slot : k ≡ s % length slots
    slot = e ∙ ap (λ y. s % y) (sym n)

    other : (q : ℕ) (x : Conn L K) → slice_get (line_of slots order) q ≡ Some x → ¬ (x.session ≡ s)
    other q x g own = no_one x (sym here ∙ (ap (in_slot slots) (slot ∙ ap (λ y. y % length slots) (sym own)) ∙ (of_session slots order room i q x g).1)) own

pub find_some : {L K : Type 0} (slots : List (Option (Conn L K))) (order : List ℕ) (room s k : ℕ) (o : Option (Conn L K)) (c : Conn L K) (l : Lined L K) → IsLine slots order room → lined slots order ≡ l → k ≡ s % l.room → k < l.room → o ≡ slice_index_or slots k o → o ≡ Some c → c.session ≡ s → LivesAt s l k
find_some slots order room s k o c l i v e lt is there own =
    let n : length slots ≡ l.room = ap (λ x. x.room) v in
    let here : in_slot slots k ≡ Some c = lying_read slots k o (omega (arith, lt, n)) is ∙ there in
    let p = i.listed k c here in
    record { slot = e; at = p.0; conn = c; there = subst (λ x. slice_get x.conns p.0 ≡ Some c) v (line_at slots order i.lies p.0 k c p.1 here); own = own }

-- a list without one element
pub rest_at : {X : Type 0} (xs : List X) (p q : ℕ) (k : X) → slice_get (remove xs p) q ≡ Some k → ((q < p) × (slice_get xs q ≡ Some k)) ⊎ ((p ≤ q) × (slice_get xs (suc q) ≡ Some k))
rest_at [] zero q k g = not_none k g
rest_at [] (suc p) q k g = not_none k g
rest_at (x ∷ xs) zero q k g = inr (omega arith, g)
rest_at (x ∷ xs) (suc p) zero k g = inl (omega arith, g)
rest_at (x ∷ xs) (suc p) (suc q) k g =
    elim (rest_at xs p q k g) [ inl h ↦ (let w = h.0 in inl (omega (arith, w), h.1)) | inr h ↦ (let w = h.0 in inr (omega (arith, w), h.1)) ]

pub at_rest : {X : Type 0} (xs : List X) (p r : ℕ) (k : X) → slice_get xs r ≡ Some k → ¬ (r ≡ p) → (q : ℕ) × (slice_get (remove xs p) q ≡ Some k)
at_rest [] p r k g n = not_none k g
at_rest (x ∷ xs) zero zero k g n = absurd (n refl)
at_rest (x ∷ xs) zero (suc r) k g n = (r, g)
at_rest (x ∷ xs) (suc p) zero k g n = (0, g)
at_rest (x ∷ xs) (suc p) (suc r) k g n = let w = at_rest xs p r k g (λ e. n (ap suc e)) in (suc w.0, w.1)

-- where an element of the rest stood
pub record Stood {X : Type 0} (xs : List X) (p q : ℕ) (k : X) : Type 0 where
  pub from : ℕ
  pub there : slice_get xs from ≡ Some k
  pub other : ¬ (from ≡ p)
  pub below : q < p → from ≡ q
  pub above : p ≤ q → from ≡ suc q

pub stood : {X : Type 0} (xs : List X) (p q : ℕ) (k : X) → slice_get (remove xs p) q ≡ Some k → Stood xs p q k
stood xs p q k g =
    elim (rest_at xs p q k g) [
      | inl h ↦ (let w = h.0 in record { from = q; there = h.1; other = λ e. omega (arith, w, e); below = λ _. refl; above = λ a. absurd (omega (arith, w, a)) })
      | inr h ↦ (let w = h.0 in record { from = suc q; there = h.1; other = λ e. omega (arith, w, e); below = λ b. absurd (omega (arith, w, b)); above = λ _. refl })
    ]

pub stood_same : (p q r a b : ℕ) → (q < p → a ≡ q) → (p ≤ q → a ≡ suc q) → (r < p → b ≡ r) → (p ≤ r → b ≡ suc r) → a ≡ b → q ≡ r
stood_same p q r a b f g h k e =
    elim (cases_lt q p) [
      | inl lt ↦ elim (cases_lt r p) [ inl m ↦ (let x = f lt in let y = h m in omega (arith, x, y, e)) | inr m ↦ (let x = f lt in let y = k m in omega (arith, x, y, e, lt, m)) ]
      | inr le ↦ elim (cases_lt r p) [ inl m ↦ (let x = g le in let y = h m in omega (arith, x, y, e, le, m)) | inr m ↦ (let x = g le in let y = k m in omega (arith, x, y, e)) ]
    ]

-- a connection leaves its slot and the order
remove_is_line : {L K : Type 0} (slots : List (Option (Conn L K))) (order : List ℕ) (room room2 p k : ℕ) → IsLine slots order room → slice_get order p ≡ Some k → k < length slots → length slots ≤ room2 → IsLine (slice_set slots k None) (remove order p) room2
remove_is_line {L} {K} slots order room room2 p k i g lt fit =
    record { some = rw n i.some; fits = rw n fit; own = own; listed = listed; lies = lies; once = once }
  where
    n : length (slice_set slots k None) ≡ length slots
    n = length-set slots k None

    own : (j : ℕ) (x : Conn L K) → in_slot (slice_set slots k None) j ≡ Some x → x.session % length (slice_set slots k None) ≡ j
    own j x h = elim (slot_cases slots j k None x lt h) [ inl w ↦ not_none x w.1 | inr w ↦ rw n (i.own j x w.1) ]

    listed : (j : ℕ) (x : Conn L K) → in_slot (slice_set slots k None) j ≡ Some x → (q : ℕ) × (slice_get (remove order p) q ≡ Some j)
    listed j x h =
        elim (slot_cases slots j k None x lt h) [
          | inl w ↦ not_none x w.1
          | inr w ↦ (let r = i.listed j x w.1 in at_rest order p r.0 j r.1 (λ e. w.0 (some_is j k (sym r.1 ∙ (ap (slice_get order) e ∙ g)))))
        ]

    lies : (q j : ℕ) → slice_get (remove order p) q ≡ Some j → (x : Conn L K) × (in_slot (slice_set slots k None) j ≡ Some x)
    lies q j h =
        let s = stood order p q j h in
        let m : ¬ (j ≡ k) = λ e. s.other (i.once s.from p k (s.there ∙ ap Some e) g) in
        ((i.lies s.from j s.there).0, slot_other slots j k None m ∙ (i.lies s.from j s.there).1)

    once : (q r j : ℕ) → slice_get (remove order p) q ≡ Some j → slice_get (remove order p) r ≡ Some j → q ≡ r
    once q r j h e =
        let s = stood order p q j h in
        let t = stood order p r j e in
        stood_same p q r s.from t.from s.below s.above t.below t.above (i.once s.from t.from j s.there t.there)

pub removed_line : {L K : Type 0} (slots : List (Option (Conn L K))) (order new : List ℕ) (room room2 p k : ℕ) (o : Option (Conn L K)) → IsLine slots order room → slice_get order p ≡ Some k → k < length slots → o ≡ None → new ≡ remove order p → length slots ≤ room2 → IsLine (slice_set slots k o) new room2
removed_line slots order new room room2 p k o i g lt is e fit =
    subst (λ n. IsLine (slice_set slots k o) n room2) (sym e) (subst (λ y. IsLine (slice_set slots k y) (remove order p) room2) (sym is) (remove_is_line slots order room room2 p k i g lt fit))

line_remove : {X : Type 0} (slots : List (Option X)) (order : List ℕ) → Lies slots order → Once order → (p k : ℕ) → slice_get order p ≡ Some k → line_of (slice_set slots k None) (remove order p) ≡ remove (line_of slots order) p
line_remove slots [] h once p k g = not_none k g
line_remove slots (j ∷ order) h once zero k g =
    line_other slots order k None (λ q i. absurd (zero_not q (once 0 (suc q) k g i)))
    ∙ sym (ap (λ o. remove (with_one o (line_of slots order)) 0) (h 0 j refl).1)
  where
    zero_not : (q : ℕ) → 0 ≡ suc q → ⊥
    zero_not q e = omega (arith, e)
line_remove slots (j ∷ order) h once (suc p) k g =
    let other : ¬ (j ≡ k) = λ e. zero_not p (once 0 (suc p) k (ap Some e) g) in
    let here = (h 0 j refl).1 in
    ap (λ o. with_one o (line_of (slice_set slots k None) (remove order p))) (slot_other slots j k None other ∙ here)
    ∙ (ap (λ xs. (h 0 j refl).0 ∷ xs) (line_remove slots order (lies_rest slots j order h) (once_rest j order once) p k g)
    ∙ sym (ap (λ o. remove (with_one o (line_of slots order)) (suc p)) here))
  where
    zero_not : (q : ℕ) → 0 ≡ suc q → ⊥
    zero_not q e = omega (arith, e)

pub lined_is : {L K : Type 0} (a b : List (Conn L K)) (m n : ℕ) → a ≡ b → m ≡ n → ◌≡◌ {A = Lined L K} (record { conns = a; room = m }) (record { conns = b; room = n })
lined_is a b m n e f = rw (e, f) refl

pub removed_view : {L K : Type 0} (slots : List (Option (Conn L K))) (order new : List ℕ) (room p k : ℕ) (o : Option (Conn L K)) (l : Lined L K) → IsLine slots order room → lined slots order ≡ l → slice_get order p ≡ Some k → o ≡ None → new ≡ remove order p → lined (slice_set slots k o) new ≡ record l { conns = remove l.conns p }
removed_view slots order new room p k o l i v g is e =
    subst (λ x. lined (slice_set slots k o) new ≡ record x { conns = remove x.conns p }) v
    (lined_is (line_of (slice_set slots k o) new) (remove (line_of slots order) p) (length (slice_set slots k o)) (length slots)
    (ap (λ y. line_of (slice_set slots k y) new) is ∙ (ap (line_of (slice_set slots k None)) e ∙ line_remove slots order i.lies i.once p k g)) (length-set slots k o))

-- a connection joins the order
slot_free : {L K : Type 0} (slots : List (Option (Conn L K))) (order : List ℕ) (room s k : ℕ) (l : Lined L K) → IsLine slots order room → lined slots order ≡ l → k ≡ s % l.room → IsFree s l → (c : Conn L K) → ¬ (in_slot slots k ≡ Some c)
slot_free slots order room s k l i v e free c h =
    let n : length slots ≡ l.room = ap (λ x. x.room) v in
    let p = i.listed k c h in
    let there = subst (λ x. slice_get x.conns p.0 ≡ Some c) v (line_at slots order i.lies p.0 k c p.1 h) in
    free p.0 c there (ap (λ m. c.session % m) (sym n) ∙ (i.own k c h ∙ e))

pub front_at : {X : Type 0} (xs ys : List X) (q : ℕ) (x : X) → slice_get xs q ≡ Some x → slice_get (xs ++ ys) q ≡ Some x
front_at [] ys q x g = not_none x g
front_at (y ∷ xs) ys zero x g = g
front_at (y ∷ xs) ys (suc q) x g = front_at xs ys q x g

pub last_at : {X : Type 0} (xs : List X) (y : X) → slice_get (xs ++ y ∷ []) (length xs) ≡ Some y
last_at [] y = refl
last_at (x ∷ xs) y = last_at xs y

-- one of the list, or the one behind it
push_at : {X : Type 0} (xs : List X) (y : X) (q : ℕ) (x : X) → slice_get (xs ++ y ∷ []) q ≡ Some x → (slice_get xs q ≡ Some x) ⊎ ((q ≡ length xs) × (y ≡ x))
push_at [] y zero x g = inr (refl, some_is y x g)
push_at [] y (suc q) x g = not_none x g
push_at (z ∷ xs) y zero x g = inl g
push_at (z ∷ xs) y (suc q) x g = elim (push_at xs y q x g) [ inl h ↦ inl h | inr h ↦ inr (ap suc h.0, h.1) ]

line_append : {X : Type 0} (slots : List (Option X)) (order : List ℕ) (k : ℕ) (c : X) → in_slot slots k ≡ Some c → line_of slots (order ++ k ∷ []) ≡ line_of slots order ++ c ∷ []
line_append slots [] k c h = ap (λ o. with_one o []) h
line_append slots (j ∷ order) k c h = ap (with_one (in_slot slots j)) (line_append slots order k c h) ∙ one_append (in_slot slots j) (line_of slots order) (c ∷ [])
  where
    one_append : {Y : Type 0} (o : Option Y) (xs ys : List Y) → with_one o (xs ++ ys) ≡ with_one o xs ++ ys
    one_append None xs ys = refl
    one_append (Some y) xs ys = refl

pub joined_line : {L K : Type 0} (slots : List (Option (Conn L K))) (order new : List ℕ) (room room2 k : ℕ) (conn : Conn L K) (l : Lined L K) → IsLine slots order room → lined slots order ≡ l → k ≡ conn.session % l.room → k < l.room → IsFree conn.session l → new ≡ order ++ k ∷ [] → room ≤ room2 → IsLine (slice_set slots k (Some conn)) new room2
joined_line {L} {K} slots order new room room2 k conn l i v e within free is more =
    subst (λ o. IsLine (slice_set slots k (Some conn)) o room2) (sym is)
    (record { some = rw m i.some; fits = rw m (fit i.fits); own = own; listed = listed; lies = lies; once = once })
  where
    n : length slots ≡ l.room
    n = ap (λ x. x.room) v

    m : length (slice_set slots k (Some conn)) ≡ length slots
    m = length-set slots k (Some conn)

    lt : k < length slots
    lt = omega (arith, within, n)

    fit : length slots ≤ room → length slots ≤ room2
    fit f = omega (arith, f, more)

    none : (c : Conn L K) → ¬ (in_slot slots k ≡ Some c)
    none = slot_free slots order room conn.session k l i v e free

    own : (j : ℕ) (x : Conn L K) → in_slot (slice_set slots k (Some conn)) j ≡ Some x → x.session % length (slice_set slots k (Some conn)) ≡ j
    own j x h =
        elim (slot_cases slots j k (Some conn) x lt h) [
          | inl w ↦ rw m (ap (λ (y : Conn L K). y.session % length slots) (sym (some_is conn x w.1)) ∙ (ap (λ r. conn.session % r) n ∙ (sym e ∙ sym w.0)))
          | inr w ↦ rw m (i.own j x w.1)
        ]

    listed : (j : ℕ) (x : Conn L K) → in_slot (slice_set slots k (Some conn)) j ≡ Some x → (p : ℕ) × (slice_get (order ++ k ∷ []) p ≡ Some j)
    listed j x h =
        elim (slot_cases slots j k (Some conn) x lt h) [
          | inl w ↦ (length order, last_at order k ∙ ap Some (sym w.0))
          | inr w ↦ (let r = i.listed j x w.1 in (r.0, front_at order (k ∷ []) r.0 j r.1))
        ]

    lies : (p j : ℕ) → slice_get (order ++ k ∷ []) p ≡ Some j → (x : Conn L K) × (in_slot (slice_set slots k (Some conn)) j ≡ Some x)
    lies p j g =
        elim (push_at order k p j g) [
          | inl h ↦ (let y = i.lies p j h in (y.0, slot_other slots j k (Some conn) (λ w. none y.0 (ap (in_slot slots) (sym w) ∙ y.1)) ∙ y.1))
          | inr h ↦ (conn, ap (in_slot (slice_set slots k (Some conn))) (sym h.1) ∙ slot_same slots k (Some conn) lt)
        ]

    not_there : (p : ℕ) → ¬ (slice_get order p ≡ Some k)
    not_there p g = none (i.lies p k g).0 (i.lies p k g).1

    once : (p q j : ℕ) → slice_get (order ++ k ∷ []) p ≡ Some j → slice_get (order ++ k ∷ []) q ≡ Some j → p ≡ q
    once p q j g h =
        elim (push_at order k p j g) [
          | inl a ↦ elim (push_at order k q j h) [ inl b ↦ i.once p q j a b | inr b ↦ absurd (not_there p (a ∙ ap Some (sym b.1))) ]
          | inr a ↦ elim (push_at order k q j h) [ inl b ↦ absurd (not_there q (b ∙ ap Some (sym a.1))) | inr b ↦ a.0 ∙ sym b.0 ]
        ]

pub joined_view : {L K : Type 0} (slots : List (Option (Conn L K))) (order new : List ℕ) (room k : ℕ) (conn : Conn L K) (l : Lined L K) → IsLine slots order room → lined slots order ≡ l → k ≡ conn.session % l.room → k < l.room → IsFree conn.session l → new ≡ order ++ k ∷ [] → lined (slice_set slots k (Some conn)) new ≡ record l { conns = l.conns ++ conn ∷ [] }
joined_view {L} {K} slots order new room k conn l i v e within free is =
    subst (λ x. lined (slice_set slots k (Some conn)) new ≡ record x { conns = x.conns ++ conn ∷ [] }) v
    (lined_is (line_of (slice_set slots k (Some conn)) new) (line_of slots order ++ conn ∷ []) (length (slice_set slots k (Some conn))) (length slots)
    (ap (line_of (slice_set slots k (Some conn))) is
    ∙ (line_append (slice_set slots k (Some conn)) order k conn (slot_same slots k (Some conn) lt)
    ∙ ap (λ xs. xs ++ conn ∷ []) (line_other slots order k (Some conn) not_there))) (length-set slots k (Some conn)))
  where
    n : length slots ≡ l.room
    n = ap (λ x. x.room) v

    lt : k < length slots
    lt = omega (arith, within, n)

    not_there : (p : ℕ) → ¬ (slice_get order p ≡ Some k)
    not_there p g = slot_free slots order room conn.session k l i v e free (i.lies p k g).0 (i.lies p k g).1

-- numbers below n of which no two are equal are at most n
any_at : (x : ℕ) (xs : List ℕ) → list_any (eqb x) xs ≡ true → (q : ℕ) × (slice_get xs q ≡ Some x)
any_at x [] h = absurd (false≢true h)
any_at x (y ∷ xs) h =
    elim (eqb_tells x y) [
      | inl w ↦ (0, ap Some (sym w.1))
      | inr w ↦ (let r = any_at x xs (sym (ap (λ b. b || list_any (eqb x) xs) w.0) ∙ h) in (suc r.0, r.1))
    ]

each_apart : (x : ℕ) (xs : List ℕ) → ((q : ℕ) → ¬ (slice_get xs q ≡ Some x)) → AllByRecursion (λ y. eqb x y ≡ false) xs
each_apart x [] n = tt
each_apart x (y ∷ xs) n = (elim (eqb_tells x y) [ inl w ↦ absurd (n 0 (ap Some (sym w.1))) | inr w ↦ w.0 ], each_apart x xs (λ q. n (suc q)))

distinct : (xs : List ℕ) → Once xs → IsDistinct eqb xs
unfolding IsDistinct
distinct [] h = tt
distinct (x ∷ xs) h = (each_apart x xs (λ q g. zero_not q (h 0 (suc q) x refl g)), distinct xs (once_rest x xs h))
  where
    zero_not : (q : ℕ) → 0 ≡ suc q → ⊥
    zero_not q e = omega (arith, e)

-- there is room for one more where a slot is free
pub has_room : {L K : Type 0} (slots : List (Option (Conn L K))) (order : List ℕ) (room k : ℕ) (conn : Conn L K) (l : Lined L K) → IsLine slots order room → lined slots order ≡ l → k ≡ conn.session % l.room → k < l.room → IsFree conn.session l → length order < room
has_room {L} {K} slots order room k conn l i v e within free =
    let n : length slots ≡ l.room = ap (λ x. x.room) v in
    let few = length-le_from_distinct_below (k ∷ order) (length slots) (distinct (k ∷ order) once) below in
    let fits = i.fits in
    omega (arith, few, fits)
  where
    not_there : (p : ℕ) → ¬ (slice_get order p ≡ Some k)
    not_there p g = slot_free slots order room conn.session k l i v e free (i.lies p k g).0 (i.lies p k g).1

    once : Once (k ∷ order)
    once zero zero j g h = refl
    once zero (suc q) j g h = absurd (not_there q (h ∙ sym g))
    once (suc p) zero j g h = absurd (not_there p (g ∙ sym h))
    once (suc p) (suc q) j g h = ap suc (i.once p q j g h)

    spot : (q p : ℕ) → slice_get (k ∷ order) p ≡ Some q → q < length slots
    spot q zero g = let n : length slots ≡ l.room = ap (λ x. x.room) v in let s = some_is k q g in omega (arith, within, n, s)
    spot q (suc p) g = slot_within slots q (i.lies p q g).0 (i.lies p q g).1

    below : (q : ℕ) → list_any (eqb q) (k ∷ order) ≡ true → q < length slots
    below q h = let w = any_at q (k ∷ order) h in spot q w.0 w.1

-- one more empty slot
pub push_none : {X : Type 0} (slots : List (Option X)) → ((k : ℕ) (c : X) → ¬ (in_slot slots k ≡ Some c)) → (k : ℕ) (c : X) → ¬ (in_slot (slots ++ None ∷ []) k ≡ Some c)
push_none [] n zero c e = not_none c e
push_none [] n (suc k) c e = not_none c e
push_none (o ∷ slots) n zero c e = n zero c e
push_none (o ∷ slots) n (suc k) c e = push_none slots (λ j d h. n (suc j) d h) k c e

pub made_line : {L K : Type 0} (slots : List (Option (Conn L K))) (order : List ℕ) (n room : ℕ) → length slots ≡ n → 0 < n → n ≤ room → ((k : ℕ) (c : Conn L K) → ¬ (in_slot slots k ≡ Some c)) → order ≡ [] → IsLine slots order room
made_line slots order n room e some fit none is =
    record {
      some = omega (arith, e, some);
      fits = omega (arith, e, fit);
      own = λ k c h. absurd (none k c h);
      listed = λ k c h. absurd (none k c h);
      lies = λ p k g. not_none k (sym (ap (λ xs. slice_get xs p) is) ∙ g);
      once = λ p q k g h. not_none k (sym (ap (λ xs. slice_get xs p) is) ∙ g);
    }

-- each connection stops
items_all : {X Y : Type 0} (f : X → Y) (xs : List X) (items : List Y) (rest : List X → List Y) (i : ℕ) → items ≡ map f (take i xs) ++ rest (drop i xs) → rest [] ≡ [] → length xs ≤ i → items ≡ map f xs
items_all f xs items rest i e none h =
    e ∙ (ap (λ ys. map f ys ++ rest (drop i xs)) (take_all i xs h) ∙ (ap (λ ys. map f xs ++ rest ys) (drop_all i xs h) ∙ (ap (λ ys. map f xs ++ ys) none ∙ append-nil (map f xs))))

length_map : {X Y : Type 0} (f : X → Y) (xs : List X) → length (map f xs) ≡ length xs
length_map f [] = refl
length_map f (x ∷ xs) = ap suc (length_map f xs)

pub stopped_slots : {L K : Type 0} (xs items : List (Option (Conn L K))) (n i : ℕ) → n ≡ length xs → items ≡ map stops_in (take i xs) ++ drop i xs → length xs ≤ i → take n (items ++ drop (length items) xs) ≡ map stops_in xs
stopped_slots xs items n i e f h =
    let all : items ≡ map stops_in xs = items_all stops_in xs items (λ ys. ys) i f refl h in
    let many : length items ≡ length xs = ap length all ∙ length_map stops_in xs in
    let below : length xs ≤ length items = omega (arith, many) in
    let above : length items ≤ n = omega (arith, many, e) in
    ap (λ ys. take n (items ++ ys)) (drop_all (length items) xs below) ∙ (ap (take n) (append-nil items) ∙ (take_all n items above ∙ all))

slot_map : {L K : Type 0} (slots : List (Option (Conn L K))) (k : ℕ) → in_slot (map stops_in slots) k ≡ stops_in (in_slot slots k)
slot_map [] k = refl
slot_map (o ∷ slots) zero = refl
slot_map (o ∷ slots) (suc k) = slot_map slots k

stops_some : {L K : Type 0} (o : Option (Conn L K)) (c : Conn L K) → stops_in o ≡ Some c → (b : Conn L K) × ((o ≡ Some b) × (c ≡ stops b))
stops_some None c e = not_none c e
stops_some (Some b) c e = (b, (refl, sym (some_is (stops b) c e)))

stops_line : {L K : Type 0} (slots : List (Option (Conn L K))) (order : List ℕ) (room : ℕ) → IsLine slots order room → IsLine (map stops_in slots) order room
stops_line {L} {K} slots order room i =
    record { some = rw n i.some; fits = rw n i.fits; own = own; listed = listed; lies = lies; once = i.once }
  where
    n : length (map stops_in slots) ≡ length slots
    n = length_map stops_in slots

    was : (k : ℕ) (c : Conn L K) → in_slot (map stops_in slots) k ≡ Some c → (b : Conn L K) × ((in_slot slots k ≡ Some b) × (c ≡ stops b))
    was k c e = stops_some (in_slot slots k) c (sym (slot_map slots k) ∙ e)

    own : (k : ℕ) (c : Conn L K) → in_slot (map stops_in slots) k ≡ Some c → c.session % length (map stops_in slots) ≡ k
    own k c e = let w = was k c e in rw n (ap (λ (x : Conn L K). x.session % length slots) w.1.1 ∙ i.own k w.0 w.1.0)

    listed : (k : ℕ) (c : Conn L K) → in_slot (map stops_in slots) k ≡ Some c → (p : ℕ) × (slice_get order p ≡ Some k)
    listed k c e = let w = was k c e in i.listed k w.0 w.1.0

    lies : (p k : ℕ) → slice_get order p ≡ Some k → (c : Conn L K) × (in_slot (map stops_in slots) k ≡ Some c)
    lies p k g = let w = i.lies p k g in (stops w.0, slot_map slots k ∙ ap stops_in w.1)

stops_view : {L K : Type 0} (slots : List (Option (Conn L K))) (order : List ℕ) → line_of (map stops_in slots) order ≡ map stops (line_of slots order)
stops_view slots [] = refl
stops_view slots (k ∷ order) =
    ap (λ o. with_one o (line_of (map stops_in slots) order)) (slot_map slots k)
    ∙ (ap (with_one (stops_in (in_slot slots k))) (stops_view slots order) ∙ one_stops (in_slot slots k) (line_of slots order))
  where
    one_stops : {L K : Type 0} (o : Option (Conn L K)) (xs : List (Conn L K)) → with_one (stops_in o) (map stops xs) ≡ map stops (with_one o xs)
    one_stops None xs = refl
    one_stops (Some c) xs = refl

pub stopped_line : {L K : Type 0} (slots new : List (Option (Conn L K))) (order : List ℕ) (room : ℕ) → IsLine slots order room → new ≡ map stops_in slots → IsLine new order room
stopped_line slots new order room i e = subst (λ s. IsLine s order room) (sym e) (stops_line slots order room i)

pub stopped_view : {L K : Type 0} (slots new : List (Option (Conn L K))) (order : List ℕ) (l : Lined L K) → lined slots order ≡ l → new ≡ map stops_in slots → lined new order ≡ record l { conns = map stops l.conns }
stopped_view slots new order l v e =
    subst (λ x. lined new order ≡ record x { conns = map stops x.conns }) v
    (lined_is (line_of new order) (map stops (line_of slots order)) (length new) (length slots) (ap (λ s. line_of s order) e ∙ stops_view slots order) (ap length e ∙ length_map stops_in slots))
