-- What seats hold and what contracts see of them, after each kind of step.
use Rattle.std.proofs.Common.{◌≡◌, ◌<◌, ◌≤◌, ◌+◌, ◌-◌, ◌*◌, ◌/◌, ◌%◌, ◌⊎◌, inl, inr, ℕ, zero, suc, Bool, true, false, eqb, List, [], ◌∷◌, ◌++◌, map, length, replicate, slice_index, sym, refl, ap, ◌∙◌, subst, ⊎_elim, append_assoc, slice_get, Option, Some, None, MatchBool, MatchOption, arith}
use Rattle.std.proofs.lemmas.List.{length-replicate}
use Rattle.std.specs.Option.{unwrap_or}
use mathlib.Core.Option.{some, some-injective}
use lib.ListN.{get_elem?}
use prog.Atomic.{either}
use Rattle.atomic_table.specs.Table.{State, Me, rest, turned, Allows, opening}
use Rattle.atomic_table.specs.Seated.{TableId}
use Rattle.atomic_table.specs.declared.shared.Seat.{Seat}
use Rattle.sw_rowlock.specs.declared.calls.Change.{Change}
use Rattle.sw_rowlock.specs.declared.calls.Contents.{Contents}
use Rattle.sw_rowlock.specs.declared.calls.Slot.{Slot}
use Rattle.sw_rowlock.specs.declared.calls.Slot.TheVariants.{Row, Pool, Empty}
use Rattle.sw_rowlock.specs.declared.view.View.{View}
use Rattle.sw_rowlock.specs.History.{calls, others, AllBegin, Each, times_drawn, draws_of}
use Rattle.sw_rowlock.specs.Rule.{word_at, In, Places, Without, knows, refused, Locked, Takes, TookOne, Looks, Looked, Draws, DrewOne, Touches}
use Rattle.sw_rowlock.specs.Calls.{Done, Counts, counted, contents, cells, count_of, done, effect, left_by, changes_of, counted_all}
use Rattle.sw_rowlock.specs.Seats.{all_parts, LocksNow, SeatNow, IsSeatOf, row_in, pool_in, row_part, pool_part, held_of, empties, row_first, pool_last, RowNear, seat_of, Carries, IsSeat, HoldsRow, HoldsPool, bucket_held, row_left, pool_left, done_on, row_then, pool_then, held_then}
use Rattle.sw_rowlock.specs.Told.{RowLeft, PoolLeft, DrewAt, LookedAt}
use Rattle.sw_rowlock.proofs.Histories.{drew_whole, draws_grow, draws_under, calls_look, others_append, none_between}
use Rattle.sw_rowlock.proofs.Steps.{takes_lock, gives_lock, looks, draws_call, opens}
use Rattle.sw_rowlock.proofs.Touching.{RowIs, PoolIs, row_is, pool_is, done_same, slot_row, slot_pool, row_of_cell, pool_cell, length_after, touches, count_is, legal_next}

-- a fact of two values is a fact of their equals
pub over : {L V : Type 0} {l l' : L} {v v' : V} (F : L → V → Type 0) → l ≡ l' → v ≡ v' → F l v → F l' v'
over {l = l} {v' = v'} F el ev t = subst (λ z. F z v') el (subst (λ z. F l z) ev t)

pub match_true : (b : Bool) (X Y : Type 0) → b ≡ true → MatchBool b X Y → X
match_true b X Y e m = subst (λ (z : Bool). MatchBool z X Y) e m

pub match_false : (b : Bool) (X Y : Type 0) → b ≡ false → MatchBool b X Y → Y
match_false b X Y e m = subst (λ (z : Bool). MatchBool z X Y) e m

module _ {S : Type 0} where
  pub places_row : (i : ℕ) (held : List (ℕ × S)) → Places i held (λ x h. (i, x) ∷ h)
  places_row i held = record {
    is = λ x j y m. ⊎_elim (λ (e : (j, y) ≡ (i, x)). inl ((λ t. (e t).0), (λ t. (e t).1))) (λ (o : In (j, y) held). inr o) m;
    has = λ x. (x, inl refl);
    keeps = λ x j m. (m.0, inr m.1);
  }

  in_snoc : (j i : ℕ) (y x : S) (h : List (ℕ × S)) → In (j, y) (h ++ (i, x) ∷ []) → ((j ≡ i) × (y ≡ x)) ⊎ In (j, y) h
  in_snoc j i y x [] m = ⊎_elim (λ (e : (j, y) ≡ (i, x)). inl ((λ t. (e t).0), (λ t. (e t).1))) (λ (o : ⊥). absurd o) m
  in_snoc j i y x (z ∷ h) m = ⊎_elim (λ (e : (j, y) ≡ z). inr (inl e)) (λ (o : In (j, y) (h ++ (i, x) ∷ [])). ⊎_elim (λ a. inl a) (λ b. inr (inr b)) (in_snoc j i y x h o)) m

  in_last : (i : ℕ) (x : S) (h : List (ℕ × S)) → In (i, x) (h ++ (i, x) ∷ [])
  in_last i x [] = inl refl
  in_last i x (z ∷ h) = inr (in_last i x h)

  in_more : (j i : ℕ) (y x : S) (h : List (ℕ × S)) → In (j, y) h → In (j, y) (h ++ (i, x) ∷ [])
  in_more j i y x [] m = absurd m
  in_more j i y x (z ∷ h) m = ⊎_elim (λ (e : (j, y) ≡ z). inl e) (λ (o : In (j, y) h). inr (in_more j i y x h o)) m

  pub places_pool : (i : ℕ) (held : List (ℕ × S)) → Places i held (λ x h. h ++ (i, x) ∷ [])
  places_pool i held = record {
    is = λ x j y m. in_snoc j i y x held m;
    has = λ x. (x, in_last i x held);
    keeps = λ x j m. (m.0, in_more j i m.0 x held m.1);
  }

module _ {B P : Type 0} where
  pub row_in_held : (n : ℕ) (r : Option (ℕ × B)) (p : Option P) → row_in (held_of n r p) ≡ r
  row_in_held n None None = refl
  row_in_held n None (Some y) = refl
  row_in_held n (Some r) p = refl

  pub pool_in_held : (n : ℕ) (r : Option (ℕ × B)) (p : Option P) → pool_in (held_of n r p) ≡ p
  pool_in_held n None None = refl
  pool_in_held n None (Some y) = refl
  pool_in_held n (Some r) None = refl
  pool_in_held n (Some r) (Some y) = refl

  abbrev pub head_or : Slot B P → List (ℕ × Slot B P) → Slot B P
  head_or d [] = d
  head_or d (x ∷ xs) = x.1

-- of n parts k can be given away
pub few_parts : (k n : ℕ) → (0 < k → k < n) → k ≤ n
few_parts zero n h = omega arith
few_parts (suc k) n h = let lt = h (omega arith) in omega (arith, lt)

pub some_left : (k n : ℕ) → (0 < k → k < n) → 0 < n → k < n
some_left zero n h p = p
some_left (suc k) n h p = h (omega arith)

-- the base crate's seat, and what it has
abbrev pub Place : (B P Q : Type 0) → Type 0
Place B P Q = Seat (Slot B P) (View (Slot B P) Q (Contents B P))

abbrev pub Mine : (B P Q : Type 0) → Type 0
Mine B P Q = Me (Slot B P) (View (Slot B P) Q (Contents B P))

-- what is held, as contracts see it
abbrev pub row_at : {B P Q : Type 0} → Place B P Q → Option (ℕ × B)
row_at p = row_in p.me.0.held

abbrev pub pool_at : {B P Q : Type 0} → Place B P Q → Option P
pool_at p = pool_in p.me.0.held

module _ {B P Q : Type 0} where
  -- a seat of the locks that are called id and started with start
  pub record Sits (id : TableId) (start : Contents B P) (p : Place B P Q) : Type 0 where
    pub of : p.table_id ≡ id
    pub start_is : p.me.0.start ≡ Some start
    pub held : p.me.0.held ≡ held_of (length start.rows) (row_at p) (pool_at p)
    pub carried : p.me.1 ≡ empties (held_of (length start.rows) (row_at p) (pool_at p))
    pub near : RowNear (length start.rows) (row_at p)

  pub sits_of : {l l' : LocksNow B P} (p : Place B P Q) {v : SeatNow B P Q} → l ≡ l' → seat_of p ≡ v → IsSeatOf l' v → IsSeat p → Sits l.id l.start p
  sits_of {l} p el ev of is =
      let start_is : p.me.0.start ≡ Some l.start = ap (λ (w : SeatNow B P Q). w.start) ev ∙ of.1 ∙ sym (ap (λ (k : LocksNow B P). Some k.start) el) in
      let c = is l.start start_is in
      record { of = ap (λ (w : SeatNow B P Q). w.id) ev ∙ of.0 ∙ sym (ap (λ (k : LocksNow B P). k.id) el); start_is = start_is; held = c.held; carried = c.carried; near = c.near }

  pub is_seat : (id : TableId) (start : Contents B P) (p : Place B P Q) → Sits id start p → IsSeat p
  is_seat id start p s st e =
      let same : start ≡ st = ap (λ (o : Option (Contents B P)). unwrap_or o st) (sym s.start_is ∙ e) in
      subst (λ (z : Contents B P). Carries z p) same record { held = s.held; carried = s.carried; near = s.near }

  -- a seat with this view and these slots
  pub seats : (id : TableId) (start : Contents B P) (parts : ℕ) (seen : List (ℕ × Q)) (r : Option (ℕ × B)) (po : Option P) (rf : List (ℕ × ℕ)) (al : List (List Q)) (p q : Place B P Q) → Sits id start p → q.table_id ≡ p.table_id → RowNear (length start.rows) r
      → q.me ≡ (knows parts p.me.0.start seen (held_of (length start.rows) r po) rf al, empties (held_of (length start.rows) r po))
      → Sits id start q × (seat_of q ≡ record (seat_of p) { parts = parts; seen = seen; row = r; pool = po; refusals = rf; also = al })
  seats id start parts seen r po rf al p q s of near me =
      let row : row_at q ≡ r = ap (λ (m : Mine B P Q). row_in m.0.held) me ∙ row_in_held (length start.rows) r po in
      let pool : pool_at q ≡ po = ap (λ (m : Mine B P Q). pool_in m.0.held) me ∙ pool_in_held (length start.rows) r po in (
        record {
          of = of ∙ s.of;
          start_is = ap (λ (m : Mine B P Q). m.0.start) me ∙ s.start_is;
          held = ap (λ (m : Mine B P Q). m.0.held) me ∙ (λ k. held_of (length start.rows) (sym row k) (sym pool k));
          carried = ap (λ (m : Mine B P Q). m.1) me ∙ (λ k. empties (held_of (length start.rows) (sym row k) (sym pool k)));
          near = subst (λ (z : Option (ℕ × B)). RowNear (length start.rows) z) (sym row) near;
        },
        (λ k. record { id = of k; start = (me k).0.start; parts = (me k).0.parts; seen = (me k).0.seen; row = row k; pool = pool k; refusals = (me k).0.refusals; also = (me k).0.also }),
      )

  -- an exchange that was refused changes the refusals alone
  pub refused_seat : (id : TableId) (start : Contents B P) (lock found : ℕ) (p q : Place B P Q) → Sits id start p → q.table_id ≡ p.table_id → q.me ≡ refused lock found p.me
      → Sits id start q × (seat_of q ≡ record (seat_of p) { refusals = (lock, found) ∷ p.me.0.refusals })
  refused_seat id start lock found p q s of me =
      seats id start p.me.0.parts p.me.0.seen (row_at p) (pool_at p) ((lock, found) ∷ p.me.0.refusals) p.me.0.also p q s of s.near
      (me ∙ (λ k. (knows p.me.0.parts p.me.0.start p.me.0.seen (s.held k) ((lock, found) ∷ p.me.0.refusals) p.me.0.also, s.carried k)))

  pub alone_held : (id : TableId) (start : Contents B P) (p : Place B P Q) → Sits id start p → row_at p ≡ None → pool_at p ≡ None → p.me.0.held ≡ []
  alone_held id start p s r o = s.held ∙ (λ k. held_of (length start.rows) (r k) (o k))

  pub alone_carried : (id : TableId) (start : Contents B P) (p : Place B P Q) → Sits id start p → row_at p ≡ None → pool_at p ≡ None → p.me.1 ≡ []
  alone_carried id start p s r o = s.carried ∙ (λ k. empties (held_of (length start.rows) (r k) (o k)))

  pub near_row : (id : TableId) (start : Contents B P) (p : Place B P Q) (h : ℕ × B) → Sits id start p → row_at p ≡ Some h → h.0 < length start.rows
  near_row id start p h s e = subst (λ (r : Option (ℕ × B)). RowNear (length start.rows) r) e s.near

module _ {B P : Type 0} where
  in_pool_at : (n j : ℕ) (po : Option P) (y : Slot B P) → In (j, y) (pool_part n po) → j ≡ n
  in_pool_at n j None y m = absurd m
  in_pool_at n j (Some x) y m = ⊎_elim (λ (e : (j, y) ≡ (n, Pool x)). (λ t. (e t).0)) (λ (o : ⊥). absurd o) m

  pub out_row : (n b : ℕ) (x : Slot B P) (po : Option P) → b < n → Without b ((b, x) ∷ pool_part n po) (pool_part n po)
  out_row n b x po near = record {
    is = λ j y m. (inr m, (λ e. let z = in_pool_at n j po y m in absurd (omega (arith, z, e, near))));
    keeps = λ j h ne. ⊎_elim (λ (e : (j, h.0) ≡ (b, x)). absurd (ne (λ t. (e t).0))) (λ (o : In (j, h.0) (pool_part n po)). (h.0, o)) h.1;
  }

  pub out_pool : (n : ℕ) (r : Option (ℕ × B)) (x : P) → RowNear n r → Without n (held_of n r (Some x)) (row_part r [])
  out_pool n None x near = record { is = λ j y m. absurd m; keeps = λ j h ne. ⊎_elim (λ (e : (j, h.0) ≡ (n, Pool x)). absurd (ne (λ t. (e t).0))) (λ (o : ⊥). absurd o) h.1 }
  out_pool n (Some r) x near = record {
    is = λ j y m. ⊎_elim (λ (e : (j, y) ≡ (r.0, Row r.1)). (inl e, (λ z. let q : j ≡ r.0 = (λ t. (e t).0) in absurd (omega (arith, q, z, near))))) (λ (o : ⊥). absurd o) m;
    keeps = λ j h ne. ⊎_elim (λ (e : (j, h.0) ≡ (r.0, Row r.1)). (Row r.1, inl (λ t. ((e t).0, Row r.1)))) (λ (o : In (j, h.0) ((n, Pool x) ∷ [])). ⊎_elim (λ (e : (j, h.0) ≡ (n, Pool x)). absurd (ne (λ t. (e t).0))) (λ (q : ⊥). absurd q) o) h.1;
  }

  pub in_held : (n : ℕ) (r : Option (ℕ × B)) (p : P) → In (n, Pool p) (held_of {B = B} n r (Some p))
  in_held n None p = inl refl
  in_held n (Some r) p = inr (inl refl)

  -- the slots that are held with the pool's behind, in front once they are turned
  pub turned_empties : (n : ℕ) (r : Option (ℕ × B)) (x : P) → turned (empties (held_of n r (Some x))) ≡ (n, Empty) ∷ empties (row_part r [])
  turned_empties n None x = refl
  turned_empties n (Some r) x = refl

  pub turned_back : (n : ℕ) (r : Option (ℕ × B)) (x : P) → turned ((n, Empty) ∷ empties (held_of {P = P} n r None)) ≡ empties (held_of n r (Some x))
  turned_back n None x = refl
  turned_back n (Some r) x = refl

  pub held_more : (n : ℕ) (r : Option (ℕ × B)) (x : P) → held_of n r None ++ (n, Pool x) ∷ [] ≡ held_of n r (Some x)
  held_more n None x = refl
  held_more n (Some r) x = refl

-- taking and giving
module _ {B P Q R : Type 0} (may : Contents B P → ℕ → Q → Type 0) (row : Q → Option ℕ) (needs : Q → Option B → Bool) (does : Q → Option B → Option P → ℕ → Done B P R) where
  abbrev pub Rules : Contents B P → State (Slot B P) (View (Slot B P) Q (Contents B P)) → Type 0
  Rules start = Locked (effect row needs does) cells count_of may all_parts (suc (length start.rows)) start

  -- the lock b at its word w
  pub takes_at : (start : Contents B P) (slots id w b : ℕ) (me : Mine B P Q) (place : ℕ → Slot B P → List (ℕ × Slot B P) → List (ℕ × Slot B P)) → w ≡ b * 8 → b < suc (length start.rows) → 0 < me.0.parts → Places b me.0.held (place b)
      → Allows (Rules start) slots id me w (λ n. either (eqb n 0) 1 n) (Takes (effect row needs does) cells count_of may all_parts (w / 8) (place (w / 8)) me)
  takes_at start slots id w b me place e near part pl =
      let back : b * 8 / 8 ≡ b = omega arith in
      subst (λ (z : ℕ). Allows (Rules start) slots id me z (λ n. either (eqb n 0) 1 n) (Takes (effect row needs does) cells count_of may all_parts (z / 8) (place (z / 8)) me)) (sym e)
      (subst (λ (z : ℕ). Allows (Rules start) slots id me (b * 8) (λ n. either (eqb n 0) 1 n) (Takes (effect row needs does) cells count_of may all_parts z (place z) me)) (sym back)
      (takes_lock (effect row needs does) cells count_of may all_parts (suc (length start.rows)) start slots id b me (place b) near part pl))

  pub at_lock : (w b r : ℕ) (m n : Mine B P Q) (place : ℕ → Slot B P → List (ℕ × Slot B P) → List (ℕ × Slot B P)) → w ≡ b * 8
      → Takes (effect row needs does) cells count_of may all_parts (w / 8) (place (w / 8)) m r n → Takes (effect row needs does) cells count_of may all_parts b (place b) m r n
  at_lock w b r m n place e t =
      let back : w / 8 ≡ b = omega (arith, e) in subst (λ (z : ℕ). Takes (effect row needs does) cells count_of may all_parts z (place z) m r n) back t

  -- what was found in a row
  found_row : (start : Contents B P) (b : ℕ) (p p1 : Place B P Q) → b < length start.rows
      → (k : TookOne (effect row needs does) cells count_of may all_parts b (row_first b) start p.me p1.me)
      → (x : B) × (k.value ≡ Row x) × RowLeft may row needs does start (seat_of p) b x
  found_row start b p p1 near k =
      let t = left_by row needs does start k.so_far in
      let l : length t.rows ≡ length start.rows = length_after row needs does start k.so_far in
      let f = row_of_cell t.rows t.pool b (omega (arith, l, near)) in
      (f.0, some-injective k.value (Row f.0) (sym k.left ∙ f.2), record { so_far = k.so_far; allowed = k.allowed; begins = k.begins; also = k.also; value = f.1; whole = λ all. let w = k.whole all in drew_whole p.me.0.seen k.so_far w.0 w.1 })

  found_pool : (start : Contents B P) (p p1 : Place B P Q)
      → (k : TookOne (effect row needs does) cells count_of may all_parts (length start.rows) (pool_last (length start.rows)) start p.me p1.me)
      → (x : P) × (k.value ≡ Pool x) × PoolLeft may row needs does start (seat_of p) x
  found_pool start p p1 k =
      let t = left_by row needs does start k.so_far in
      let l : length t.rows ≡ length start.rows = length_after row needs does start k.so_far in
      let f = pool_cell t.rows t.pool in
      (t.pool, some-injective k.value (Pool t.pool) (sym k.left ∙ ap (λ (z : ℕ). get_elem? (cells t) z) (sym l) ∙ f), record { so_far = k.so_far; allowed = k.allowed; begins = k.begins; also = k.also; value = refl; whole = λ all. let w = k.whole all in drew_whole p.me.0.seen k.so_far w.0 w.1 })

  -- a row was taken, and its value moved out
  pub took_row : (id : TableId) (start : Contents B P) (b : ℕ) (p p1 p2 : Place B P Q) (out : Slot B P) → b < length start.rows → Sits id start p → row_at p ≡ None
      → p1.table_id ≡ p.table_id → TookOne (effect row needs does) cells count_of may all_parts b (row_first b) start p.me p1.me
      → p2.table_id ≡ p1.table_id → p1.me.1 ≡ (b, out) ∷ rest p1.me.1 → p2.me ≡ (p1.me.0, (b, Empty) ∷ rest p1.me.1)
      → (x : B) × (out ≡ Row x) × Sits id start p2 × (seat_of p2 ≡ record (seat_of p) { row = Some (b, x) }) × RowLeft may row needs does start (seat_of p) b x
  took_row id start b p p1 p2 out near s free of1 k of2 was now =
      let n = length start.rows in
      let f = found_row start b p p1 near k in
      let m1 : p1.me.1 ≡ (b, k.value) ∷ p.me.1 = ap (λ (m : Mine B P Q). m.1) k.now in
      let is : out ≡ k.value = ap (λ (l : List (ℕ × Slot B P)). head_or k.value l) (sym was ∙ m1) in
      let others_same : rest p1.me.1 ≡ p.me.1 = ap (λ (l : List (ℕ × Slot B P)). rest l) m1 in
      let alone : held_of n (row_at p) (pool_at p) ≡ pool_part n (pool_at p) = ap (λ (r : Option (ℕ × B)). held_of n r (pool_at p)) free in
      let me2 : p2.me ≡ (knows p.me.0.parts p.me.0.start p.me.0.seen (held_of n (Some (b, f.0)) (pool_at p)) p.me.0.refusals p.me.0.also, empties (held_of n (Some (b, f.0)) (pool_at p))) =
      now ∙ (λ i. ((k.now i).0, (b, Empty) ∷ others_same i))
      ∙ (λ i. (knows p.me.0.parts p.me.0.start p.me.0.seen ((b, f.1 i) ∷ (s.held ∙ alone) i) p.me.0.refusals p.me.0.also, (b, Empty) ∷ (s.carried ∙ ap (λ (h : List (ℕ × Slot B P)). empties h) alone) i)) in
      let t = seats id start p.me.0.parts p.me.0.seen (Some (b, f.0)) (pool_at p) p.me.0.refusals p.me.0.also p p2 s (of2 ∙ of1) near me2 in
      (f.0, is ∙ f.1, t.0, t.1, f.2)

  pub took_row_as : (id : TableId) (start : Contents B P) (b : ℕ) (p p1 p2 : Place B P Q) (out : Slot B P) (y : B) → out ≡ Row y → b < length start.rows → Sits id start p → row_at p ≡ None
      → p1.table_id ≡ p.table_id → TookOne (effect row needs does) cells count_of may all_parts b (row_first b) start p.me p1.me
      → p2.table_id ≡ p1.table_id → p1.me.1 ≡ (b, out) ∷ rest p1.me.1 → p2.me ≡ (p1.me.0, (b, Empty) ∷ rest p1.me.1)
      → Sits id start p2 × (seat_of p2 ≡ record (seat_of p) { row = Some (b, y) }) × RowLeft may row needs does start (seat_of p) b y
  took_row_as id start b p p1 p2 out y is near s free of1 k of2 was now =
      let t = took_row id start b p p1 p2 out near s free of1 k of2 was now in
      let same : t.0 ≡ y = ap (λ (z : Slot B P). slot_row z y) (sym t.1 ∙ is) in
      subst (λ (z : B). Sits id start p2 × (seat_of p2 ≡ record (seat_of p) { row = Some (b, z) }) × RowLeft may row needs does start (seat_of p) b z) same (t.2, t.3, t.4)

  -- the pool was taken, where w is its lock
  pub took_pool : (id : TableId) (start : Contents B P) (w : ℕ) (p p1 p2 p3 : Place B P Q) (out : Slot B P) → w ≡ length start.rows → Sits id start p → pool_at p ≡ None
      → p1.table_id ≡ p.table_id → TookOne (effect row needs does) cells count_of may all_parts w (pool_last w) start p.me p1.me
      → p2.table_id ≡ p1.table_id → p1.me.1 ≡ (w, out) ∷ rest p1.me.1 → p2.me ≡ (p1.me.0, (w, Empty) ∷ rest p1.me.1)
      → p3.table_id ≡ p2.table_id → p3.me ≡ (p2.me.0, turned p2.me.1)
      → (x : P) × (out ≡ Pool x) × Sits id start p3 × (seat_of p3 ≡ record (seat_of p) { pool = Some x }) × PoolLeft may row needs does start (seat_of p) x
  took_pool id start w p p1 p2 p3 out e s free of1 k' of2 was' now' of3 now3 =
      let n = length start.rows in let r = row_at p in
      let k : TookOne (effect row needs does) cells count_of may all_parts n (pool_last n) start p.me p1.me = subst (λ (z : ℕ). TookOne (effect row needs does) cells count_of may all_parts z (pool_last z) start p.me p1.me) e k' in
      let was : p1.me.1 ≡ (n, out) ∷ rest p1.me.1 = was' ∙ (λ i. (e i, out) ∷ rest p1.me.1) in
      let now : p2.me ≡ (p1.me.0, (n, Empty) ∷ rest p1.me.1) = now' ∙ (λ i. (p1.me.0, (e i, Empty) ∷ rest p1.me.1)) in
      let f = found_pool start p p1 k in
      let m1 : p1.me.1 ≡ (n, k.value) ∷ p.me.1 = ap (λ (m : Mine B P Q). m.1) k.now in
      let is : out ≡ k.value = ap (λ (l : List (ℕ × Slot B P)). head_or k.value l) (sym was ∙ m1) in
      let others_same : rest p1.me.1 ≡ p.me.1 = ap (λ (l : List (ℕ × Slot B P)). rest l) m1 in
      let h : p.me.0.held ≡ held_of n r None = s.held ∙ ap (λ (o : Option P). held_of n r o) free in
      let c : p.me.1 ≡ empties (held_of n r None) = s.carried ∙ ap (λ (o : Option P). empties (held_of n r o)) free in
      let held : p.me.0.held ++ (n, k.value) ∷ [] ≡ held_of n r (Some f.0) = (λ i. h i ++ (n, f.1 i) ∷ []) ∙ held_more n r f.0 in
      let slots : turned ((n, Empty) ∷ p.me.1) ≡ empties (held_of n r (Some f.0)) = (λ i. turned ((n, Empty) ∷ c i)) ∙ turned_back n r f.0 in
      let me3 : p3.me ≡ (knows p.me.0.parts p.me.0.start p.me.0.seen (held_of n r (Some f.0)) p.me.0.refusals p.me.0.also, empties (held_of n r (Some f.0))) =
      now3 ∙ (λ i. ((now i).0, turned (now i).1)) ∙ (λ i. ((k.now i).0, turned ((n, Empty) ∷ others_same i))) ∙ (λ i. (knows p.me.0.parts p.me.0.start p.me.0.seen (held i) p.me.0.refusals p.me.0.also, slots i)) in
      let t = seats id start p.me.0.parts p.me.0.seen r (Some f.0) p.me.0.refusals p.me.0.also p p3 s (of3 ∙ of2 ∙ of1) s.near me3 in
      (f.0, is ∙ f.1, t.0, t.1, f.2)

  pub took_pool_as : (id : TableId) (start : Contents B P) (w : ℕ) (p p1 p2 p3 : Place B P Q) (out : Slot B P) (y : P) → out ≡ Pool y → w ≡ length start.rows → Sits id start p → pool_at p ≡ None
      → p1.table_id ≡ p.table_id → TookOne (effect row needs does) cells count_of may all_parts w (pool_last w) start p.me p1.me
      → p2.table_id ≡ p1.table_id → p1.me.1 ≡ (w, out) ∷ rest p1.me.1 → p2.me ≡ (p1.me.0, (w, Empty) ∷ rest p1.me.1)
      → p3.table_id ≡ p2.table_id → p3.me ≡ (p2.me.0, turned p2.me.1)
      → Sits id start p3 × (seat_of p3 ≡ record (seat_of p) { pool = Some y }) × PoolLeft may row needs does start (seat_of p) y
  took_pool_as id start w p p1 p2 p3 out y is e s free of1 k of2 was now of3 now3 =
      let t = took_pool id start w p p1 p2 p3 out e s free of1 k of2 was now of3 now3 in
      let same : t.0 ≡ y = ap (λ (z : Slot B P). slot_pool z y) (sym t.1 ∙ is) in
      subst (λ (z : P). Sits id start p3 × (seat_of p3 ≡ record (seat_of p) { pool = Some z }) × PoolLeft may row needs does start (seat_of p) z) same (t.2, t.3, t.4)

  -- a row is given back
  pub gives_row : (id : TableId) (start : Contents B P) (slots w b : ℕ) (y : B) (p p1 : Place B P Q) → w ≡ b * 8 → Sits id start p → row_at p ≡ Some (b, y) → 0 < p.me.0.parts
      → p1.me ≡ (p.me.0, (b, Row y) ∷ rest p.me.1)
      → Allows (Rules start) slots p1.id p1.me w (λ _. 0) (λ _ n. n ≡ (knows p1.me.0.parts p1.me.0.start p1.me.0.seen (rest p1.me.0.held) p1.me.0.refusals p1.me.0.also, rest p1.me.1))
  gives_row id start slots w b y p p1 e s holds some_part me =
      let n = length start.rows in let po = pool_at p in
      let near : b < n = near_row id start p (b, y) s holds in
      let h : p.me.0.held ≡ (b, Row y) ∷ pool_part n po = s.held ∙ ap (λ (r : Option (ℕ × B)). held_of n r po) holds in
      let h1 : p1.me.0.held ≡ (b, Row y) ∷ pool_part n po = ap (λ (m : Mine B P Q). m.0.held) me ∙ h in
      let c1 : p1.me.1 ≡ (b, Row y) ∷ rest p.me.1 = ap (λ (m : Mine B P Q). m.1) me in
      let parts : p1.me.0.parts ≡ p.me.0.parts = ap (λ (m : Mine B P Q). m.0.parts) me in
      subst (λ (z : ℕ). Allows (Rules start) slots p1.id p1.me z (λ _. 0) (λ _ m. m ≡ (knows p1.me.0.parts p1.me.0.start p1.me.0.seen (rest p1.me.0.held) p1.me.0.refusals p1.me.0.also, rest p1.me.1))) (sym e)
      (gives_lock (effect row needs does) cells count_of may all_parts (suc n) start slots p1.id b p1.me.0 p1.me.1 (rest p.me.1) (Row y) (rest p1.me.0.held)
      (λ z. z ≡ (knows p1.me.0.parts p1.me.0.start p1.me.0.seen (rest p1.me.0.held) p1.me.0.refusals p1.me.0.also, rest p1.me.1)) (omega (arith, near)) (omega (arith, parts, some_part)) c1
      (subst (λ (l : List (ℕ × Slot B P)). In (b, Row y) l) (sym h1) (inl refl)) (subst (λ (l : List (ℕ × Slot B P)). Without b l (rest l)) (sym h1) (out_row n b (Row y) po near))
      (λ k. (knows p1.me.0.parts p1.me.0.start p1.me.0.seen (rest p1.me.0.held) p1.me.0.refusals p1.me.0.also, rest (sym c1 k))))

  pub gives_pool : (id : TableId) (start : Contents B P) (slots w v : ℕ) (y : P) (p p0 p1 : Place B P Q) → w ≡ length start.rows → v ≡ w * 8 → Sits id start p → pool_at p ≡ Some y → 0 < p.me.0.parts
      → p0.me ≡ (p.me.0, turned p.me.1) → p1.me ≡ (p0.me.0, (w, Pool y) ∷ rest p0.me.1)
      → Allows (Rules start) slots p1.id p1.me v (λ _. 0) (λ _ n. n ≡ (knows p1.me.0.parts p1.me.0.start p1.me.0.seen (row_part (row_in p1.me.0.held) []) p1.me.0.refusals p1.me.0.also, rest p1.me.1))
  gives_pool id start slots w v y p p0 p1 e ev s holds some_part me0 me' =
      let n = length start.rows in let r = row_at p in
      let me : p1.me ≡ (p0.me.0, (n, Pool y) ∷ rest p0.me.1) = me' ∙ (λ k. (p0.me.0, (e k, Pool y) ∷ rest p0.me.1)) in
      let at : v ≡ word_at n = ev ∙ ap (λ (z : ℕ). z * 8) e in
      let h : p.me.0.held ≡ held_of n r (Some y) = s.held ∙ ap (λ (o : Option P). held_of n r o) holds in
      let h1 : p1.me.0.held ≡ held_of n r (Some y) = ap (λ (m : Mine B P Q). m.0.held) me ∙ ap (λ (m : Mine B P Q). m.0.held) me0 ∙ h in
      let c1 : p1.me.1 ≡ (n, Pool y) ∷ rest p0.me.1 = ap (λ (m : Mine B P Q). m.1) me in
      let parts : p1.me.0.parts ≡ p.me.0.parts = ap (λ (m : Mine B P Q). m.0.parts) me ∙ ap (λ (m : Mine B P Q). m.0.parts) me0 in
      subst (λ (z : ℕ). Allows (Rules start) slots p1.id p1.me z (λ _. 0) (λ _ m. m ≡ (knows p1.me.0.parts p1.me.0.start p1.me.0.seen (row_part (row_in p1.me.0.held) []) p1.me.0.refusals p1.me.0.also, rest p1.me.1))) (sym at)
      (gives_lock (effect row needs does) cells count_of may all_parts (suc n) start slots p1.id n p1.me.0 p1.me.1 (rest p0.me.1) (Pool y) (row_part (row_in p1.me.0.held) [])
      (λ z. z ≡ (knows p1.me.0.parts p1.me.0.start p1.me.0.seen (row_part (row_in p1.me.0.held) []) p1.me.0.refusals p1.me.0.also, rest p1.me.1)) (omega arith) (omega (arith, parts, some_part)) c1
      (subst (λ (l : List (ℕ × Slot B P)). In (n, Pool y) l) (sym h1) (in_held n r y))
      (subst (λ (l : List (ℕ × Slot B P)). Without n l (row_part (row_in l) [])) (sym h1) (subst (λ (o : Option (ℕ × B)). Without n (held_of n r (Some y)) (row_part o [])) (sym (row_in_held n r (Some y))) (out_pool n r y s.near)))
      (λ k. (knows p1.me.0.parts p1.me.0.start p1.me.0.seen (row_part (row_in p1.me.0.held) []) p1.me.0.refusals p1.me.0.also, rest (sym c1 k))))

module _ {B P Q : Type 0} where
  pub gave_row : (id : TableId) (start : Contents B P) (b : ℕ) (y : B) (p p1 p2 : Place B P Q) → Sits id start p → row_at p ≡ Some (b, y) → p1.table_id ≡ p.table_id
      → p1.me ≡ (p.me.0, (b, Row y) ∷ rest p.me.1) → p2.table_id ≡ p1.table_id → p2.me ≡ (knows p1.me.0.parts p1.me.0.start p1.me.0.seen (rest p1.me.0.held) p1.me.0.refusals p1.me.0.also, rest p1.me.1)
      → Sits id start p2 × (seat_of p2 ≡ record (seat_of p) { row = None })
  gave_row id start b y p p1 p2 s holds of1 me of2 me2 =
      let n = length start.rows in let po = pool_at p in
      let h : p.me.0.held ≡ (b, Row y) ∷ pool_part n po = s.held ∙ ap (λ (r : Option (ℕ × B)). held_of n r po) holds in
      let c : p.me.1 ≡ (b, Empty) ∷ empties (pool_part n po) = s.carried ∙ ap (λ (r : Option (ℕ × B)). empties (held_of n r po)) holds in
      seats id start p.me.0.parts p.me.0.seen None po p.me.0.refusals p.me.0.also p p2 s (of2 ∙ of1) tt
      (me2 ∙ (λ k. (knows (me k).0.parts (me k).0.start (me k).0.seen (rest (me k).0.held) (me k).0.refusals (me k).0.also, rest (me k).1)) ∙ (λ k. (knows p.me.0.parts p.me.0.start p.me.0.seen (rest (h k)) p.me.0.refusals p.me.0.also, rest (c k))))

  pub gave_pool : (id : TableId) (start : Contents B P) (w : ℕ) (y : P) (p p0 p1 p2 : Place B P Q) → w ≡ length start.rows → Sits id start p → pool_at p ≡ Some y → p0.table_id ≡ p.table_id → p0.me ≡ (p.me.0, turned p.me.1)
      → p1.table_id ≡ p0.table_id → p1.me ≡ (p0.me.0, (w, Pool y) ∷ rest p0.me.1)
      → p2.table_id ≡ p1.table_id → p2.me ≡ (knows p1.me.0.parts p1.me.0.start p1.me.0.seen (row_part (row_in p1.me.0.held) []) p1.me.0.refusals p1.me.0.also, rest p1.me.1)
      → Sits id start p2 × (seat_of p2 ≡ record (seat_of p) { pool = None })
  gave_pool id start w y p p0 p1 p2 e s holds of0 me0 of1 me' of2 me2 =
      let n = length start.rows in let r = row_at p in
      let me : p1.me ≡ (p0.me.0, (n, Pool y) ∷ rest p0.me.1) = me' ∙ (λ k. (p0.me.0, (e k, Pool y) ∷ rest p0.me.1)) in
      let c : p.me.1 ≡ empties (held_of n r (Some y)) = s.carried ∙ ap (λ (o : Option P). empties (held_of n r o)) holds in
      let t : turned p.me.1 ≡ (n, Empty) ∷ empties (row_part r []) = ap (λ (l : List (ℕ × Slot B P)). turned l) c ∙ turned_empties n r y in
      seats id start p.me.0.parts p.me.0.seen r None p.me.0.refusals p.me.0.also p p2 s (of2 ∙ of1 ∙ of0) s.near
      (me2 ∙ (λ k. (knows (me k).0.parts (me k).0.start (me k).0.seen (row_part (row_in (me k).0.held) []) (me k).0.refusals (me k).0.also, rest (me k).1))
      ∙ (λ k. (knows (me0 k).0.parts (me0 k).0.start (me0 k).0.seen (row_part (row_in (me0 k).0.held) []) (me0 k).0.refusals (me0 k).0.also, rest (me0 k).1))
      ∙ (λ k. (knows p.me.0.parts p.me.0.start p.me.0.seen (row_part r []) p.me.0.refusals p.me.0.also, rest (t k))))

  -- the slots before the exchange of a give: the row's is in front, and so is the pool's once they are turned
  pub row_in_front : (id : TableId) (start : Contents B P) (b : ℕ) (y : B) (p : Place B P Q) → Sits id start p → row_at p ≡ Some (b, y) → p.me.1 ≡ (b, Empty) ∷ rest p.me.1
  row_in_front id start b y p s holds =
      let n = length start.rows in let po = pool_at p in
      let c : p.me.1 ≡ (b, Empty) ∷ empties (pool_part n po) = s.carried ∙ ap (λ (r : Option (ℕ × B)). empties (held_of n r po)) holds in
      c ∙ (λ k. (b, Empty) ∷ rest (sym c k))

  pub pool_in_front : (id : TableId) (start : Contents B P) (w : ℕ) (y : P) (p p0 : Place B P Q) → w ≡ length start.rows → Sits id start p → pool_at p ≡ Some y → p0.me ≡ (p.me.0, turned p.me.1) → p0.me.1 ≡ (w, Empty) ∷ rest p0.me.1
  pool_in_front id start w y p p0 e s holds me0 =
      let n = length start.rows in let r = row_at p in
      let c : p.me.1 ≡ empties (held_of n r (Some y)) = s.carried ∙ ap (λ (o : Option P). empties (held_of n r o)) holds in
      let t : p0.me.1 ≡ (w, Empty) ∷ empties (row_part r []) = ap (λ (m : Mine B P Q). m.1) me0 ∙ ap (λ (l : List (ℕ × Slot B P)). turned l) c ∙ turned_empties n r y ∙ (λ k. (sym e k, Empty) ∷ empties (row_part r [])) in
      t ∙ (λ k. (w, Empty) ∷ rest (sym t k))

  -- what the exchange of a give found is Empty
  pub was_empty : (w : ℕ) (p : Place B P Q) (out : Slot B P) → p.me.1 ≡ (w, Empty) ∷ rest p.me.1 → p.me.1 ≡ (w, out) ∷ rest p.me.1 → out ≡ Empty
  was_empty w p out front was = ap (λ (l : List (ℕ × Slot B P)). head_or out l) (sym was ∙ front)

  -- a seat is split off: the old one has fewer parts, and the new one has seen the same
  pub parted : (id : TableId) (start : Contents B P) (k : ℕ) (p q : Place B P Q) → Sits id start p → q.table_id ≡ p.table_id → q.me ≡ (knows k p.me.0.start p.me.0.seen p.me.0.held p.me.0.refusals p.me.0.also, p.me.1)
      → Sits id start q × (seat_of q ≡ record (seat_of p) { parts = k })
  parted id start k p q s of me = seats id start k p.me.0.seen (row_at p) (pool_at p) p.me.0.refusals p.me.0.also p q s of s.near (me ∙ (λ i. (knows k p.me.0.start p.me.0.seen (s.held i) p.me.0.refusals p.me.0.also, s.carried i)))

  pub split_off : (id : TableId) (start : Contents B P) (k : ℕ) (p q : Place B P Q) → Sits id start p → q.table_id ≡ p.table_id → q.me ≡ (knows k p.me.0.start (others (calls p.me.0.seen)) [] [] p.me.0.also, [])
      → Sits id start q × (seat_of q ≡ record { id = p.table_id; start = p.me.0.start; parts = k; seen = others (calls p.me.0.seen); row = None; pool = None; refusals = []; also = p.me.0.also })
  split_off id start k p q s of me = seats id start k (others (calls p.me.0.seen)) None None [] p.me.0.also p q s of tt me

  pub joined : (id : TableId) (start : Contents B P) (parts : ℕ) (seen : List (ℕ × Q)) (rf : List (ℕ × ℕ)) (al : List (List Q)) (p q : Place B P Q) → Sits id start p → q.table_id ≡ p.table_id → q.me ≡ (knows parts p.me.0.start seen p.me.0.held rf al, p.me.1)
      → Sits id start q × (seat_of q ≡ record (seat_of p) { parts = parts; seen = seen; refusals = rf; also = al })
  joined id start parts seen rf al p q s of me = seats id start parts seen (row_at p) (pool_at p) rf al p q s of s.near (me ∙ (λ i. (knows parts p.me.0.start seen (s.held i) rf al, s.carried i)))

module _ {B : Type 0} where
  match_row : (r : Option (ℕ × B)) (rows : List B) → RowIs r rows → MatchOption r (Unit {0}) (λ h. slice_get rows h.0 ≡ Some h.1)
  match_row None rows e = tt
  match_row (Some r) rows e = e

  match_pool : (p : Option B) (pool : B) → PoolIs p pool → MatchOption p (Unit {0}) (λ h. pool ≡ h)
  match_pool None pool e = tt
  match_pool (Some p) pool e = e

  near_then : (n : ℕ) (rq : Option ℕ) (r : Option (ℕ × B)) (left : Option B) → RowNear n r → RowNear n (row_left rq r left)
  near_then n None r left h = h
  near_then n (Some b) None left h = tt
  near_then n (Some b) (Some r) None h = h
  near_then n (Some b) (Some r) (Some y) h = h

module _ {B P : Type 0} where
  same_pool_part : (n : ℕ) (nd : Bool) (p left : Option P) → HoldsPool nd p → empties {B = B} (pool_part n p) ≡ empties (pool_part n (pool_left nd p left))
  same_pool_part n false p left h = refl
  same_pool_part n true None left h = absurd h
  same_pool_part n true (Some x) None h = refl
  same_pool_part n true (Some x) (Some y) h = refl

  same_empties : (n : ℕ) (rq : Option ℕ) (r : Option (ℕ × B)) (left : Option B) (nd : Bool) (p pl : Option P) → HoldsRow rq r → HoldsPool nd p → empties (held_of n r p) ≡ empties (held_of n (row_left rq r left) (pool_left nd p pl))
  same_empties n None None left nd p pl h g = same_pool_part n nd p pl g
  same_empties n None (Some r) left nd p pl h g = ap (λ (l : List (ℕ × Slot B P)). (r.0, Empty) ∷ l) (same_pool_part n nd p pl g)
  same_empties n (Some b) None left nd p pl h g = absurd h
  same_empties n (Some b) (Some r) None nd p pl h g = ap (λ (l : List (ℕ × Slot B P)). (r.0, Empty) ∷ l) (same_pool_part n nd p pl g)
  same_empties n (Some b) (Some r) (Some y) nd p pl h g = ap (λ (l : List (ℕ × Slot B P)). (r.0, Empty) ∷ l) (same_pool_part n nd p pl g)

-- looking and drawing
module _ {B P Q R : Type 0} (may : Contents B P → ℕ → Q → Type 0) (row : Q → Option ℕ) (needs : Q → Option B → Bool) (does : Q → Option B → Option P → ℕ → Done B P R) where
  -- the sequence word is behind the pool's
  pub looks_at : (start : Contents B P) (slots id w : ℕ) (me : Mine B P Q) → w ≡ suc (length start.rows) * 8 → 0 < me.0.parts
      → Allows (Rules may row needs does start) slots id me w (λ n. n) (Looks (effect row needs does) cells count_of may all_parts me)
  looks_at start slots id w me e part = subst (λ (z : ℕ). Allows (Rules may row needs does start) slots id me z (λ n. n) (Looks (effect row needs does) cells count_of may all_parts me)) (sym e)
      (looks (effect row needs does) cells count_of may all_parts (suc (length start.rows)) start slots id me part)

  -- the history so far was seen
  pub looked : (id : TableId) (start : Contents B P) (p p1 : Place B P Q) (r : ℕ) → Sits id start p → p1.table_id ≡ p.table_id
      → Looked (effect row needs does) cells count_of may all_parts start p.me r p1.me
      → Sits id start p1 × LookedAt may row needs does start (seat_of p) (seat_of p1) r
  looked id start p p1 r s of k =
      let t = seats id start p.me.0.parts (p.me.0.seen ++ others k.between) (row_at p) (pool_at p) p.me.0.refusals p.me.0.also p p1 s of s.near (k.now ∙ (λ i. (knows p.me.0.parts p.me.0.start (p.me.0.seen ++ others k.between) (s.held i) p.me.0.refusals p.me.0.also, s.carried i))) in (
        t.0,
        record {
          between = k.between;
          allowed = subst (λ (l : List Q). Each (may start) 0 l) k.splits k.allowed;
          also = subst (λ (l : List Q). AllBegin p.me.0.also l) k.splits k.also;
          now = t.1;
          number = k.number ∙ (λ i. length (k.splits i) * 2097152 + (left_by row needs does start (k.splits i)).count);
          whole = λ all. let w = k.whole all in (none_between (calls p.me.0.seen) k.between (w.0 ∙ k.splits), drew_whole p.me.0.seen (calls p.me.0.seen) refl w.1);
        },
      )

  pub draws_at : (id : TableId) (start : Contents B P) (slots w old new : ℕ) (q : Q) (ch : Change) (p : Place B P Q) → slots ≡ suc (length start.rows) → w ≡ suc (length start.rows) * 8 → Sits id start p → 0 < p.me.0.parts → may start (old / 2097152) q → ((qs : List Q) → (left_by row needs does start qs).count ≤ 1048576)
      → HoldsRow (row q) (row_at p) → HoldsPool (needs q (bucket_held (row q) (row_at p))) (pool_at p)
      → ((c : ℕ) → (done_on row needs does q (row_at p) (pool_at p) c).change ≡ ch) → ((qs : List Q) → Counts (done row needs does q (left_by row needs does start qs)).change (left_by row needs does start qs).count)
      → new ≡ counted ch (old + 2097152)
      → Allows (Rules may row needs does start) slots p.id p.me w (λ r. either (eqb r old) new r) (Draws (effect row needs does) cells count_of may all_parts slots q (held_then row needs does (slots - 1) q p.me.0.held (old % 2097152)) old p.me)
  draws_at id start slots w old new q ch p es e s part fit small hr hp change counts is =
      let m = length start.rows in
      let en : slots - 1 ≡ m = omega (arith, es) in
      let t = touches row needs does start m old new q (row_at p) (pool_at p) ch refl s.near hr hp change counts is in
      let t1 : Touches (effect row needs does) cells count_of start q p.me.0.held (held_then row needs does (slots - 1) q p.me.0.held (old % 2097152)) old new =
      subst (λ (h : List (ℕ × Slot B P)). Touches (effect row needs does) cells count_of start q h (held_then row needs does (slots - 1) q p.me.0.held (old % 2097152)) old new) (sym s.held)
      (subst (λ (z : ℕ). Touches (effect row needs does) cells count_of start q (held_of m (row_at p) (pool_at p)) (held_then row needs does z q p.me.0.held (old % 2097152)) old new) (sym en) t) in
      subst (λ (z : ℕ). Allows (Rules may row needs does start) slots p.id p.me z (λ r. either (eqb r old) new r) (Draws (effect row needs does) cells count_of may all_parts slots q (held_then row needs does (slots - 1) q p.me.0.held (old % 2097152)) old p.me)) (sym e)
      (subst (λ (z : ℕ). Allows (Rules may row needs does start) slots p.id p.me (word_at (suc m)) (λ r. either (eqb r old) new r) (Draws (effect row needs does) cells count_of may all_parts z q (held_then row needs does (slots - 1) q p.me.0.held (old % 2097152)) old p.me)) (sym es)
      (draws_call (effect row needs does) cells count_of may all_parts (suc m) start slots p.id old new q (held_then row needs does (slots - 1) q p.me.0.held (old % 2097152)) p.me part (λ qs is_here. let b = small qs in let at : old / 2097152 ≡ length qs = omega (arith, is_here, b) in subst (λ (n : ℕ). may start n q) at fit) t1))

  pub drew : (id : TableId) (start : Contents B P) (q : Q) (n old : ℕ) (p p1 : Place B P Q) → n ≡ length start.rows → Sits id start p → p1.table_id ≡ p.table_id
      → HoldsRow (row q) (row_at p) → HoldsPool (needs q (bucket_held (row q) (row_at p))) (pool_at p) → ((qs : List Q) → (left_by row needs does start qs).count ≤ 1048576)
      → DrewOne (effect row needs does) cells count_of may all_parts q (held_then row needs does n q p.me.0.held (old % 2097152)) old start p.me p1.me
      → Sits id start p1 × DrewAt may row needs does start q (seat_of p) (seat_of p1) (old / 2097152) (old % 2097152)
  drew id start q n old p p1 is s of hr hp small k =
      let m = length start.rows in let seen = p.me.0.seen in
      let d : Done B P R = done_on row needs does q (row_at p) (pool_at p) (old % 2097152) in
      let r1 = row_then row needs does q (row_at p) (pool_at p) (old % 2097152) in let o1 = pool_then row needs does q (row_at p) (pool_at p) (old % 2097152) in
      let qs = k.so_far in let st = left_by row needs does start qs in
      let b = small qs in let number : old ≡ length qs * 2097152 + st.count = k.number in
      let at : old / 2097152 ≡ length qs = omega (arith, number, b) in
      let rows : old % 2097152 ≡ st.count = omega (arith, number, b) in
      let long : length st.rows ≡ m = length_after row needs does start qs in
      let held : (i : ℕ) (x : Slot B P) → In (i, x) (held_of m (row_at p) (pool_at p)) → get_elem? (cells st) i ≡ some x = λ i x e. k.held i x (subst (λ (h : List (ℕ × Slot B P)). In (i, x) h) (sym s.held) e) in
      let ri = row_is m (row_at p) (pool_at p) st.rows st.pool long s.near held in
      let pi = pool_is m (row_at p) (pool_at p) st.rows st.pool long held in
      let carried : empties (held_of m (row_at p) (pool_at p)) ≡ empties (held_of m r1 o1) = same_empties m (row q) (row_at p) d.bucket (needs q (bucket_held (row q) (row_at p))) (pool_at p) d.pool hr hp in
      let t = seats id start p.me.0.parts (seen ++ (others k.between ++ (1, q) ∷ [])) r1 o1 p.me.0.refusals p.me.0.also p p1 s of (near_then m (row q) (row_at p) d.bucket s.near)
      (k.now ∙ (λ i. (knows p.me.0.parts p.me.0.start (seen ++ (others k.between ++ (1, q) ∷ [])) (held_of (is i) r1 o1) p.me.0.refusals p.me.0.also, (s.carried ∙ carried) i))) in
      let does_it : done row needs does q st ≡ d = done_same row needs does m st q (row_at p) (pool_at p) long hr hp ri pi ∙ ap (λ (c : ℕ). done_on row needs does q (row_at p) (pool_at p) c) (sym rows) in
      let seen_now : (seat_of p1).seen ≡ seen ++ (others k.between ++ (1, q) ∷ []) = ap (λ (w : SeatNow B P Q). w.seen) t.1 in (
        t.0,
        record {
          between = k.between;
          allowed = subst (λ (l : List Q). Each (may start) 0 l) k.splits k.allowed;
          also = subst (λ (l : List Q). AllBegin p.me.0.also l) k.splits k.also;
          now = t.1;
          place = at ∙ ap (λ (l : List Q). length l) k.splits;
          draws = ap draws_of seen_now ∙ draws_grow seen k.between q ∙ (λ i. draws_of seen ++ (sym (at ∙ ap (λ (l : List Q). length l) k.splits) i, q) ∷ []);
          rises = draws_under seen k.between (old / 2097152) (at ∙ ap (λ (l : List Q). length l) k.splits);
          once = subst (λ (l : List (ℕ × Q)). (p : ℕ) → times_drawn p l ≤ 1) (sym seen_now) k.once;
          count = rows ∙ ap (λ (l : List Q). (left_by row needs does start l).count) k.splits;
          changed = rows ∙ ap (λ (l : List Q). (left_by row needs does start l).count) k.splits ∙ count_is row needs does start (calls seen ++ k.between);
          bucket = subst (λ (l : List Q). MatchOption (row_at p) (Unit {0}) (λ h. slice_get (left_by row needs does start l).rows h.0 ≡ Some h.1)) k.splits (match_row (row_at p) st.rows ri);
          pool_is = subst (λ (l : List Q). MatchOption (pool_at p) (Unit {0}) (λ h. (left_by row needs does start l).pool ≡ h)) k.splits (match_pool (pool_at p) st.pool pi);
          does_it = subst (λ (l : List Q). done row needs does q (left_by row needs does start l) ≡ d) k.splits does_it;
          legal = legal_next row needs does start (calls seen ++ k.between) q d.reply (ap (λ (z : Done B P R). z.reply) (subst (λ (l : List Q). done row needs does q (left_by row needs does start l) ≡ d) k.splits does_it));
          whole = λ all. let w = k.whole all in (w.2, drew_whole seen (calls seen) refl w.1);
        },
      )

  pub drew_or_not : (id : TableId) (start : Contents B P) (q : Q) (slots old r : ℕ) (b : Bool) (p p1 : Place B P Q) → slots ≡ suc (length start.rows) → Sits id start p → p1.table_id ≡ p.table_id
      → HoldsRow (row q) (row_at p) → HoldsPool (needs q (bucket_held (row q) (row_at p))) (pool_at p) → ((qs : List Q) → (left_by row needs does start qs).count ≤ 1048576)
      → MatchBool b (DrewOne (effect row needs does) cells count_of may all_parts q (held_then row needs does (slots - 1) q p.me.0.held (old % 2097152)) old start p.me p1.me) (p1.me ≡ refused slots r p.me)
      → Sits id start p1 × MatchBool b (DrewAt may row needs does start q (seat_of p) (seat_of p1) (old / 2097152) (old % 2097152)) (seat_of p1 ≡ record (seat_of p) { refusals = (suc (length start.rows), r) ∷ p.me.0.refusals })
  drew_or_not id start q slots old r true p p1 is s of hr hp small k = drew id start q (slots - 1) old p p1 (omega (arith, is)) s of hr hp small k
  drew_or_not id start q slots old r false p p1 is s of hr hp small k = refused_seat id start (suc (length start.rows)) r p p1 s of (k ∙ ap (λ (z : ℕ). refused z r p.me) is)

  pub look_number : (start : Contents B P) (old new : SeatNow B P Q) (found : ℕ) → ((qs : List Q) → (left_by row needs does start qs).count ≤ 1048576) → LookedAt may row needs does start old new found
      → (found / 2097152 ≡ length (calls new.seen)) × (found ≤ length (calls new.seen) * 2097152 + 1048576)
  look_number start old new found small l =
      let e : length (calls old.seen ++ l.between) ≡ length (calls new.seen) = ap (λ (z : List Q). length z) (sym (ap (λ (w : SeatNow B P Q). calls w.seen) l.now ∙ calls_look old.seen l.between)) in
      let n = l.number in let b = small (calls old.seen ++ l.between) in (omega (arith, n, b, e), omega (arith, n, b, e))

  -- a look and then a draw
  pub composed : (start : Contents B P) (q : Q) (old mid new : SeatNow B P Q) (found at rows : ℕ) → LookedAt may row needs does start old mid found → DrewAt may row needs does start q mid new at rows → DrewAt may row needs does start q old new at rows
  composed start q old mid new found at rows l d =
      let seen : mid.seen ≡ old.seen ++ others l.between = ap (λ (w : SeatNow B P Q). w.seen) l.now in
      let row_same : mid.row ≡ old.row = ap (λ (w : SeatNow B P Q). w.row) l.now in
      let pool_same : mid.pool ≡ old.pool = ap (λ (w : SeatNow B P Q). w.pool) l.now in
      let e : calls mid.seen ++ d.between ≡ calls old.seen ++ (l.between ++ d.between) = (λ i. (ap (λ (z : List (ℕ × Q)). calls z) seen ∙ calls_look old.seen l.between) i ++ d.between) ∙ append_assoc (calls old.seen) l.between d.between in
      let longer : mid.seen ++ (others d.between ++ (1, q) ∷ []) ≡ old.seen ++ (others (l.between ++ d.between) ++ (1, q) ∷ []) =
      (λ i. seen i ++ (others d.between ++ (1, q) ∷ [])) ∙ append_assoc old.seen (others l.between) (others d.between ++ (1, q) ∷ [])
      ∙ ap (λ (z : List (ℕ × Q)). old.seen ++ z) (sym (append_assoc (others l.between) (others d.between) ((1, q) ∷ []))) ∙ (λ i. old.seen ++ (sym (others_append l.between d.between) i ++ (1, q) ∷ [])) in
      let now : new ≡ record old { seen = old.seen ++ (others (l.between ++ d.between) ++ (1, q) ∷ []); row = row_then row needs does q old.row old.pool rows; pool = pool_then row needs does q old.row old.pool rows } =
      d.now ∙ (λ i. record { id = (l.now i).id; start = (l.now i).start; parts = (l.now i).parts; seen = longer i; row = row_then row needs does q (row_same i) (pool_same i) rows; pool = pool_then row needs does q (row_same i) (pool_same i) rows; refusals = (l.now i).refusals; also = (l.now i).also }) in
      let place : at ≡ length (calls old.seen ++ (l.between ++ d.between)) = d.place ∙ ap (λ (z : List Q). length z) e in
      let does_it : done row needs does q (left_by row needs does start (calls old.seen ++ (l.between ++ d.between))) ≡ done_on row needs does q old.row old.pool rows =
      subst (λ (z : List Q). done row needs does q (left_by row needs does start z) ≡ done_on row needs does q mid.row mid.pool rows) e d.does_it ∙ (λ i. done_on row needs does q (row_same i) (pool_same i) rows) in
      record {
        between = l.between ++ d.between;
        allowed = subst (λ (z : List Q). Each (may start) 0 z) e d.allowed;
        also = over (λ (z : List Q) (a : List (List Q)). AllBegin a z) e (ap (λ (w : SeatNow B P Q). w.also) l.now) d.also;
        now = now;
        place = place;
        draws = ap (λ (w : SeatNow B P Q). draws_of w.seen) now ∙ draws_grow old.seen (l.between ++ d.between) q ∙ (λ i. draws_of old.seen ++ (sym place i, q) ∷ []);
        rises = draws_under old.seen (l.between ++ d.between) at place;
        once = d.once;
        count = d.count ∙ ap (λ (z : List Q). (left_by row needs does start z).count) e;
        changed = d.changed ∙ ap (λ (z : List Q). counted_all (changes_of row needs does start z) start.count) e;
        bucket = over (λ (z : List Q) (r : Option (ℕ × B)). MatchOption r (Unit {0}) (λ h. slice_get (left_by row needs does start z).rows h.0 ≡ Some h.1)) e row_same d.bucket;
        pool_is = over (λ (z : List Q) (p : Option P). MatchOption p (Unit {0}) (λ h. (left_by row needs does start z).pool ≡ h)) e pool_same d.pool_is;
        does_it = does_it;
        legal = legal_next row needs does start (calls old.seen ++ (l.between ++ d.between)) q (done_on row needs does q old.row old.pool rows).reply (ap (λ (z : Done B P R). z.reply) does_it);
        whole = λ all. let a = l.whole all in let b = d.whole (ap (λ (w : SeatNow B P Q). w.parts) l.now ∙ all) in ((λ i. a.0 i ++ b.0 i), a.1);
      }

-- the start
zero_at : (n i : ℕ) → slice_index (replicate n 0) i ≡ 0
zero_at zero i = refl
zero_at (suc n) zero = refl
zero_at (suc n) (suc i) = zero_at n i

module _ {B P : Type 0} where
  cells_long : (rows : List B) (p : P) → length (map Row rows ++ Pool p ∷ []) ≡ suc (length rows)
  cells_long [] p = refl
  cells_long (x ∷ xs) p = ap suc (cells_long xs p)

module _ {B P Q R : Type 0} (may : Contents B P → ℕ → Q → Type 0) (row : Q → Option ℕ) (needs : Q → Option B → Bool) (does : Q → Option B → Option P → ℕ → Done B P R) where
  pub opens_at : (rows : List B) (pool : P) (n : ℕ) (words : List ℕ) (slots : List (Slot B P)) → words ≡ replicate n 0 → n ≡ suc (suc (length rows)) * 8 → slots ≡ map Row rows ++ Pool pool ∷ []
      → Rules may row needs does (contents rows pool 0) (opening words slots (knows all_parts (Some (contents rows pool 0)) [] [] [] []))
  opens_at rows pool n words slots ew en es =
      let long : length words ≡ suc (suc (length rows)) * 8 = ap (λ (l : List ℕ). length l) ew ∙ length-replicate n 0 ∙ en in
      subst (λ (z : List (Slot B P)). Rules may row needs does (contents rows pool 0) (opening words z (knows all_parts (Some (contents rows pool 0)) [] [] [] []))) (sym es)
      (opens (effect row needs does) cells count_of may all_parts (suc (length rows)) (contents rows pool 0) words long (λ i. ap (λ (l : List ℕ). slice_index l i) ew ∙ zero_at n i) (cells_long rows pool) refl)

  -- a new seat
  pub first_seat : (id : TableId) (rows : List B) (pool : P) (p : Place B P Q) → p.table_id ≡ id → p.me ≡ (knows all_parts (Some (contents rows pool 0)) [] [] [] [], []) → Sits id (contents rows pool 0) p
  first_seat id rows pool p of me = record {
    of = of;
    start_is = ap (λ (m : Mine B P Q). m.0.start) me;
    held = ap (λ (m : Mine B P Q). m.0.held) me ∙ (λ k. held_of (length rows) (row_in (sym me k).0.held) (pool_in (sym me k).0.held));
    carried = ap (λ (m : Mine B P Q). m.1) me ∙ (λ k. empties (held_of (length rows) (row_in (sym me k).0.held) (pool_in (sym me k).0.held)));
    near = subst (λ (m : Mine B P Q). RowNear (length rows) (row_in m.0.held)) (sym me) tt;
  }
