-- A call changes just what its seat holds.
use Rattle.std.proofs.Common.{◌≡◌, ◌≢◌, ◌<◌, ◌≤◌, ◌+◌, ◌*◌, ◌%◌, inl, inr, ℕ, zero, suc, Bool, true, false, List, [], ◌∷◌, ◌++◌, map, length, length-set, set, slice_get, sym, refl, ap, ◌∙◌, subst, ⊎_elim, Option, Some, None, MatchOption, arith}
use Rattle.std.specs.Option.{unwrap_or}
use mathlib.Core.Option as M
use mathlib.Core.Option.{some, some-injective}
use lib.ListN.{get_elem?}
use Rattle.sw_rowlock.specs.declared.calls.Contents.{Contents}
use Rattle.sw_rowlock.specs.declared.calls.Slot.{Slot}
use Rattle.sw_rowlock.specs.declared.calls.Slot.TheVariants.{Row, Pool, Empty}
use Rattle.sw_rowlock.specs.History.{after}
use Rattle.sw_rowlock.specs.Rule.{In, Has, Touched, Touches}
use Rattle.sw_rowlock.specs.declared.calls.Change.{Change}
use Rattle.sw_rowlock.specs.declared.calls.Change.TheVariants.{Same, More, Less}
use Rattle.sw_rowlock.specs.Calls.{Done, Counts, counted, counted_all, pool_for, pool_after, bucket_for, rows_after, contents, cells, count_of, done, effect, left_by, changes_of, told, Legal}
use Rattle.sw_rowlock.specs.Seats.{row_part, pool_part, held_of, RowNear, bucket_held, pool_held, HoldsRow, HoldsPool, row_left, pool_left, done_on, row_then, pool_then}

module _ {B : Type 0} where
  pub length_rows : (rq : Option ℕ) (left : Option B) (rows : List B) → length (rows_after rq left rows) ≡ length rows
  length_rows None left rows = refl
  length_rows (Some b) None rows = refl
  length_rows (Some b) (Some y) rows = length-set rows b y

module _ {B P : Type 0} where
  abbrev pub line : List B → P → List (Slot B P)
  line rows pool = map Row rows ++ Pool pool ∷ []

  abbrev row_there : B → M.Option (Slot B P)
  row_there x = some (Row x)

  abbrev pool_there : P → M.Option (Slot B P)
  pool_there p = some (Pool p)

  -- where the rows are the same at i, and the pool if i is its place
  else_cell : (xs ys : List B) (p q : P) (i : ℕ) → length xs ≡ length ys → slice_get xs i ≡ slice_get ys i → (i ≡ length xs → p ≡ q) → get_elem? (line xs p) i ≡ get_elem? (line ys q) i
  else_cell [] [] p q zero l e pe = ap (λ (z : P). pool_there z) (pe refl)
  else_cell [] [] p q (suc i) l e pe = refl
  else_cell [] (y ∷ ys) p q i l e pe = absurd (omega (arith, l))
  else_cell (x ∷ xs) [] p q i l e pe = absurd (omega (arith, l))
  else_cell (x ∷ xs) (y ∷ ys) p q zero l e pe = ap (λ (o : Option B). row_there (unwrap_or o x)) e
  else_cell (x ∷ xs) (y ∷ ys) p q (suc i) l e pe = else_cell xs ys p q i (omega (arith, l)) e (λ z. pe (ap suc z))

  pub row_cell : (xs : List B) (p : P) (i : ℕ) (x : B) → slice_get xs i ≡ Some x → get_elem? (line xs p) i ≡ some (Row x)
  row_cell [] p i x e = absurd (no_row e)
    where
      no_row : ¬ (None ≡ Some x)
      no_row e = subst (λ (o : Option B). MatchOption o (Unit {0}) (λ _. ⊥)) e tt
  row_cell (y ∷ xs) p zero x e = ap (λ (o : Option B). row_there (unwrap_or o y)) e
  row_cell (y ∷ xs) p (suc i) x e = row_cell xs p i x e

  pub pool_cell : (xs : List B) (p : P) → get_elem? (line xs p) (length xs) ≡ some (Pool p)
  pool_cell [] p = refl
  pool_cell (x ∷ xs) p = pool_cell xs p

  abbrev pub slot_row : Slot B P → B → B
  slot_row (Row x) d = x
  slot_row (Pool p) d = d
  slot_row Empty d = d

  abbrev pub slot_pool : Slot B P → P → P
  slot_pool (Row x) d = d
  slot_pool (Pool p) d = p
  slot_pool Empty d = d

  pub row_of_cell : (xs : List B) (p : P) (i : ℕ) → i < length xs → (x : B) × (slice_get xs i ≡ Some x) × (get_elem? (line xs p) i ≡ some (Row x))
  row_of_cell [] p i h = absurd (omega (arith, h))
  row_of_cell (x ∷ xs) p zero h = (x, refl, refl)
  row_of_cell (x ∷ xs) p (suc i) h = row_of_cell xs p i (omega (arith, h))

  pub row_back : (xs : List B) (p : P) (i : ℕ) (x : B) → i < length xs → get_elem? (line xs p) i ≡ some (Row x) → slice_get xs i ≡ Some x
  unfolding row_of_cell
  row_back xs p i x h e =
      let c = row_of_cell xs p i h in
      let same : c.0 ≡ x = ap (λ (z : Slot B P). slot_row z x) (some-injective (Row c.0) (Row x) (sym c.2 ∙ e)) in
      c.1 ∙ ap (λ (z : B). Some z) same

  pub pool_back : (xs : List B) (p y : P) → get_elem? (line xs p) (length xs) ≡ some (Pool y) → p ≡ y
  pool_back xs p y e = ap (λ (z : Slot B P). slot_pool z y) (some-injective (Pool p) (Pool y) (sym (pool_cell xs p) ∙ e))

abbrev pub NotRow : {B : Type 0} → ℕ → Option (ℕ × B) → Type 0
NotRow i None = Unit {0}
NotRow i (Some r) = i ≢ r.0

-- the state has what is held
abbrev pub RowIs : {B : Type 0} → Option (ℕ × B) → List B → Type 0
RowIs None rows = Unit {0}
RowIs (Some r) rows = slice_get rows r.0 ≡ Some r.1

abbrev pub PoolIs : {P : Type 0} → Option P → P → Type 0
PoolIs None pool = Unit {0}
PoolIs (Some y) pool = pool ≡ y

module _ {B : Type 0} where
  get_else : (rows : List B) (b i : ℕ) (y : B) → i ≢ b → slice_get (set rows b y) i ≡ slice_get rows i
  get_else [] b i y n = refl
  get_else (x ∷ xs) zero zero y n = absurd (n refl)
  get_else (x ∷ xs) zero (suc i) y n = refl
  get_else (x ∷ xs) (suc b) zero y n = refl
  get_else (x ∷ xs) (suc b) (suc i) y n = get_else xs b i y (λ e. n (ap suc e))

  no_some : (x : B) → ¬ (None ≡ Some x)
  no_some x e = subst (λ (o : Option B). MatchOption o (Unit {0}) (λ _. ⊥)) e tt

  get_here : (rows : List B) (b : ℕ) (x y : B) → slice_get rows b ≡ Some x → slice_get (set rows b y) b ≡ Some y
  get_here [] b x y e = absurd (no_some x e)
  get_here (z ∷ xs) zero x y e = refl
  get_here (z ∷ xs) (suc b) x y e = get_here xs b x y e

  rows_same : (rq : Option ℕ) (r : Option (ℕ × B)) (left : Option B) (rows : List B) (i : ℕ) → HoldsRow rq r → NotRow i r → slice_get (rows_after rq left rows) i ≡ slice_get rows i
  rows_same None r left rows i h n = refl
  rows_same (Some b) None left rows i h n = absurd h
  rows_same (Some b) (Some r) None rows i h n = refl
  rows_same (Some b) (Some r) (Some y) rows i h n = get_else rows b i y (λ e. n (e ∙ sym h))

  rows_now : (rq : Option ℕ) (r : Option (ℕ × B)) (left : Option B) (rows : List B) → HoldsRow rq r → RowIs r rows → RowIs (row_left rq r left) (rows_after rq left rows)
  rows_now None r left rows h is = is
  rows_now (Some b) None left rows h is = absurd h
  rows_now (Some b) (Some r) None rows h is = is
  rows_now (Some b) (Some r) (Some y) rows h is = subst (λ (z : ℕ). slice_get (set rows b y) z ≡ Some y) (sym h) (get_here rows b r.1 y (ap (λ (z : ℕ). slice_get rows z) (sym h) ∙ is))

  bucket_same : (rq : Option ℕ) (r : Option (ℕ × B)) (rows : List B) → HoldsRow rq r → RowIs r rows → bucket_for rq rows ≡ bucket_held rq r
  bucket_same None r rows h is = refl
  bucket_same (Some b) None rows h is = absurd h
  bucket_same (Some b) (Some r) rows h is = ap (λ (z : ℕ). slice_get rows z) (sym h) ∙ is

module _ {P : Type 0} where
  pool_now : (nd : Bool) (p left : Option P) (pool : P) → HoldsPool nd p → PoolIs p pool → PoolIs (pool_left nd p left) (pool_after nd left pool)
  pool_now false p left pool h is = is
  pool_now true None left pool h is = absurd h
  pool_now true (Some x) None pool h is = is
  pool_now true (Some x) (Some y) pool h is = refl

  pool_stays : (nd : Bool) (p left : Option P) (pool : P) → HoldsPool nd p → p ≡ None → pool_after nd left pool ≡ pool
  pool_stays false p left pool h e = refl
  pool_stays true None left pool h e = absurd h
  pool_stays true (Some x) left pool h e = absurd (no_some x (sym e))

  pool_same : (nd : Bool) (p : Option P) (pool : P) → HoldsPool nd p → PoolIs p pool → pool_for nd pool ≡ pool_held nd p
  pool_same false p pool h is = refl
  pool_same true None pool h is = absurd h
  pool_same true (Some x) pool h is = ap (λ (z : P). Some z) is

module _ {B P : Type 0} where
  cons_has : (i j : ℕ) (a b : Slot B P) (h k : List (ℕ × Slot B P)) → (Has i h → Has i k) → Has i ((j, a) ∷ h) → Has i ((j, b) ∷ k)
  cons_has i j a b h k f m = ⊎_elim (λ (e : (i, m.0) ≡ (j, a)). (b, inl (λ t. ((e t).0, b)))) (λ (o : In (i, m.0) h). let g = f (m.0, o) in (g.0, inr g.1)) m.1

  has_row : (i : ℕ) (rq : Option ℕ) (r : Option (ℕ × B)) (left : Option B) (h k : List (ℕ × Slot B P)) → HoldsRow rq r → (Has i h → Has i k) → Has i (row_part r h) → Has i (row_part (row_left rq r left) k)
  has_row i None None left h k held f = f
  has_row i None (Some r) left h k held f = cons_has i r.0 (Row r.1) (Row r.1) h k f
  has_row i (Some b) None left h k held f = absurd held
  has_row i (Some b) (Some r) None h k held f = cons_has i r.0 (Row r.1) (Row r.1) h k f
  has_row i (Some b) (Some r) (Some y) h k held f = cons_has i r.0 (Row r.1) (Row y) h k f

  has_row_back : (i : ℕ) (rq : Option ℕ) (r : Option (ℕ × B)) (left : Option B) (h k : List (ℕ × Slot B P)) → HoldsRow rq r → (Has i k → Has i h) → Has i (row_part (row_left rq r left) k) → Has i (row_part r h)
  has_row_back i None None left h k held f = f
  has_row_back i None (Some r) left h k held f = cons_has i r.0 (Row r.1) (Row r.1) k h f
  has_row_back i (Some b) None left h k held f = absurd held
  has_row_back i (Some b) (Some r) None h k held f = cons_has i r.0 (Row r.1) (Row r.1) k h f
  has_row_back i (Some b) (Some r) (Some y) h k held f = cons_has i r.0 (Row y) (Row r.1) k h f

  has_pool : (i n : ℕ) (nd : Bool) (p left : Option P) → HoldsPool nd p → Has {S = Slot B P} i (pool_part n p) → Has {S = Slot B P} i (pool_part n (pool_left nd p left))
  has_pool i n false p left held m = m
  has_pool i n true None left held m = absurd held
  has_pool i n true (Some x) None held m = m
  has_pool i n true (Some x) (Some y) held m = cons_has i n (Pool x) (Pool y) [] [] (λ z. z) m

  has_pool_back : (i n : ℕ) (nd : Bool) (p left : Option P) → HoldsPool nd p → Has {S = Slot B P} i (pool_part n (pool_left nd p left)) → Has {S = Slot B P} i (pool_part n p)
  has_pool_back i n false p left held m = m
  has_pool_back i n true None left held m = absurd held
  has_pool_back i n true (Some x) None held m = m
  has_pool_back i n true (Some x) (Some y) held m = cons_has i n (Pool y) (Pool x) [] [] (λ z. z) m

  pool_cells : (n : ℕ) (p : Option P) (rows : List B) (pool : P) → length rows ≡ n → PoolIs p pool → (i : ℕ) (x : Slot B P) → In (i, x) (pool_part n p) → get_elem? (line rows pool) i ≡ some x
  pool_cells n None rows pool l pi i x m = absurd m
  pool_cells n (Some y) rows pool l pi i x m =
      ⊎_elim (λ (e : (i, x) ≡ (n, Pool y)). ap (λ (z : ℕ × Slot B P). get_elem? (line rows pool) z.0) e ∙ ap (λ (z : ℕ). get_elem? (line rows pool) z) (sym l) ∙ pool_cell rows pool ∙ ap (λ (z : P). pool_there z) pi ∙ ap (λ (z : ℕ × Slot B P). some z.1) (sym e)) (λ (e : ⊥). absurd e) m

  -- what is held of a state that has it
  held_cells : (n : ℕ) (r : Option (ℕ × B)) (p : Option P) (rows : List B) (pool : P) → length rows ≡ n → RowIs r rows → PoolIs p pool → (i : ℕ) (x : Slot B P) → In (i, x) (held_of n r p) → get_elem? (line rows pool) i ≡ some x
  held_cells n None p rows pool l ri pi i x m = pool_cells n p rows pool l pi i x m
  held_cells n (Some r) p rows pool l ri pi i x m =
      ⊎_elim (λ (e : (i, x) ≡ (r.0, Row r.1)). ap (λ (z : ℕ × Slot B P). get_elem? (line rows pool) z.0) e ∙ row_cell rows pool r.0 r.1 ri ∙ ap (λ (z : ℕ × Slot B P). some z.1) (sym e)) (λ (o : In (i, x) (pool_part n p)). pool_cells n p rows pool l pi i x o) m

  not_row : (n i : ℕ) (r : Option (ℕ × B)) (p : Option P) → ¬ (Has {S = Slot B P} i (held_of n r p)) → NotRow i r
  not_row n i None p absent = tt
  not_row n i (Some r) p absent = λ e. absent (Row r.1, inl (λ t. (e t, Row r.1)))

  in_pool : (n : ℕ) (r : Option (ℕ × B)) (p : P) → In (n, Pool p) (held_of {B = B} n r (Some p))
  in_pool n None p = inl refl
  in_pool n (Some r) p = inr (inl refl)

  not_pool : (n : ℕ) (r : Option (ℕ × B)) (p : Option P) → ¬ (Has {S = Slot B P} n (held_of n r p)) → p ≡ None
  not_pool n r None absent = refl
  not_pool n r (Some p) absent = absurd (absent (Pool p, in_pool n r p))

  pub row_is : (n : ℕ) (r : Option (ℕ × B)) (p : Option P) (rows : List B) (pool : P) → length rows ≡ n → RowNear n r → ((i : ℕ) (x : Slot B P) → In (i, x) (held_of n r p) → get_elem? (line rows pool) i ≡ some x) → RowIs r rows
  row_is n None p rows pool l near f = tt
  row_is n (Some r) p rows pool l near f = row_back rows pool r.0 r.1 (omega (arith, l, near)) (f r.0 (Row r.1) (inl refl))

  pub pool_is : (n : ℕ) (r : Option (ℕ × B)) (p : Option P) (rows : List B) (pool : P) → length rows ≡ n → ((i : ℕ) (x : Slot B P) → In (i, x) (held_of n r p) → get_elem? (line rows pool) i ≡ some x) → PoolIs p pool
  pool_is n r None rows pool l f = tt
  pool_is n r (Some y) rows pool l f = pool_back rows pool y (ap (λ (z : ℕ). get_elem? (line rows pool) z) l ∙ f n (Pool y) (in_pool n r y))

module _ {B P Q R : Type 0} (row : Q → Option ℕ) (needs : Q → Option B → Bool) (does : Q → Option B → Option P → ℕ → Done B P R) where
  pub length_after : (t : Contents B P) (qs : List Q) → length (after (effect row needs does) t qs).rows ≡ length t.rows
  length_after t [] = refl
  length_after t (q ∷ qs) = length_after (effect row needs does q t) qs ∙ length_rows (row q) (done row needs does q t).bucket t.rows

  abbrev then_of : Q → Contents B P → Option B → Option P → Contents B P
  then_of q t bk po = contents (rows_after (row q) (does q bk po t.count).bucket t.rows) (pool_after (needs q bk) (does q bk po t.count).pool t.pool) (counted (does q bk po t.count).change t.count)

  module _ (n : ℕ) (t : Contents B P) (q : Q) (r : Option (ℕ × B)) (p : Option P) (long : length t.rows ≡ n) (hr : HoldsRow (row q) r) (hp : HoldsPool (needs q (bucket_held (row q) r)) p) (ri : RowIs r t.rows) (pi : PoolIs p t.pool) where
    pub done_same : done row needs does q t ≡ done_on row needs does q r p t.count
    done_same = ap (λ (bk : Option B). does q bk (pool_for (needs q bk) t.pool) t.count) (bucket_same (row q) r t.rows hr ri)
        ∙ ap (λ (po : Option P). does q (bucket_held (row q) r) po t.count) (pool_same (needs q (bucket_held (row q) r)) p t.pool hp pi)

    effect_is : effect row needs does q t ≡ then_of q t (bucket_held (row q) r) (pool_held (needs q (bucket_held (row q) r)) p)
    effect_is = ap (λ (bk : Option B). then_of q t bk (pool_for (needs q bk) t.pool)) (bucket_same (row q) r t.rows hr ri)
        ∙ ap (λ (po : Option P). then_of q t (bucket_held (row q) r) po) (pool_same (needs q (bucket_held (row q) r)) p t.pool hp pi)

    pub touched : Touched (effect row needs does) cells count_of q (held_of n r p) (held_of n (row_then row needs does q r p t.count) (pool_then row needs does q r p t.count)) t
    touched =
        let nd = needs q (bucket_held (row q) r) in
        let d : Done B P R = done_on row needs does q r p t.count in
        record {
          else_same = λ i absent. ap (λ (z : Contents B P). get_elem? (cells z) i) effect_is ∙ else_cell (rows_after (row q) d.bucket t.rows) t.rows (pool_after nd d.pool t.pool) t.pool i (length_rows (row q) d.bucket t.rows)
              (rows_same (row q) r d.bucket t.rows i hr (not_row n i r p absent)) (λ e. pool_stays nd p d.pool t.pool hp (not_pool n r p (λ m. absent (subst (λ (z : ℕ). Has z (held_of n r p)) (sym (e ∙ length_rows (row q) d.bucket t.rows ∙ long)) m))));
          value = λ i x m. (
            ap (λ (z : Contents B P). get_elem? (cells z) i) effect_is
                ∙ held_cells n (row_left (row q) r d.bucket) (pool_left nd p d.pool) (rows_after (row q) d.bucket t.rows) (pool_after nd d.pool t.pool) (length_rows (row q) d.bucket t.rows ∙ long) (rows_now (row q) r d.bucket t.rows hr ri) (pool_now nd p d.pool t.pool hp pi) i x m,
            has_row_back i (row q) r d.bucket (pool_part n p) (pool_part n (pool_left nd p d.pool)) hr (has_pool_back i n nd p d.pool hp) (x, m),
          );
          keeps_all = λ i m. has_row i (row q) r d.bucket (pool_part n p) (pool_part n (pool_left nd p d.pool)) hr (has_pool i n nd p d.pool hp) m;
        }

  -- the number that the word gets
  pub new_number : (ch : Change) (l c old new : ℕ) → old ≡ l * 2097152 + c → Counts ch c → new ≡ counted ch (old + 2097152) → new ≡ suc l * 2097152 + counted ch c
  new_number Same l c old new e b is = omega (arith, e, is)
  new_number More l c old new e b is = omega (arith, e, is)
  new_number Less l c old new e b is = let low = b.0 in omega (arith, e, is, low)

  pub count_small : (ch : Change) (c : ℕ) → Counts ch c → c ≤ 1048576
  count_small Same c b = b
  count_small More c b = omega (arith, b)
  count_small Less c b = b.1

  pub touches : (start : Contents B P) (n old new : ℕ) (q : Q) (r : Option (ℕ × B)) (p : Option P) (ch : Change) → length start.rows ≡ n → RowNear n r → HoldsRow (row q) r → HoldsPool (needs q (bucket_held (row q) r)) p
      → ((c : ℕ) → (done_on row needs does q r p c).change ≡ ch) → ((qs : List Q) → Counts (done row needs does q (after (effect row needs does) start qs)).change (after (effect row needs does) start qs).count)
      → new ≡ counted ch (old + 2097152)
      → Touches (effect row needs does) cells count_of start q (held_of n r p) (held_of n (row_then row needs does q r p (old % 2097152)) (pool_then row needs does q r p (old % 2097152))) old new
  touches start n old new q r p ch long near hr hp change counts is qs e f =
      let t : Contents B P = after (effect row needs does) start qs in
      let l : length t.rows ≡ n = length_after start qs ∙ long in
      let ri = row_is n r p t.rows t.pool l near f in
      let pi = pool_is n r p t.rows t.pool l f in
      let change_is : (done row needs does q t).change ≡ ch = ap (λ (d : Done B P R). d.change) (done_same n t q r p l hr hp ri pi) ∙ change t.count in
      let b : Counts ch t.count = subst (λ (z : Change). Counts z t.count) change_is (counts qs) in
      let small : t.count ≤ 1048576 = count_small ch t.count b in
      let c : t.count ≡ old % 2097152 = omega (arith, e, small) in (
        subst (λ (z : ℕ). Touched (effect row needs does) cells count_of q (held_of n r p) (held_of n (row_then row needs does q r p z) (pool_then row needs does q r p z)) t) c (touched n t q r p l hr hp ri pi),
        new_number ch (length qs) t.count old new e b is ∙ (λ k. suc (length qs) * 2097152 + counted (sym change_is k) t.count),
      )

  -- the number of rows is what the changes make of the first
  pub count_is : (t : Contents B P) (qs : List Q) → (left_by row needs does t qs).count ≡ counted_all (changes_of row needs does t qs) t.count
  count_is t [] = refl
  count_is t (q ∷ qs) = count_is (effect row needs does q t) qs

  -- a history with its replies is legal, and so it is with the next call's reply
  pub legal_next : (t : Contents B P) (qs : List Q) (q : Q) (r : R) → (done row needs does q (left_by row needs does t qs)).reply ≡ r → Legal row needs does t (told row needs does t qs ++ (q, r) ∷ [])
  legal_next t [] q r is = (is, tt)
  legal_next t (x ∷ qs) q r is = (refl, legal_next (effect row needs does x t) qs q r is)
