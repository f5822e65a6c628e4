-- Where a row is written, and what stands there then.
use Rattle.std.proofs.Common.{◌≡◌, ℕ, zero, suc, ◌+◌, ◌<◌, ◌≤◌, Bool, true, false, cond, List, [], ◌∷◌, length, take, Option, Some, None, refl, ap, sym, ◌∙◌, subst, arith}
use Rattle.std.specs.Prelude.{slice_get, slice_set, unwrap_or, IsTrue, IfSome, ℤ}
use Rattle.std.specs.FinMap as fin
use Rattle.std.specs.Str.{bytes_eq}
use Rattle.sw_base.specs.declared.table.Value.{Value}
use Rattle.sw_base.specs.declared.table.Value.TheVariants as values
use Rattle.sw_column.specs.declared.column.Column.{Column}
use Rattle.sw_column.specs.Columns.{place, column_of, IsSchema}
use Rattle.sw_column.specs.Fit.{is_key, at_column, value_fault}
use Rattle.sw_column.specs.declared.column.Kind.{Kind}
use Rattle.sw_column.specs.declared.column.Kind.TheVariants as kinds
use Rattle.sw_column.specs.Values.{blank, holds, is_of_kind, HasKinds, IsRow}
use Rattle.sw_table_laws.specs.Rows.{cut_at_size, size_in, written_at, with_value}
use Rattle.sw_table_laws.specs.Table.{State}
use Rattle.sw_table_laws.specs.Buckets.{row_in}
use Rattle.sw_table_laws.proofs.RowLaws.{value_holds, blank_row, column_there}
use Rattle.sw_table_laws.proofs.Maps.{same_state, get_inserted, eq_of}
use Rattle.sw_tmodel.proofs.PlaceLaws.{overwritten}
use Rattle.sw_row.specs.Layout.{column_size}
use Rattle.sw_row.specs.Packed.{Packed}
use Rattle.sw_chain.specs.Rows.{found, with_second}
use Rattle.sw_chain.specs.Rows as chain
use Rattle.sw_bucket.specs.Rows.{rows_by, row_at, IsPacked, IsBucket, IsPlaced, IsWritten}
use Rattle.sw_bucket.proofs.Listed.{stands_at, get_at, get_found, get_missing, one_bucket, one_rows, second_rows, second_bucket, value_rows, value_bucket, value_row, packed_at}

-- the row with which a missing key starts
abbrev pub fresh : List Column → List ℕ → Packed
fresh cs key = record { key = key; columns = cs; values = blank cs }

pub fresh_packed : (cs : List Column) (key : List ℕ) → IsSchema cs → IsTrue (is_key key) → IsPacked cs (fresh cs key)
fresh_packed cs key s valid = record { key = valid; columns = refl; fit = blank_row cs s.2 }

row_missing : (cs : List Column) (rows : List Packed) (key : List ℕ) → found rows key ≡ None → row_in cs (rows_by rows) key ≡ blank cs
row_missing cs rows key is = ap (λ (o : Option (List Value)). unwrap_or o (blank cs)) (get_missing rows key is)

row_found : (cs : List Column) (rows : List Packed) (key : List ℕ) (at : ℕ) → IsBucket cs rows → found rows key ≡ Some at → row_in cs (rows_by rows) key ≡ (row_at rows at).values
row_found cs rows key at b is = ap (λ (o : Option (List Value)). unwrap_or o (blank cs)) (get_found cs rows key at b is)

same_packed : (r : Packed) (k : List ℕ) (cs : List Column) (vs : List Value) → r.key ≡ k → r.columns ≡ cs → r.values ≡ vs → r ≡ record { key = k; columns = cs; values = vs }
same_packed r k cs vs a b c = λ i. record { key = a i; columns = b i; values = c i }

-- ---- the place of a key

pub placed_found : (cs : List Column) (rows : List Packed) (key : List ℕ) (at : ℕ) → IsBucket cs rows → found rows key ≡ Some at → IsPlaced cs rows key rows at
placed_found cs rows key at b is =
    let s = stands_at rows key at is in
    record {
      bucket = b;
      within = s.within;
      row = same_packed (row_at rows at) key cs (row_in cs (rows_by rows) key) s.named (packed_at cs rows at b.packed s.within).columns (sym (row_found cs rows key at b is));
      over = λ values. refl;
    }

pub placed_first : (cs : List Column) (rows : List Packed) (key : List ℕ) → IsSchema cs → IsTrue (is_key key) → rows ≡ [] → IsPlaced cs rows key (fresh cs key ∷ []) 0
placed_first cs rows key s valid none =
    let miss : found rows key ≡ None = ap (λ (xs : List Packed). found xs key) none in
    record {
      bucket = one_bucket cs (fresh cs key) (fresh_packed cs key s valid);
      within = omega arith;
      row = ap (λ (vs : List Value). record { key = key; columns = cs; values = vs }) (sym (row_missing cs rows key miss));
      over = λ values. ap (λ (m : State). fin.insert m key values) (one_rows rows (fresh cs key) none) ∙ overwritten (rows_by rows) key (blank cs) values;
    }

second_at : (rows : List Packed) (r : Packed) → 0 < length rows → (row_at (with_second rows r) 1 ≡ r) × (1 < length (with_second rows r))
second_at [] r some = absurd (omega (arith, some))
second_at (h ∷ rest) r some = (refl, omega arith)

pub placed_second : (cs : List Column) (rows : List Packed) (key : List ℕ) → IsSchema cs → IsTrue (is_key key) → IsBucket cs rows → 0 < length rows → found rows key ≡ None → IsPlaced cs rows key (with_second rows (fresh cs key)) 1
placed_second cs rows key s valid b some miss =
    let there = second_at rows (fresh cs key) some in
    record {
      bucket = second_bucket cs rows (fresh cs key) b some miss (fresh_packed cs key s valid);
      within = there.1;
      row = there.0 ∙ ap (λ (vs : List Value). record { key = key; columns = cs; values = vs }) (sym (row_missing cs rows key miss));
      over = λ values. ap (λ (m : State). fin.insert m key values) (second_rows rows (fresh cs key) some miss) ∙ overwritten (rows_by rows) key (blank cs) values;
    }

-- ---- writing a value

value_length : (rows : List Packed) (at column : ℕ) (v : Value) → length (chain.with_value rows at column v) ≡ length rows
value_length [] at column v = refl
value_length (r ∷ rows) zero column v = refl
value_length (r ∷ rows) (suc at) column v = ap suc (value_length rows at column v)

pub written_value : (cs : List Column) (rows : List Packed) (at column : ℕ) (c : Column) (v : Value) → IsBucket cs rows → at < length rows → slice_get cs column ≡ Some c → IsTrue (holds c.kind c.size v)
    → IsWritten cs rows at (slice_set (row_at rows at).values column v) (chain.with_value rows at column v)
written_value cs rows at column c v b lt is h =
    let len : length (chain.with_value rows at column v) ≡ length rows = value_length rows at column v in
    record {
      bucket = value_bucket cs rows at column c v b lt is h;
      within = omega (arith, len, lt);
      row = value_row rows at column v lt;
      rows = value_rows cs rows at column v b lt;
    }

written_cut : (cs : List Column) (row : List Value) (o : Option ℕ) (column : ℕ) (v : Value) → o ≡ Some column → written_at cs row o v ≡ slice_set row column (cut_at_size (size_in (slice_get cs column)) v)
written_cut cs row o column v e = ap (λ (p : Option ℕ). written_at cs row p v) e

-- a value that fits its column, as it is written
pub written_pair : (cs : List Column) (rows new : List Packed) (at column : ℕ) (c : Column) (name : List ℕ) (v w : Value) → IsBucket cs rows → at < length rows → place cs name ≡ Some column → slice_get cs column ≡ Some c
    → at_column (column_of cs name) v ≡ None → w ≡ cut_at_size c.size v → new ≡ chain.with_value rows at column w → IsWritten cs rows at (with_value cs (row_at rows at).values name v) new
written_pair cs rows new at column c name v w b lt stands is fit cut made =
    let col : column_of cs name ≡ Some c = ap (λ (p : Option ℕ). column_by cs p) stands ∙ is in
    let none : value_fault c.kind c.size v ≡ None = subst (λ (o : Option Column). at_column o v ≡ None) col fit in
    let ok : IsTrue (holds c.kind c.size w) = subst (λ (x : Value). IsTrue (holds c.kind c.size x)) (sym cut) (value_holds c.kind c.size v none) in
    let row : List Value = (row_at rows at).values in
    let vals : with_value cs row name v ≡ slice_set row column w = written_cut cs row (place cs name) column v stands ∙ ap (λ (o : Option Column). slice_set row column (cut_at_size (size_in o) v)) is ∙ ap (λ (x : Value). slice_set row column x) (sym cut) in
    subst (λ (xs : List Packed). IsWritten cs rows at (with_value cs row name v) xs) (sym made)
    (subst (λ (vs : List Value). IsWritten cs rows at vs (chain.with_value rows at column w)) (sym vals) (written_value cs rows at column c w b lt is ok))
  where
    column_by : List Column → Option ℕ → Option Column
    column_by xs None = None
    column_by xs (Some i) = slice_get xs i

-- ---- writing pairs

again : (s : State) (k : List ℕ) (v : List Value) → fin.get s k ≡ Some v → fin.insert s k v ≡ s
again s k v is = same_state _ _ (λ q. get_inserted s k v q ∙ by (bytes_eq q k) q refl)
  where
    by : (b : Bool) (q : List ℕ) → bytes_eq q k ≡ b → cond b (Some v) (fin.get s q) ≡ fin.get s q
    by true q e = sym (ap (fin.get s) (eq_of q k e) ∙ is)
    by false q e = refl

-- writing what stands there already changes nothing
pub written_none : (cs : List Column) (rows : List Packed) (at : ℕ) → IsBucket cs rows → at < length rows → IsWritten cs rows at (row_at rows at).values rows
written_none cs rows at b lt = record {
  bucket = b;
  within = lt;
  row = refl;
  rows = sym (again (rows_by rows) (row_at rows at).key (row_at rows at).values (get_at cs rows at b lt));
}

pub written_more : (cs : List Column) (rows mid new : List Packed) (at : ℕ) (vs ws : List Value) → IsWritten cs rows at vs mid → IsWritten cs mid at ws new → IsWritten cs rows at ws new
written_more cs rows mid new at vs ws a b = record {
  bucket = b.bucket;
  within = b.within;
  row = b.row ∙ ap (λ (r : Packed). record r { values = ws }) a.row;
  rows = b.rows ∙ ap (λ (r : Packed). fin.insert (rows_by mid) r.key ws) a.row ∙ ap (λ (m : State). fin.insert m (row_at rows at).key ws) a.rows ∙ overwritten (rows_by rows) (row_at rows at).key vs ws;
}

-- ---- as the functions write

by_column : (P : Column → Type 0) (o : Option Column) (c : Column) → o ≡ Some c → IfSome o P → P c
by_column P None c e h = absurd (cc)
by_column P (Some d) c e h = let same : d ≡ c = cc in subst P same h

-- a number that fits was written
pub written_number : (cs : List Column) (rows new : List Packed) (at column : ℕ) (n : ℤ) → IsBucket cs rows → at < length rows → column < length cs → IfSome (slice_get cs column) (λ c. IsTrue (holds c.kind c.size (values.Int n)))
    → new ≡ chain.with_value rows at column (values.Int n) → IsWritten cs rows at (slice_set (row_at rows at).values column (values.Int n)) new
written_number cs rows new at column n b lt near fit made =
    let there = column_there cs column near in
    subst (λ (xs : List Packed). IsWritten cs rows at (slice_set (row_at rows at).values column (values.Int n)) xs) (sym made)
    (written_value cs rows at column there.0 (values.Int n) b lt there.1 (by_column (λ c. IsTrue (holds c.kind c.size (values.Int n))) (slice_get cs column) there.0 there.1 fit))

pub pair_int : (cs : List Column) (rows new : List Packed) (at column : ℕ) (name : List ℕ) (v : Value) (n : ℤ) → IsBucket cs rows → at < length rows → place cs name ≡ Some column → column < length cs → at_column (column_of cs name) v ≡ None → v ≡ values.Int n
    → new ≡ chain.with_value rows at column (values.Int n) → IsWritten cs rows at (with_value cs (row_at rows at).values name v) new
pair_int cs rows new at column name v n b lt stands near fit is made =
    let there = column_there cs column near in
    written_pair cs rows new at column there.0 name v (values.Int n) b lt stands there.1 fit (sym (ap (cut_at_size there.0.size) is)) made

pub pair_text : (cs : List Column) (rows new : List Packed) (at column : ℕ) (name : List ℕ) (v : Value) (t : List ℕ) → IsBucket cs rows → at < length rows → place cs name ≡ Some column → column < length cs → at_column (column_of cs name) v ≡ None → v ≡ values.Text t
    → new ≡ chain.with_value rows at column (values.Text (take (column_size (slice_get cs column)) t)) → IsWritten cs rows at (with_value cs (row_at rows at).values name v) new
pair_text cs rows new at column name v t b lt stands near fit is made =
    let there = column_there cs column near in
    written_pair cs rows new at column there.0 name v (values.Text (take there.0.size t)) b lt stands there.1 fit (sym (ap (cut_at_size there.0.size) is))
    (made ∙ ap (λ (o : Option Column). chain.with_value rows at column (values.Text (take (column_size o) t))) there.1)

-- ---- the values of a new row

kind_held : (k : Kind) (size : ℕ) (v : Value) → IsTrue (holds k size v) → IsTrue (is_of_kind k v)
kind_held kinds.Int size (values.Int n) h = refl
kind_held kinds.Int size (values.Text t) h = h
kind_held kinds.Text size (values.Int n) h = h
kind_held kinds.Text size (values.Text t) h = refl
kind_held kinds.Float size v h = h

pub row_kinds : (cs : List Column) (vs : List Value) → IsRow cs vs → HasKinds cs vs
row_kinds [] [] r = tt
row_kinds [] (v ∷ vs) r = r
row_kinds (c ∷ cs) [] r = r
row_kinds (c ∷ cs) (v ∷ vs) r = (kind_held c.kind c.size v r.0, row_kinds cs vs r.1)
