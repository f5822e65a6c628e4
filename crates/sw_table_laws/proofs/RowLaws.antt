use Rattle.std.proofs.Common.{◌≡◌, ℕ, zero, suc, ◌*◌, ◌-◌, ◌^◌, ◌<◌, ◌≤◌, Bool, true, false, cond, ◌&&◌, List, [], ◌∷◌, length, take, set, Option, Some, None, refl, ap, sym, subst, arith, true≢false}
use Rattle.std.specs.Prelude.{nat_lt, nat_le, ℤ, slice_get, IsTrue, IsSome, option_and_then}
use Rattle.std.proofs.Math.Pow.{pow_pos}
use Rattle.std.specs.List.{position_or_len, list_all}
use Rattle.std.specs.Str.{bytes_eq}
use Rattle.std.proofs.lemmas.Bool.Decides.{nat_tests}
use Rattle.sw_base.specs.declared.table.Value.{Value}
use Rattle.sw_base.specs.declared.table.Value.TheVariants as values
use Rattle.sw_base.specs.declared.table.CallFault.{CallFault}
use Rattle.sw_base.specs.declared.table.CallFault.TheVariants.{Range}
use Rattle.sw_column.specs.declared.column.Column.{Column}
use Rattle.sw_column.specs.declared.column.Kind.{Kind}
use Rattle.sw_column.specs.declared.column.Kind.TheVariants.{Int, Text, Float}
use Rattle.sw_column.specs.Columns.{place, column_of, is_column, is_name, is_size}
use Rattle.sw_column.specs.Fit.{fits, value_fault, at_column, or_else, pairs_fault, counter_fault, counter_kind}
use Rattle.sw_column.specs.Values.{holds, IsRow, blank, blank_value}
use Rattle.sw_table_laws.specs.Rows.{cut_at_size, size_in, size_of, written_at, with_value, with_pairs, number_in, number_at, number_of}

-- ---- where a column stands

told : (t : Bool) (x at n : ℕ) → nat_lt x n ≡ t → cond t (Some x) None ≡ Some at → at < n
told true x at n is e = let same : x ≡ at = cc in grind (arith, nat_tests)
told false x at n is e = absurd (cc)

pub place_within : (cs : List Column) (name : List ℕ) (at : ℕ) → place cs name ≡ Some at → at < length cs
place_within cs name at e = told (nat_lt (position_or_len (λ c. bytes_eq c.name name) cs) (length cs)) (position_or_len (λ c. bytes_eq c.name name) cs) at (length cs) refl e

pub column_there : (cs : List Column) (at : ℕ) → at < length cs → (c : Column) × (slice_get cs at ≡ Some c)
column_there [] at lt = absurd (omega (arith, lt))
column_there (c ∷ cs) zero lt = (c, refl)
column_there (c ∷ cs) (suc at) lt = column_there cs at (omega arith)

-- ---- rows

pub row_length : (cs : List Column) (row : List Value) → IsRow cs row → length row ≡ length cs
row_length [] [] r = refl
row_length [] (v ∷ vs) r = absurd r
row_length (c ∷ cs) [] r = absurd r
row_length (c ∷ cs) (v ∷ vs) r = ap suc (row_length cs vs r.1)

pub row_set : (cs : List Column) (row : List Value) (at : ℕ) (c : Column) (v : Value) → IsRow cs row → slice_get cs at ≡ Some c → IsTrue (holds c.kind c.size v) → IsRow cs (set row at v)
row_set [] row at c v r e h = absurd (cc)
row_set (d ∷ cs) [] at c v r e h = absurd r
row_set (d ∷ cs) (w ∷ row) zero c v r e h = let same : c ≡ d = cc in (subst (λ (x : Column). IsTrue (holds x.kind x.size v)) same h, r.1)
row_set (d ∷ cs) (w ∷ row) (suc at) c v r e h = (r.0, row_set cs row at c v r.1 e h)

small : (n m : ℕ) → n ≤ m → IsTrue (nat_le n m)
small n m le = grind (arith, nat_tests)

taken : (size : ℕ) (t : List ℕ) → length (take size t) ≤ size
taken zero t = omega arith
taken (suc size) [] = omega arith
taken (suc size) (b ∷ bs) = let rest = taken size bs in omega arith

number_holds : (f : Bool) → cond f None (Some Range) ≡ None → IsTrue f
number_holds true e = refl
number_holds false e = absurd (cc)

pub value_holds : (k : Kind) (size : ℕ) (v : Value) → value_fault k size v ≡ None → IsTrue (holds k size (cut_at_size size v))
value_holds Int size (values.Int n) e = number_holds (fits size n) e
value_holds Int size (values.Text t) e = absurd (cc)
value_holds Text size (values.Int n) e = absurd (cc)
value_holds Text size (values.Text t) e = small (length (take size t)) size (taken size t)
value_holds Float size v e = absurd (cc)

-- a value that fits its column is written
written : (cs : List Column) (row : List Value) (o : Option ℕ) (v : Value) → IsRow cs row → ((at : ℕ) → o ≡ Some at → at < length cs) → at_column (option_and_then (slice_get cs) o) v ≡ None → IsRow cs (written_at cs row o v)
written cs row None v r lt e = r
written cs row (Some at) v r lt e =
    let there = column_there cs at (lt at refl) in
    let none : value_fault there.0.kind there.0.size v ≡ None = subst (λ (o : Option Column). at_column o v ≡ None) there.1 e in
    let sized : size_in (slice_get cs at) ≡ there.0.size = ap size_in there.1 in
    rw sized (row_set cs row at there.0 (cut_at_size there.0.size v) r there.1 (value_holds there.0.kind there.0.size v none))

pub value_written : (cs : List Column) (row : List Value) (name : List ℕ) (v : Value) → IsRow cs row → at_column (column_of cs name) v ≡ None → IsRow cs (with_value cs row name v)
value_written cs row name v r e = written cs row (place cs name) v r (λ at is. place_within cs name at is) e

first_none : (f rest : Option CallFault) → or_else f rest ≡ None → (f ≡ None) × (rest ≡ None)
first_none None rest e = (refl, e)
first_none (Some f) rest e = absurd (cc)

pub pairs_written : (cs : List Column) (row : List Value) (ps : List (List ℕ × Value)) → IsRow cs row → pairs_fault cs ps ≡ None → IsRow cs (with_pairs cs row ps)
unfolding with_pairs pairs_fault
pairs_written cs row [] r e = r
pairs_written cs row (p ∷ ps) r e =
    let both = first_none (at_column (column_of cs p.0) p.1) (pairs_fault cs ps) e in
    pairs_written cs (with_value cs row p.0 p.1) ps (value_written cs row p.0 p.1 r both.0) both.1

kind_counts : (k : Kind) (size : ℕ) (n : ℤ) → counter_kind k ≡ None → fits size n ≡ true → value_fault k size (values.Int n) ≡ None
kind_counts Int size n e f = ap (λ (b : Bool). cond b None (Some Range)) f
kind_counts Text size n e f = absurd (cc)
kind_counts Float size n e f = absurd (cc)

column_counts : (o : Option Column) (n : ℤ) → counter_fault o ≡ None → fits (size_in o) n ≡ true → at_column o (values.Int n) ≡ None
column_counts None n e f = absurd (cc)
column_counts (Some c) n e f = kind_counts c.kind c.size n e f

pub number_written : (cs : List Column) (row : List Value) (name : List ℕ) (n : ℤ) → IsRow cs row → counter_fault (column_of cs name) ≡ None → fits (size_of cs name) n ≡ true → IsRow cs (with_value cs row name (values.Int n))
number_written cs row name n r e f = value_written cs row name (values.Int n) r (column_counts (column_of cs name) n e f)

-- ---- the row with which a missing key starts

positive : (n : ℕ) → IsTrue (nat_lt 0 (2 ^ n))
positive n = let h : 0 < 2 ^ n = pow_pos n in grind (arith, nat_tests)

blank_holds : (k : Kind) (size : ℕ) → IsTrue (is_size k size) → IsTrue (holds k size (blank_value k))
blank_holds Int size s = positive (8 * size - 1)
blank_holds Text size s = small 0 size (omega arith)
blank_holds Float size s = absurd (cc)

first_true : (a b : Bool) → IsTrue (a && b) → IsTrue a × IsTrue b
first_true true true h = (refl, refl)
first_true true false h = absurd (cc)
first_true false b h = absurd (cc)

pub blank_row : (cs : List Column) → IsTrue (list_all is_column cs) → IsRow cs (blank cs)
blank_row [] s = tt
blank_row (c ∷ cs) s =
    let both = first_true (is_column c) (list_all is_column cs) s in
    (blank_holds c.kind c.size (first_true (is_name c.name) (is_size c.kind c.size) both.0).1, blank_row cs both.1)

-- ---- a number that was written is read

pub get_set : {X : Type 0} (xs : List X) (i : ℕ) (v : X) → i < length xs → slice_get (set xs i v) i ≡ Some v
get_set [] i v lt = absurd (omega (arith, lt))
get_set (x ∷ xs) zero v lt = refl
get_set (x ∷ xs) (suc i) v lt = get_set xs i v (omega arith)

number_back : (cs : List Column) (row : List Value) (o : Option ℕ) (n : ℤ) → ((at : ℕ) → o ≡ Some at → at < length row) → IsSome o → number_at (written_at cs row o (values.Int n)) o ≡ n
number_back cs row None n lt s = absurd (true≢false (sym s))
number_back cs row (Some at) n lt s = ap number_in (get_set row at (values.Int n) (lt at refl))

pub number_read : (cs : List Column) (row : List Value) (name : List ℕ) (n : ℤ) → length row ≡ length cs → IsSome (place cs name) → number_of cs (with_value cs row name (values.Int n)) name ≡ n
number_read cs row name n len s = number_back cs row (place cs name) n (λ at is. rw len (place_within cs name at is)) s
