-- Numbers and the columns that they fit.
use Rattle.std.proofs.Common.{◌≡◌, ℕ, zero, suc, ◌-◌, ◌*◌, ◌^◌, ◌<◌, ◌≤◌, Bool, true, false, ◌&&◌, List, [], ◌∷◌, Option, Some, None, refl, sym, subst, arith, true≢false, FitsSigned, w64}
use Rattle.std.specs.Prelude.{slice_get, nat_lt, option_and_then, IsTrue, ℤ, pos, negsuc}
use Rattle.std.specs.List.{list_all}
use Rattle.std.proofs.Math.Pow.{pow_mono}
use Rattle.std.proofs.lemmas.Bool.Decides.{nat_tests}
use Rattle.sw_base.specs.declared.table.Value.{Value}
use Rattle.sw_base.specs.declared.table.Reply.TheVariants.{Range}
use Rattle.sw_column.specs.declared.column.Column.{Column}
use Rattle.sw_column.specs.declared.column.Kind.{Kind}
use Rattle.sw_column.specs.declared.column.Kind.TheVariants as kinds
use Rattle.sw_column.specs.Columns.{place, column_of, is_size, is_name, is_column, IsSchema}
use Rattle.sw_column.specs.Fit.{fits, counter_fault, counter_kind}
use Rattle.sw_column.specs.Values.{blank, blank_value}
use Rattle.sw_table_laws.specs.Rows.{number_in, number_at, size_in, size_of}
use Rattle.sw_table_laws.specs.Table.{State, Shape, may_write, add, add_step, answers}

-- ---- the row with which a missing key starts has the number 0 in each column

zero_in : (k : Kind) → number_in (Some (blank_value k)) ≡ pos 0
zero_in kinds.Int = refl
zero_in kinds.Text = refl
zero_in kinds.Float = refl

zero_at : (cs : List Column) (at : ℕ) → number_in (slice_get (blank cs) at) ≡ pos 0
zero_at [] at = refl
zero_at (c ∷ cs) zero = zero_in c.kind
zero_at (c ∷ cs) (suc at) = zero_at cs at

pub zero_of : (cs : List Column) (o : Option ℕ) → number_at (blank cs) o ≡ pos 0
zero_of cs None = refl
zero_of cs (Some at) = zero_at cs at

-- ---- a number that doesn't fit 64 bits fits no column

small_size : (size : ℕ) → IsTrue (is_size kinds.Int size) → size ≤ 8
small_size size s = grind (arith, nat_tests)

below : (n size : ℕ) → size ≤ 8 → nat_lt n (2 ^ (8 * size - 1)) ≡ true → n < 2 ^ 63
below n size le is =
    let mono : 2 ^ (8 * size - 1) ≤ 2 ^ 63 = pow_mono {i = 8 * size - 1} {j = 63} (omega arith) in
    let lt : n < 2 ^ (8 * size - 1) = grind (arith, nat_tests) in
    omega arith

wide : (size : ℕ) (v : ℤ) → size ≤ 8 → fits size v ≡ true → FitsSigned w64 v
wide size (pos n) le is = record { sfits = below n size le is }
wide size (negsuc n) le is = record { sfits = below n size le is }

fits_not : (b : Bool) (size : ℕ) (v : ℤ) → size ≤ 8 → fits size v ≡ b → (FitsSigned w64 v → ⊥) → fits size v ≡ false
fits_not true size v le is out = absurd (out (wide size v le is))
fits_not false size v le is out = is

both : (a b : Bool) → IsTrue (a && b) → IsTrue a × IsTrue b
both true true h = (refl, refl)
both true false h = absurd (true≢false (sym h))
both false b h = absurd (true≢false (sym h))

all_at : (cs : List Column) (at : ℕ) (c : Column) → IsTrue (list_all is_column cs) → slice_get cs at ≡ Some c → IsTrue (is_column c)
all_at [] at c s is = absurd (cc)
all_at (d ∷ cs) zero c s is = let same : d ≡ c = cc in subst (λ (x : Column). IsTrue (is_column x)) same (both (is_column d) (list_all is_column cs) s).0
all_at (d ∷ cs) (suc at) c s is = all_at cs at c (both (is_column d) (list_all is_column cs) s).1 is

kind_size : (k : Kind) (size : ℕ) → counter_kind k ≡ None → IsTrue (is_size k size) → IsTrue (is_size kinds.Int size)
kind_size kinds.Int size e s = s
kind_size kinds.Text size e s = absurd (cc)
kind_size kinds.Float size e s = absurd (cc)

found_size : (cs : List Column) (o : Option Column) → counter_fault o ≡ None → ((c : Column) → o ≡ Some c → IsTrue (is_size c.kind c.size)) → IsTrue (is_size kinds.Int (size_in o))
found_size cs None e s = absurd (cc)
found_size cs (Some c) e s = kind_size c.kind c.size e (s c refl)

column_sound : (cs : List Column) (o : Option ℕ) (c : Column) → IsTrue (list_all is_column cs) → option_and_then (slice_get cs) o ≡ Some c → IsTrue (is_size c.kind c.size)
column_sound cs None c s is = absurd (cc)
column_sound cs (Some at) c s is = (both (is_name c.name) (is_size c.kind c.size) (all_at cs at c s is)).1

pub counter_size : (cs : List Column) (name : List ℕ) → IsSchema cs → counter_fault (column_of cs name) ≡ None → IsTrue (is_size kinds.Int (size_of cs name))
counter_size cs name schema fit = found_size cs (column_of cs name) fit (λ c is. column_sound cs (place cs name) c schema.2 is)

range_step : (f w : Bool) (s : State) (k : List ℕ) (row : List Value) (v : ℤ) → f ≡ false → add_step f w s k row v ≡ answers s Range
range_step true w s k row v e = absurd (true≢false e)
range_step false w s k row v e = refl

-- a sum that doesn't fit 64 bits is out of range
pub out_of_range : (t : Shape) (s : State) (k name : List ℕ) (v : ℤ) → IsSchema t.columns → counter_fault (column_of t.columns name) ≡ None → (FitsSigned w64 v → ⊥) → add t s k name v ≡ answers s Range
out_of_range t s k name v schema fit out =
    let size = small_size (size_of t.columns name) (counter_size t.columns name schema fit) in
    range_step (fits (size_of t.columns name) v) (may_write t s k) s k _ v (fits_not (fits (size_of t.columns name) v) (size_of t.columns name) v size refl out)
