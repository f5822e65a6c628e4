-- Filling the cells of a row from a buffer.
use Rattle.std.proofs.Common.{◌≡◌, ℕ, zero, suc, ◌+◌, ◌<◌, ◌≤◌, List, [], ◌∷◌, length, map, take, set, get_or, Some, refl, ap, sym, ◌∙◌, subst, arith, true≢false}
use Rattle.std.specs.Prelude.{slice_get, nat_le, IsTrue, false}
use Rattle.std.proofs.lemmas.List.{take_all, length-map}
use Rattle.std.proofs.lemmas.Bool.{eqb-true}
use Rattle.std.proofs.lemmas.Bool.Decides.{nat_tests}
use Rattle.sw_base.specs.declared.table.Value.{Value}
use Rattle.sw_base.specs.declared.table.Value.TheVariants as values
use Rattle.sw_column.specs.declared.column.Column.{Column}
use Rattle.sw_column.specs.declared.column.Kind.{Kind}
use Rattle.sw_column.specs.declared.column.Kind.TheVariants as kinds
use Rattle.sw_column.specs.declared.cell.Cell.{Cell}
use Rattle.sw_column.specs.declared.cell.Cell.TheVariants.{Int, Text}
use Rattle.sw_column.specs.Values.{IsRow, holds}
use Rattle.sw_column.specs.Cells.{cell_value}
use Rattle.sw_tmodel.specs.PlainRows.{is_cell, AreCells, cell_with}
use Rattle.sw_table_laws.proofs.RowLaws.{row_length}
use Rattle.sw_tmodel.proofs.CellSteps.{are_length, shown_more}

no : {X : Type 0} → IsTrue false → X
no h = absurd (true≢false (sym h))

all_of : (n : ℕ) (t : List ℕ) → IsTrue (nat_le (length t) n) → take n t ≡ t
all_of n t h = let le : length t ≤ n = grind (arith, nat_tests) in take_all n t le

-- a value that fits is kept whole
cell_holds : (k : Kind) (size : ℕ) (x : Cell) (v : Value) → IsTrue (is_cell k size x) → IsTrue (holds k size v) → cell_value (cell_with x v) ≡ v
cell_holds kinds.Int size (Int m) (values.Int n) c h = refl
cell_holds kinds.Int size (Int m) (values.Text t) c h = no h
cell_holds kinds.Int size (Text t) v c h = no c
cell_holds kinds.Text size (Int m) v c h = no c
cell_holds kinds.Text size (Text t) (values.Int n) c h = no h
cell_holds kinds.Text size (Text t) (values.Text s) c h = ap (λ n. values.Text (take n s)) (eqb-true t.room size c) ∙ ap values.Text (all_of size s h)
cell_holds kinds.Float size x v c h = no c

written : (cs : List Column) (cells : List Cell) (row : List Value) (at : ℕ) (old : Cell) (v : Value) → AreCells cs cells → IsRow cs row → at < length cells → old ≡ get_or cells at old → slice_get row at ≡ Some v
    → map cell_value (set cells at (cell_with old v)) ≡ set (map cell_value cells) at v
written cs [] row at old v h r lt is there = absurd (omega (arith, lt))
written [] (x ∷ xs) row at old v h r lt is there = absurd h
written (c ∷ cs) (x ∷ xs) [] at old v h r lt is there = absurd r
written (c ∷ cs) (x ∷ xs) (w ∷ row) zero old v h r lt is there =
    let same : w ≡ v = cc in
    let cell : IsTrue (is_cell c.kind c.size old) = subst (λ (y : Cell). IsTrue (is_cell c.kind c.size y)) (sym is) h.0 in
    let fit : IsTrue (holds c.kind c.size v) = subst (λ (y : Value). IsTrue (holds c.kind c.size y)) same r.0 in
    ap (λ y. y ∷ map cell_value xs) (cell_holds c.kind c.size old v cell fit)
written (c ∷ cs) (x ∷ xs) (w ∷ row) (suc at) old v h r lt is there = ap (λ ys. cell_value x ∷ ys) (written cs xs row at old v h.1 r.1 (omega arith) is there)

pub fill_more : (cs : List Column) (cells : List Cell) (row : List Value) (at : ℕ) (old new : Cell) (v : Value) → AreCells cs cells → IsRow cs row → at < length cells → old ≡ get_or cells at old → new ≡ cell_with old v → slice_get row at ≡ Some v
    → take at (map cell_value cells) ≡ take at row → take (at + 1) (map cell_value (set cells at new)) ≡ take (at + 1) row
fill_more cs cells row at old new v h r lt is made there so_far =
    let a : length cells ≡ length cs = are_length cs cells h in
    let b : length row ≡ length cs = row_length cs row r in
    let m : length (map cell_value cells) ≡ length cells = length-map cells cell_value in
    ap (λ (x : Cell). take (at + 1) (map cell_value (set cells at x))) made
    ∙ ap (take (at + 1)) (written cs cells row at old v h r lt is there)
    ∙ shown_more (map cell_value cells) row at v (omega (arith, m, lt)) (omega (arith, m, a, b)) so_far there

pub fill_done : (cs : List Column) (cells : List Cell) (row : List Value) (at : ℕ) → AreCells cs cells → IsRow cs row → length cells ≤ at → take at (map cell_value cells) ≡ take at row → map cell_value cells ≡ row
fill_done cs cells row at h r le so_far =
    let a : length cells ≡ length cs = are_length cs cells h in
    let b : length row ≡ length cs = row_length cs row r in
    let m : length (map cell_value cells) ≡ length cells = length-map cells cell_value in
    sym (take_all at (map cell_value cells) (omega (arith, m, le))) ∙ so_far ∙ take_all at row (omega (arith, a, b, le))
