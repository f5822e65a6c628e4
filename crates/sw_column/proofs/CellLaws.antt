use Rattle.std.proofs.Common.{◌≡◌, ℕ, zero, suc, ◌≤◌, Bool, true, false, ◌&&◌, List, [], ◌∷◌, length, map, take, set, get_or, Some, refl, ap, sym, ◌∙◌, subst, true≢false}
use Rattle.std.specs.Prelude.{ℤ, slice_get, IsTrue}
use Rattle.std.specs.List.{list_all}
use Rattle.std.proofs.lemmas.Bool.{eqb-true}
use Rattle.std.proofs.lemmas.List.{take_all}
use Rattle.sw_base.specs.declared.table.Value.{Value}
use Rattle.sw_base.specs.declared.table.Value.TheVariants as values
use Rattle.sw_column.specs.declared.column.Column.{Column}
use Rattle.sw_column.specs.declared.column.Kind.{Kind}
use Rattle.sw_column.specs.declared.column.Kind.TheVariants as kinds
use Rattle.sw_column.specs.declared.cell.Cell.{Cell}
use Rattle.sw_column.specs.declared.cell.Cell.TheVariants.{Int, Text}
use Rattle.sw_column.specs.Columns.{is_column, is_name, is_size}
use Rattle.sw_column.specs.Values.{HasKinds, is_of_kind, blank_value, blank}
use Rattle.sw_column.specs.Cells.{cell_value, blank_cell, with_int, with_text, is_roomy, is_int, is_text}

both : (a b : Bool) → IsTrue (a && b) → IsTrue a × IsTrue b
both true true h = (refl, refl)
both true false h = absurd (true≢false (sym h))
both false b h = absurd (true≢false (sym h))

joined : (a b : Bool) → IsTrue a → IsTrue b → IsTrue (a && b)
joined true b h k = k
joined false b h k = absurd (true≢false (sym h))

-- ---- a buffer that was just made

roomy_cell : (k : Kind) → IsTrue (is_roomy (blank_cell k 1022))
roomy_cell kinds.Int = refl
roomy_cell kinds.Text = refl
roomy_cell kinds.Float = refl

pub roomy_made : (cs : List Column) → IsTrue (list_all is_roomy (map (λ c. blank_cell c.kind 1022) cs))
roomy_made [] = refl
roomy_made (c ∷ cs) = joined _ _ (roomy_cell c.kind) (roomy_made cs)

shown_cell : (k : Kind) (room : ℕ) → cell_value (blank_cell k room) ≡ blank_value k
shown_cell kinds.Int room = refl
shown_cell kinds.Text room = refl
shown_cell kinds.Float room = refl

pub shown_made : (cs : List Column) → map cell_value (map (λ c. blank_cell c.kind 1022) cs) ≡ blank cs
shown_made [] = refl
shown_made (c ∷ cs) = λ i. shown_cell c.kind 1022 i ∷ shown_made cs i

pub made_roomy : (cs : List Column) (i : ℕ) (cells : List Cell) → cells ≡ map (λ c. blank_cell c.kind 1022) (take i cs) → length cs ≤ i → IsTrue (list_all is_roomy cells)
made_roomy cs i cells is le =
    let whole : cells ≡ map (λ c. blank_cell c.kind 1022) cs = is ∙ ap (map (λ (c : Column). blank_cell c.kind 1022)) (take_all i cs le) in
    subst (λ (xs : List Cell). IsTrue (list_all is_roomy xs)) (sym whole) (roomy_made cs)

pub made_shown : (cs schema : List Column) (i : ℕ) (cells : List Cell) → cells ≡ map (λ c. blank_cell c.kind 1022) (take i cs) → length cs ≤ i → cs ≡ schema → map cell_value cells ≡ blank schema
made_shown cs schema i cells is le same =
    let whole : cells ≡ map (λ c. blank_cell c.kind 1022) cs = is ∙ ap (map (λ (c : Column). blank_cell c.kind 1022)) (take_all i cs le) in
    ap (map cell_value) whole ∙ shown_made cs ∙ ap blank same

blank_kind : (k : Kind) (size : ℕ) → IsTrue (is_size k size) → IsTrue (is_of_kind k (blank_value k))
blank_kind kinds.Int size s = refl
blank_kind kinds.Text size s = refl
blank_kind kinds.Float size s = absurd (true≢false (sym s))

-- 0 and empty texts are of the columns' kinds
blank_kinds : (cs : List Column) → IsTrue (list_all is_column cs) → HasKinds cs (blank cs)
blank_kinds [] s = tt
blank_kinds (c ∷ cs) s =
    let parts = both (is_column c) (list_all is_column cs) s in
    (blank_kind c.kind c.size (both (is_name c.name) (is_size c.kind c.size) parts.0).1, blank_kinds cs parts.1)

pub made_kinds : (cs schema : List Column) (i : ℕ) (cells : List Cell) → cells ≡ map (λ c. blank_cell c.kind 1022) (take i cs) → length cs ≤ i → cs ≡ schema → IsTrue (list_all is_column schema) → HasKinds schema (map cell_value cells)
made_kinds cs schema i cells is le same s = subst (HasKinds schema) (sym (made_shown cs schema i cells is le same)) (blank_kinds schema s)

-- ---- a cell that was written

pub set_roomy : (cells : List Cell) (at : ℕ) (old new : Cell) → old ≡ get_or cells at old → (IsTrue (is_roomy old) → IsTrue (is_roomy new)) → IsTrue (list_all is_roomy cells) → IsTrue (list_all is_roomy (set cells at new))
set_roomy [] at old new is keep h = h
set_roomy (c ∷ cs) zero old new is keep h = let parts = both _ _ h in joined _ _ (keep (subst (λ (x : Cell). IsTrue (is_roomy x)) (sym is) parts.0)) parts.1
set_roomy (c ∷ cs) (suc at) old new is keep h = let parts = both _ _ h in joined _ _ parts.0 (set_roomy cs at old new is keep parts.1)

pub int_roomy : (c : Cell) (n : ℤ) → IsTrue (is_roomy c) → IsTrue (is_roomy (with_int c n))
int_roomy (Int m) n h = refl
int_roomy (Text t) n h = h

pub text_roomy : (c : Cell) (text : List ℕ) → IsTrue (is_roomy c) → IsTrue (is_roomy (with_text c text))
text_roomy (Int m) text h = refl
text_roomy (Text t) text h = h

int_shown : (c : Cell) (n : ℤ) → IsTrue (is_int (Some (cell_value c))) → cell_value (with_int c n) ≡ values.Int n
int_shown (Int m) n h = refl
int_shown (Text t) n h = absurd (true≢false (sym h))

int_at : (cells : List Cell) (at : ℕ) (old : Cell) (n : ℤ) → old ≡ get_or cells at old → IsTrue (is_int (slice_get (map cell_value cells) at)) → map cell_value (set cells at (with_int old n)) ≡ set (map cell_value cells) at (values.Int n)
int_at [] at old n is h = absurd (true≢false (sym h))
int_at (c ∷ cs) zero old n is h = ap (λ v. v ∷ map cell_value cs) (ap (λ (x : Cell). cell_value (with_int x n)) is ∙ int_shown c n h)
int_at (c ∷ cs) (suc at) old n is h = ap (λ vs. cell_value c ∷ vs) (int_at cs at old n is h)

-- what a buffer shows after a number was written
pub int_set : (cells : List Cell) (at : ℕ) (old new : Cell) (n : ℤ) (row : List Value) → map cell_value cells ≡ row → old ≡ get_or cells at old → new ≡ with_int old n → IsTrue (is_int (slice_get row at)) → map cell_value (set cells at new) ≡ set row at (values.Int n)
int_set cells at old new n row view is made h =
    rw (made, ← view) (int_at cells at old n is (subst (λ (r : List Value). IsTrue (is_int (slice_get r at))) (sym view) h))

text_shown : (c : Cell) (text : List ℕ) → IsTrue (is_roomy c) → IsTrue (is_text (Some (cell_value c))) → length text ≤ 1022 → cell_value (with_text c text) ≡ values.Text text
text_shown (Int m) text room h short = absurd (true≢false (sym h))
text_shown (Text t) text room h short =
    let whole : t.room ≡ 1022 = eqb-true t.room 1022 room in
    ap values.Text (ap (λ n. take n text) whole ∙ take_all 1022 text short)

text_at : (cells : List Cell) (at : ℕ) (old : Cell) (text : List ℕ) → IsTrue (list_all is_roomy cells) → old ≡ get_or cells at old → IsTrue (is_text (slice_get (map cell_value cells) at)) → length text ≤ 1022
    → map cell_value (set cells at (with_text old text)) ≡ set (map cell_value cells) at (values.Text text)
text_at [] at old text room is h short = absurd (true≢false (sym h))
text_at (c ∷ cs) zero old text room is h short =
    ap (λ v. v ∷ map cell_value cs) (ap (λ (x : Cell). cell_value (with_text x text)) is ∙ text_shown c text (both _ _ room).0 h short)
text_at (c ∷ cs) (suc at) old text room is h short = ap (λ vs. cell_value c ∷ vs) (text_at cs at old text (both _ _ room).1 is h short)

-- what a buffer shows after a text was written
pub text_set : (cells : List Cell) (at : ℕ) (old new : Cell) (text : List ℕ) (row : List Value) → IsTrue (list_all is_roomy cells) → map cell_value cells ≡ row → old ≡ get_or cells at old → new ≡ with_text old text
    → IsTrue (is_text (slice_get row at)) → length text ≤ 1022 → map cell_value (set cells at new) ≡ set row at (values.Text text)
text_set cells at old new text row room view is made h short =
    rw (made, ← view) (text_at cells at old text room is (subst (λ (r : List Value). IsTrue (is_text (slice_get r at))) (sym view) h) short)
