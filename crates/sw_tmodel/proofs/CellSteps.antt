use Rattle.std.proofs.Common.{◌≡◌, ℕ, zero, suc, ◌+◌, ◌<◌, ◌≤◌, Bool, true, false, ◌&&◌, List, [], ◌∷◌, ◌++◌, length, map, take, drop, set, get_or, Option, Some, None, refl, ap, sym, ◌∙◌, subst, arith, add-one, eq-eqb, true≢false}
use Rattle.std.specs.Prelude.{ℤ, pos, slice_get, IsTrue, option_and_then}
use Rattle.std.specs.List.{list_all}
use Rattle.std.proofs.lemmas.List.{at_drop_more, drop_all, take_all, length-map}
use Rattle.std.proofs.lemmas.List.Sums.{sum_by-cons}
use Rattle.std.proofs.lemmas.Bool.{eqb-true}
use Rattle.sw_base.specs.declared.table.Value.{Value}
use Rattle.sw_base.specs.declared.table.Value.TheVariants as values
use Rattle.sw_base.specs.declared.table.CallFault.{CallFault}
use Rattle.sw_column.specs.declared.column.Column.{Column}
use Rattle.sw_column.specs.declared.column.Kind.{Kind}
use Rattle.sw_column.specs.declared.column.Kind.TheVariants as kinds
use Rattle.sw_column.specs.declared.cell.Cell.{Cell}
use Rattle.sw_column.specs.declared.cell.Cell.TheVariants.{Int, Text}
use Rattle.sw_column.specs.Columns.{place, column_of, is_column, is_name, is_size, width, row_width}
use Rattle.sw_column.specs.Fit.{value_fault, at_column, or_else, pairs_fault}
use Rattle.sw_column.specs.Values.{is_of_kind, HasKinds, blank, blank_value}
use Rattle.sw_column.specs.Room.{Room}
use Rattle.sw_column.specs.Cells.{cell_value, blank_cell, blanked, is_int, is_text}
use Rattle.sw_table_laws.specs.Rows.{cut_at_size, size_in, written_at, with_value, with_pairs, number_in, number_at, number_of}
use Rattle.sw_tmodel.specs.PlainRows.{is_cell, AreCells, IsPlaceFor, cell_with}
use Rattle.sw_table_laws.proofs.RowLaws.{place_within, column_there}

no : {X : Type 0} → IsTrue false → X
no h = absurd (true≢false (sym h))

-- ---- cells of columns

pub are_length : (cs : List Column) (cells : List Cell) → AreCells cs cells → length cells ≡ length cs
are_length [] [] h = refl
are_length [] (x ∷ xs) h = absurd h
are_length (c ∷ cs) [] h = absurd h
are_length (c ∷ cs) (x ∷ xs) h = ap suc (are_length cs xs h.1)

cell_kept : (k : Kind) (size : ℕ) (x : Cell) (v : Value) → IsTrue (is_cell k size x) → IsTrue (is_cell k size (cell_with x v))
cell_kept kinds.Int size (Int m) (values.Int n) h = refl
cell_kept kinds.Int size (Int m) (values.Text t) h = refl
cell_kept kinds.Int size (Text t) v h = no h
cell_kept kinds.Text size (Int m) v h = no h
cell_kept kinds.Text size (Text t) (values.Int n) h = h
cell_kept kinds.Text size (Text t) (values.Text s) h = h
cell_kept kinds.Float size x v h = no h

cell_shown : (k : Kind) (size : ℕ) (x : Cell) (v : Value) → IsTrue (is_cell k size x) → value_fault k size v ≡ None → cell_value (cell_with x v) ≡ cut_at_size size v
cell_shown kinds.Int size (Int m) (values.Int n) h e = refl
cell_shown kinds.Int size (Int m) (values.Text t) h e = absurd (cc)
cell_shown kinds.Int size (Text t) v h e = no h
cell_shown kinds.Text size (Int m) v h e = no h
cell_shown kinds.Text size (Text t) (values.Int n) h e = absurd (cc)
cell_shown kinds.Text size (Text t) (values.Text s) h e = ap (λ n. values.Text (take n s)) (eqb-true t.room size h)
cell_shown kinds.Float size x v h e = no h

put_kept : (cs : List Column) (cells : List Cell) (at : ℕ) (old : Cell) (v : Value) → AreCells cs cells → old ≡ get_or cells at old → AreCells cs (set cells at (cell_with old v))
put_kept [] [] at old v h is = h
put_kept [] (x ∷ xs) at old v h is = absurd h
put_kept (c ∷ cs) [] at old v h is = absurd h
put_kept (c ∷ cs) (x ∷ xs) zero old v h is = (cell_kept c.kind c.size old v (subst (λ (y : Cell). IsTrue (is_cell c.kind c.size y)) (sym is) h.0), h.1)
put_kept (c ∷ cs) (x ∷ xs) (suc at) old v h is = (h.0, put_kept cs xs at old v h.1 is)

put_shown : (cs : List Column) (cells : List Cell) (at : ℕ) (c : Column) (old : Cell) (v : Value) → AreCells cs cells → slice_get cs at ≡ Some c → old ≡ get_or cells at old → value_fault c.kind c.size v ≡ None
    → map cell_value (set cells at (cell_with old v)) ≡ set (map cell_value cells) at (cut_at_size c.size v)
put_shown [] cells at c old v h e is f = absurd (cc)
put_shown (d ∷ cs) [] at c old v h e is f = absurd h
put_shown (d ∷ cs) (x ∷ xs) zero c old v h e is f =
    let same : c ≡ d = cc in
    let cell : IsTrue (is_cell c.kind c.size old) = subst (λ (y : Cell). IsTrue (is_cell c.kind c.size y)) (sym is) (subst (λ (y : Column). IsTrue (is_cell y.kind y.size x)) (sym same) h.0) in
    ap (λ w. w ∷ map cell_value xs) (cell_shown c.kind c.size old v cell f)
put_shown (d ∷ cs) (x ∷ xs) (suc at) c old v h e is f = ap (λ ws. cell_value x ∷ ws) (put_shown cs xs at c old v h.1 e is f)

-- a value was written in the cell of its column
pub put_step_kept : (cs : List Column) (cells : List Cell) (at : ℕ) (old new : Cell) (v : Value) → AreCells cs cells → old ≡ get_or cells at old → new ≡ cell_with old v → AreCells cs (set cells at new)
put_step_kept cs cells at old new v h is made = rw made (put_kept cs cells at old v h is)

pub put_step : (cs : List Column) (cells : List Cell) (name : List ℕ) (at : ℕ) (old new : Cell) (v : Value) → AreCells cs cells → Some at ≡ place cs name → old ≡ get_or cells at old → new ≡ cell_with old v → at_column (column_of cs name) v ≡ None
    → map cell_value (set cells at new) ≡ with_value cs (map cell_value cells) name v
put_step cs cells name at old new v h here is made fit =
    let there = column_there cs at (place_within cs name at (sym here)) in
    let fit_here : at_column (slice_get cs at) v ≡ None = subst (λ (o : Option ℕ). at_column (option_and_then (slice_get cs) o) v ≡ None) (sym here) fit in
    let none : value_fault there.0.kind there.0.size v ≡ None = subst (λ (o : Option Column). at_column o v ≡ None) there.1 fit_here in
    let sized : size_in (slice_get cs at) ≡ there.0.size = ap size_in there.1 in
    ap (λ (x : Cell). map cell_value (set cells at x)) made
    ∙ put_shown cs cells at there.0 old v h there.1 is none
    ∙ ap (λ n. set (map cell_value cells) at (cut_at_size n v)) (sym sized)
    ∙ ap (λ (o : Option ℕ). written_at cs (map cell_value cells) o v) here

pub put_none : (cs : List Column) (cells : List Cell) (name : List ℕ) (v : Value) → None ≡ place cs name → map cell_value cells ≡ with_value cs (map cell_value cells) name v
put_none cs cells name v here = ap (λ (o : Option ℕ). written_at cs (map cell_value cells) o v) here

-- ---- pairs

both_none : (f rest : Option CallFault) → or_else f rest ≡ None → (f ≡ None) × (rest ≡ None)
both_none None rest e = (refl, e)
both_none (Some f) rest e = absurd (cc)

pub pairs_fit : (cs : List Column) (ps : List (List ℕ × Value)) (i : ℕ) (name : List ℕ) (p : List ℕ × Value) → i < length ps → p ≡ get_or ps i p → name ≡ p.0 → pairs_fault cs (drop i ps) ≡ None
    → (at_column (column_of cs name) p.1 ≡ None) × (pairs_fault cs (drop (i + 1) ps) ≡ None)
unfolding pairs_fault
pairs_fit cs ps i name p lt is named so_far =
    let step : pairs_fault cs (drop i ps) ≡ or_else (at_column (column_of cs (get_or ps i p).0) (get_or ps i p).1) (pairs_fault cs (drop (i + 1) ps)) = at_drop_more (pairs_fault cs) ps i p lt in
    let here : pairs_fault cs (drop i ps) ≡ or_else (at_column (column_of cs p.0) p.1) (pairs_fault cs (drop (i + 1) ps)) = rw (← is) at step in
    let parts = both_none (at_column (column_of cs p.0) p.1) (pairs_fault cs (drop (i + 1) ps)) (sym here ∙ so_far) in
    (ap (λ (n : List ℕ). at_column (column_of cs n) p.1) named ∙ parts.0, parts.1)

pub pairs_step : (cs : List Column) (row new : List Value) (ps : List (List ℕ × Value)) (i : ℕ) (name : List ℕ) (p : List ℕ × Value) (total : List Value) → i < length ps → p ≡ get_or ps i p → name ≡ p.0
    → new ≡ with_value cs row name p.1 → with_pairs cs row (drop i ps) ≡ total → with_pairs cs new (drop (i + 1) ps) ≡ total
unfolding with_pairs
pairs_step cs row new ps i name p total lt is named made so_far =
    let step : with_pairs cs row (drop i ps) ≡ with_pairs cs (with_value cs row (get_or ps i p).0 (get_or ps i p).1) (drop (i + 1) ps) = at_drop_more (with_pairs cs row) ps i p lt in
    let here : with_pairs cs row (drop i ps) ≡ with_pairs cs (with_value cs row p.0 p.1) (drop (i + 1) ps) = rw (← is) at step in
    ap (λ (r : List Value). with_pairs cs r (drop (i + 1) ps)) (made ∙ ap (λ (n : List ℕ). with_value cs row n p.1) named) ∙ sym here ∙ so_far

pub pairs_end : (cs : List Column) (row : List Value) (ps : List (List ℕ × Value)) (i : ℕ) (total : List Value) → length ps ≤ i → with_pairs cs row (drop i ps) ≡ total → row ≡ total
unfolding with_pairs
pairs_end cs row ps i total le so_far = rw (drop_all i ps le) at so_far

-- ---- numbers

slice_shown : (cells : List Cell) (at : ℕ) (x : Cell) → at < length cells → x ≡ get_or cells at x → slice_get (map cell_value cells) at ≡ Some (cell_value x)
slice_shown [] at x lt is = absurd (omega (arith, lt))
slice_shown (y ∷ ys) zero x lt is = ap (λ (c : Cell). Some (cell_value c)) (sym is)
slice_shown (y ∷ ys) (suc at) x lt is = slice_shown ys at x (omega arith) is

pub number_step : (cs : List Column) (cells : List Cell) (name : List ℕ) (at : ℕ) (x : Cell) (n : ℤ) → at < length cells → Some at ≡ place cs name → x ≡ get_or cells at x → n ≡ number_in (Some (cell_value x)) → n ≡ number_of cs (map cell_value cells) name
number_step cs cells name at x n lt here is made = made ∙ ap number_in (sym (slice_shown cells at x lt is)) ∙ ap (number_at (map cell_value cells)) here

pub number_none : (cs : List Column) (cells : List Cell) (name : List ℕ) → None ≡ place cs name → pos 0 ≡ number_of cs (map cell_value cells) name
number_none cs cells name here = ap (number_at (map cell_value cells)) here

-- ---- showing

int_kind : (k : Kind) (size : ℕ) (n : ℤ) (v : Value) → IsTrue (is_cell k size (Int n)) → IsTrue (is_of_kind k v) → IsTrue (is_int (Some v))
int_kind kinds.Int size n (values.Int m) h w = refl
int_kind kinds.Int size n (values.Text t) h w = no w
int_kind kinds.Text size n v h w = no h
int_kind kinds.Float size n v h w = no h

text_kind : (k : Kind) (size : ℕ) (t : Room) (v : Value) → IsTrue (is_cell k size (Text t)) → IsTrue (is_of_kind k v) → IsTrue (is_text (Some v))
text_kind kinds.Int size t v h w = no h
text_kind kinds.Text size t (values.Int m) h w = no w
text_kind kinds.Text size t (values.Text s) h w = refl
text_kind kinds.Float size t v h w = no h

text_size : (k : Kind) (size : ℕ) (t : Room) → IsTrue (is_cell k size (Text t)) → (t.room + 2 ≡ width k size)
text_size kinds.Int size t h = no h
text_size kinds.Text size t h = ap (λ n. n + 2) (eqb-true t.room size h)
text_size kinds.Float size t h = no h

-- no text of a row is longer than 1,022 bytes
pub room_bound : (cs : List Column) (cells : List Cell) (at : ℕ) (t : Room) → AreCells cs cells → row_width cs ≤ 1024 → at < length cells → Text t ≡ get_or cells at (Text t) → t.room ≤ 1022
room_bound cs [] at t h w lt is = absurd (omega (arith, lt))
room_bound [] (x ∷ xs) at t h w lt is = absurd h
room_bound (c ∷ cs) (x ∷ xs) zero t h w lt is =
    let size : t.room + 2 ≡ width c.kind c.size = text_size c.kind c.size t (subst (λ (y : Cell). IsTrue (is_cell c.kind c.size y)) (sym is) h.0) in
    let sum : row_width (c ∷ cs) ≡ width c.kind c.size + row_width cs = sum_by-cons (λ (d : Column). width d.kind d.size) c cs in
    omega arith
room_bound (c ∷ cs) (x ∷ xs) (suc at) t h w lt is =
    let sum : row_width (c ∷ cs) ≡ width c.kind c.size + row_width cs = sum_by-cons (λ (d : Column). width d.kind d.size) c cs in
    room_bound cs xs at t h.1 (omega arith) (omega arith) is

place_kind : (k : Kind) (size : ℕ) (x : Cell) (v : Value) → IsTrue (is_cell k size x) → IsTrue (is_of_kind k v) → width k size ≤ 1024 → IsPlaceFor x (Some v)
place_kind k size (Int n) v h w le = int_kind k size n v h w
place_kind k size (Text t) v h w le = let room : t.room + 2 ≡ width k size = text_size k size t h in (text_kind k size t v h w, omega arith)

-- each cell finds its place in a buffer of the columns
pub place_for : (cs : List Column) (cells : List Cell) (row : List Value) (at : ℕ) (x : Cell) → AreCells cs cells → HasKinds cs row → row_width cs ≤ 1024 → at < length cells → x ≡ get_or cells at x → IsPlaceFor x (slice_get row at)
place_for cs [] row at x h w le lt is = absurd (omega (arith, lt))
place_for [] (y ∷ ys) row at x h w le lt is = absurd h
place_for (c ∷ cs) (y ∷ ys) [] at x h w le lt is = absurd w
place_for (c ∷ cs) (y ∷ ys) (v ∷ vs) zero x h w le lt is =
    let sum : row_width (c ∷ cs) ≡ width c.kind c.size + row_width cs = sum_by-cons (λ (d : Column). width d.kind d.size) c cs in
    place_kind c.kind c.size x v (subst (λ (z : Cell). IsTrue (is_cell c.kind c.size z)) (sym is) h.0) w.0 (omega arith)
place_for (c ∷ cs) (y ∷ ys) (v ∷ vs) (suc at) x h w le lt is =
    let sum : row_width (c ∷ cs) ≡ width c.kind c.size + row_width cs = sum_by-cons (λ (d : Column). width d.kind d.size) c cs in
    place_for cs ys vs at x h.1 w.1 (omega arith) (omega arith) is

shown_kind : (k : Kind) (size : ℕ) (x : Cell) → IsTrue (is_cell k size x) → IsTrue (is_of_kind k (cell_value x))
shown_kind kinds.Int size (Int n) h = refl
shown_kind kinds.Int size (Text t) h = no h
shown_kind kinds.Text size (Int n) h = no h
shown_kind kinds.Text size (Text t) h = refl
shown_kind kinds.Float size x h = no h

pub keeps_kinds : (cs : List Column) (cells : List Cell) (row : List Value) (at : ℕ) (x : Cell) → AreCells cs cells → HasKinds cs row → x ≡ get_or cells at x → at < length cells → HasKinds cs (set row at (cell_value x))
keeps_kinds cs [] row at x h w is lt = absurd (omega (arith, lt))
keeps_kinds [] (y ∷ ys) row at x h w is lt = absurd h
keeps_kinds (c ∷ cs) (y ∷ ys) [] at x h w is lt = absurd w
keeps_kinds (c ∷ cs) (y ∷ ys) (v ∷ vs) zero x h w is lt = (shown_kind c.kind c.size x (subst (λ (z : Cell). IsTrue (is_cell c.kind c.size z)) (sym is) h.0), w.1)
keeps_kinds (c ∷ cs) (y ∷ ys) (v ∷ vs) (suc at) x h w is lt = (w.0, keeps_kinds cs ys vs at x h.1 w.1 is (omega arith))

pub kinds_length : (cs : List Column) (row : List Value) → HasKinds cs row → length row ≡ length cs
kinds_length [] [] w = refl
kinds_length [] (v ∷ vs) w = absurd w
kinds_length (c ∷ cs) [] w = absurd w
kinds_length (c ∷ cs) (v ∷ vs) w = ap suc (kinds_length cs vs w.1)

-- one value more is shown
pub shown_more : (row vs : List Value) (at : ℕ) (v : Value) → at < length row → length row ≡ length vs → take at row ≡ take at vs → slice_get vs at ≡ Some v → take (at + 1) (set row at v) ≡ take (at + 1) vs
shown_more [] vs at v lt len so_far is = absurd (omega (arith, lt))
shown_more (x ∷ xs) [] at v lt len so_far is = absurd (omega (arith, len))
shown_more (x ∷ xs) (y ∷ ys) zero v lt len so_far is = let same : y ≡ v = cc in ap (λ w. w ∷ []) (sym same)
shown_more (x ∷ xs) (y ∷ ys) (suc at) v lt len so_far is =
    let heads : x ≡ y = cc in
    let tails : take at xs ≡ take at ys = cc in
    let more : take (suc at) (set xs at v) ≡ take (suc at) ys = rw add-one at (shown_more xs ys at v (omega arith) (omega arith) tails is) in
    rw add-one (λ i. heads i ∷ more i)

pub shown_step : (cs : List Column) (cells : List Cell) (row : List Value) (at : ℕ) (x : Cell) → AreCells cs cells → HasKinds cs row → at < length cells → x ≡ get_or cells at x → take at row ≡ take at (map cell_value cells)
    → take (at + 1) (set row at (cell_value x)) ≡ take (at + 1) (map cell_value cells)
shown_step cs cells row at x h w lt is so_far =
    let a : length cells ≡ length cs = are_length cs cells h in
    let b : length row ≡ length cs = kinds_length cs row w in
    let m : length (map cell_value cells) ≡ length cells = length-map cells cell_value in
    shown_more row (map cell_value cells) at (cell_value x) (omega arith) (omega arith) so_far (slice_shown cells at x lt is)

pub shown_all : (cs : List Column) (cells : List Cell) (row : List Value) (at : ℕ) → AreCells cs cells → HasKinds cs row → length cells ≤ at → take at row ≡ take at (map cell_value cells) → row ≡ map cell_value cells
shown_all cs cells row at h w le so_far =
    let a : length cells ≡ length cs = are_length cs cells h in
    let b : length row ≡ length cs = kinds_length cs row w in
    let m : length (map cell_value cells) ≡ length cells = length-map cells cell_value in
    sym (take_all at row (omega arith)) ∙ so_far ∙ take_all at (map cell_value cells) (omega arith)

-- ---- blank cells

cell_of_blank : (k : Kind) (size : ℕ) → IsTrue (is_size k size) → IsTrue (is_cell k size (blank_cell k size))
cell_of_blank kinds.Int size s = refl
cell_of_blank kinds.Text size s = eq-eqb size size refl
cell_of_blank kinds.Float size s = no s

split : (a b : Bool) → IsTrue (a && b) → IsTrue a × IsTrue b
split true true h = (refl, refl)
split true false h = no h
split false b h = no h

pub are_blank : (cs : List Column) → IsTrue (list_all is_column cs) → AreCells cs (map (λ c. blank_cell c.kind c.size) cs)
are_blank [] s = tt
are_blank (c ∷ cs) s =
    let parts = split (is_column c) (list_all is_column cs) s in
    (cell_of_blank c.kind c.size (split (is_name c.name) (is_size c.kind c.size) parts.0).1, are_blank cs parts.1)

pub made_blank : (cs schema : List Column) (i : ℕ) (cells : List Cell) → cells ≡ map (λ c. blank_cell c.kind c.size) (take i cs) → length cs ≤ i → cs ≡ schema → IsTrue (list_all is_column schema) → AreCells schema cells
made_blank cs schema i cells is le same s =
    let whole : cells ≡ map (λ c. blank_cell c.kind c.size) schema = is ∙ ap (map (λ (c : Column). blank_cell c.kind c.size)) (take_all i cs le ∙ same) in
    subst (AreCells schema) (sym whole) (are_blank schema s)

blanked_kept : (k : Kind) (size : ℕ) (x : Cell) → IsTrue (is_cell k size x) → IsTrue (is_cell k size (blanked x))
blanked_kept kinds.Int size (Int m) h = refl
blanked_kept kinds.Int size (Text t) h = no h
blanked_kept kinds.Text size (Int m) h = no h
blanked_kept kinds.Text size (Text t) h = h
blanked_kept kinds.Float size x h = no h

pub are_blanked : (cs : List Column) (cells : List Cell) → AreCells cs cells → AreCells cs (map blanked cells)
are_blanked [] [] h = h
are_blanked [] (x ∷ xs) h = absurd h
are_blanked (c ∷ cs) [] h = absurd h
are_blanked (c ∷ cs) (x ∷ xs) h = (blanked_kept c.kind c.size x h.0, are_blanked cs xs h.1)

blanked_value : (k : Kind) (size : ℕ) (x : Cell) → IsTrue (is_cell k size x) → cell_value (blanked x) ≡ blank_value k
blanked_value kinds.Int size (Int m) h = refl
blanked_value kinds.Int size (Text t) h = no h
blanked_value kinds.Text size (Int m) h = no h
blanked_value kinds.Text size (Text t) h = refl
blanked_value kinds.Float size x h = no h

-- cells that were made blank show the row with which a missing key starts
pub shown_blanked : (cs : List Column) (cells : List Cell) → AreCells cs cells → map cell_value (map blanked cells) ≡ blank cs
shown_blanked [] [] h = refl
shown_blanked [] (x ∷ xs) h = absurd h
shown_blanked (c ∷ cs) [] h = absurd h
shown_blanked (c ∷ cs) (x ∷ xs) h = λ i. blanked_value c.kind c.size x h.0 i ∷ shown_blanked cs xs h.1 i

clear_at : (xs : List Cell) (i : ℕ) (x : Cell) → i < length xs → x ≡ get_or (map blanked (take i xs) ++ drop i xs) i x → set (map blanked (take i xs) ++ drop i xs) i (blanked x) ≡ map blanked (take (suc i) xs) ++ drop (suc i) xs
clear_at [] i x lt is = absurd (omega (arith, lt))
clear_at (y ∷ ys) zero x lt is = ap (λ (z : Cell). blanked z ∷ ys) is
clear_at (y ∷ ys) (suc i) x lt is = ap (λ zs. blanked y ∷ zs) (clear_at ys i x (omega arith) is)

-- one cell more is blank
pub clear_step : (xs now : List Cell) (i : ℕ) (x new : Cell) → i < length xs → now ≡ map blanked (take i xs) ++ drop i xs → x ≡ get_or now i x → new ≡ blanked x → set now i new ≡ map blanked (take (i + 1) xs) ++ drop (i + 1) xs
clear_step xs now i x new lt so_far is made =
    rw (add-one, so_far, made) (clear_at xs i x lt (is ∙ ap (λ (zs : List Cell). get_or zs i x) so_far))
