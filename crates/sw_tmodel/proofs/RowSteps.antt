use Rattle.std.proofs.Common.{◌≡◌, ℕ, zero, suc, ◌+◌, ◌-◌, ◌<◌, ◌≤◌, Bool, true, false, cond, List, [], ◌∷◌, ◌++◌, length, map, take, drop, set, get_or, Option, Some, None, refl, ap, sym, ◌∙◌, subst, arith, length-append}
use Rattle.std.specs.Prelude.{slice_get, unwrap_or, remove, All}
use Rattle.std.specs.Option.{option_map}
use Rattle.std.specs.Ordering.{nat_cmp, eq_by_cmp}
use Rattle.std.specs.Cmp.Lexicographic.{slice_cmp, same_text, texts_ties}
use Rattle.std.specs.FinMap.{find}
use Rattle.std.specs.Str.{bytes_eq}
use Rattle.std.proofs.lemmas.List.{at_drop_more, drop_all, take_all, take-map, drop-map, map-append, take-append-le, length-take-le}
use Rattle.std.proofs.lemmas.List.Elements.{All-append, All-take, All-drop}
use Rattle.sw_base.specs.declared.table.Value.{Value}
use Rattle.sw_column.specs.declared.column.Column.{Column}
use Rattle.sw_column.specs.Cells.{cell_value}
use Rattle.sw_tmodel.specs.declared.plain_row.PlainRow.{PlainRow}
use Rattle.sw_tmodel.specs.PlainRows.{IsShaped, entry_of, IsAt, row_at, key_at, with_row}

abbrev Entry : Type 0
Entry = List ℕ × List Value

-- ---- finding a row

passed : (e : Bool) (x : List Value) (rest : Option (List Value)) → e ≡ false → cond e (Some x) rest ≡ rest
passed e x rest is = rw is refl

pub find_next : (rows : List PlainRow) (key : List ℕ) (at : ℕ) (r : PlainRow) → at < length rows → r ≡ get_or rows at r → bytes_eq key r.key.text ≡ false
    → find (slice_cmp nat_cmp) key (map entry_of rows) ≡ find (slice_cmp nat_cmp) key (map entry_of (drop at rows))
    → find (slice_cmp nat_cmp) key (map entry_of rows) ≡ find (slice_cmp nat_cmp) key (map entry_of (drop (at + 1) rows))
find_next rows key at r lt is other so_far =
    let step : find (slice_cmp nat_cmp) key (map entry_of (drop at rows)) ≡ find (slice_cmp nat_cmp) key (map entry_of (get_or rows at r ∷ drop (at + 1) rows)) = at_drop_more (λ (xs : List PlainRow). find (slice_cmp nat_cmp) key (map entry_of xs)) rows at r lt in
    let here : find (slice_cmp nat_cmp) key (map entry_of (drop at rows)) ≡ find (slice_cmp nat_cmp) key (map entry_of (r ∷ drop (at + 1) rows)) = step ∙ ap (λ (x : PlainRow). find (slice_cmp nat_cmp) key (map entry_of (x ∷ drop (at + 1) rows))) (sym is) in
    so_far ∙ here ∙ passed (eq_by_cmp (slice_cmp nat_cmp) key r.key.text) (map cell_value r.cells.items) (find (slice_cmp nat_cmp) key (map entry_of (drop (at + 1) rows))) (sym (texts_ties key r.key.text) ∙ other)

pub find_done : (rows : List PlainRow) (key : List ℕ) (at : ℕ) → length rows ≤ at → find (slice_cmp nat_cmp) key (map entry_of rows) ≡ find (slice_cmp nat_cmp) key (map entry_of (drop at rows)) → find (slice_cmp nat_cmp) key (map entry_of rows) ≡ None
find_done rows key at le so_far = so_far ∙ ap (λ (xs : List PlainRow). find (slice_cmp nat_cmp) key (map entry_of xs)) (drop_all at rows le)

entry_at : (rows : List PlainRow) (at : ℕ) (r : PlainRow) → at < length rows → r ≡ get_or rows at r → slice_get (map entry_of rows) at ≡ Some (entry_of r)
entry_at [] at r lt is = absurd (omega (arith, lt))
entry_at (x ∷ xs) zero r lt is = ap (λ (y : PlainRow). Some (entry_of y)) (sym is)
entry_at (x ∷ xs) (suc at) r lt is = entry_at xs at r (omega arith) is

pub found_at : (rows : List PlainRow) (key : List ℕ) (at : ℕ) (r : PlainRow) → at < length rows → r ≡ get_or rows at r → bytes_eq key r.key.text ≡ true → IsAt (map entry_of rows) at key
found_at rows key at r lt is same =
    (map cell_value r.cells.items, entry_at rows at r lt is ∙ ap (λ (k : List ℕ). Some (k, map cell_value r.cells.items)) (sym (same_text key r.key.text (sym same))))

-- ---- writing into a row

-- the list that shows a row that was changed
pub row_put : (rows : List PlainRow) (len at : ℕ) (old new : PlainRow) (row : List Value) → at < len → old ≡ get_or rows at old → entry_of new ≡ ((entry_of old).0, row)
    → map entry_of (take len (set rows at new)) ≡ set (map entry_of (take len rows)) at ((entry_of old).0, row)
row_put rows zero at old new row lt is made = absurd (omega (arith, lt))
row_put [] (suc len) at old new row lt is made = refl
row_put (x ∷ xs) (suc len) zero old new row lt is made = ap (λ (e : Entry). e ∷ map entry_of (take len xs)) made
row_put (x ∷ xs) (suc len) (suc at) old new row lt is made = ap (λ es. entry_of x ∷ es) (row_put xs len at old new row (omega arith) is made)

shown_at : (rows : List PlainRow) (len at : ℕ) (old : PlainRow) → at < len → at < length rows → old ≡ get_or rows at old → slice_get (map entry_of (take len rows)) at ≡ Some (entry_of old)
shown_at rows zero at old lt within is = absurd (omega (arith, lt))
shown_at [] (suc len) at old lt within is = absurd (omega (arith, within))
shown_at (x ∷ xs) (suc len) zero old lt within is = ap (λ (y : PlainRow). Some (entry_of y)) (sym is)
shown_at (x ∷ xs) (suc len) (suc at) old lt within is = shown_at xs len at old (omega arith) (omega arith) is

pub key_shown : (rows : List PlainRow) (len at : ℕ) (old : PlainRow) → at < len → at < length rows → old ≡ get_or rows at old → key_at (map entry_of (take len rows)) at ≡ (entry_of old).0
key_shown rows len at old lt within is = ap (λ (o : Option Entry). unwrap_or (option_map (λ (e : Entry). e.0) o) []) (shown_at rows len at old lt within is)

pub row_shown : (rows : List PlainRow) (len at : ℕ) (old : PlainRow) → at < len → at < length rows → old ≡ get_or rows at old → row_at (map entry_of (take len rows)) at ≡ (entry_of old).1
row_shown rows len at old lt within is = ap (λ (o : Option Entry). unwrap_or (option_map (λ (e : Entry). e.1) o) []) (shown_at rows len at old lt within is)

-- a row that a function changed, as the list shows it
pub row_changed : (f : List Value → List Value) (rows : List PlainRow) (len at : ℕ) (old new : PlainRow) (es : List Entry) → map entry_of (take len rows) ≡ es → at < len → at < length rows → old ≡ get_or rows at old
    → entry_of new ≡ ((entry_of old).0, f (entry_of old).1) → map entry_of (take len (set rows at new)) ≡ with_row es at (f (row_at es at))
row_changed f rows len at old new es view lt within is made =
    row_put rows len at old new (f (entry_of old).1) lt is made
    ∙ ap (λ (k : List ℕ). set (map entry_of (take len rows)) at (k, f (entry_of old).1)) (sym (key_shown rows len at old lt within is))
    ∙ ap (λ (r : List Value). set (map entry_of (take len rows)) at (key_at (map entry_of (take len rows)) at, f r)) (sym (row_shown rows len at old lt within is))
    ∙ ap (λ (xs : List Entry). with_row xs at (f (row_at xs at))) view

first_len : (rows : List PlainRow) (len at : ℕ) → at < length (map entry_of (take len rows)) → (at < len) × (at < length rows)
first_len rows zero at lt = absurd (omega (arith, lt))
first_len [] (suc len) at lt = absurd (omega (arith, lt))
first_len (x ∷ xs) (suc len) zero lt = (omega arith, omega arith)
first_len (x ∷ xs) (suc len) (suc at) lt = let rest = first_len xs len at (omega arith) in (omega (arith, rest.0), omega (arith, rest.1))

-- a place of the list that is shown is one of the rows
pub place_shown : (rows : List PlainRow) (len at : ℕ) (es : List Entry) → map entry_of (take len rows) ≡ es → at < length es → (at < len) × (at < length rows)
place_shown rows len at es view lt = first_len rows len at (subst (λ (xs : List Entry). at < length xs) (sym view) lt)

-- ---- taking a row out

removed_shown : (rows : List PlainRow) (at : ℕ) → map entry_of (remove rows at) ≡ remove (map entry_of rows) at
removed_shown rows at =
    map-append entry_of (take at rows) (drop (suc at) rows) ∙ (λ i. sym (take-map entry_of at rows) i ++ sym (drop-map entry_of (suc at) rows) i)

front : (xs : List PlainRow) (m : ℕ) (x : PlainRow) (r : List PlainRow) → m ≤ length xs → take m ((take m xs ++ x ∷ []) ++ r) ≡ take m xs
front xs m x r le =
    let n : length (take m xs) ≡ m = length-take-le m xs le in
    let a : length (take m xs ++ x ∷ []) ≡ length (take m xs) + 1 = length-append (take m xs) (x ∷ []) in
    take-append-le m (take m xs ++ x ∷ []) r (omega arith) ∙ take-append-le m (take m xs) (x ∷ []) (omega arith) ∙ take_all m (take m xs) (omega arith)

moved : (rows : List PlainRow) (at m n : ℕ) → n ≡ at + m → n < length rows
    → take n (take at rows ++ ((drop 1 (take (suc m) (drop at rows)) ++ take 1 (take (suc m) (drop at rows))) ++ drop (suc m) (drop at rows))) ≡ remove (take (suc n) rows) at
moved [] at m n e lt = absurd (omega (arith, lt))
moved (x ∷ xs) zero m n e lt =
    let same : n ≡ m = omega arith in
    let P : ℕ → Type 0 = λ k. take k ((take m xs ++ x ∷ []) ++ drop m xs) ≡ take k xs in
    subst P (sym same) (front xs m x (drop m xs) (omega arith))
moved (x ∷ xs) (suc at) m zero e lt = absurd (omega (arith, e))
moved (x ∷ xs) (suc at) m (suc n) e lt = ap (λ (ys : List PlainRow). x ∷ ys) (moved xs at m n (omega arith) (omega arith))

-- the rows after one was moved behind the first len
pub moved_shown : (rows : List PlainRow) (at len k last : ℕ) (part : List PlainRow) → at < len → len ≤ length rows → k ≡ len - at → last ≡ len - 1 → part ≡ drop 1 (take k (drop at rows)) ++ take 1 (take k (drop at rows))
    → take last (take at rows ++ (part ++ drop k (drop at rows))) ≡ remove (take len rows) at
moved_shown rows at len k last part lt le ke le1 pe =
    let m : ℕ = len - at - 1 in
    let ks : k ≡ suc m = omega arith in
    let ls : suc last ≡ len = omega arith in
    let P : ℕ → Type 0 = λ j. take last (take at rows ++ ((drop 1 (take j (drop at rows)) ++ take 1 (take j (drop at rows))) ++ drop j (drop at rows))) ≡ remove (take len rows) at in
    let Q : ℕ → Type 0 = λ j. take last (take at rows ++ ((drop 1 (take (suc m) (drop at rows)) ++ take 1 (take (suc m) (drop at rows))) ++ drop (suc m) (drop at rows))) ≡ remove (take j rows) at in
    ap (λ (ys : List PlainRow). take last (take at rows ++ (ys ++ drop k (drop at rows)))) pe
    ∙ subst P (sym ks) (subst Q ls (moved rows at m last (omega arith) (omega arith)))

pub moved_shaped : (cs : List Column) (rows : List PlainRow) (at k : ℕ) (part : List PlainRow) → part ≡ drop 1 (take k (drop at rows)) ++ take 1 (take k (drop at rows)) → All (IsShaped cs) rows
    → All (IsShaped cs) (take at rows ++ (part ++ drop k (drop at rows)))
moved_shaped cs rows at k part pe all =
    let mid : All (IsShaped cs) (take k (drop at rows)) = All-take (IsShaped cs) k (drop at rows) (All-drop (IsShaped cs) at rows all) in
    let turned : All (IsShaped cs) part = subst (All (IsShaped cs)) (sym pe) (All-append (IsShaped cs) (drop 1 (take k (drop at rows))) (take 1 (take k (drop at rows))) (All-drop (IsShaped cs) 1 (take k (drop at rows)) mid) (All-take (IsShaped cs) 1 (take k (drop at rows)) mid)) in
    All-append (IsShaped cs) (take at rows) (part ++ drop k (drop at rows)) (All-take (IsShaped cs) at rows all)
    (All-append (IsShaped cs) part (drop k (drop at rows)) turned (All-drop (IsShaped cs) k (drop at rows) (All-drop (IsShaped cs) at rows all)))

-- the list that is shown once a row was taken out
pub row_removed : (rows new : List PlainRow) (len last at : ℕ) (es : List Entry) → map entry_of (take len rows) ≡ es → take last new ≡ remove (take len rows) at → map entry_of (take last new) ≡ remove es at
row_removed rows new len last at es view is = ap (map entry_of) is ∙ removed_shown (take len rows) at ∙ ap (λ (xs : List Entry). remove xs at) view

-- a vector whose elements were replaced by as many others
pub replaced : (n : ℕ) (xs ys : List PlainRow) → length xs ≡ n → take n (xs ++ drop (length xs) ys) ≡ xs
replaced n xs ys e = take-append-le n xs (drop (length xs) ys) (omega arith) ∙ take_all n xs (omega arith)
