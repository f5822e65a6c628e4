-- How rows are read, one after the other.
use Rattle.std.proofs.Common.{◌≡◌, ℕ, zero, suc, ◌+◌, ◌-◌, ◌<◌, ◌≤◌, Bool, true, false, cond, List, [], ◌∷◌, ◌++◌, map, length, get_or, drop, Option, Some, None, Result, Ok, Err, refl, ap, sym, ◌∙◌, subst, append_assoc, arith, length-append}
use Rattle.std.specs.Prelude.{slice_get, is_some, option_map, option_and_then}
use Rattle.std.proofs.lemmas.List.{append-nil, at_drop_more, drop_all}
use Rattle.std.proofs.lemmas.Option.{get_or_from_slice_get, slice_get_within}
use Rattle.sw_text.specs.Parts.{cut_at}
use Rattle.sw_base.specs.declared.table.Value.{Value}
use Rattle.sw_base.specs.declared.table.Call.{Call}
use Rattle.sw_column.specs.declared.column.Column.{Column}
use Rattle.sw_column.specs.Columns.{place}
use Rattle.sw_dump.specs.Grammar.{fit_value, in_front, values_for, row_of, risen, with_row, then_rows, rows_from, kept_first, kept, set_of}
use Rattle.sw_dump.specs.Reading.{kept_last, pairs_behind, call_key, last_key, IsNextRow, calls_behind}

abbrev pub Pair : Type 0
Pair = List ℕ × Value

abbrev pub Row : Type 0
Row = List ℕ × List Value

-- ---- the values of a row

-- the pairs that are kept of what is left
abbrev pub kept_of : List Column → List Column → Option (List ℕ) → Option (List Pair)
kept_of new cs o = option_map (kept new cs) (values_for cs o)

pub none_before : (o : Option (List Pair)) → pairs_behind [] o ≡ o
none_before None = refl
none_before (Some ps) = refl

keep_behind : (t : Bool) (ps : List Pair) (p : Pair) (o : Option (List Pair)) → pairs_behind (cond t (ps ++ p ∷ []) ps) o ≡ pairs_behind ps (option_map (kept_first t p) o)
keep_behind t ps p None = refl
keep_behind true ps p (Some qs) = ap (λ (xs : List Pair). Some xs) (append_assoc ps (p ∷ []) qs)
keep_behind false ps p (Some qs) = refl

kept_more : (new cs : List Column) (c : Column) (v : Value) (o : Option (List Value)) → option_map (kept_first (is_some (place new c.name)) (c.name, v)) (option_map (kept new cs) o) ≡ option_map (kept new (c ∷ cs)) (in_front (Some v) o)
unfolding kept
kept_more new cs c v None = refl
kept_more new cs c v (Some vs) = refl

value_next : (new cs : List Column) (c : Column) (v : Value) (text : List ℕ) → fit_value c (cut_at 32 text).0 ≡ Some v
    → option_map (kept_first (is_some (place new c.name)) (c.name, v)) (kept_of new cs (cut_at 32 text).1) ≡ kept_of new (c ∷ cs) (Some text)
unfolding values_for
value_next new cs c v text is = rw is (kept_more new cs c v (values_for cs (cut_at 32 text).1))

one_left : (old : List Column) (at : ℕ) (c : Column) → slice_get old at ≡ Some c → drop at old ≡ c ∷ drop (at + 1) old
one_left old at c is =
    let lt = slice_get_within old at c is in
    let here : get_or old at c ≡ c = get_or_from_slice_get old at c c is in
    let step : drop at old ≡ get_or old at c ∷ drop (at + 1) old = at_drop_more (λ (xs : List Column). xs) old at c lt in
    rw here at step

-- one value more
pub pairs_next : (new old : List Column) (at : ℕ) (c : Column) (v : Value) (ps : List Pair) (text piece : List ℕ) (after : Option (List ℕ)) (total : Option (List Pair)) → slice_get old at ≡ Some c → (piece, after) ≡ cut_at 32 text → Some v ≡ fit_value c piece
    → pairs_behind ps (kept_of new (drop at old) (Some text)) ≡ total → pairs_behind (kept_last new ps c v) (kept_of new (drop (at + 1) old) after) ≡ total
pairs_next new old at c v ps text piece after total is cut fit so_far =
    let front : piece ≡ (cut_at 32 text).0 = ap (λ (p : List ℕ × Option (List ℕ)). p.0) cut in
    let back : after ≡ (cut_at 32 text).1 = ap (λ (p : List ℕ × Option (List ℕ)). p.1) cut in
    let good : fit_value c (cut_at 32 text).0 ≡ Some v = ap (fit_value c) (sym front) ∙ sym fit in
    let here : kept_of new (drop at old) (Some text) ≡ kept_of new (c ∷ drop (at + 1) old) (Some text) = ap (λ (cs : List Column). kept_of new cs (Some text)) (one_left old at c is) in
    ap (λ (o : Option (List ℕ)). pairs_behind (kept_last new ps c v) (kept_of new (drop (at + 1) old) o)) back
    ∙ keep_behind (is_some (place new c.name)) ps (c.name, v) (kept_of new (drop (at + 1) old) (cut_at 32 text).1)
    ∙ ap (pairs_behind ps) (value_next new (drop (at + 1) old) c v text good ∙ sym here)
    ∙ so_far

no_value : (new cs : List Column) (c : Column) (text : List ℕ) → fit_value c (cut_at 32 text).0 ≡ None → kept_of new (c ∷ cs) (Some text) ≡ None
unfolding values_for
no_value new cs c text is = rw is refl

-- a value that doesn't fit
pub pairs_bad : (new old : List Column) (at : ℕ) (c : Column) (ps : List Pair) (text piece : List ℕ) (after : Option (List ℕ)) (total : Option (List Pair)) → slice_get old at ≡ Some c → (piece, after) ≡ cut_at 32 text → None ≡ fit_value c piece
    → pairs_behind ps (kept_of new (drop at old) (Some text)) ≡ total → None ≡ total
pairs_bad new old at c ps text piece after total is cut fit so_far =
    let front : piece ≡ (cut_at 32 text).0 = ap (λ (p : List ℕ × Option (List ℕ)). p.0) cut in
    let bad : fit_value c (cut_at 32 text).0 ≡ None = ap (fit_value c) (sym front) ∙ sym fit in
    let here : kept_of new (drop at old) (Some text) ≡ None = ap (λ (cs : List Column). kept_of new cs (Some text)) (one_left old at c is) ∙ no_value new (drop (at + 1) old) c text bad in
    sym (ap (pairs_behind ps) here) ∙ so_far

-- a value that is missing
pub pairs_short : (new old : List Column) (at : ℕ) (ps : List Pair) (total : Option (List Pair)) → at < length old → pairs_behind ps (kept_of new (drop at old) None) ≡ total → None ≡ total
unfolding values_for
pairs_short new [] at ps total lt so_far = absurd (omega (arith, lt))
pairs_short new (c ∷ old) zero ps total lt so_far = so_far
pairs_short new (c ∷ old) (suc at) ps total lt so_far = pairs_short new old at ps total (omega (arith, lt)) so_far

-- all values, and what stands behind them
pub pairs_done : (new old : List Column) (at : ℕ) (ps : List Pair) (total : Option (List Pair)) → length old ≤ at → pairs_behind ps (kept_of new (drop at old) None) ≡ total → Some ps ≡ total
unfolding values_for kept
pairs_done new old at ps total le so_far =
    let none = drop_all at old le in
    let end : pairs_behind ps (kept_of new [] None) ≡ total = rw none at so_far in
    ap (λ (xs : List Pair). Some xs) (sym (append-nil ps)) ∙ end

pub pairs_long : (new old : List Column) (at : ℕ) (ps : List Pair) (text : List ℕ) (total : Option (List Pair)) → length old ≤ at → pairs_behind ps (kept_of new (drop at old) (Some text)) ≡ total → None ≡ total
unfolding values_for
pairs_long new old at ps text total le so_far =
    let none = drop_all at old le in
    let end : pairs_behind ps (kept_of new [] (Some text)) ≡ total = rw none at so_far in
    end

-- ---- rows

last_is : (cs : List Call) (c : Call) → slice_get (cs ++ c ∷ []) (length cs) ≡ Some c
last_is [] c = refl
last_is (d ∷ cs) c = last_is cs c

pub last_key_is : (cs : List Call) (c : Call) → last_key (cs ++ c ∷ []) ≡ call_key c
last_key_is cs c =
    let len : length (cs ++ c ∷ []) - 1 ≡ length cs = omega (arith, length-append cs (c ∷ [])) in
    ap (λ (n : ℕ). option_and_then call_key (slice_get (cs ++ c ∷ []) n)) len ∙ ap (option_and_then call_key) (last_is cs c)

one_behind : (new old : List Column) (cs : List Call) (r : Row) (rest : Result (List Row) ℕ) → calls_behind new old (cs ++ set_of new old r ∷ []) rest ≡ calls_behind new old cs (with_row r rest)
one_behind new old cs r (Ok rows) = ap (λ (xs : List Call). Ok xs) (append_assoc cs (set_of new old r ∷ []) (map (set_of new old) rows))
one_behind new old cs r (Err n) = refl

abbrev left : List Column → List Column → List Call → ℕ → List (List ℕ) → Result (List Call) ℕ
left new old cs n ls = calls_behind new old cs (rows_from old (last_key cs) n ls)

row_next : (new old : List Column) (cs ds : List Call) (n : ℕ) (l : List ℕ) (ls : List (List ℕ)) (o : Option Row) → risen (last_key cs) (row_of old l) ≡ o → IsNextRow new old cs ds o true → left new old ds (n + 1) ls ≡ left new old cs n (l ∷ ls)
unfolding rows_from
row_next new old cs ds n l ls None is next = absurd cc
row_next new old cs ds n l ls (Some r) is next =
    let last : last_key ds ≡ Some r.0 = ap last_key next.1 ∙ last_key_is cs (set_of new old r) in
    ap (λ (xs : List Call). calls_behind new old xs (rows_from old (last_key ds) (n + 1) ls)) next.1
    ∙ ap (λ (k : Option (List ℕ)). calls_behind new old (cs ++ set_of new old r ∷ []) (rows_from old k (n + 1) ls)) last
    ∙ one_behind new old cs r (rows_from old (Some r.0) (n + 1) ls)
    ∙ ap (λ (x : Option Row). calls_behind new old cs (then_rows n x (λ (q : Row). rows_from old (Some q.0) (n + 1) ls))) (sym is)

row_out : (new old : List Column) (cs ds : List Call) (n : ℕ) (l : List ℕ) (ls : List (List ℕ)) (o : Option Row) → risen (last_key cs) (row_of old l) ≡ o → IsNextRow new old cs ds o false → Err n ≡ left new old cs n (l ∷ ls)
unfolding rows_from
row_out new old cs ds n l ls None is next = ap (λ (x : Option Row). calls_behind new old cs (then_rows n x (λ (q : Row). rows_from old (Some q.0) (n + 1) ls))) (sym is)
row_out new old cs ds n l ls (Some r) is next = let no : false ≡ true = next.0 in absurd cc

-- one row more
pub rows_next : (new old : List Column) (cs ds : List Call) (n : ℕ) (l : List ℕ) (ls text : List (List ℕ)) (total : Result (List Call) ℕ) → IsNextRow new old cs ds (risen (last_key cs) (row_of old l)) true → text ≡ l ∷ ls
    → left new old cs n text ≡ total → left new old ds (n + 1) ls ≡ total
rows_next new old cs ds n l ls text total next cut so_far = row_next new old cs ds n l ls (risen (last_key cs) (row_of old l)) refl next ∙ ap (left new old cs n) (sym cut) ∙ so_far

pub rows_bad : (new old : List Column) (cs ds : List Call) (n : ℕ) (l : List ℕ) (ls text : List (List ℕ)) (total : Result (List Call) ℕ) → IsNextRow new old cs ds (risen (last_key cs) (row_of old l)) false → text ≡ l ∷ ls
    → left new old cs n text ≡ total → Err n ≡ total
rows_bad new old cs ds n l ls text total next cut so_far = row_out new old cs ds n l ls (risen (last_key cs) (row_of old l)) refl next ∙ ap (left new old cs n) (sym cut) ∙ so_far

pub rows_done : (new old : List Column) (cs : List Call) (n : ℕ) (text : List (List ℕ)) (total : Result (List Call) ℕ) → text ≡ [] → left new old cs n text ≡ total → Ok cs ≡ total
unfolding rows_from
rows_done new old cs n text total none so_far =
    let end : left new old cs n [] ≡ total = rw none at so_far in
    ap (λ (xs : List Call). Ok xs) (sym (append-nil cs)) ∙ end
