use Rattle.std.specs.Prelude.{IfSome, codes}
use Rattle.std.proofs.lemmas.List.{append-nil}
use Rattle.sw_column.specs.declared.column.Column.{Column}
use Rattle.std.proofs.Common.{subst, ◌≡◌, ℕ, ◌+◌, List, [], ◌∷◌, ◌++◌, length, Option, Some, None, Result, Ok, Err, refl, ap, sym, ◌∙◌, inl, inr, arith, append_assoc}
use Rattle.sw_text.specs.Parts.{lines_of}
use Rattle.sw_audit.specs.Grammar.{table_text, without_lines, head_of, line_of, with_line, lines_read, numbered, lines_trace, trace_of}
use Rattle.sw_audit.specs.Reading.{AreRead, AreTrace, IsRead}
use Rattle.sw_audit.specs.declared.trace.Trace.{Trace}
use Rattle.sw_audit.specs.declared.trace.TraceLine.{TraceLine}

-- ---- the lines behind the first one, from a trace on

abbrev with_lines : Trace → List TraceLine → Trace
with_lines t es = record t { lines = t.lines ++ es }

abbrev Told : ℕ → Trace → List (List ℕ) → Result Trace ℕ → Type 0
Told n t ls (Ok u) = (es : List TraceLine) × AreRead t.schema ls es × (u ≡ with_lines t es)
Told n t ls (Err m) = (front : List (List ℕ)) × (es : List TraceLine) × (l : List ℕ) × (rest : List (List ℕ))
    × (ls ≡ front ++ l ∷ rest) × AreRead t.schema front es × (line_of t.schema l ≡ None) × (m ≡ n + length front)

abbrev with_one : Trace → TraceLine → Trace
with_one t e = record t { lines = t.lines ++ e ∷ [] }

joined : (t u : Trace) (e : TraceLine) (es : List TraceLine) → u ≡ with_lines (with_one t e) es → u ≡ with_lines t (e ∷ es)
joined t u e es is = is ∙ ap (λ (xs : List TraceLine). record t { lines = xs }) (append_assoc t.lines (e ∷ []) es)

more : (n : ℕ) (t : Trace) (e : TraceLine) (l : List ℕ) (ls : List (List ℕ)) (r : Result Trace ℕ) → line_of t.schema l ≡ Some e → Told (n + 1) (with_one t e) ls r → Told n t (l ∷ ls) r
more n t e l ls (Ok u) is told = (e ∷ told.0, (is, told.1), joined t u e told.0 told.2)
more n t e l ls (Err m) is told = (l ∷ told.0, e ∷ told.1, told.2, told.3, ap (λ (xs : List (List ℕ)). l ∷ xs) told.4, (is, told.5), told.6, omega (arith, told.7))

one : (n : ℕ) (t : Trace) (l : List ℕ) (ls : List (List ℕ)) (o : Option TraceLine) → line_of t.schema l ≡ o → ((u : Trace) → Told (n + 1) u ls (lines_read (n + 1) (Ok u) ls))
    → Told n t (l ∷ ls) (lines_read (n + 1) (numbered n (with_line t o)) ls)
unfolding lines_read
one n t l ls None is rest = ([], [], l, ls, refl, tt, is, omega arith)
one n t l ls (Some e) is rest = more n t e l ls (lines_read (n + 1) (Ok (with_one t e)) ls) is (rest (with_one t e))

nothing : (t : Trace) → t ≡ with_lines t []
nothing t = ap (λ (xs : List TraceLine). record t { lines = xs }) (sym (append-nil t.lines))

told_all : (ls : List (List ℕ)) (n : ℕ) (t : Trace) → Told n t ls (lines_read n (Ok t) ls)
unfolding lines_read
told_all [] n t = ([], tt, nothing t)
told_all (l ∷ ls) n t = one n t l ls (line_of t.schema l) refl (λ (u : Trace). told_all ls (n + 1) u)

-- ---- the first line tells of no call

abbrev NoLines : Trace → Type 0
NoLines t = t.lines ≡ []

no_lines_yet : (o : Option (ℕ × ℕ × List Column)) → IfSome (without_lines o) NoLines
no_lines_yet None = tt
no_lines_yet (Some t) = refl

-- ---- the whole text

from_head : (head : List ℕ) (ls : List (List ℕ)) (t : Trace) (r : Result Trace ℕ) → head_of head ≡ Some t → t.lines ≡ [] → Told 2 t ls r → AreTrace (head ∷ ls) r
from_head head ls t (Ok u) is none told =
    let same : record t { lines = told.0 } ≡ u = sym (told.2 ∙ ap (λ (xs : List TraceLine). record t { lines = xs ++ told.0 }) none) in
    let bare : head_of head ≡ Some (record t { lines = [] }) = is ∙ ap (λ (xs : List TraceLine). Some (record t { lines = xs })) none in
    subst (λ (x : Trace). AreTrace (head ∷ ls) (Ok x)) same (head, ls, refl, bare, told.1)
from_head head ls t (Err m) is none told = inr (told.0, (head, t, told.1, told.2, told.3, ap (λ (xs : List (List ℕ)). head ∷ xs) told.4, is, told.5, told.6), told.7)

by_head : (head : List ℕ) (ls : List (List ℕ)) (o : Option Trace) → head_of head ≡ o → IfSome o NoLines → AreTrace (head ∷ ls) (lines_read 2 (numbered 1 o) ls)
unfolding lines_read
by_head head ls None is none = inl (is, refl)
by_head head ls (Some t) is none = from_head head ls t (lines_read 2 (Ok t) ls) is none (told_all ls 2 t)

by_lines : (ls : List (List ℕ)) → AreTrace ls (lines_trace ls)
by_lines [] = inl (tt, refl)
by_lines (l ∷ ls) = by_head l ls (head_of l) refl (no_lines_yet (table_text (codes "table") l))

pub is_read : (text : List ℕ) → IsRead text (trace_of text)
is_read text = by_lines (lines_of text)
