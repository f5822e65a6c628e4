-- The text of a restore's trace is read as that trace.
use Rattle.std.proofs.Common.{◌≡◌, ℕ, ◌+◌, ◌<◌, ◌≤◌, List, [], ◌∷◌, ◌++◌, map, length, Option, Some, None, Result, Ok, Err, refl, ap, sym, ◌∙◌, subst, append_assoc, arith}
use Rattle.std.specs.Prelude.{codes}
use Rattle.std.specs.Fmt.{decimal}
use Rattle.std.specs.List.{AllByRecursion, flat_map}
use Rattle.std.specs.FinMap as map_of
use Rattle.std.proofs.lemmas.List.{append-nil}
use Rattle.sw_text.specs.Parts.{lines_of}
use Rattle.sw_base.specs.declared.table.Call.{Call}
use Rattle.sw_column.specs.declared.column.Column.{Column}
use Rattle.sw_column.specs.Fit.{call_fault}
use Rattle.sw_table_laws.specs.Table.{Shape, State, TStep}
use Rattle.sw_audit.specs.declared.trace.Trace.{Trace}
use Rattle.sw_audit.specs.declared.trace.TraceLine.{TraceLine}
use Rattle.sw_audit.specs.Grammar.{line_of, lines_read, lines_trace, trace_of, numbered, with_line, head_of}
use Rattle.sw_audit.specs.Verdicts.{table_of}
use Rattle.sw_dump.specs.declared.refill.Refill.{Refill}
use Rattle.sw_dump.specs.Texts.{head_line, set_words, set_line, columns_text}
use Rattle.sw_dump.specs.Restores.{made_from, restored, restored_text, IsSet}
use Rattle.sw_call_texts.proofs.Cuts.{Without, line_plain as ends_line}
use Rattle.sw_call_texts.proofs.Items.{Each}
use Rattle.sw_dump.proofs.Sets.{line_read, line_plain}

-- ---- lines read one after the other

pub all_read : (ls : List (List ℕ)) (es : List TraceLine) (n : ℕ) (t : Trace) → Each (line_of t.schema) ls es → lines_read n (Ok t) ls ≡ Ok (record t { lines = t.lines ++ es })
unfolding lines_read
all_read [] [] n t e = ap (λ (xs : List TraceLine). Ok (record t { lines = xs })) (sym (append-nil t.lines))
all_read [] (x ∷ es) n t e = absurd e
all_read (l ∷ ls) [] n t e = absurd e
all_read (l ∷ ls) (x ∷ es) n t e =
    let more : lines_read (n + 1) (Ok (record t { lines = t.lines ++ x ∷ [] })) ls ≡ Ok (record t { lines = (t.lines ++ x ∷ []) ++ es }) = all_read ls es (n + 1) (record t { lines = t.lines ++ x ∷ [] }) e.1 in
    ap (λ (o : Option TraceLine). lines_read (n + 1) (numbered n (with_line t o)) ls) e.0 ∙ more ∙ ap (λ (xs : List TraceLine). Ok (record t { lines = xs })) (append_assoc t.lines (x ∷ []) es)

-- ---- the lines of Sets

abbrev words_of : TraceLine → List ℕ
words_of e = set_words e.at e.call e.replied.reply

sets_read : (cs : List Column) (t : Shape) (calls : List Call) (n : ℕ) (s : State) → AllByRecursion IsSet calls → AllByRecursion (λ (c : Call). call_fault cs c ≡ None) calls → n + length calls < 18446744073709551616
    → Each (line_of cs) (map words_of (made_from t n s calls)) (made_from t n s calls)
unfolding made_from
sets_read cs t [] n s are fit lt = tt
sets_read cs t (c ∷ calls) n s are fit lt = (line_read cs t n s c (omega (arith, lt)) are.0 fit.0, sets_read cs t calls (n + 1) (TStep t s c).state are.1 fit.1 (omega (arith, lt)))

sets_lines : (t : Shape) (calls : List Call) (n : ℕ) (s : State) → AllByRecursion IsSet calls → n + length calls < 18446744073709551616
    → lines_of (flat_map set_line (made_from t n s calls)) ≡ map words_of (made_from t n s calls)
unfolding made_from lines_of
sets_lines t [] n s are lt = refl
sets_lines t (c ∷ calls) n s are lt =
    let words = set_words n c (TStep t s c).reply in
    let rest = flat_map set_line (made_from t (n + 1) (TStep t s c).state calls) in
    ap lines_of (append_assoc words (10 ∷ []) rest)
    ∙ ends_line words rest (line_plain n c (TStep t s c).reply (omega (arith, lt)) are.0)
    ∙ ap (λ (ls : List (List ℕ)). words ∷ ls) (sets_lines t calls (n + 1) (TStep t s c).state are.1 (omega (arith, lt)))

-- ---- the whole text

head_first : (size percent : ℕ) (cs : List Column) (rest : List ℕ) → head_line (codes "table ") size percent cs ++ rest ≡ (codes "table" ++ 32 ∷ (decimal size ++ 32 ∷ (decimal percent ++ 32 ∷ columns_text cs))) ++ 10 ∷ rest
head_first size percent cs rest = simp append_assoc

by_lines : (text : List ℕ) (head : List ℕ) (ls : List (List ℕ)) (es : List TraceLine) (t : Trace) → lines_of text ≡ head ∷ ls → head_of head ≡ Some t → t.lines ≡ [] → Each (line_of t.schema) ls es → trace_of text ≡ Ok (record t { lines = es })
by_lines text head ls es t cut is none e =
    ap lines_trace cut ∙ ap (λ (o : Option Trace). lines_read 2 (numbered 1 o) ls) is ∙ all_read ls es 2 t e ∙ ap (λ (xs : List TraceLine). Ok (record t { lines = xs ++ es })) none

pub trace_back : (r : Refill) → r.into.lines ≡ [] → AllByRecursion IsSet r.calls → AllByRecursion (λ (c : Call). call_fault r.into.schema c ≡ None) r.calls → length r.calls < 18446744073709551616
    → Without 10 (codes "table" ++ 32 ∷ (decimal r.into.size ++ 32 ∷ (decimal r.into.percent ++ 32 ∷ columns_text r.into.schema)))
    → head_of (codes "table" ++ 32 ∷ (decimal r.into.size ++ 32 ∷ (decimal r.into.percent ++ 32 ∷ columns_text r.into.schema))) ≡ Some r.into
    → trace_of (restored_text r) ≡ Ok (restored r)
trace_back r none are fit lt plain is =
    let head = codes "table" ++ 32 ∷ (decimal r.into.size ++ 32 ∷ (decimal r.into.percent ++ 32 ∷ columns_text r.into.schema)) in
    let es = made_from (table_of r.into) 0 map_of.empty r.calls in
    let small : 0 + length r.calls < 18446744073709551616 = omega (arith, lt) in
    let cut : lines_of (restored_text r) ≡ head ∷ map words_of es =
    ap lines_of (head_first r.into.size r.into.percent r.into.schema (flat_map set_line es))
    ∙ ends_line head (flat_map set_line es) plain
    ∙ ap (λ (ls : List (List ℕ)). head ∷ ls) (sets_lines (table_of r.into) r.calls 0 map_of.empty are small) in
    by_lines (restored_text r) head (map words_of es) es r.into cut is none (sets_read r.into.schema (table_of r.into) r.calls 0 map_of.empty are fit small)
