-- What holds of every restore that was read.
use Rattle.std.proofs.Common.{◌≡◌, ℕ, ◌+◌, ◌<◌, ◌≤◌, Bool, true, false, cond, List, [], ◌∷◌, ◌++◌, map, length, Option, Some, None, Result, Ok, Err, refl, ap, sym, ◌∙◌, subst, eqb, arith, ℤ, All}
use Rattle.std.specs.Prelude.{codes, is_some, IfOk, if◌then◌else◌}
use Rattle.std.specs.List.{AllByRecursion}
use Rattle.std.proofs.lemmas.List.Elements.{All-from_recursion}
use Rattle.sw_text.specs.Then.{◌>>=◌}
use Rattle.sw_text.specs.Hex.{bytes_of}
use Rattle.sw_text.specs.Parts.{cut_at, lines_of}
use Rattle.sw_text.proofs.AgreeLaw.{bytes}
use Rattle.sw_text.proofs.LineLaw.{are_lines}
use Rattle.sw_base.specs.declared.table.Value.{Value}
use Rattle.sw_base.specs.declared.out_of_memory.OutOfMemory.{OutOfMemory}
use Rattle.sw_column.specs.declared.column.Column.{Column}
use Rattle.sw_column.specs.Columns.{place}
use Rattle.sw_column.specs.Fit.{is_key, call_fault}
use Rattle.sw_column.specs.Values.{holds}
use Rattle.sw_call.specs.Values.{value_of}
use Rattle.sw_audit.specs.declared.trace.Trace.{Trace}
use Rattle.sw_audit.specs.declared.trace.TraceLine.{TraceLine}
use Rattle.sw_audit.specs.Grammar.{behind_word, table_text, without_lines, IsTrace}
use Rattle.sw_dump.specs.declared.refill.Refill.{Refill}
use Rattle.sw_dump.specs.Grammar.{fit_value, in_front, values_for, key_of, row_of, is_above, risen, with_row, then_rows, rows_from, kept_first, kept, set_of, with_calls, behind_dump, behind_into, refill_lines, refill_of}
use Rattle.sw_call_texts.specs.Spelled.{IsValue, IsPair}
use Rattle.sw_call_texts.proofs.ValueLaw.{value_is}
use Rattle.sw_dump.specs.Restores.{IsSet, IsRefill}
use Rattle.sw_call_texts.proofs.Peel.{first_of, kept_by}
use Rattle.sw_call_texts.proofs.Cuts.{Without}
use Rattle.sw_dump.proofs.Heads.{AreNamed, head_is}

-- ---- values

value_fits : (text : List ℕ) (v : Value) → value_of text ≡ Some v → IsValue v
value_fits text v e = (value_is text v e).0

fit_fits : (c : Column) (text : List ℕ) (v : Value) → fit_value c text ≡ Some v → IsValue v
unfolding fit_value
fit_fits c text v e =
    let w = first_of (value_of text) (λ (v : Value). if holds c.kind c.size v then Some v else None) v e in
    let k = kept_by (holds c.kind c.size w.0) w.0 v w.2 in
    subst IsValue k.1 (value_fits text w.0 w.1)

abbrev AreValues : List Value → Type 0
AreValues vs = AllByRecursion IsValue vs

front_values : (v : Option Value) (o : Option (List Value)) (vs : List Value) → in_front v o ≡ Some vs → ((w : Value) → v ≡ Some w → IsValue w) → ((ws : List Value) → o ≡ Some ws → AreValues ws) → AreValues vs
front_values None o vs e one more = absurd cc
front_values (Some v) None vs e one more = absurd cc
front_values (Some v) (Some ws) vs e one more = let same : v ∷ ws ≡ vs = cc in subst AreValues same (one v refl, more ws refl)

values_fit : (cs : List Column) (o : Option (List ℕ)) (vs : List Value) → values_for cs o ≡ Some vs → AreValues vs
unfolding values_for
values_fit [] None vs e = let none : [] ≡ vs = cc in subst AreValues none tt
values_fit [] (Some text) vs e = absurd cc
values_fit (c ∷ cs) None vs e = absurd cc
values_fit (c ∷ cs) (Some text) vs e =
    front_values (fit_value c (cut_at 32 text).0) (values_for cs (cut_at 32 text).1) vs e (fit_fits c (cut_at 32 text).0) (values_fit cs (cut_at 32 text).1)

-- ---- rows

abbrev IsRow : List ℕ × List Value → Type 0
IsRow r = (is_key r.0 ≡ true) × AllByRecursion (λ b. b < 256) r.0 × AreValues r.1

abbrev IsKey : List ℕ → Type 0
IsKey key = (is_key key ≡ true) × AllByRecursion (λ b. b < 256) key

key_fits : (digits key : List ℕ) → key_of digits ≡ Some key → IsKey key
unfolding key_of
key_fits digits key e =
    let k = first_of (bytes_of digits) (λ (key : List ℕ). if is_key key then Some key else None) key e in
    let same = kept_by (is_key k.0) k.0 key k.2 in
    let law = bytes digits k.0 in
    let spelt = law.0 k.1 in
    subst IsKey same.1 (same.0, spelt.2)

row_fits : (cs : List Column) (line : List ℕ) (r : List ℕ × List Value) → row_of cs line ≡ Some r → IsRow r
unfolding row_of
row_fits cs line r e =
    let rest = first_of (behind_word (codes "row") line) (λ (rest : List ℕ). key_of (cut_at 32 rest).0 >>= (λ (key : List ℕ). values_for cs (cut_at 32 rest).1 >>= (λ (values : List Value). Some (key, values)))) r e in
    let key = first_of (key_of (cut_at 32 rest.0).0) (λ (key : List ℕ). values_for cs (cut_at 32 rest.0).1 >>= (λ (values : List Value). Some (key, values))) r rest.2 in
    let vs = first_of (values_for cs (cut_at 32 rest.0).1) (λ (values : List Value). Some (key.0, values)) r key.2 in
    let same : (key.0, vs.0) ≡ r = let f = vs.2 in cc in
    let k = key_fits (cut_at 32 rest.0).0 key.0 key.1 in
    subst IsRow same (k.0, k.1, values_fit cs (cut_at 32 rest.0).1 vs.0 vs.1)

risen_by : (t : Bool) (r q : List ℕ × List Value) → cond t (Some r) None ≡ Some q → r ≡ q
risen_by true r q e = cc
risen_by false r q e = absurd cc

risen_fits : (last : Option (List ℕ)) (o : Option (List ℕ × List Value)) (r : List ℕ × List Value) → risen last o ≡ Some r → ((q : List ℕ × List Value) → o ≡ Some q → IsRow q) → IsRow r
risen_fits last None r e row = absurd cc
risen_fits last (Some q) r e row = subst IsRow (risen_by (is_above last q.0) q r e) (row q refl)

abbrev AreRows : List (List ℕ × List Value) → Type 0
AreRows rows = AllByRecursion IsRow rows

with_fits : (r : List ℕ × List Value) (o : Result (List (List ℕ × List Value)) ℕ) (rows : List (List ℕ × List Value)) → with_row r o ≡ Ok rows → IsRow r → ((rs : List (List ℕ × List Value)) → o ≡ Ok rs → AreRows rs) → AreRows rows
with_fits r (Err n) rows e is more = absurd cc
with_fits r (Ok rs) rows e is more = let same : r ∷ rs ≡ rows = cc in subst AreRows same (is, more rs refl)

then_fits : (n : ℕ) (o : Option (List ℕ × List Value)) (f : List ℕ × List Value → Result (List (List ℕ × List Value)) ℕ) (rows : List (List ℕ × List Value)) → then_rows n o f ≡ Ok rows → ((r : List ℕ × List Value) → o ≡ Some r → IsRow r)
    → ((r : List ℕ × List Value) (rs : List (List ℕ × List Value)) → f r ≡ Ok rs → AreRows rs) → AreRows rows
then_fits n None f rows e row more = absurd cc
then_fits n (Some r) f rows e row more = with_fits r (f r) rows e (row r refl) (more r)

rows_fit : (cs : List Column) (last : Option (List ℕ)) (n : ℕ) (ls : List (List ℕ)) (rows : List (List ℕ × List Value)) → rows_from cs last n ls ≡ Ok rows → AreRows rows
unfolding rows_from
rows_fit cs last n [] rows e = let none : [] ≡ rows = cc in subst AreRows none tt
rows_fit cs last n (l ∷ ls) rows e =
    then_fits n (risen last (row_of cs l)) (λ (r : List ℕ × List Value). rows_from cs (Some r.0) (n + 1) ls) rows e
    (λ r is. risen_fits last (row_of cs l) r is (row_fits cs l))
    (λ r rs is. rows_fit cs (Some r.0) (n + 1) ls rs is)

-- ---- calls

kept_fits : (t : Bool) (p : List ℕ × Value) (ps : List (List ℕ × Value)) → IsPair p → AllByRecursion IsPair ps → AllByRecursion IsPair (kept_first t p ps)
kept_fits true p ps is all = (is, all)
kept_fits false p ps is all = all

all_kept : (new cs : List Column) (vs : List Value) → AreNamed cs → AreValues vs → AllByRecursion IsPair (kept new cs vs)
unfolding kept
all_kept new [] vs named are = tt
all_kept new (c ∷ cs) [] named are = tt
all_kept new (c ∷ cs) (v ∷ vs) named are = kept_fits (is_some (place new c.name)) (c.name, v) (kept new cs vs) (named.0, are.0) (all_kept new cs vs named.1 are.1)

all_sets : (new old : List Column) (rows : List (List ℕ × List Value)) → AreNamed old → AreRows rows → AllByRecursion IsSet (map (set_of new old) rows)
all_sets new old [] named are = tt
all_sets new old (r ∷ rows) named are = ((are.0.0, are.0.1, all_kept new old r.1 named are.0.2), all_sets new old rows named are.1)

-- ---- the whole text

abbrev bare : ℕ × ℕ × List Column → Trace
bare t = record { size = t.0; percent = t.1; schema = t.2; lines = [] }

-- the first line is that of the Table, it holds no line feed, and the calls are Sets
pub record IsMade (r : Refill) : Type 0 where
  pub line : List ℕ
  pub table : ℕ × ℕ × List Column
  pub plain : Without 10 line
  pub read : table_text (codes "into") line ≡ Some table
  pub into : r.into ≡ record { size = table.0; percent = table.1; schema = table.2; lines = [] }
  pub sets : AllByRecursion IsSet r.calls

by_rows : (line : List ℕ) (t u : ℕ × ℕ × List Column) (o : Result (List (List ℕ × List Value)) ℕ) (r : Refill) → Without 10 line → table_text (codes "into") line ≡ Some t → AreNamed u.2
    → ((rows : List (List ℕ × List Value)) → o ≡ Ok rows → AreRows rows) → with_calls (bare t) u.2 o ≡ Ok r → IsMade r
by_rows line t u (Err n) r plain is named are e = absurd cc
by_rows line t u (Ok rows) r plain is named are e =
    let same : record { into = bare t; calls = map (set_of t.2 u.2) rows } ≡ r = cc in
    subst IsMade same (record {
      line = line;
      table = t;
      plain = plain;
      read = is;
      into = refl;
      sets = all_sets t.2 u.2 rows named (are rows refl);
    })

by_dump : (line dump : List ℕ) (ls : List (List ℕ)) (t : ℕ × ℕ × List Column) (o : Option (ℕ × ℕ × List Column)) (r : Refill) → Without 10 line → table_text (codes "into") line ≡ Some t → table_text (codes "dump") dump ≡ o
    → behind_dump (bare t) (without_lines o) ls ≡ Ok r → IsMade r
by_dump line dump ls t None r plain is read e = absurd cc
by_dump line dump ls t (Some u) r plain is read e =
    let h = head_is (codes "dump") dump u read in
    by_rows line t u (rows_from u.2 None 3 ls) r plain is h.named (λ rows made. rows_fit u.2 None 3 ls rows made) e

by_into : (line : List ℕ) (ls : List (List ℕ)) (o : Option (ℕ × ℕ × List Column)) (r : Refill) → Without 10 line → table_text (codes "into") line ≡ o → behind_into (without_lines o) ls ≡ Ok r → IsMade r
by_into line ls None r plain is e = absurd cc
by_into line [] (Some t) r plain is e = absurd cc
by_into line (d ∷ ls) (Some t) r plain is e = by_dump line d ls t (table_text (codes "dump") d) r plain is refl e

by_lines : (ls : List (List ℕ)) (r : Refill) → AllByRecursion (λ (l : List ℕ). Without 10 l) ls → refill_lines ls ≡ Ok r → IsMade r
by_lines [] r plain e = absurd cc
by_lines (l ∷ ls) r plain e = by_into l ls (table_text (codes "into") l) r plain.0 refl e

pub is_made : (text : List ℕ) (r : Refill) → refill_of text ≡ Ok r → IsMade r
is_made text r e = let lines = are_lines text in by_lines (lines_of text) r lines.0 e

no_trace : (t : ℕ × ℕ × List Column) → 1 ≤ t.0 → t.0 ≤ 524288 → t.1 ≤ 100 → IsTrace (bare t)
no_trace t least most percent = (least, most, percent, All-from_recursion (λ (e : TraceLine). call_fault t.2 e.call ≡ None) [] tt)

pub is_refill : (text : List ℕ) (r : Refill) → refill_of text ≡ Ok r → IsRefill r
is_refill text r e =
    let m = is_made text r e in
    let h = head_is (codes "into") m.line m.table m.read in
    (subst IsTrace (sym m.into) (no_trace m.table h.least h.most h.percent), ap (λ (t : Trace). t.lines) m.into, m.sets)

-- the same of whatever reading answers
pub refill_if : (text : List ℕ) (result : Result (Result Refill ℕ) OutOfMemory) → IfOk result (λ r. r ≡ refill_of text) → IfOk result (λ r. IfOk r IsRefill)
refill_if text (Err want) is = tt
refill_if text (Ok (Err n)) is = tt
refill_if text (Ok (Ok r)) is = is_refill text r (sym is)
