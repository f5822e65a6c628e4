-- The Table that all calls of a trace leave, in whatever order the lines stand.
use Rattle.std.proofs.Common.{◌≡◌, ℕ, zero, suc, ◌+◌, ◌<◌, ◌≤◌, List, ◌++◌, length, refl, ap, sym, subst, ◌∙◌, arith}
use Rattle.std.specs.Prelude.{map, IsPermutation}
use Rattle.std.specs.FinMap as map_of
use Rattle.std.proofs.lemmas.List.Sorted.{length_permutation}
use Rattle.sw_table_laws.specs.Table.{Entry, Shape, after}
use Rattle.sw_table_laws.specs.Sizes.{raised}
use Rattle.sw_tmodel.specs.Plain.{PlainTable, shape_of}
use Rattle.sw_audit.specs.declared.trace.Trace.{Trace}
use Rattle.sw_audit.specs.declared.trace.TraceLine.{TraceLine}
use Rattle.sw_audit.specs.Judging.{IsReached, IsSameTable}
use Rattle.sw_audit.specs.Verdicts.{table_of, entry_of, lines_at, calls_below}
use Rattle.sw_audit.specs.Finals.{IsFinal}
use Rattle.sw_audit.proofs.PlaceLaws.{same_shape}

same_calls : (ls ss : List TraceLine) (n : ℕ) → ((at : ℕ) → lines_at ss at ≡ lines_at ls at) → calls_below ss n ≡ calls_below ls n
unfolding calls_below
same_calls ls ss zero same = refl
same_calls ls ss (suc n) same = ap (λ (es : List Entry). es ++ map entry_of (lines_at ss n)) (same_calls ls ss n same) ∙ ap (λ (xs : List TraceLine). calls_below ls n ++ map entry_of xs) (same n)

-- the loop went over all lines
pub reached_end : (ls : List TraceLine) (n : ℕ) (p : PlainTable) → length ls ≤ n → n ≤ length ls → IsReached ls n p → IsReached ls (length ls) p
reached_end ls n p le ge r = let e : n ≡ length ls = omega (arith, le, ge) in subst (λ m. IsReached ls m p) e r

pub final_of : (t : Trace) (old new : PlainTable) (ss ds : List TraceLine) → old ≡ record { columns = t.schema; size = raised t.size; percent = t.percent; last_call = 8796093022207; calls = 0; state = map_of.empty } → IsSameTable old new → ds ≡ ss
    → ((at : ℕ) → lines_at ss at ≡ lines_at t.lines at) → IsPermutation t.lines ss → IsReached ds (length ds) new → IsFinal t new
final_of t old new ss ds made same lent stable moved reached =
    let count : length ds ≡ length t.lines = ap length lent ∙ length_permutation t.lines ss moved in
    let table : shape_of new ≡ table_of t = same_shape old new same ∙ ap (λ (p : PlainTable). shape_of p) made in
    let calls : calls_below ds (length ds) ≡ calls_below t.lines (length t.lines) =
    ap (λ (xs : List TraceLine). calls_below xs (length ds)) lent ∙ same_calls t.lines ss (length ds) stable ∙ ap (calls_below t.lines) count in
    record {
      columns = same.0 ∙ ap (λ (p : PlainTable). p.columns) made;
      size = same.1 ∙ ap (λ (p : PlainTable). p.size) made;
      percent = same.2 ∙ ap (λ (p : PlainTable). p.percent) made;
      calls = reached.calls ∙ count;
      state = reached.state ∙ ap (λ (s : Shape). after s (calls_below ds (length ds))) table ∙ ap (after (table_of t)) calls;
    }
