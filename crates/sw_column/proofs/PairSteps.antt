use Rattle.std.proofs.Common.{◌≡◌, ℕ, ◌+◌, ◌<◌, ◌≤◌, List, length, get_or, drop, Option, None, sym, ◌∙◌}
use Rattle.std.proofs.lemmas.List.{at_drop_more, drop_all}
use Rattle.sw_base.specs.declared.table.Value.{Value}
use Rattle.sw_base.specs.declared.table.CallFault.{CallFault}
use Rattle.sw_column.specs.declared.column.Column.{Column}
use Rattle.sw_column.specs.Columns.{column_of}
use Rattle.sw_column.specs.Fit.{or_else, at_column, pairs_fault}

-- the refusal of the pairs from a place on: that of the pair there, or that of the pairs behind it
pub pairs_next : (cs : List Column) (ps : List (List ℕ × Value)) (i : ℕ) (name : List ℕ) (p : List ℕ × Value) (o total : Option CallFault) → i < length ps → p ≡ get_or ps i p
    → name ≡ p.0 → o ≡ at_column (column_of cs name) p.1 → pairs_fault cs (drop i ps) ≡ total → or_else o (pairs_fault cs (drop (i + 1) ps)) ≡ total
unfolding pairs_fault
pairs_next cs ps i name p o total lt is named fault so_far =
    let step : pairs_fault cs (drop i ps) ≡ or_else (at_column (column_of cs (get_or ps i p).0) (get_or ps i p).1) (pairs_fault cs (drop (i + 1) ps)) = at_drop_more (pairs_fault cs) ps i p lt in
    let here : pairs_fault cs (drop i ps) ≡ or_else (at_column (column_of cs p.0) p.1) (pairs_fault cs (drop (i + 1) ps)) = rw (← is) at step in
    rw (fault, named) (sym here ∙ so_far)

pub pairs_done : (cs : List Column) (ps : List (List ℕ × Value)) (i : ℕ) (total : Option CallFault) → length ps ≤ i → pairs_fault cs (drop i ps) ≡ total → None ≡ total
unfolding pairs_fault
pairs_done cs ps i total le so_far = rw (drop_all i ps le) at so_far
