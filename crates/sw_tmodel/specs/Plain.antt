-- The plain Table: what contracts see of it, and what a call answers.
use Rattle.std.specs.Prelude.{◌≡◌, ℕ, ◌+◌, List, Option, Some, None, Result, Ok, Err, nat_eq, if◌then◌else◌}
use Rattle.sw_base.specs.declared.table.Value.{Value}
use Rattle.sw_base.specs.declared.table.Call.{Call}
use Rattle.sw_base.specs.declared.table.CallFault.{CallFault}
use Rattle.sw_base.specs.declared.table.CallFault.TheVariants.{Spent}
use Rattle.sw_column.specs.declared.column.Column.{Column}
use Rattle.sw_column.specs.Fit.{or_else, call_fault}
use Rattle.sw_port_shelf.specs.declared.shelf.Placed.{Placed}
use Rattle.sw_table_laws.specs.Table.{State, Shape, TStep, shown}
use Rattle.sw_table_laws.specs.Sizes.{pool_of}

-- a plain Table: what it was made with, how many calls had a place, and its rows
pub record PlainTable : Type 0 where
  pub columns : List Column
  pub size : ℕ
  pub percent : ℕ
  pub last_call : ℕ
  pub calls : ℕ
  pub state : State

abbrev pub shape_of : PlainTable → Shape
shape_of p = record { columns = p.columns; size = p.size; pool = pool_of p.size p.percent }

abbrev pub spent_fault : ℕ → ℕ → Option CallFault
spent_fault calls last_call = if nat_eq calls last_call then Some (Spent calls) else None

-- why a call has no place: it doesn't fit the columns, or the places are used up
abbrev pub plain_fault : PlainTable → Call → Option CallFault
plain_fault p call = or_else (call_fault p.columns call) (spent_fault p.calls p.last_call)

-- a call that is refused changes nothing; else it is the step, and has the next place
abbrev pub IsCall : PlainTable → Call → PlainTable → List Value → List Value → Result Placed CallFault → Type 0
IsCall p call q row new (Err fault) = (plain_fault p call ≡ Some fault) × (q ≡ p) × (new ≡ row)
IsCall p call q row new (Ok placed) = (plain_fault p call ≡ None)
    × (placed ≡ record { at = p.calls; reply = (TStep (shape_of p) p.state call).reply })
    × (q ≡ record p { calls = p.calls + 1; state = (TStep (shape_of p) p.state call).state })
    × (new ≡ shown (TStep (shape_of p) p.state call) row)
