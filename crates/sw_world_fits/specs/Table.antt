-- The plain Table as the ports have it: its rows are what the calls so far leave.
use Rattle.std.specs.Prelude.{◌≡◌, ◌≤◌, List, length}
use Rattle.sw_base.specs.declared.table.Call.{Call}
use Rattle.sw_base.specs.declared.table.Reply.{Reply}
use Rattle.sw_table_laws.specs.Table.{Shape, TStep, after}
use Rattle.sw_tmodel.specs.Plain.{PlainTable, shape_of}
use Rattle.sw_record.specs.Terms.{Terms}
use Rattle.sw_record.specs.Places.{Ran}
use Rattle.sw_join.specs.Legal.{entries}

-- a plain Table of this shape behind these calls
pub record TableStands (t : Terms) (shape : Shape) (p : PlainTable) (history : List Ran) : Type 0 where
  pub same : shape_of p ≡ shape
  pub columns : p.columns ≡ t.columns
  pub rows : p.state ≡ after shape (entries history)
  pub calls : p.calls ≡ length history
  pub last : p.last_call ≡ t.table_last_call
  pub within : p.calls ≤ p.last_call

-- a call with its reply, and the row that it found
abbrev pub ran_of : PlainTable → Call → Reply → Ran
ran_of p call reply = (call, (reply, (TStep (shape_of p) p.state call).cells))
