-- Who calls a Table, and keeps what the calls came to.
use Rattle.std.specs.Prelude.{◌≡◌, All, List, None, Result, IfOk}
use Rattle.sw_base.specs.declared.out_of_memory.OutOfMemory.{OutOfMemory}
use Rattle.sw_column.specs.declared.column.Column.{Column}
use Rattle.sw_column.specs.Fit.{call_fault}
use Rattle.sw_column.specs.Values.{HasKinds}
use Rattle.sw_table_join.specs.Tables.{SharedNow, IsReady}
use Rattle.sw_audit.specs.declared.trace.TraceLine.{TraceLine}
use Rattle.sw_table_uses.specs.declared.player.Player.{Player}

-- the call of a line fits these columns
abbrev pub FitsColumns : List Column → TraceLine → Type 0
FitsColumns cs e = call_fault cs e.call ≡ None

-- a counted seat of the Table that holds nothing, a buffer for its rows, and lines of calls that fit its columns
pub record IsPlayer (t : SharedNow) (p : Player) : Type 0 where
  pub ready : IsReady t 1 p.seat
  pub kinds : HasKinds t.columns p.row
  pub fit : All (FitsColumns t.columns) p.lines.items

-- what came of a player
abbrev pub IsPlayed : SharedNow → Result Player OutOfMemory → Type 0
IsPlayed t r = IfOk r (IsPlayer t)
