use Rattle.std.proofs.Common.{◌≡◌, ◌+◌, ◌++◌, drop}
use Rattle.std.specs.List.{flat_map}
use Rattle.sw_column.specs.Values.{HasKinds}
use Rattle.sw_tmodel.specs.Plain.{shape_of}
use Rattle.sw_dump.specs.Texts.{set_line}
use Rattle.sw_dump.specs.Restores.{made_from}
use Rattle.sw_dump.proofs.replaying.make_all.Given as goal

abbrev pub invariant-loop-call : goal.invariant-loop-call
invariant-loop-call l = record {
  made : l.out ++ flat_map set_line (made_from (shape_of l.fn.plain) l.plain.calls l.plain.state (drop l.call-index l.calls)) ≡ l.fn.out ++ flat_map set_line (made_from (shape_of l.fn.plain) l.fn.plain.calls l.fn.plain.state l.calls);
  columns : l.plain.columns ≡ l.fn.plain.columns;
  shape : shape_of l.plain ≡ shape_of l.fn.plain;
  last : l.plain.last_call ≡ l.fn.plain.last_call;
  count : l.plain.calls ≡ l.fn.plain.calls + l.call-index;
  kinds : HasKinds l.fn.plain.columns l.row;
}
