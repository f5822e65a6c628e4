use Rattle.std.proofs.Common.{◌≡◌, ◌++◌, take}
use Rattle.std.specs.Prelude.{string_bytes}
use Rattle.std.specs.List.{flat_map}
use Rattle.sw_log_text.specs.Values.{cell_text}
use Rattle.sw_log_text.proofs.values.put_cells.Given as goal

abbrev pub invariant-loop-value : goal.invariant-loop-value
invariant-loop-value l = string_bytes l.out ≡ string_bytes l.fn.out ++ flat_map (cell_text) (take l.value-index l.cells)
