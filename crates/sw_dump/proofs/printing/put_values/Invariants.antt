use Rattle.std.proofs.Common.{◌≡◌, ◌++◌, take}
use Rattle.std.specs.Prelude.{string_bytes}
use Rattle.std.specs.List.{flat_map}
use Rattle.sw_dump.specs.Texts.{spaced_value}
use Rattle.sw_dump.proofs.printing.put_values.Given as goal

abbrev pub invariant-loop-value : goal.invariant-loop-value
invariant-loop-value l = string_bytes l.out ≡ string_bytes l.fn.out ++ flat_map spaced_value (take l.value-index l.values)
