use Rattle.std.proofs.Common.{◌≡◌, ◌++◌, take}
use Rattle.std.specs.Prelude.{string_bytes}
use Rattle.std.specs.List.{flat_map}
use Rattle.sw_log_text.specs.Calls.{pair_text}
use Rattle.sw_log_text.proofs.calls.put_pairs.Given as goal

abbrev pub invariant-loop-pair : goal.invariant-loop-pair
invariant-loop-pair l = string_bytes l.out ≡ string_bytes l.fn.out ++ flat_map (pair_text) (take l.pair-index l.pairs)
