use Rattle.std.proofs.Common.{◌≡◌, ◌+◌, ◌*◌, ◌≤◌, length, [], ◌∷◌}
use Rattle.sw_frame_eof.specs.Scan.{HasScanned, compared}
use Rattle.sw_bench.proofs.one_by_one.search.Given as goal

abbrev pub invariant-loop : goal.invariant-loop
invariant-loop g l = HasScanned (13 ∷ 10 ∷ []) l.bytes.items l.scan × (l.steps ≤ l.initial.steps + 2 * compared l.scan) × (length l.bytes.items ≡ l.counter)
