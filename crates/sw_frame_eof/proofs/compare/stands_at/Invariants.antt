use Rattle.std.proofs.Common.{◌≡◌, ℕ, ◌+◌, ◌<◌, ◌≤◌, slice_index}
use Rattle.sw_frame_eof.proofs.compare.stands_at.Given as goal

abbrev pub invariant-loop-k : goal.invariant-loop-k
invariant-loop-k g l = ((j : ℕ) → j < l.k → slice_index l.bytes (l.at + j) ≡ slice_index l.mark j) × (l.steps + 1 ≤ l.fn.steps + l.k)
