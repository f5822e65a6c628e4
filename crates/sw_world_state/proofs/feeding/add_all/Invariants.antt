use Rattle.std.proofs.Common.{◌≡◌, reverse, vec_len}
use Rattle.sw_world_whole.specs.Scripts.{fed}
use Rattle.sw_world_state.proofs.feeding.add_all.Given as goal

-- the link with the steps that are left, the last one first, is the link with all
abbrev pub invariant-loop-step : goal.invariant-loop-step
invariant-loop-step l = fed (reverse l.steps.items) l.link ≡ fed l.fn.steps.items l.fn.link

abbrev pub decreases-loop-step : goal.decreases-loop-step
decreases-loop-step l = vec_len l.steps
