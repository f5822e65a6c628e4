use Rattle.std.proofs.Common.{map}
use Rattle.sw_world.proofs.Running.{made_standing}
use Rattle.sw_world.proofs.world.World.make.Goals as goal

-- new code stands for a core
pub invariant_of-result : goal.invariant_of-result
invariant_of-result g c = λ _. made_standing c.args.settings.now (map (λ hs. hs.items) c.args.workers.items) c.args.taskers.items _ c.in_ok-state.ensures.made
