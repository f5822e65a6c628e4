use Rattle.sw_world.proofs.Running.{standing_may, standing_goes}
use Rattle.sw_world.proofs.world.World.step.Goals as goal

-- a step may be made
pub step-requires : goal.step-requires
step-requires g c = standing_may c.self.inside.state (c.self.invariant c.if-self.false)

-- and the code stands for a core again
pub invariant_of-self-2 : goal.invariant_of-self-2
invariant_of-self-2 g c = λ _. standing_goes g.H.Handler.acts g.T.Handler.acts c.self.inside.state c.step.new.self c.args.step (c.self.invariant c.if-self.false) c.in_ok-step.ensures
