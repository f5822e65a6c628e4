use Rattle.sw_world_steps.proofs.Reactors.{reactor_goes}
use Rattle.sw_world_steps.proofs.turns.reactor_turns_are_the_worlds.Goals as goal

pub returns : goal.returns
returns g v = λ kept_of t served crews shape n c s d r r2 f b b2 o o2 q e e2 got made ask rows law lt is st due turn it same new keeps turns. reactor_goes g.E.Ends.put_gives kept_of t served crews shape n c s d r r2 f b b2 o o2 q e e2 got made ask rows law lt is st due turn it same new keeps turns
