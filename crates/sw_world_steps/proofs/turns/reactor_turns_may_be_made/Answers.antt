use Rattle.sw_world_steps.proofs.Reactors.{reactor_before}
use Rattle.sw_world_steps.proofs.turns.reactor_turns_may_be_made.Goals as goal

pub returns : goal.returns
returns g v = λ kept_of t served crews shape n c s d r f b o q e got made rows law lt is st due turn it same new keeps. reactor_before g.E.Ends.put_gives kept_of t served crews shape n c s d r f b o q e got made rows law lt is st due turn it same new keeps
