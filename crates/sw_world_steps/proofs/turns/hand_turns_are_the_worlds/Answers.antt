use Rattle.sw_world_steps.proofs.Hands.{hand_goes}
use Rattle.sw_world_steps.proofs.turns.hand_turns_are_the_worlds.Goals as goal

pub returns : goal.returns
returns g v = λ t served crews shape y c s d h k f b b2 o o2 q q2 got ask rows law hand is st due turn it code acting stage w. hand_goes g.H.Handler.acts t served crews shape y c s d h k f b b2 o o2 q q2 got ask rows law hand is st due turn it code acting stage w
