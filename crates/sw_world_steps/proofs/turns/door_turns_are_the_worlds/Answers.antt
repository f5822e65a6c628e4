use Rattle.sw_world_steps.proofs.Door.{door_goes}
use Rattle.sw_world_steps.proofs.turns.door_turns_are_the_worlds.Goals as goal

pub returns : goal.returns
returns v = λ t served crews shape c s f h b b2 o o2 q got ask rows law is st due turn turns. door_goes t served crews shape c s f h b b2 o o2 q got ask rows law is st due turn turns
