use Rattle.sw_world_hands.proofs.Hands.{hand_keeps}
use Rattle.sw_world_hands.proofs.laws.turns_keep_the_law.Goals as goal

pub returns : goal.returns
returns c = λ t limit left y s got dids u ask d turn l. hand_keeps t limit left y s got dids u ask d turn l
