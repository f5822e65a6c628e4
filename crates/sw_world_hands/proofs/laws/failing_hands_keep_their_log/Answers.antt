use Rattle.sw_world_hands.proofs.Family.{hands_fail}
use Rattle.sw_world_hands.proofs.laws.failing_hands_keep_their_log.Goals as goal

pub returns : goal.returns
returns c = λ t limit left y s got dids u d turn l. hands_fail t limit left y s got dids u d turn l
