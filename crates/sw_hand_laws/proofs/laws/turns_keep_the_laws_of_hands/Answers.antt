use Rattle.sw_hand_laws.proofs.Course.{good}
use Rattle.sw_hand_laws.proofs.laws.turns_keep_the_laws_of_hands.Goals as goal

pub returns : goal.returns
returns c = λ t y limit left st h got hand k. good t y limit left st h got hand k
