use Rattle.sw_hand_laws.proofs.Course.{shows_before}
use Rattle.sw_hand_laws.proofs.laws.hands_show_their_laws.Goals as goal

pub returns : goal.returns
returns c = λ t y limit left st h got hand k. shows_before t y limit left st h got hand k
