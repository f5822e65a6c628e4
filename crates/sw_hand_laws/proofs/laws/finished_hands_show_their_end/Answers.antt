use Rattle.sw_hand_laws.proofs.Course.{finished_behind}
use Rattle.sw_hand_laws.proofs.laws.finished_hands_show_their_end.Goals as goal

pub returns : goal.returns
returns c = λ t y limit left p st h got hand k q. finished_behind t y limit left p st h got hand k q
