use Rattle.sw_hand_laws.proofs.Settled.{settles}
use Rattle.sw_hand_laws.proofs.laws.logs_go_on_by_one_entry.Goals as goal

pub returns : goal.returns
returns c = λ t y limit left p st h got hand u k. settles t y limit left p st h got hand u k
