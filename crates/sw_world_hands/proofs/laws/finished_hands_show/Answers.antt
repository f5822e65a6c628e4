use Rattle.sw_world_hands.proofs.Hands.{over_done}
use Rattle.sw_world_hands.proofs.laws.finished_hands_show.Goals as goal

pub returns : goal.returns
returns c = λ t limit left y s d l. over_done t limit left y s d l
