use Rattle.sw_world_hands.proofs.Hands.{law_shows}
use Rattle.sw_world_hands.proofs.laws.what_hands_show.Goals as goal

pub returns : goal.returns
returns c = λ t limit left y s got d l. law_shows t limit left y s got d l
