use Rattle.sw_world_hands.proofs.Hands.{after_shows}
use Rattle.sw_world_hands.proofs.laws.what_asking_hands_show.Goals as goal

pub returns : goal.returns
returns c = λ t limit left y s ask d h. after_shows t limit left y s ask d h
