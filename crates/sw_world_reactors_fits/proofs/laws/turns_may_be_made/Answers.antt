use Rattle.sw_world_reactors_fits.proofs.Apart.{may_turn}
use Rattle.sw_world_reactors_fits.proofs.laws.turns_may_be_made.Goals as goal

pub returns : goal.returns
returns c = λ t n p s d o got b w h ready. may_turn t n p s d o got b w h ready
