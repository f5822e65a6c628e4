use Rattle.sw_world_hands.proofs.Family.{hands_may}
use Rattle.sw_world_hands.proofs.laws.calls_are_allowed.Goals as goal

pub returns : goal.returns
returns c = λ t limit y s got dids u ask turn. hands_may t limit y s got dids u ask turn
