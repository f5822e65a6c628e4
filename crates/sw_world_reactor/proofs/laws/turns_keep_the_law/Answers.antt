use Rattle.sw_world_reactor.proofs.Keeps.{reactor_keeps}
use Rattle.sw_world_reactor.proofs.laws.turns_keep_the_law.Goals as goal

pub returns : goal.returns
returns c = λ t y s got feed dids u ask d turn q. reactor_keeps t y s got feed dids u ask d turn q
