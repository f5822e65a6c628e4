use Rattle.sw_join.specs.Legal.{LegalFor}
use Rattle.sw_world_stands.proofs.Starts.{due_steps}
use Rattle.sw_world_stands.proofs.pipes.due_turns_are_steps.Goals as goal

pub returns : goal.returns
returns g s = λ shape c y o got here sound due turn. due_steps g.F.Family.terms (LegalFor shape) g.F.Family.actors c y o got here sound due turn
