use Rattle.sw_world_hand_fits.proofs.Workers.{tasker_tells}
use Rattle.sw_world_hand_fits.proofs.turns.task_workers_tell_their_log.Goals as goal

pub returns : goal.returns
returns g c = λ told t limit y number s got h k b f q u o r ask calls dids tells is made gone. tasker_tells told g.T.Handler.acts t limit y number s got h k b f q u o r ask calls dids tells is made gone
