use Rattle.sw_world_hand_fits.proofs.Workers.{worker_goes}
use Rattle.sw_world_hand_fits.proofs.turns.handlers_follow_one_another.Goals as goal

pub returns : goal.returns
returns g c = λ t crews y number s got h k b f q u o r ask calls dids is fits made gone. worker_goes g.H.Handler.acts t crews y number s got h k b f q u o r ask calls dids is fits made gone
