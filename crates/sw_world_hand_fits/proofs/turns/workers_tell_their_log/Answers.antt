use Rattle.sw_world_hand_fits.proofs.Telling.{line_log}
use Rattle.sw_world_hand_fits.proofs.Workers.{worker_tells}
use Rattle.sw_world_hand_fits.proofs.turns.workers_tell_their_log.Goals as goal

pub returns-clause-keeps : goal.returns-clause-keeps
returns-clause-keeps g c = λ told t crews y number s got h k b f q u o r ask calls dids tells is line fits made gone. worker_tells told g.H.Handler.acts t crews y number s got h k b f q u o r ask calls dids tells is line fits made gone

pub returns-clause-log : goal.returns-clause-log
returns-clause-log g c = λ told limit num gh l t k. line_log told limit num gh l t k
