use Rattle.sw_world_hand_fits.proofs.Workers.{goes_numbered}
use Rattle.sw_world_hand_fits.proofs.turns.sessions_stay_numbered.Goals as goal

pub returns : goal.returns
returns g c = λ t limit y number s got h k b f q u o r ask calls dids num fits ngot n made gone. goes_numbered g.H.Handler.acts t limit y number s got h k b f q u o r ask calls dids num fits ngot n made gone
