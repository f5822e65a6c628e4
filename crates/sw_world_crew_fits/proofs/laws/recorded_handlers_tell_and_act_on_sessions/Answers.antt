use Rattle.sw_world_crew_fits.proofs.Recorded.{recorded_numbers, recorded_tells}
use Rattle.sw_world_crew_fits.proofs.laws.recorded_handlers_tell_and_act_on_sessions.Goals as goal

pub returns : goal.returns
returns g c = record { numbers = recorded_numbers g.H.Handler.acts; tells = recorded_tells g.H.Handler.acts }
