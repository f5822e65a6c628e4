use Rattle.sw_world_crew_fits.proofs.Taskers.{tasker_on}
use Rattle.sw_world_crew_fits.proofs.laws.taskers_go_on.Goals as goal

pub returns : goal.returns
returns g c = λ told t limit n number s got h k b f q u o r ask calls dids tells num it fits ngot made row gone. tasker_on told g.T.Handler.acts t limit n number s got h k b f q u o r ask calls dids tells num it fits ngot made row gone
