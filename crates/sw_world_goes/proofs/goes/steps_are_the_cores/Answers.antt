use Rattle.sw_world_goes.proofs.Any.{step_goes}
use Rattle.sw_world_goes.proofs.goes.steps_are_the_cores.Goals as goal

pub returns : goal.returns
returns g b = λ t served crews shape worker tasker num nums tells told c s n st ready step h. step_goes g.H.Handler.acts g.T.Handler.acts t served crews shape worker tasker num nums tells told c s n st ready step h
