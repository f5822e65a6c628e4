use Rattle.sw_world_crew_fits.proofs.Taskers.{add_tasker}
use Rattle.sw_world_crew_fits.proofs.laws.added_taskers_stand.Goals as goal

pub returns : goal.returns
returns g c = λ told t left all count handler row house h is fits silent kinds. add_tasker told t left all count handler row house h is fits silent kinds
