use Rattle.sw_world_crew_fits.proofs.Taskers.{tasker_changed}
use Rattle.sw_world_crew_fits.proofs.laws.changed_taskers_stand.Goals as goal

pub returns : goal.returns
returns g c = λ told t count all more states after n k h e same here. tasker_changed told t count all more states after n k h e same here
