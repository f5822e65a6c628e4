use Rattle.sw_world_crew_fits.proofs.Taskers.{tasker_may}
use Rattle.sw_world_crew_fits.proofs.laws.taskers_may_turn.Goals as goal

pub returns : goal.returns
returns g c = λ told t shape n h s w q p k board table. tasker_may told t shape n h s w q p k board table
