use Rattle.sw_world_front_fits.proofs.Front.{front_new}
use Rattle.sw_world_front_fits.proofs.laws.new_fronts_stand.Goals as goal

pub returns : goal.returns
returns c = λ t f door net links none. front_new t f door net links none
