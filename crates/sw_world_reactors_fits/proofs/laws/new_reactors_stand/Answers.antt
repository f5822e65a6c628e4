use Rattle.sw_world_reactors_fits.proofs.Changed.{new_all}
use Rattle.sw_world_reactors_fits.proofs.laws.new_reactors_stand.Goals as goal

pub returns : goal.returns
returns c = λ t size all some h. new_all t size all some h
