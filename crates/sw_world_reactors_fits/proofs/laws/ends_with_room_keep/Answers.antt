use Rattle.sw_world_reactors_fits.proofs.Changed.{room_keeps}
use Rattle.sw_world_reactors_fits.proofs.laws.ends_with_room_keep.Goals as goal

pub returns : goal.returns
returns c = λ e room l ended kept g h. room_keeps e room l ended kept g h
