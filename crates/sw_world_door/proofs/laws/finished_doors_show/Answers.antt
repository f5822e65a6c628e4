use Rattle.sw_world_door.proofs.Doors.{door_done}
use Rattle.sw_world_door.proofs.laws.finished_doors_show.Goals as goal

pub returns : goal.returns
returns c = λ t s d h. door_done t s d h
