use Rattle.sw_world_door.proofs.Doors.{door_shows}
use Rattle.sw_world_door.proofs.laws.what_doors_show.Goals as goal

pub returns : goal.returns
returns c = λ t s d hand h. door_shows t s d hand h
