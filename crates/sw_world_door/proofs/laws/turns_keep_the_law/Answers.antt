use Rattle.sw_world_door.proofs.Doors.{door_keeps}
use Rattle.sw_world_door.proofs.laws.turns_keep_the_law.Goals as goal

pub returns : goal.returns
returns c = λ t s got dids u ask d turn q. door_keeps t s got dids u ask d turn q
