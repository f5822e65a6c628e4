use Rattle.sw_world_stands.proofs.Starts.{new_stand}
use Rattle.sw_world_stands.proofs.pipes.new_places_stand.Goals as goal

pub returns : goal.returns
returns c = new_stand
