use Rattle.std.proofs.Common.{OnOk}
use Rattle.sw_world_places.specs.Ends.{HasRoom}
use Rattle.sw_world_reactors_fits.proofs.Changed.{room_made}
use Rattle.sw_world_reactors_fits.proofs.laws.made_room_stands.Goals as goal

pub returns : goal.returns
returns g c = λ t all more tables n result lt h at. room_made t all more tables n (λ q. OnOk result (HasRoom q.ends)) lt h at
