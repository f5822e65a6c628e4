use Rattle.sw_world_whole.proofs.Told.{record_holds}
use Rattle.sw_world_whole.proofs.telling.a_standing_core_is_right.Goals as goal

pub returns : goal.returns
returns g b = λ t served crews shape v P c st is. record_holds t served crews shape v P c st is
