use Rattle.sw_world_whole.proofs.Told.{all_done}
use Rattle.sw_world_whole.proofs.telling.finished_places_are_done.Goals as goal

pub returns : goal.returns
returns g b = λ t served crews shape v P c st finished. all_done t served crews shape v P c st finished
