use Rattle.sw_world_whole.proofs.Told.{links_told}
use Rattle.sw_world_whole.proofs.telling.reactors_tell_their_links.Goals as goal

pub returns : goal.returns
returns g b = λ t served crews shape v P c st n o lt is. links_told t served crews shape v P c st n o lt is
