use Rattle.sw_world_whole.proofs.Fed.{message_same}
use Rattle.sw_world_whole.proofs.scripts.taken_links_go_on.Goals as goal

pub returns : goal.returns
returns c = λ ss y g. message_same ss y g
