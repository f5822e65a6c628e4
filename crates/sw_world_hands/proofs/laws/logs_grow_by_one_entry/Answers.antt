use Rattle.sw_world_hands.proofs.Family.{hands_grow}
use Rattle.sw_world_hands.proofs.laws.logs_grow_by_one_entry.Goals as goal

pub returns : goal.returns
returns c = λ t limit left y s got dids u ask d turn l. hands_grow t limit left y s got dids u ask d turn l
