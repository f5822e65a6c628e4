use Rattle.sw_world_front_fits.proofs.Front.{front_turns}
use Rattle.sw_world_front_fits.proofs.laws.turns_fit.Goals as goal

pub returns : goal.returns
returns c = λ t shape p f h s b x o q got ask st news book board turn caps some k. front_turns t shape p f h s b x o q got ask st news book board turn caps some k
