use Rattle.sw_join.specs.Legal.{LegalFor}
use Rattle.sw_world_reactor_fits.proofs.Turn.{turn_is}
use Rattle.sw_world_reactor_fits.proofs.laws.a_turn_is_the_worlds.Goals as goal

pub returns : goal.returns
returns g c = λ kept_of t shape n p s d r q got a b b2 o o2 e f h z. turn_is g.E.Ends.put_gives kept_of t (LegalFor shape) n p s d r q got a b b2 o o2 e f h z
