use Rattle.sw_world_reactors.specs.Owners.{IsReadyOwner, TurnsOwner}
use Rattle.sw_world_reactors.proofs.At.{at_owner}
use Rattle.sw_world_reactors.proofs.reactors.Reactors.turn.Goals as goal

pub returns-clause-turns : goal.returns-clause-turns
returns-clause-turns c = at_owner (λ o q. TurnsOwner o c.args.got c.args.book.now c.args.board.now c.turn.result q c.turn.new.book c.turn.new.board × IsReadyOwner q) c.self.inside.all.items c.args.self.now c.args.n c.index_mut.result.now c.turn.new.self c.self.view_is c.requires.at c.index_mut.ensures.value (c.turn.ensures.turns, c.turn.ensures.ready)
