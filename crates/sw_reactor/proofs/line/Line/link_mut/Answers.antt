use Rattle.std.proofs.Common.{refl, sym}
use Rattle.sw_reactor.proofs.Links.{link_none}
use Rattle.sw_reactor.proofs.line.Line.link_mut.Goals as goal

pub returns-in-None : goal.returns-in-None
returns-in-None g c = (refl, record { writes_back = tt; value = sym (link_none c.args.session c.args.self.now.conns c.in-None.ensures) })
