use Rattle.std.proofs.Common.{refl}
use Rattle.sw_conn.specs.Conn.{IsFresh}
use Rattle.sw_reactor.proofs.reactor.Reactor.take_fresh.Goals as goal

pub returns-clause-joins : goal.returns-clause-joins
returns-clause-joins g c =
    let fresh : IsFresh c.args.self.now.framing c.args.link c.args.ip c.args.ticket (g.K.Ticketed.number c.args.ticket) c.new-conn.result = rw (c.session-session.ensures, c.tell_apart.ensures.ticket) at c.new-conn.ensures in
    ((c.new-conn.result, (fresh, rw c.tell_apart.ensures.line at c.join.ensures)), refl)
