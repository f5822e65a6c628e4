use Rattle.std.proofs.Common.{refl, sym, subst}
use Rattle.sw_reactor.specs.Ready.{tickets}
use Rattle.sw_reactor.proofs.Kept.{apart_removed, map_at, tickets_left}
use Rattle.sw_reactor.proofs.reactor.Reactor.leave.Goals as goal

pub release-uid-requires : goal.release-uid-requires
release-uid-requires g c = subst (λ t. g.B.Book.holds c.args.book.now t) (sym c.into_parts-link.ensures.1) (c.requires.apart.held c.args.self.now.at c.remove-conn.result.ticket (map_at (λ x. x.ticket) c.args.self.now.line.conns c.args.self.now.at c.remove-conn.result c.remove-conn.ensures.taken))

pub returns-clause-leaves : goal.returns-clause-leaves
returns-clause-leaves g c =
    let found = rw c.into_parts-link.ensures.1 at c.release-uid.ensures.found in
    let gives = rw (c.account-ended.ensures, c.into_parts-link.ensures.0, ← c.is_ok-kept.ensures.value) at c.put.ensures.gives in
    (c.remove-conn.result, (c.remove-conn.ensures.taken, (c.release-uid.result, (found, (c.is_ok-kept.result, (gives, c.count_end.ensures.counts, rw (c.close_up.ensures, c.count_end.ensures.reactor, c.remove-conn.ensures.left) refl))))))

pub returns-clause-apart : goal.returns-clause-apart
returns-clause-apart g c =
    let standing = map_at (λ x. x.ticket) c.args.self.now.line.conns c.args.self.now.at c.remove-conn.result c.remove-conn.ensures.taken in
    let others = rw c.into_parts-link.ensures.1 at c.release-uid.ensures.others in
    let left = apart_removed g.B.Book.holds g.B.Book.differ c.args.book.now c.release-uid.new.self (tickets c.args.self.now) c.args.self.now.at c.remove-conn.result.ticket c.requires.apart standing others in
    rw (c.close_up.ensures, c.count_end.ensures.reactor, c.remove-conn.ensures.left, tickets_left c.args.self.now.line.conns c.args.self.now.at) left
