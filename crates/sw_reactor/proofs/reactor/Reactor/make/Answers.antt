use Rattle.std.proofs.Common.{sym, subst}
use Rattle.sw_reactor.specs.Ready.{AreApart, tickets}
use Rattle.sw_reactor.proofs.Kept.{tells_kept, read_kept, apart_keeps}
use Rattle.sw_reactor.proofs.reactor.Reactor.make.Goals as goal

pub returns-in-Tell-clause-apart : goal.returns-in-Tell-clause-apart
returns-in-Tell-clause-apart g c =
    let kept = tells_kept g.K.Ticketed.number g.B.Book.look_finds g.C.Board.goes g.C.Board.sizes c.in-Tell.event c.args.self.now c.args.book.now c.args.board.now c.tell.result c.tell.new.self c.tell.new.book c.tell.new.board c.requires.ready c.tell.ensures.tells in
    subst (λ ts. AreApart {B = g.row.B.Denot} {K = g.row.K.Denot} g.B.Book.holds g.B.Book.differ c.tell.new.book ts) (sym kept.tickets) (apart_keeps g.B.Book.size g.B.Book.holds g.B.Book.differ c.args.book.now c.tell.new.book (tickets c.args.self.now) c.tell.ensures.kept c.requires.apart)

pub returns-in-Read-clause-apart : goal.returns-in-Read-clause-apart
returns-in-Read-clause-apart g c =
    let kept = read_kept g.K.Ticketed.number g.L.Link.read_gives c.args.wrote c.args.self.now c.read_more.result c.read_more.new.self c.requires.ready c.read_more.ensures in
    subst (λ ts. AreApart {B = g.row.B.Denot} {K = g.row.K.Denot} g.B.Book.holds g.B.Book.differ c.args.book.now ts) (sym kept.tickets) c.requires.apart
