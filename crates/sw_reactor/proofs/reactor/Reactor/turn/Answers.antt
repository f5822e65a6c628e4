use Rattle.std.proofs.Common.{refl, sym, subst}
use Rattle.sw_reactor.specs.Ready.{AreApart}
use Rattle.sw_reactor.specs.Serving.{ports_of, Serves, Chooses_by}
use Rattle.sw_reactor.proofs.Kept.{takes_kept, serves_ready}
use Rattle.sw_reactor.proofs.reactor.Reactor.turn.Goals as goal

pub returns-in-Take-clause-turns : goal.returns-in-Take-clause-turns
returns-in-Take-clause-turns g c = (
  c.settle.new.self,
  (
    c.settle.ensures.settles,
    (
      c.count_push.new.board,
      (
        c.count_push.ensures.counts,
        subst (λ x. Chooses_by (ports_of g.K.Ticketed.number g.L.Link.read_gives g.L.Link.write_gives g.B.Book.look_finds g.B.Book.release_finds g.C.Board.goes g.C.Board.sizes g.E.Ends.put_gives) x c.settle.new.self c.args.book.now c.count_push.new.board c.args.ends.now c.serve.result c.serve.new.self c.serve.new.book c.serve.new.board c.serve.new.ends) (sym c.in-Take.is)
            (subst (λ b. Serves (ports_of g.K.Ticketed.number g.L.Link.read_gives g.L.Link.write_gives g.B.Book.look_finds g.B.Book.release_finds g.C.Board.goes g.C.Board.sizes g.E.Ends.put_gives) c.settle.new.self b c.count_push.new.board c.args.ends.now c.serve.result c.serve.new.self c.serve.new.book c.serve.new.board c.serve.new.ends) c.settle.ensures.book c.serve.ensures.serves),
      ),
    ),
  ),
)

pub returns-in-Take-clause-ready : goal.returns-in-Take-clause-ready
returns-in-Take-clause-ready g c =
    serves_ready g.K.Ticketed.number (ports_of g.K.Ticketed.number g.L.Link.read_gives g.L.Link.write_gives g.B.Book.look_finds g.B.Book.release_finds g.C.Board.goes g.C.Board.sizes g.E.Ends.put_gives) c.settle.new.self c.settle.new.book c.count_push.new.board c.args.ends.now c.serve.result c.serve.new.self c.serve.new.book c.serve.new.board c.serve.new.ends c.settle.ensures.ready c.serve.ensures.serves

pub returns-in-Event-clause-turns : goal.returns-in-Event-clause-turns
returns-in-Event-clause-turns g c =
    (c.settle.new.self, (c.settle.ensures.settles, (c.count_push.new.board, (c.count_push.ensures.counts, subst (λ x. Chooses_by (ports_of g.K.Ticketed.number g.L.Link.read_gives g.L.Link.write_gives g.B.Book.look_finds g.B.Book.release_finds g.C.Board.goes g.C.Board.sizes g.E.Ends.put_gives) x c.settle.new.self c.args.book.now c.count_push.new.board c.args.ends.now c.take.result c.take.new.self c.settle.new.book c.take.new.board c.args.ends.now) (sym c.in-Event.is) (c.take.ensures.takes, c.settle.ensures.book, refl)))))

pub returns-in-Event-clause-ready : goal.returns-in-Event-clause-ready
returns-in-Event-clause-ready g c = (takes_kept g.K.Ticketed.number g.C.Board.goes c.settle.new.self c.count_push.new.board c.take.result c.take.new.self c.take.new.board c.settle.ensures.ready c.take.ensures.takes).ready

pub returns-in-Event-clause-apart : goal.returns-in-Event-clause-apart
returns-in-Event-clause-apart g c =
    let kept = takes_kept g.K.Ticketed.number g.C.Board.goes c.settle.new.self c.count_push.new.board c.take.result c.take.new.self c.take.new.board c.settle.ensures.ready c.take.ensures.takes in
    subst (λ ts. AreApart {B = g.row.B.Denot} {K = g.row.K.Denot} g.B.Book.holds g.B.Book.differ c.settle.new.book ts) (sym kept.tickets) c.settle.ensures.apart

pub returns-in-NoMore-clause-turns : goal.returns-in-NoMore-clause-turns
returns-in-NoMore-clause-turns g c =
    (c.settle.new.self, (c.settle.ensures.settles, (c.count_push.new.board, (c.count_push.ensures.counts, subst (λ x. Chooses_by (ports_of g.K.Ticketed.number g.L.Link.read_gives g.L.Link.write_gives g.B.Book.look_finds g.B.Book.release_finds g.C.Board.goes g.C.Board.sizes g.E.Ends.put_gives) x c.settle.new.self c.args.book.now c.count_push.new.board c.args.ends.now c.take-in-NoMore.result c.take-in-NoMore.new.self c.settle.new.book c.take-in-NoMore.new.board c.args.ends.now) (sym c.in-NoMore.is) (c.take-in-NoMore.ensures.takes, c.settle.ensures.book, refl)))))

pub returns-in-NoMore-clause-ready : goal.returns-in-NoMore-clause-ready
returns-in-NoMore-clause-ready g c = (takes_kept g.K.Ticketed.number g.C.Board.goes c.settle.new.self c.count_push.new.board c.take-in-NoMore.result c.take-in-NoMore.new.self c.take-in-NoMore.new.board c.settle.ensures.ready c.take-in-NoMore.ensures.takes).ready

pub returns-in-NoMore-clause-apart : goal.returns-in-NoMore-clause-apart
returns-in-NoMore-clause-apart g c =
    let kept = takes_kept g.K.Ticketed.number g.C.Board.goes c.settle.new.self c.count_push.new.board c.take-in-NoMore.result c.take-in-NoMore.new.self c.take-in-NoMore.new.board c.settle.ensures.ready c.take-in-NoMore.ensures.takes in
    subst (λ ts. AreApart {B = g.row.B.Denot} {K = g.row.K.Denot} g.B.Book.holds g.B.Book.differ c.settle.new.book ts) (sym kept.tickets) c.settle.ensures.apart

pub returns-in-Nothing-clause-turns : goal.returns-in-Nothing-clause-turns
returns-in-Nothing-clause-turns g c =
    (c.settle.new.self, (c.settle.ensures.settles, (c.count_push.new.board, (c.count_push.ensures.counts, subst (λ x. Chooses_by (ports_of g.K.Ticketed.number g.L.Link.read_gives g.L.Link.write_gives g.B.Book.look_finds g.B.Book.release_finds g.C.Board.goes g.C.Board.sizes g.E.Ends.put_gives) x c.settle.new.self c.args.book.now c.count_push.new.board c.args.ends.now c.take-in-Nothing.result c.take-in-Nothing.new.self c.settle.new.book c.take-in-Nothing.new.board c.args.ends.now) (sym c.in-Nothing.is) (c.take-in-Nothing.ensures.takes, c.settle.ensures.book, refl)))))

pub returns-in-Nothing-clause-ready : goal.returns-in-Nothing-clause-ready
returns-in-Nothing-clause-ready g c = (takes_kept g.K.Ticketed.number g.C.Board.goes c.settle.new.self c.count_push.new.board c.take-in-Nothing.result c.take-in-Nothing.new.self c.take-in-Nothing.new.board c.settle.ensures.ready c.take-in-Nothing.ensures.takes).ready

pub returns-in-Nothing-clause-apart : goal.returns-in-Nothing-clause-apart
returns-in-Nothing-clause-apart g c =
    let kept = takes_kept g.K.Ticketed.number g.C.Board.goes c.settle.new.self c.count_push.new.board c.take-in-Nothing.result c.take-in-Nothing.new.self c.take-in-Nothing.new.board c.settle.ensures.ready c.take-in-Nothing.ensures.takes in
    subst (λ ts. AreApart {B = g.row.B.Denot} {K = g.row.K.Denot} g.B.Book.holds g.B.Book.differ c.settle.new.book ts) (sym kept.tickets) c.settle.ensures.apart
