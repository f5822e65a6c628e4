use Rattle.std.proofs.Common.{refl, sym, subst}
use Rattle.sw_reactor.specs.Ready.{AreApart}
use Rattle.sw_reactor.proofs.Keeping.{alike_then}
use Rattle.sw_reactor.proofs.Kept.{flush_alike, choose_alike, ready_line}
use Rattle.sw_reactor.proofs.reactor.Reactor.serve_next.Goals as goal

pub make-requires-clause-ready : goal.make-requires-clause-ready
make-requires-clause-ready g c =
    ready_line g.K.Ticketed.number c.args.self.now (record c.args.self.now { line = c.choose-step.new.self }) c.requires.ready refl refl refl (alike_then c.args.self.now.line c.flush-wrote.new.self c.choose-step.new.self (flush_alike g.L.Link.write_gives c.args.self.now.line c.flush-wrote.new.self c.args.self.now.at c.flush-wrote.result c.flush-wrote.ensures) (choose_alike c.args.self.now.terms c.flush-wrote.new.self c.choose-step.new.self c.args.self.now.at c.choose-step.result c.choose-step.ensures))

pub make-requires-clause-apart : goal.make-requires-clause-apart
make-requires-clause-apart g c =
    let alike = alike_then c.args.self.now.line c.flush-wrote.new.self c.choose-step.new.self (flush_alike g.L.Link.write_gives c.args.self.now.line c.flush-wrote.new.self c.args.self.now.at c.flush-wrote.result c.flush-wrote.ensures) (choose_alike c.args.self.now.terms c.flush-wrote.new.self c.choose-step.new.self c.args.self.now.at c.choose-step.result c.choose-step.ensures) in
    subst (λ ts. AreApart {B = g.row.B.Denot} {K = g.row.K.Denot} g.B.Book.holds g.B.Book.differ c.args.book.now ts) (sym alike.tickets) c.requires.apart

pub returns-clause-serves : goal.returns-clause-serves
returns-clause-serves g c =
    (c.flush-wrote.result, (c.flush-wrote.new.self, (c.flush-wrote.ensures, (c.choose-step.result, (c.choose-step.new.self, (c.choose-step.ensures, c.make.ensures.steps))))))
