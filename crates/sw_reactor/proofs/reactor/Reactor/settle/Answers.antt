use Rattle.std.proofs.Common.{false, refl, sym, ◌∙◌, subst, append-nil}
use Rattle.sw_reactor.specs.Ready.{AreApart, tickets, with_brought}
use Rattle.sw_reactor.proofs.Kept.{message_kept, push_kept, full_kept, ready_line, same_line}
use Rattle.sw_reactor.proofs.reactor.Reactor.settle.Goals as goal

pub returns-in-Took-clause-ready : goal.returns-in-Took-clause-ready
returns-in-Took-clause-ready g c =
    (message_kept g.K.Ticketed.number (record c.args.self.now { empty = false }) c.in-Took.message c.settle_message.new.self (ready_line g.K.Ticketed.number c.args.self.now (record c.args.self.now { empty = false }) c.requires.ready refl refl refl (same_line c.args.self.now.line)) c.settle_message.ensures.settles).ready

pub returns-in-Took-clause-apart : goal.returns-in-Took-clause-apart
returns-in-Took-clause-apart g c =
    let kept = message_kept g.K.Ticketed.number (record c.args.self.now { empty = false }) c.in-Took.message c.settle_message.new.self (ready_line g.K.Ticketed.number c.args.self.now (record c.args.self.now { empty = false }) c.requires.ready refl refl refl (same_line c.args.self.now.line)) c.settle_message.ensures.settles in
    let given = subst (λ x. AreApart {B = g.row.B.Denot} {K = g.row.K.Denot} g.B.Book.holds g.B.Book.differ c.args.book.now (with_brought c.args.self.now x)) c.in-Took.is c.requires.apart in
    subst (λ b. AreApart {B = g.row.B.Denot} {K = g.row.K.Denot} g.B.Book.holds g.B.Book.differ b (tickets c.settle_message.new.self)) (sym c.settle_message.ensures.book) (subst (λ ts. AreApart {B = g.row.B.Denot} {K = g.row.K.Denot} g.B.Book.holds g.B.Book.differ c.args.book.now ts) (sym kept.tickets) given)

pub returns-in-Pushed-clause-ready : goal.returns-in-Pushed-clause-ready
returns-in-Pushed-clause-ready g c = (push_kept g.K.Ticketed.number c.args.self.now c.args.self.now.asked c.settle_push.new.self c.requires.ready c.settle_push.ensures).ready

pub returns-in-Pushed-clause-apart : goal.returns-in-Pushed-clause-apart
returns-in-Pushed-clause-apart g c =
    let kept = push_kept g.K.Ticketed.number c.args.self.now c.args.self.now.asked c.settle_push.new.self c.requires.ready c.settle_push.ensures in
    let given = subst (λ x. AreApart {B = g.row.B.Denot} {K = g.row.K.Denot} g.B.Book.holds g.B.Book.differ c.args.book.now (with_brought c.args.self.now x)) c.in-Pushed.is c.requires.apart in
    subst (λ ts. AreApart {B = g.row.B.Denot} {K = g.row.K.Denot} g.B.Book.holds g.B.Book.differ c.args.book.now ts) (append-nil (tickets c.args.self.now) ∙ sym kept.tickets) given

pub returns-in-Full-clause-ready : goal.returns-in-Full-clause-ready
returns-in-Full-clause-ready g c = (full_kept g.K.Ticketed.number c.args.self.now c.in-Full.message c.settle_full.new.self c.requires.ready c.settle_full.ensures).ready

pub returns-in-Full-clause-apart : goal.returns-in-Full-clause-apart
returns-in-Full-clause-apart g c =
    let kept = full_kept g.K.Ticketed.number c.args.self.now c.in-Full.message c.settle_full.new.self c.requires.ready c.settle_full.ensures in
    let given = subst (λ x. AreApart {B = g.row.B.Denot} {K = g.row.K.Denot} g.B.Book.holds g.B.Book.differ c.args.book.now (with_brought c.args.self.now x)) c.in-Full.is c.requires.apart in
    subst (λ ts. AreApart {B = g.row.B.Denot} {K = g.row.K.Denot} g.B.Book.holds g.B.Book.differ c.args.book.now ts) (append-nil (tickets c.args.self.now) ∙ sym kept.tickets) given
