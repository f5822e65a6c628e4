-- A ticket of the book before is one of the book after, so the book is the same.
use Rattle.std.proofs.Common.{refl, sym}
use Rattle.sw_sessions.specs.Values.{ticket_now}
use Rattle.sw_sessions_uses.proofs.shared.answer.Goals as goal

pub returns-in-Look-clause-book : goal.returns-in-Look-clause-book
returns-in-Look-clause-book c = (refl, sym (c.look_at.ensures.1 (ticket_now c.args.pass.now.book 0) refl))

pub returns-in-Bind-clause-book : goal.returns-in-Bind-clause-book
returns-in-Bind-clause-book c = (refl, sym (c.bind_to.ensures.1 (ticket_now c.args.pass.now.book 0) refl))
