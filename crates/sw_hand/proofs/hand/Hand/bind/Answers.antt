-- The book's answer is the handler's, in the mode by uid.
use Rattle.std.proofs.Common.{◌≡◌, true, ◌==◌, refl}
use Rattle.sw_hand.proofs.hand.Hand.bind.Goals as goal

pub returns-clause-binds : goal.returns-clause-binds
returns-clause-binds g c =
    let by_uid : (c.args.self.now.house.mode == 5) ≡ true = rw c.if-self-ne5.false refl in
    rw by_uid (c.bind-got.result, (c.bind-got.ensures.found, rw c.bound.ensures at c.answer-2.ensures.answers))
