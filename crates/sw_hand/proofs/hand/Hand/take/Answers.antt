-- An event for this hand is given to its handler.
use Rattle.std.proofs.Common.{◌≡◌, true, sym, ◌∙◌}
use Rattle.sw_hand.specs.Stage.{current_of, is_for}
use Rattle.sw_hand.proofs.hand.Hand.take.Goals as goal

pub returns-then-is_for-clause-takes : goal.returns-then-is_for-clause-takes
returns-then-is_for-clause-takes g c =
    let now : c.of-current.result ≡ current_of c.in-Event.event = c.of-current.ensures in
    let mine : is_for c.args.self.now.kind (current_of c.in-Event.event) ≡ true = rw now at (sym c.is_for.ensures ∙ c.if-is_for.true) in
    rw c.in-Event.is (rw mine (rw now at c.give.ensures.gives))
