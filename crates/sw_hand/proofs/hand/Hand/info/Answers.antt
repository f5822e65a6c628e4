-- What is known of a session is the handler's answer.
use Rattle.std.proofs.Common.{◌≡◌, true, false, refl, sym, ◌∙◌}
use Rattle.sw_port_book.specs.declared.answers.Look.TheVariants.{Live}
use Rattle.sw_hand.specs.Reaching.{info_known}
use Rattle.sw_hand.proofs.hand.Hand.info.Goals as goal

pub returns-then-is_known-clause-tells : goal.returns-then-is_known-clause-tells
returns-then-is_known-clause-tells g c =
    let known : info_known c.args.self.now c.args.current c.args.session ≡ true = sym c.is_known.ensures ∙ c.if-is_known.true in
    rw known (rw c.known-known.ensures at c.answer.ensures.answers, refl)

pub returns-in-Live-clause-tells : goal.returns-in-Live-clause-tells
returns-in-Live-clause-tells g c =
    let known : info_known c.args.self.now c.args.current c.args.session ≡ false = sym c.is_known.ensures ∙ c.if-is_known.false in
    rw known (Live c.in-Live.uid, (c.in-Live.ensures.found, rw c.known-known-in-Live.ensures at c.answer-in-Live.ensures.answers))
