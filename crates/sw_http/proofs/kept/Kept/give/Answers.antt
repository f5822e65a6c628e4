use Rattle.std.proofs.Common.{take}
use Rattle.sw_http.specs.declared.kept.Reading.TheVariants.{InBody}
use Rattle.sw_http.specs.Cutting.{IsKept}
use Rattle.sw_http.proofs.First.{in_nothing, body_request}
use Rattle.sw_http.proofs.kept.Kept.give.Goals as goal

pub returns-in-Err-clause-answer : goal.returns-in-Err-clause-answer
returns-in-Err-clause-answer c =
    let k = c.args.self.now in
    let kept : IsKept k.max k.rest (InBody c.args.head c.args.total) = rw c.requires.body at c.requires.right.reading in
    (take c.args.total k.rest, c.args.head, body_request k.max k.rest c.args.head c.args.total kept.0 kept.1 (rw c.bytes.ensures at c.if-total-bytes.false))

pub returns-in-Ok-clause-right : goal.returns-in-Ok-clause-right
returns-in-Ok-clause-right c = record { fit = c.requires.right.fit; reading = rw c.new.ensures (in_nothing (take c.args.self.now.max c.take.new.self)) }
