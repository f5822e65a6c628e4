use Rattle.std.proofs.Common.{◌≡◌, None, ap}
use Rattle.sw_http.specs.Cutting.{fault_in}
use Rattle.sw_http.proofs.First.{kept_fed}
use Rattle.sw_http.proofs.kept.Kept.feed.Goals as goal

pub returns-in_ok-push-in-InBody-clause-right : goal.returns-in_ok-push-in-InBody-clause-right
returns-in_ok-push-in-InBody-clause-right c =
    let k = c.args.self.now in
    let alive : fault_in k.reading ≡ None = ap fault_in c.in-InBody.is in
    record { fit = c.requires.fit; reading = rw c.in_ok-push-in-InBody.ensures.ok (kept_fed k.max k.rest c.args.piece.now k.reading alive c.requires.reading) }
