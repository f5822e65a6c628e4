use Rattle.std.proofs.Common.{◌≡◌, Err, Ok, sym, ◌∙◌}
use Rattle.sw_http.specs.Heads.{measure}
use Rattle.sw_http.proofs.First.{measured_err, measured_ok}
use Rattle.sw_http.proofs.kept.Kept.headed.Goals as goal

pub fail-requires-clause-due : goal.fail-requires-clause-due
fail-requires-clause-due c =
    let k = c.args.self.now in
    let so : measure k.max c.args.head c.args.body ≡ Err c.in-Err.fault = sym c.measure.ensures ∙ c.in-Err.is in
    measured_err k.max k.rest c.args.head c.args.body c.requires.head.0 c.in-Err.fault c.requires.head.1 so

pub give-requires-clause-right : goal.give-requires-clause-right
give-requires-clause-right c =
    let k = c.args.self.now in
    let so : measure k.max c.args.head c.args.body ≡ Ok c.in-Ok.total = sym c.measure.ensures ∙ c.in-Ok.is in
    record { fit = c.requires.right.fit; reading = (c.requires.head.0, measured_ok k.max k.rest c.args.head c.args.body c.in-Ok.total c.requires.head.0 c.requires.head.1 so) }
