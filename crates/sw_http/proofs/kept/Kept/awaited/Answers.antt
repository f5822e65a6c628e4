use Rattle.sw_http.proofs.First.{first_endless}
use Rattle.sw_http.proofs.kept.Kept.awaited.Goals as goal

pub fail-requires-clause-due : goal.fail-requires-clause-due
fail-requires-clause-due c =
    let k = c.args.self.now in
    first_endless k.max k.rest c.args.scan c.requires.head c.requires.whole (rw c.bytes.ensures at c.if-bytes-self.true)
