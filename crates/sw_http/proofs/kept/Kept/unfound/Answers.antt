use Rattle.httparse.specs.Spans.{RequestOverflows}
use Rattle.sw_http.specs.First.{most_fields}
use Rattle.sw_http.proofs.First.{first_bad}
use Rattle.sw_http.proofs.kept.Kept.unfound.Goals as goal

pub fail-requires-clause-due : goal.fail-requires-clause-due
fail-requires-clause-due c =
    let k = c.args.self.now in
    let over : RequestOverflows most_fields c.front.result.now = c.if-is_hopeless.ensures in
    first_bad k.max k.rest (rw c.front.ensures at over)
