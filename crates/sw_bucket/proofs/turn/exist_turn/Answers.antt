use Rattle.std.proofs.Common.{sym}
use Rattle.sw_bucket.proofs.Turning.{turn_no, turn_yes}
use Rattle.sw_bucket.proofs.turn.exist_turn.Goals as goal

pub returns-in-None : goal.returns-in-None
returns-in-None c = λ cs b. turn_no cs c.args.chain.now c.args.key.now (sym c.in-None.ensures.value)

pub returns-in-Some : goal.returns-in-Some
returns-in-Some c = λ cs b. turn_yes cs c.args.chain.now c.args.key.now c.in-Some.field-0 b (sym c.in-Some.ensures.value)
