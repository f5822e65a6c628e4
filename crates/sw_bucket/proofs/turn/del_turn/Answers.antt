use Rattle.std.proofs.Common.{sym}
use Rattle.sw_bucket.proofs.Turning.{turn_none_out, turn_out}
use Rattle.sw_bucket.proofs.turn.del_turn.Goals as goal

pub returns-in-None : goal.returns-in-None
returns-in-None c = λ cs b. turn_none_out cs c.args.chain.now c.args.key.now (sym c.in-None.ensures.value)

pub returns-in-Some : goal.returns-in-Some
returns-in-Some c = λ cs b. turn_out cs c.args.chain.now c.args.key.now c.in-Some.field-0 b (sym c.in-Some.ensures.value)
