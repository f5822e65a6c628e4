use Rattle.std.proofs.Common.{sym, subst, ◌∙◌}
use Rattle.sw_bucket.specs.Turns.{IsTurn}
use Rattle.sw_bucket.proofs.Turning.{asks_write, asks_number}
use Rattle.sw_bucket.proofs.turn.asks.Goals as goal

pub returns-in-Write : goal.returns-in-Write
returns-in-Write c = λ cs call b t. asks_write cs c.args.chain.now call c.in-Write.at b (subst (IsTurn cs c.args.chain.now call) c.in-Write.is t) ∙ sym c.is_behind.ensures

pub returns-in-Number : goal.returns-in-Number
returns-in-Number c = λ cs call b t. asks_number cs c.args.chain.now call c.in-Number.at _ _ b (subst (IsTurn cs c.args.chain.now call) c.in-Number.is t) ∙ sym c.is_behind-in-Number.ensures
