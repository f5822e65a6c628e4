use Rattle.std.proofs.Common.{sym, subst, ◌∙◌}
use Rattle.sw_bucket.specs.Turns.{IsTurn}
use Rattle.sw_bucket.proofs.Changing.{change_remove, change_write, change_number}
use Rattle.sw_bucket.proofs.turn.change.Goals as goal

pub returns-in-Remove : goal.returns-in-Remove
returns-in-Remove c = λ cs call pool b t spare. change_remove cs c.args.chain.now call pool b (subst (IsTurn cs c.args.chain.now call) c.in-Remove.is t)

pub returns-in-Write : goal.returns-in-Write
returns-in-Write c = λ cs call pool b t spare. c.written.ensures ∙ change_write cs c.args.chain.now call pool c.in-Write.at c.args.spare b (subst (IsTurn cs c.args.chain.now call) c.in-Write.is t) spare

pub returns-in-Number : goal.returns-in-Number
returns-in-Number c = λ cs call pool b t spare. c.written-in-Number.ensures ∙ change_number cs c.args.chain.now call pool c.in-Number.at _ _ c.args.spare b (subst (IsTurn cs c.args.chain.now call) c.in-Number.is t) spare
