use Rattle.std.proofs.Common.{sym, subst}
use Rattle.sw_bucket.specs.Turns.{IsTurn}
use Rattle.sw_bucket.proofs.Done.{done_remove}
use Rattle.sw_bucket.proofs.Works.{writes_alone, numbers_alone}
use Rattle.sw_bucket.proofs.doing.work.Goals as goal

pub returns-in-Remove-clause-done : goal.returns-in-Remove-clause-done
returns-in-Remove-clause-done c =
    let r = subst (IsTurn c.args.schema.now c.args.chain.now c.args.call.now) c.in-Remove.is c.requires.turn in
    done_remove c.args.schema.now c.args.chain.now c.take_out.new.self c.args.call.now c.args.key.now _ c.requires.bucket r c.requires.keyed c.take_out.ensures.rows

pub set-requires-clause-room : goal.set-requires-clause-room
set-requires-clause-room c =
    let w = subst (IsTurn c.args.schema.now c.args.chain.now c.args.call.now) c.in-Write.is c.requires.turn in
    writes_alone c.args.schema.now c.args.chain.now c.args.call.now c.in-Write.at c.requires.bucket w c.requires.alone

pub count-requires-clause-room : goal.count-requires-clause-room
count-requires-clause-room c =
    let w = subst (IsTurn c.args.schema.now c.args.chain.now c.args.call.now) c.in-Number.is c.requires.turn in
    numbers_alone c.args.schema.now c.args.chain.now c.args.call.now c.in-Number.at c.in-Number.column c.in-Number.n c.requires.bucket w c.requires.alone
