use Rattle.std.proofs.Common.{None, refl}
use Rattle.sw_bucket.proofs.Done.{may_alone}
use Rattle.sw_bucket.proofs.Works.{sets, writes_key, set_done, puts_row}
use Rattle.sw_bucket.proofs.doing.set.Goals as goal

pub returns-clause-done : goal.returns-clause-done
returns-clause-done c =
    let cs = c.args.schema.now in
    let rows = c.args.chain.now in
    let call = c.args.call.now in
    let key = c.args.key.now in
    let s = sets cs rows call key c.in-Set.field-0 c.args.at c.in-Set.pairs c.requires.turn c.requires.keyed c.in-Set.is in
    let may = may_alone cs rows key c.args.at None c.requires.bucket (writes_key cs rows call key c.args.at c.requires.turn c.requires.keyed).1 c.requires.room in
    set_done cs rows c.place-at.new.chain c.put_pairs.new.chain call key c.args.at c.place-at.result c.in-Set.pairs None s may c.place-at.ensures c.put_pairs.ensures

pub returns-clause-row : goal.returns-clause-row
returns-clause-row c = λ row.
    let cs = c.args.schema.now in
    let rows = c.args.chain.now in
    let call = c.args.call.now in
    let key = c.args.key.now in
    let s = sets cs rows call key c.in-Set.field-0 c.args.at c.in-Set.pairs c.requires.turn c.requires.keyed c.in-Set.is in
    let may = may_alone cs rows key c.args.at None c.requires.bucket (writes_key cs rows call key c.args.at c.requires.turn c.requires.keyed).1 c.requires.room in
    puts_row cs rows call key c.args.at _ _ row None (λ b. refl) s.puts may
