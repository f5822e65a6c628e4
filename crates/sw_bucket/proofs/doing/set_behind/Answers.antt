use Rattle.std.proofs.Common.{None, Some, refl}
use Rattle.sw_bucket.proofs.Works.{sets, set_done, puts_row, full_row, may_spare, may_not, put_pool, full_pool}
use Rattle.sw_bucket.proofs.Done.{done_full}
use Rattle.sw_bucket.proofs.doing.set_behind.Goals as goal

pub returns-in_default-clause-done : goal.returns-in_default-clause-done
returns-in_default-clause-done c =
    let cs = c.args.schema.now in
    let rows = c.args.chain.now in
    let call = c.args.call.now in
    let key = c.args.key.now in
    let spare = c.args.pool.now.spare in
    let s = sets cs rows call key c.requires.turn.key None c.requires.turn.pairs c.requires.turn c.requires.keyed c.requires.turn.is in
    done_full cs rows c.place_behind.new.chain call key None _ _ (Some spare) s.puts (may_not cs rows key spare c.requires.bucket s.puts.at_key c.requires.some c.in_default.ensures.none.1) c.requires.bucket c.in_default.ensures.none.0

pub returns-in_default-clause-row : goal.returns-in_default-clause-row
returns-in_default-clause-row c = λ row.
    let cs = c.args.schema.now in
    let rows = c.args.chain.now in
    let call = c.args.call.now in
    let key = c.args.key.now in
    let spare = c.args.pool.now.spare in
    let s = sets cs rows call key c.requires.turn.key None c.requires.turn.pairs c.requires.turn c.requires.keyed c.requires.turn.is in
    full_row cs rows call key None _ _ row (Some spare) s.puts (may_not cs rows key spare c.requires.bucket s.puts.at_key c.requires.some c.in_default.ensures.none.1)

pub returns-in_default-clause-pool : goal.returns-in_default-clause-pool
returns-in_default-clause-pool c =
    let cs = c.args.schema.now in
    let rows = c.args.chain.now in
    let call = c.args.call.now in
    let key = c.args.key.now in
    let s = sets cs rows call key c.requires.turn.key None c.requires.turn.pairs c.requires.turn c.requires.keyed c.requires.turn.is in
    full_pool cs rows call key None _ _ c.args.pool.now c.place_behind.new.pool c.requires.bucket s.puts.at_key c.requires.some c.in_default.ensures.none.1 s.puts c.in_default.ensures.pool

pub returns-clause-done : goal.returns-clause-done
returns-clause-done c =
    let cs = c.args.schema.now in
    let rows = c.args.chain.now in
    let call = c.args.call.now in
    let key = c.args.key.now in
    let spare = c.args.pool.now.spare in
    let s = sets cs rows call key c.in-Set.field-0 None c.in-Set.pairs c.requires.turn c.requires.keyed c.in-Set.is in
    let may = may_spare cs rows key spare c.requires.bucket s.puts.at_key c.requires.some c.in-Some.ensures.some.1 in
    set_done cs rows c.place_behind.new.chain c.put_pairs.new.chain call key None c.in-Some.at c.in-Set.pairs (Some spare) s may c.in-Some.ensures.some.0 c.put_pairs.ensures

pub returns-clause-row : goal.returns-clause-row
returns-clause-row c = λ row.
    let cs = c.args.schema.now in
    let rows = c.args.chain.now in
    let call = c.args.call.now in
    let key = c.args.key.now in
    let spare = c.args.pool.now.spare in
    let s = sets cs rows call key c.in-Set.field-0 None c.in-Set.pairs c.requires.turn c.requires.keyed c.in-Set.is in
    puts_row cs rows call key None _ _ row (Some spare) (λ b. refl) s.puts (may_spare cs rows key spare c.requires.bucket s.puts.at_key c.requires.some c.in-Some.ensures.some.1)

pub returns-clause-pool : goal.returns-clause-pool
returns-clause-pool c =
    let cs = c.args.schema.now in
    let rows = c.args.chain.now in
    let call = c.args.call.now in
    let key = c.args.key.now in
    let s = sets cs rows call key c.in-Set.field-0 None c.in-Set.pairs c.requires.turn c.requires.keyed c.in-Set.is in
    put_pool cs rows call key None _ _ c.args.pool.now c.place_behind.new.pool c.requires.bucket s.puts.at_key c.requires.some c.in-Some.ensures.some.1 s.puts c.in-Some.ensures.pool
