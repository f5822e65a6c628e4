use Rattle.std.proofs.Common.{◌≡◌, None, Some, refl, sym, subst, arith, to_z, of_z, w64}
use Rattle.std.specs.Prelude.{ℤ, slice_set}
use Rattle.std.proofs.lemmas.Int.{ints}
use Rattle.sw_base.specs.declared.table.Value.TheVariants as values
use Rattle.sw_base.specs.declared.table.Reply.TheVariants as replies
use Rattle.sw_bucket.specs.Turns.{IsDone}
use Rattle.sw_bucket.specs.Rows.{row_at, IsWritten}
use Rattle.sw_bucket.proofs.Works.{counts, count_done, puts_row, full_row, may_spare, may_not, put_pool, full_pool}
use Rattle.sw_bucket.proofs.Done.{done_full}
use Rattle.sw_bucket.proofs.doing.count_behind.Goals as goal

pub returns-in_default-clause-done : goal.returns-in_default-clause-done
returns-in_default-clause-done c =
    let cs = c.args.schema.now in
    let rows = c.args.chain.now in
    let call = c.args.call.now in
    let key = c.args.key.now in
    let s = counts cs rows call key None c.args.turn.0 c.args.turn.1 c.requires.turn c.requires.keyed in
    let spare = c.args.pool.now.spare in
    done_full cs rows c.place_behind.new.chain call key None _ _ (Some spare) s.puts (may_not cs rows key spare c.requires.bucket s.puts.at_key c.requires.some c.in_default.ensures.none.1) c.requires.bucket c.in_default.ensures.none.0

pub returns-in_default-clause-row : goal.returns-in_default-clause-row
returns-in_default-clause-row c = λ row.
    let cs = c.args.schema.now in
    let rows = c.args.chain.now in
    let call = c.args.call.now in
    let key = c.args.key.now in
    let s = counts cs rows call key None c.args.turn.0 c.args.turn.1 c.requires.turn c.requires.keyed in
    let spare = c.args.pool.now.spare in
    full_row cs rows call key None _ _ row (Some spare) s.puts (may_not cs rows key spare c.requires.bucket s.puts.at_key c.requires.some c.in_default.ensures.none.1)

pub returns-in_default-clause-pool : goal.returns-in_default-clause-pool
returns-in_default-clause-pool c =
    let cs = c.args.schema.now in
    let rows = c.args.chain.now in
    let call = c.args.call.now in
    let key = c.args.key.now in
    let s = counts cs rows call key None c.args.turn.0 c.args.turn.1 c.requires.turn c.requires.keyed in
    full_pool cs rows call key None _ _ c.args.pool.now c.place_behind.new.pool c.requires.bucket s.puts.at_key c.requires.some c.in_default.ensures.none.1 s.puts c.in_default.ensures.pool

pub returns-clause-done : goal.returns-clause-done
returns-clause-done c =
    let cs = c.args.schema.now in
    let rows = c.args.chain.now in
    let call = c.args.call.now in
    let key = c.args.key.now in
    let s = counts cs rows call key None c.args.turn.0 c.args.turn.1 c.requires.turn c.requires.keyed in
    let spare = c.args.pool.now.spare in
    let whole : to_z w64 (of_z w64 c.args.turn.1) ≡ c.args.turn.1 = omega (arith, ints) in
    let may = may_spare cs rows key spare c.requires.bucket s.puts.at_key c.requires.some c.in-Some.ensures.some.1 in
    let written = subst (λ (z : ℤ). IsWritten cs c.place_behind.new.chain c.in-Some.at (slice_set (row_at c.place_behind.new.chain c.in-Some.at).values c.args.turn.0 (values.Int z)) c.put_number.new.chain) whole c.put_number.ensures in
    subst (λ (z : ℤ). IsDone cs rows (Some spare) call c.put_number.new.chain (replies.Value z)) (sym whole) (count_done cs rows c.place_behind.new.chain c.put_number.new.chain call key None c.in-Some.at c.args.turn.0 c.args.turn.1 (Some spare) s may c.in-Some.ensures.some.0 written)

pub returns-clause-row : goal.returns-clause-row
returns-clause-row c = λ row.
    let cs = c.args.schema.now in
    let rows = c.args.chain.now in
    let call = c.args.call.now in
    let key = c.args.key.now in
    let s = counts cs rows call key None c.args.turn.0 c.args.turn.1 c.requires.turn c.requires.keyed in
    let spare = c.args.pool.now.spare in
    puts_row cs rows call key None _ _ row (Some spare) (λ b. refl) s.puts (may_spare cs rows key spare c.requires.bucket s.puts.at_key c.requires.some c.in-Some.ensures.some.1)

pub returns-clause-pool : goal.returns-clause-pool
returns-clause-pool c =
    let cs = c.args.schema.now in
    let rows = c.args.chain.now in
    let call = c.args.call.now in
    let key = c.args.key.now in
    let s = counts cs rows call key None c.args.turn.0 c.args.turn.1 c.requires.turn c.requires.keyed in
    put_pool cs rows call key None _ _ c.args.pool.now c.place_behind.new.pool c.requires.bucket s.puts.at_key c.requires.some c.in-Some.ensures.some.1 s.puts c.in-Some.ensures.pool
