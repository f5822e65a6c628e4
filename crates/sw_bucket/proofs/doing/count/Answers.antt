use Rattle.std.proofs.Common.{◌≡◌, None, refl, sym, subst, arith, to_z, of_z, w64}
use Rattle.std.specs.Prelude.{ℤ, slice_set}
use Rattle.std.proofs.lemmas.Int.{ints}
use Rattle.sw_base.specs.declared.table.Value.TheVariants as values
use Rattle.sw_base.specs.declared.table.Reply.TheVariants as replies
use Rattle.sw_bucket.specs.Turns.{IsDone}
use Rattle.sw_bucket.specs.Rows.{row_at, IsWritten}
use Rattle.sw_bucket.proofs.Done.{may_alone}
use Rattle.sw_bucket.proofs.Works.{counts, count_done, puts_row}
use Rattle.sw_bucket.proofs.doing.count.Goals as goal

pub returns-clause-done : goal.returns-clause-done
returns-clause-done c =
    let cs = c.args.schema.now in
    let rows = c.args.chain.now in
    let call = c.args.call.now in
    let key = c.args.key.now in
    let s = counts cs rows call key c.args.turn.0 c.args.turn.1 c.args.turn.2 c.requires.turn c.requires.keyed in
    let may = may_alone cs rows key c.args.turn.0 None c.requires.bucket s.puts.at_key c.requires.room in
    let whole : to_z w64 (of_z w64 c.args.turn.2) ≡ c.args.turn.2 = omega (arith, ints) in
    let written = subst (λ (z : ℤ). IsWritten cs c.place-at.new.chain c.place-at.result (slice_set (row_at c.place-at.new.chain c.place-at.result).values c.args.turn.1 (values.Int z)) c.put_number.new.chain) whole c.put_number.ensures in
    subst (λ (z : ℤ). IsDone cs rows None call c.put_number.new.chain (replies.Value z)) (sym whole) (count_done cs rows c.place-at.new.chain c.put_number.new.chain call key c.args.turn.0 c.place-at.result c.args.turn.1 c.args.turn.2 None s may c.place-at.ensures written)

pub returns-clause-row : goal.returns-clause-row
returns-clause-row c = λ row.
    let cs = c.args.schema.now in
    let rows = c.args.chain.now in
    let call = c.args.call.now in
    let key = c.args.key.now in
    let s = counts cs rows call key c.args.turn.0 c.args.turn.1 c.args.turn.2 c.requires.turn c.requires.keyed in
    let may = may_alone cs rows key c.args.turn.0 None c.requires.bucket s.puts.at_key c.requires.room in
    puts_row cs rows call key c.args.turn.0 _ _ row None (λ b. refl) s.puts may
