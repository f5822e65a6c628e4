use Rattle.std.proofs.Common.{◌≡◌, ap, ◌∙◌, arith, to_z, of_z, w64, ℕ}
use Rattle.std.specs.Prelude.{ℤ}
use Rattle.std.proofs.lemmas.Int.{ints}
use Rattle.sw_base.specs.declared.table.Value.TheVariants as values
use Rattle.sw_chain.specs.Rows.{with_value}
use Rattle.sw_bucket.proofs.Places.{written_number}
use Rattle.sw_bucket.proofs.writing.put_number.Goals as goal

pub returns : goal.returns
returns c =
    let whole : to_z w64 (of_z w64 c.args.n) ≡ c.args.n = omega (arith, ints) in
    let made = c.set_number.ensures ∙ ap (λ (z : ℤ). with_value c.args.chain.now c.args.at c.args.column (values.Int z)) whole in
    written_number c.args.schema.now c.args.chain.now c.set_number.new.self c.args.at c.args.column c.args.n c.requires.bucket c.requires.place c.requires.column c.requires.fit made
