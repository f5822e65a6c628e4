use Rattle.std.proofs.Common.{◌≡◌, List, ℕ, ap, sym, ◌∙◌, arith, to_z, of_z, w64}
use Rattle.std.specs.Prelude.{ℤ}
use Rattle.std.proofs.lemmas.Int.{ints}
use Rattle.sw_chain.specs.Rows.{with_value}
use Rattle.sw_base.specs.declared.table.Value.TheVariants as values
use Rattle.sw_bucket.proofs.Places.{pair_int, pair_text}
use Rattle.sw_bucket.proofs.writing.put_pair.Goals as goal

pub returns-in-Int : goal.returns-in-Int
returns-in-Int c =
    let whole : to_z w64 (of_z w64 c.in-Int.n) ≡ c.in-Int.n = omega (arith, ints) in
    let made = c.set_number.ensures ∙ ap (λ (z : ℤ). with_value c.args.chain.now c.args.at c.in-Some.column (values.Int z)) whole in
    pair_int c.args.schema.now c.args.chain.now c.set_number.new.self c.args.at c.in-Some.column c.args.name.now c.args.value.now c.in-Int.n c.requires.bucket c.requires.place (sym c.in-Some.ensures.value) c.in-Some.ensures.within c.requires.fit c.in-Int.is made

pub returns-in-Text : goal.returns-in-Text
returns-in-Text c = pair_text c.args.schema.now c.args.chain.now c.set_text.new.self c.args.at c.in-Some.column c.args.name.now c.args.value.now c.bytes.result.now c.requires.bucket c.requires.place (sym c.in-Some.ensures.value) c.in-Some.ensures.within c.requires.fit
    (c.in-Text.is ∙ ap (λ (t : List ℕ). values.Text t) (sym c.bytes.ensures)) c.set_text.ensures
