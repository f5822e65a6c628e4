use Rattle.std.proofs.Common.{◌≡◌, List, ap, sym, subst, ◌∙◌}
use Rattle.sw_row.specs.Packed.{Packed, Linked}
use Rattle.sw_chain.specs.Rows.{with_second}
use Rattle.sw_bucket.specs.Rows.{IsPlaced}
use Rattle.sw_bucket.proofs.Places.{fresh, placed_second}
use Rattle.sw_bucket.proofs.writing.place_behind.Goals as goal

pub returns-in-Some-clause-some : goal.returns-in-Some-clause-some
returns-in-Some-clause-some c =
    let cs = c.args.schema.now in
    let rows = c.args.chain.now in
    let key = c.args.key.now in
    let made : c.put_in.new.self ≡ with_second rows (fresh cs key) = c.put_in.ensures ∙ ap (λ (r : Linked). with_second rows r.here) c.fill.ensures.row in
    (subst (λ (xs : List Packed). IsPlaced cs rows key xs 1) (sym made) (placed_second cs rows key c.fill.ensures.sound c.requires.key c.requires.bucket c.requires.some c.requires.missing), c.in-Some.ensures.some.1)
