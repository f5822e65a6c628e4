use Rattle.std.proofs.Common.{◌≡◌, List, [], ◌∷◌, Option, ℕ, ap, sym, subst, ◌∙◌}
use Rattle.std.specs.Prelude.{IfNone}
use Rattle.sw_row.specs.Packed.{Packed, Linked}
use Rattle.sw_bucket.specs.Rows.{IsPlaced}
use Rattle.sw_bucket.proofs.Places.{fresh, placed_found, placed_first}
use Rattle.sw_bucket.proofs.writing.place.Goals as goal

pub returns-in-Some : goal.returns-in-Some
returns-in-Some c = placed_found c.args.schema.now c.args.chain.now c.args.key.now c.in-Some.at c.requires.bucket (c.requires.found ∙ c.in-Some.is)

pub returns-in-None : goal.returns-in-None
returns-in-None c =
    let cs = c.args.schema.now in
    let rows = c.args.chain.now in
    let key = c.args.key.now in
    let none = subst (λ (o : Option ℕ). IfNone o (rows ≡ [])) c.in-None.is c.requires.room in
    let made : c.put_head.new.self ≡ fresh cs key ∷ [] = c.put_head.ensures ∙ ap (λ (r : Linked). r.here ∷ []) c.fill.ensures.row in
    subst (λ (xs : List Packed). IsPlaced cs rows key xs 0) (sym made) (placed_first cs rows key c.fill.ensures.sound c.requires.key none)
