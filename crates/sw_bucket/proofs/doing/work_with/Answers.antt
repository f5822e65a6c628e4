use Rattle.std.proofs.Common.{◌≡◌, ℕ, Option, None, sym, subst, arith, to_z, of_z, w64}
use Rattle.std.specs.Prelude.{ℤ}
use Rattle.std.proofs.lemmas.Int.{ints}
use Rattle.sw_bucket.specs.Turns.{IsTurn, Writes, Numbers}
use Rattle.sw_bucket.proofs.Works.{writes_behind, numbers_behind}
use Rattle.sw_bucket.proofs.doing.work_with.Goals as goal

pub set_behind-requires-clause-turn : goal.set_behind-requires-clause-turn
set_behind-requires-clause-turn c =
    let w = subst (IsTurn c.args.schema.now c.args.chain.now c.args.call.now) c.in-Write.is c.requires.turn in
    subst (λ (at : Option ℕ). Writes c.args.schema.now c.args.chain.now c.args.call.now at) (writes_behind c.args.schema.now c.args.chain.now c.args.call.now c.in-Write.field-0 c.requires.bucket w c.requires.asks).0 w

pub set_behind-requires-clause-some : goal.set_behind-requires-clause-some
set_behind-requires-clause-some c =
    let w = subst (IsTurn c.args.schema.now c.args.chain.now c.args.call.now) c.in-Write.is c.requires.turn in
    (writes_behind c.args.schema.now c.args.chain.now c.args.call.now c.in-Write.field-0 c.requires.bucket w c.requires.asks).1

pub count_behind-requires-clause-turn : goal.count_behind-requires-clause-turn
count_behind-requires-clause-turn c =
    let w = subst (IsTurn c.args.schema.now c.args.chain.now c.args.call.now) c.in-Number.is c.requires.turn in
    let none = (numbers_behind c.args.schema.now c.args.chain.now c.args.call.now c.in-Number.field-0 c.in-Number.column c.in-Number.n c.requires.bucket w c.requires.asks).0 in
    let whole : to_z w64 (of_z w64 c.in-Number.n) ≡ c.in-Number.n = omega (arith, ints) in
    subst (λ (z : ℤ). Numbers c.args.schema.now c.args.chain.now c.args.call.now None c.in-Number.column z) (sym whole)
    (subst (λ (at : Option ℕ). Numbers c.args.schema.now c.args.chain.now c.args.call.now at c.in-Number.column c.in-Number.n) none w)

pub count_behind-requires-clause-some : goal.count_behind-requires-clause-some
count_behind-requires-clause-some c =
    let w = subst (IsTurn c.args.schema.now c.args.chain.now c.args.call.now) c.in-Number.is c.requires.turn in
    (numbers_behind c.args.schema.now c.args.chain.now c.args.call.now c.in-Number.field-0 c.in-Number.column c.in-Number.n c.requires.bucket w c.requires.asks).1
