use Rattle.std.proofs.Common.{◌≡◌, ◌∙◌, ◌<◌, length, arith, rules, to_z, of_z, w64}
use Rattle.std.proofs.lemmas.Int.{ints}
use Rattle.sw_tmodel.proofs.CellSteps.{are_length, number_step}
use Rattle.sw_tmodel.proofs.cells.number.Goals as goal

pub bounds-cells-at : goal.bounds-cells-at
bounds-cells-at c = let same : length c.args.cells.now ≡ length c.args.schema.now = are_length c.args.schema.now c.args.cells.now c.requires in omega (arith, c.in-Some.ensures.within)

pub offset_bounds-cells-at : goal.offset_bounds-cells-at
offset_bounds-cells-at c =
    let same : length c.args.cells.now ≡ length c.args.schema.now = are_length c.args.schema.now c.args.cells.now c.requires in
    let lt : c.in-Some.at < length c.args.cells.now = omega (arith, c.in-Some.ensures.within) in
    search rules

pub returns-in-Some : goal.returns-in-Some
returns-in-Some c =
    let same : length c.args.cells.now ≡ length c.args.schema.now = are_length c.args.schema.now c.args.cells.now c.requires in
    let lt : c.in-Some.at < length c.args.cells.now = omega (arith, c.in-Some.ensures.within) in
    let read : to_z w64 (of_z w64 c.number_in.result) ≡ c.number_in.result = omega (arith, ints) in
    read ∙ number_step c.args.schema.now c.args.cells.now c.args.name.now c.in-Some.at c.index-cells-at.result c.number_in.result lt c.in-Some.ensures.value c.index-cells-at.is c.number_in.ensures
