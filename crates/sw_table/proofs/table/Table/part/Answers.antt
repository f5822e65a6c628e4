use Rattle.std.proofs.Common.{◌≡◌, ◌<◌, List, None, refl, ap, sym, subst, ◌∙◌}
use Rattle.sw_table_join.specs.Tables.{IsShared}
use Rattle.sw_table.specs.Holding.{free}
use Rattle.sw_table.proofs.Drawing.{left_as, free_taken}
use Rattle.sw_table.proofs.Parting.{holds_part, part_as}
use Rattle.sw_table.proofs.table.Table.part.Goals as goal

pub part_held-requires-clause-made : goal.part_held-requires-clause-made
part_held-requires-clause-made c = refl

pub part_held-requires-clause-holds : goal.part_held-requires-clause-holds
part_held-requires-clause-holds c =
    let t = c.args.self.now in
    let v = c.self.view_is in
    let is : IsShared t = subst IsShared v c.self.invariant.0 in
    holds_part t c.args.bucket c.into_chain.result.value c.in-Ok.taken c.args.seat.now c.try_row.new.seat is c.requires.seat c.requires.near
    (left_as v c.args.seat.now c.args.bucket c.in-Ok.taken c.in-Ok.ensures.value) c.into_chain.ensures.rows c.into_chain.ensures.sound c.in-Ok.ensures.taken

pub returns-in-Ok-clause-part : goal.returns-in-Ok-clause-part
returns-in-Ok-clause-part c =
    part_as c.args.self.now (free c.try_row.new.seat) c.args.seat.now c.part_held.new.seat c.args.bucket c.args.rows.now.items c.args.rows.now.items c.part_held.new.rows.items c.part_held.result
    (free_taken c.in-Ok.taken c.args.bucket c.args.seat.now c.try_row.new.seat c.args.self.now c.requires.seat c.in-Ok.ensures.taken) refl c.part_held.ensures.part
