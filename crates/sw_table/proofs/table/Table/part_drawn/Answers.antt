use Rattle.std.proofs.Common.{◌≡◌, ◌<◌, List, None, refl, ap, sym, subst, ◌∙◌}
use Rattle.sw_table_join.specs.Tables.{IsShared}
use Rattle.sw_base.specs.declared.table.Call.TheVariants.{Count}
use Rattle.sw_table.specs.declared.part.PartFault.{PartFault}
use Rattle.sw_table.specs.Holding.{free}
use Rattle.sw_table.specs.Parting.{PartRefused}
use Rattle.sw_table.proofs.Drawing.{drew_as, refused_as, room_as}
use Rattle.sw_table.proofs.Parting.{parted, refused_part}
use Rattle.sw_table.proofs.table.Table.part_drawn.Goals as goal

pub returns-in-Ok-clause-part : goal.returns-in-Ok-clause-part
returns-in-Ok-clause-part g c =
    let t = c.args.self.now in
    let v = c.self.view_is in
    let is : IsShared t = subst IsShared v c.self.invariant.0 in
    let seat = c.args.seat.now in
    parted t c.args.bucket c.args.chain.value seat c.requires.holds c.draw.new.seat c.give_row.new.seat _ _ c.args.rows.now.items c.add_all.new.rows.items c.args.copies.items is (room_as v _ c.in-Ok.ensures.room)
    (drew_as v Count _ seat c.draw.new.seat _ _ c.requires.made c.in-Ok.ensures.drew) c.give_row.ensures c.requires.copies c.add_all.ensures

pub returns-in-Err-clause-part : goal.returns-in-Err-clause-part
returns-in-Err-clause-part g c =
    let t = c.args.self.now in
    let v = c.self.view_is in
    let is : IsShared t = subst IsShared v c.self.invariant.0 in
    let seat = c.args.seat.now in (
      refl,
      subst (λ (f : PartFault). PartRefused t (free seat) c.give_row-in-Err.new.seat c.args.bucket f) (sym c.refused.ensures)
          (refused_part t c.args.bucket c.args.chain.value seat c.requires.holds c.draw.new.seat c.give_row-in-Err.new.seat c.in-Err.fault is (refused_as v seat c.draw.new.seat c.in-Err.fault c.in-Err.ensures.refused) c.give_row-in-Err.ensures).0,
    )
