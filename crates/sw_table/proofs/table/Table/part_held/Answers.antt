use Rattle.std.proofs.Common.{◌≡◌, ◌<◌, List, None, refl, ap, sym, subst, ◌∙◌}
use Rattle.sw_table_join.specs.Tables.{SharedNow}
use Rattle.sw_row.specs.Packed.{Packed}
use Rattle.sw_bucket.specs.Rows.{rows_by, IsBucket}
use Rattle.sw_tmodel.specs.Dumps.{AreRowsOf}
use Rattle.sw_table.specs.Holding.{free}
use Rattle.sw_table.proofs.Parting.{part_as, part_back}
use Rattle.sw_table.proofs.table.Table.part_held.Goals as goal

pub copied_for-requires : goal.copied_for-requires
copied_for-requires g c =
    let v = c.self.view_is in
    subst (λ (xs : List Packed). IsBucket c.self.inside.schema xs) (sym c.deref.ensures) (subst (λ (y : SharedNow). IsBucket y.columns c.args.chain.value) (sym v) c.requires.holds.bucket)

pub part_drawn-requires-clause-copies : goal.part_drawn-requires-clause-copies
part_drawn-requires-clause-copies g c = subst (λ (xs : List Packed). AreRowsOf (rows_by xs) c.in-Ok.copies.items) c.deref.ensures c.in-Ok.ensures.copies

pub returns-in-Ok-clause-part : goal.returns-in-Ok-clause-part
returns-in-Ok-clause-part g c =
    part_as c.args.self.now (free c.args.seat.now) (free c.args.seat.now) c.part_drawn.new.seat c.args.bucket c.copied_for.new.rows.items c.args.rows.now.items c.part_drawn.new.rows.items c.part_drawn.result
    refl c.copied_for.ensures.kept c.part_drawn.ensures.part

pub returns-in-Err-clause-part : goal.returns-in-Err-clause-part
returns-in-Err-clause-part g c =
    (c.copied_for.ensures.kept, (part_back c.args.self.now c.args.bucket c.args.chain.value c.args.seat.now c.requires.holds c.give_row.new.seat c.give_row.ensures).0)
