use Rattle.std.proofs.Common.{◌≡◌, ◌<◌, ◌≤◌, ℕ, List, None, Some, true, false, refl, ap, sym, subst, ◌∙◌}
use Rattle.sw_base.specs.declared.table.CallFault.{CallFault}
use Rattle.sw_table_laws.specs.Table.{shown}
use Rattle.sw_table_laws.specs.Buckets.{bucket_step}
use Rattle.sw_table_join.specs.Tables.{SharedNow, IsShared}
use Rattle.sw_table_join.specs.Answers.{NotPlaced}
use Rattle.sw_row.specs.Packed.{Packed}
use Rattle.sw_bucket.specs.Rows.{rows_by}
use Rattle.sw_bucket.specs.Turns.{IsDone}
use Rattle.sw_table.specs.Holding.{free}
use Rattle.sw_table.proofs.Drawing.{drew_as, refused_as, room_as, alone_answered, refused_alone}
use Rattle.sw_table.proofs.table.Table.alone.Goals as goal

pub returns-in-Ok-clause-call : goal.returns-in-Ok-clause-call
returns-in-Ok-clause-call g c =
    let t = c.args.self.now in
    let v = c.self.view_is in
    let is : IsShared t = subst IsShared v c.self.invariant.0 in
    let call = c.args.call.now in
    let key = c.args.key.now in
    let rows = c.args.chain.value in
    let seat = c.args.seat.now in
    let h = c.requires.holds in
    let done = subst (λ (y : SharedNow). IsDone y.columns rows None call c.work-reply.new.chain c.work-reply.result) v (subst (λ (xs : List Packed). IsDone c.self.inside.schema xs None call c.work-reply.new.chain c.work-reply.result) c.deref_mut.ensures.value c.work-reply.ensures.done) in
    let shows = subst (λ (y : SharedNow). c.work-reply.new.row ≡ shown (bucket_step y.columns (rows_by rows) None call) c.args.row.now) v (subst (λ (xs : List Packed). c.work-reply.new.row ≡ shown (bucket_step c.self.inside.schema (rows_by xs) None call) c.args.row.now) c.deref_mut.ensures.value c.work-reply.ensures.row) in
    alone_answered t call key c.args.at rows seat h c.requires.alone c.draw.new.seat c.give_row.new.seat c.work-reply.new.chain c.work-reply.result _ _ c.args.row.now c.work-reply.new.row is (room_as v _ c.in-Ok.ensures.room)
    (drew_as v call _ seat c.draw.new.seat _ _ c.requires.made c.in-Ok.ensures.drew) done shows c.give_row.ensures

pub returns-in-Err-clause-call : goal.returns-in-Err-clause-call
returns-in-Err-clause-call g c =
    let t = c.args.self.now in
    let v = c.self.view_is in
    let is : IsShared t = subst IsShared v c.self.invariant.0 in
    let call = c.args.call.now in
    let key = c.args.key.now in
    let rows = c.args.chain.value in
    let seat = c.args.seat.now in
    let h = c.requires.holds in (
      refl,
      subst (λ (f : CallFault). NotPlaced t (free seat) c.give_row-in-Err.new.seat call f) (sym c.refused.ensures)
          (refused_alone t call key c.args.at rows seat h c.draw.new.seat c.give_row-in-Err.new.seat c.in-Err.fault is c.requires.pool (refused_as v seat c.draw.new.seat c.in-Err.fault c.in-Err.ensures.refused) c.give_row-in-Err.ensures).0,
    )
