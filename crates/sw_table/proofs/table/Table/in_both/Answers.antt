use Rattle.std.proofs.Common.{◌≡◌, ◌<◌, ◌≤◌, ℕ, List, length, None, Some, true, false, refl, ap, sym, subst, ◌∙◌}
use Rattle.sw_base.specs.declared.table.CallFault.{CallFault}
use Rattle.sw_table_laws.specs.Table.{shown}
use Rattle.sw_table_laws.specs.Buckets.{bucket_step}
use Rattle.sw_table_join.specs.Tables.{SharedNow, IsShared}
use Rattle.sw_table_join.specs.Answers.{NotPlaced}
use Rattle.sw_row.specs.Packed.{Packed}
use Rattle.sw_bucket.specs.Rows.{rows_by}
use Rattle.sw_bucket.specs.Turns.{IsDone}
use Rattle.sw_table.specs.Holding.{free}
use Rattle.sw_table.proofs.Drawing.{drew_as, refused_as, room_as, both_room, both_answered, refused_both}
use Rattle.sw_table.proofs.table.Table.in_both.Goals as goal

pub work_with-reply-requires-clause-room : goal.work_with-reply-requires-clause-room
work_with-reply-requires-clause-room g c = λ two.
    let t = c.args.self.now in
    let v = c.self.view_is in
    let is : IsShared t = subst IsShared v c.self.invariant.0 in
    let call = c.args.call.now in
    let key = c.args.key.now in
    let rows = c.args.chain.value in
    let seat = c.args.seat.now in
    let h = c.requires.holds in
    both_room t call key c.args.at rows seat h c.requires.asks c.args.pool c.requires.pool c.draw.new.seat _ _ is (drew_as v call _ seat c.draw.new.seat _ _ c.requires.made c.in-Ok.ensures.drew) (subst (λ (xs : List Packed). 2 ≤ length xs) c.deref_mut.ensures.value two)

pub returns-in-Ok-clause-call : goal.returns-in-Ok-clause-call
returns-in-Ok-clause-call g c = λ row.
    let t = c.args.self.now in
    let v = c.self.view_is in
    let is : IsShared t = subst IsShared v c.self.invariant.0 in
    let call = c.args.call.now in
    let key = c.args.key.now in
    let rows = c.args.chain.value in
    let seat = c.args.seat.now in
    let h = c.requires.holds in
    let done = subst (λ (y : SharedNow). IsDone y.columns rows (Some c.args.pool.spare) call c.work_with-reply.new.chain c.work_with-reply.result) v (subst (λ (xs : List Packed). IsDone c.self.inside.schema xs (Some c.args.pool.spare) call c.work_with-reply.new.chain c.work_with-reply.result) c.deref_mut.ensures.value c.work_with-reply.ensures.done) in
    let quiet = subst (λ (y : SharedNow). shown (bucket_step y.columns (rows_by rows) (Some c.args.pool.spare) call) row ≡ row) v (subst (λ (xs : List Packed). shown (bucket_step c.self.inside.schema (rows_by xs) (Some c.args.pool.spare) call) row ≡ row) c.deref_mut.ensures.value (c.work_with-reply.ensures.row row)) in
    both_answered t call key c.args.at rows seat h c.requires.asks c.args.pool c.requires.pool c.draw.new.seat c.give_pool.new.seat c.give_row.new.seat c.work_with-reply.new.chain c.work_with-reply.result _ _ row is (room_as v _ c.in-Ok.ensures.room)
    (drew_as v call _ seat c.draw.new.seat _ _ c.requires.made c.in-Ok.ensures.drew) done quiet c.give_pool.ensures c.give_row.ensures

pub returns-in-Err-clause-call : goal.returns-in-Err-clause-call
returns-in-Err-clause-call g c = λ row.
    let t = c.args.self.now in
    let v = c.self.view_is in
    let is : IsShared t = subst IsShared v c.self.invariant.0 in
    let call = c.args.call.now in
    let key = c.args.key.now in
    let rows = c.args.chain.value in
    let seat = c.args.seat.now in
    let h = c.requires.holds in (
      refl,
      subst (λ (f : CallFault). NotPlaced t (free seat) c.give_row-in-Err.new.seat call f) (sym c.refused.ensures)
          (refused_both t call key c.args.at rows seat h c.draw.new.seat c.give_pool-in-Err.new.seat c.give_row-in-Err.new.seat c.in-Err.fault is (refused_as v seat c.draw.new.seat c.in-Err.fault c.in-Err.ensures.refused) c.give_pool-in-Err.ensures c.give_row-in-Err.ensures).0,
    )
