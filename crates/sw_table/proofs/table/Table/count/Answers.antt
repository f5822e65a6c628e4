use Rattle.std.proofs.Common.{◌≡◌, ◌<◌, ◌≤◌, ℕ, List, None, Some, true, false, refl, ap, sym, subst, ◌∙◌}
use Rattle.sw_base.specs.declared.table.CallFault.{CallFault}
use Rattle.sw_table_join.specs.Tables.{IsShared}
use Rattle.sw_table_join.specs.Answers.{NotPlaced}
use Rattle.sw_table.proofs.Drawing.{drew_as, refused_as, room_as, counted, refused_free}
use Rattle.sw_table.proofs.table.Table.count.Goals as goal

pub returns-in-Ok-clause-call : goal.returns-in-Ok-clause-call
returns-in-Ok-clause-call g c = λ row.
    let t = c.args.self.now in
    let v = c.self.view_is in
    let is : IsShared t = subst IsShared v c.self.invariant.0 in
    counted t c.args.call.now c.args.seat.now c.draw.new.seat _ _ row is c.requires.fit c.requires.keyless (room_as v _ c.in-Ok.ensures.room) (drew_as v c.args.call.now _ c.args.seat.now c.draw.new.seat _ _ c.requires.made c.in-Ok.ensures.drew)

pub returns-in-Err-clause-call : goal.returns-in-Err-clause-call
returns-in-Err-clause-call g c = λ row.
    let t = c.args.self.now in
    let v = c.self.view_is in
    let is : IsShared t = subst IsShared v c.self.invariant.0 in (
      refl,
      subst (λ (f : CallFault). NotPlaced t c.args.seat.now c.draw.new.seat c.args.call.now f) (sym c.refused.ensures)
          (refused_free t c.args.call.now c.args.seat.now c.draw.new.seat c.in-Err.fault is c.requires.seat (refused_as v c.args.seat.now c.draw.new.seat c.in-Err.fault c.in-Err.ensures.refused)).0,
    )
