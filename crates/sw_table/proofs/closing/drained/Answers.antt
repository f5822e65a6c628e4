use Rattle.std.proofs.Common.{◌≡◌, ℕ, ◌≤◌, ◌*◌, ◌+◌, ap, sym, subst, ◌∙◌, arith}
use Rattle.sw_rowlock.specs.History.{calls}
use Rattle.sw_rowlock.specs.Seats.{all_parts}
use Rattle.sw_rowlock.specs.Told.{LookedAt}
use Rattle.sw_table_join.specs.Calls.{call_row, call_asks, call_does, IsFor}
use Rattle.sw_table_join.specs.Tables.{SharedNow, SeatView, IsShared, IsReady, rows_after}
use Rattle.sw_tmodel.specs.Plain.{PlainTable}
use Rattle.sw_table.specs.Closing.{IsFilled}
use Rattle.sw_table.proofs.Copying.{fill_none}
use Rattle.sw_table.proofs.Draining.{loaded, is_drained}
use Rattle.sw_table.proofs.closing.drained.Goals as goal

pub loop-at-init : goal.loop-at-init
loop-at-init c =
    let t = c.args.table.now in
    let v = c.table.view_is in
    let is : IsShared t = subst IsShared v c.table.invariant.0 in
    let looked = subst (λ (y : SharedNow). LookedAt IsFor call_row call_asks call_does y.locks.start c.args.seat c.count-calls.new.seat (c.count-calls.result.at * 2097152 + c.count-calls.result.rows)) v c.count-calls.ensures.looked in
    let l = loaded t c.args.seat c.count-calls.new.seat c.count-calls.result.at c.count-calls.result.rows is c.requires.seat.has c.count-calls.ensures.rows looked in
    record {
      filled = fill_none t (rows_after t (calls c.args.seat.seen)) c.args.plain c.requires.plain;
      same = l.same;
      kinds = c.requires.row;
    }

pub drain-requires-clause-seat : goal.drain-requires-clause-seat
drain-requires-clause-seat c = subst (λ (s : SeatView). IsReady c.args.table.now all_parts s) (sym c.loop-at.invariant.same) c.requires.seat

pub drain-requires-clause-filled : goal.drain-requires-clause-filled
drain-requires-clause-filled c = subst (λ (s : SeatView). IsFilled c.args.table.now (rows_after c.args.table.now (calls s.seen)) c.loop-at.at c.loop-at.plain) (sym c.loop-at.invariant.same) c.loop-at.invariant.filled

pub loop-at-preserved : goal.loop-at-preserved
loop-at-preserved c = record {
  filled = subst (λ (s : SeatView). IsFilled c.args.table.now (rows_after c.args.table.now (calls s.seen)) (c.loop-at.at + 1) c.drain.new.plain) c.loop-at.invariant.same c.drain.ensures.filled;
  same = c.drain.ensures.seat ∙ c.loop-at.invariant.same;
  kinds = c.drain.ensures.kinds;
}

pub set_calls-requires : goal.set_calls-requires
set_calls-requires c =
    let t = c.args.table.now in
    let v = c.table.view_is in
    let is : IsShared t = subst IsShared v c.table.invariant.0 in
    let looked = subst (λ (y : SharedNow). LookedAt IsFor call_row call_asks call_does y.locks.start c.args.seat c.count-calls.new.seat (c.count-calls.result.at * 2097152 + c.count-calls.result.rows)) v c.count-calls.ensures.looked in
    let l = loaded t c.args.seat c.count-calls.new.seat c.count-calls.result.at c.count-calls.result.rows is c.requires.seat.has c.count-calls.ensures.rows looked in
    let few = l.few in
    let same : c.loop-at.plain.last_call ≡ t.last_call = ap (λ (p : PlainTable). p.last_call) c.loop-at.invariant.filled.like in
    omega (arith, few, same)

pub returns : goal.returns
returns c =
    let t = c.args.table.now in
    let v = c.table.view_is in
    let is : IsShared t = subst IsShared v c.table.invariant.0 in
    let looked = subst (λ (y : SharedNow). LookedAt IsFor call_row call_asks call_does y.locks.start c.args.seat c.count-calls.new.seat (c.count-calls.result.at * 2097152 + c.count-calls.result.rows)) v c.count-calls.ensures.looked in
    let l = loaded t c.args.seat c.count-calls.new.seat c.count-calls.result.at c.count-calls.result.rows is c.requires.seat.has c.count-calls.ensures.rows looked in
    let end : c.loop-at.at ≡ c.table.inside.size = omega arith in
    let filled = subst (λ (k : ℕ). IsFilled t (rows_after t (calls c.args.seat.seen)) k c.loop-at.plain) (end ∙ ap (λ (y : SharedNow). y.size) v) c.loop-at.invariant.filled in
    is_drained t c.args.seat c.count-calls.new.seat c.count-calls.result.at c.loop-at.plain c.set_calls.new.self is l filled c.set_calls.ensures
