use Rattle.std.proofs.Common.{◌≡◌, ◌<◌, ℕ, refl, ap, sym, subst, ◌∙◌, rules}
use Rattle.sw_column.specs.Fit.{call_fault}
use Rattle.sw_table.proofs.Drawing.{ready_parts}
use Rattle.sw_table.proofs.Waiting.{waited_none, start_unchanged, busy_again, given_up, answered_later}
use Rattle.sw_table.proofs.table.Table.call.Goals as goal

pub try_call-requires-clause-seat : goal.try_call-requires-clause-seat
try_call-requires-clause-seat g c = let r = c.loop.invariant.2 in ready_parts c.args.self.now c.args.seat.now.parts c.loop.seat.parts c.loop.seat r (sym r.has)

pub try_call-requires-clause-part : goal.try_call-requires-clause-part
try_call-requires-clause-part g c = let r = c.loop.invariant.2 in subst (λ (k : ℕ). 0 < k) (sym r.has) c.requires.part

pub try_call-requires-clause-row : goal.try_call-requires-clause-row
try_call-requires-clause-row g c = c.loop.invariant.6

pub loop-init : goal.loop-init
loop-init g c = (search rules, search rules, c.requires.seat, waited_none c.args.seat.now, start_unchanged (call_fault c.args.self.now.columns c.args.call.now) c.args.seat.now, refl, c.requires.row)

pub loop-preserved : goal.loop-preserved
loop-preserved g c =
    let i = c.loop.invariant in
    let r = i.2 in
    let busy = sym c.is_busy.ensures ∙ c.if-is_busy.true in
    let again = busy_again c.args.self.now c.args.seat.now c.loop.seat c.try_call.new.seat c.args.call.now c.loop.row c.try_call.new.row c.in-Err.fault busy i.3 i.4 c.in-Err.ensures.call in
    (search rules, search rules, ready_parts c.args.self.now c.loop.seat.parts c.args.seat.now.parts c.try_call.new.seat c.in-Err.ensures.seat r.has, again.0, again.1, c.in-Err.ensures.call.0 ∙ i.5, c.in-Err.ensures.kinds)

pub returns-in-Ok-clause-seat : goal.returns-in-Ok-clause-seat
returns-in-Ok-clause-seat g c = let r = c.loop.invariant.2 in ready_parts c.args.self.now c.loop.seat.parts c.args.seat.now.parts c.try_call.new.seat c.in-Ok.ensures.seat r.has

pub returns-in-Ok-clause-call : goal.returns-in-Ok-clause-call
returns-in-Ok-clause-call g c =
    let i = c.loop.invariant in
    answered_later c.args.self.now c.args.seat.now c.loop.seat c.try_call.new.seat c.args.call.now c.args.row.now c.loop.row c.try_call.new.row c.in-Ok.placed.at c.in-Ok.placed.reply i.3 i.5 c.in-Ok.ensures.call

pub returns-else-is_busy-clause-seat : goal.returns-else-is_busy-clause-seat
returns-else-is_busy-clause-seat g c = let r = c.loop.invariant.2 in ready_parts c.args.self.now c.loop.seat.parts c.args.seat.now.parts c.try_call.new.seat c.in-Err.ensures.seat r.has

pub returns-else-is_busy-clause-call : goal.returns-else-is_busy-clause-call
returns-else-is_busy-clause-call g c =
    let i = c.loop.invariant in
    let idle = sym c.is_busy.ensures ∙ c.if-is_busy.false in
    given_up c.args.self.now c.args.seat.now c.loop.seat c.try_call.new.seat c.args.call.now c.args.row.now c.loop.row c.try_call.new.row c.in-Err.fault idle i.3 i.4 i.5 c.in-Err.ensures.call
