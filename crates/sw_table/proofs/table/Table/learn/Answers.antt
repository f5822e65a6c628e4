use Rattle.std.proofs.Common.{◌≤◌, List, ℕ, length, ap, sym, subst, ◌∙◌}
use Rattle.sw_rowlock.specs.History.{calls, draws_of}
use Rattle.sw_table_join.specs.Tables.{SeatView}
use Rattle.sw_table.proofs.Notes.{draws_noted, longer}
use Rattle.sw_table.proofs.table.Table.learn.Goals as goal

pub returns-clause-own : goal.returns-clause-own
returns-clause-own c = ap (λ (s : SeatView). draws_of s.seen) c.join.ensures.seat ∙ draws_noted c.args.seat.now.seen c.note.inside.seat.seen c.note.invariant.seen

pub returns-clause-behind : goal.returns-clause-behind
returns-clause-behind c =
    let old = c.args.seat.now in
    let told = c.note.inside.seat in
    let both = subst (λ (s : SeatView). (length (calls old.seen) ≤ length (calls s.seen)) × (length (calls told.seen) ≤ length (calls s.seen))) (sym c.join.ensures.seat) (longer old.seen told.seen) in
    (both.0, subst (λ (n : SeatView). length (calls n.seen) ≤ length (calls c.join.new.seat.seen)) c.note.view_is both.1)
