use Rattle.std.proofs.Common.{ap, sym, ◌∙◌}
use Rattle.sw_rowlock.specs.History.{calls, others}
use Rattle.sw_table_join.specs.Tables.{SeatView}
use Rattle.sw_table.proofs.Notes.{calls_others}
use Rattle.sw_table.proofs.table.Table.note.Goals as goal

pub invariant_of-result : goal.invariant_of-result
invariant_of-result c =
    let e = c.split.ensures.result in
    let seen = ap (λ (s : SeatView). s.seen) e in
    record {
      seen = seen ∙ ap others (sym (ap calls seen ∙ calls_others (calls c.args.seat.now.seen)));
      no_parts = ap (λ (s : SeatView). s.parts) e;
      no_row = ap (λ (s : SeatView). s.row) e;
      no_pool = ap (λ (s : SeatView). s.pool) e;
      none_refused = ap (λ (s : SeatView). s.refusals) e;
    }
