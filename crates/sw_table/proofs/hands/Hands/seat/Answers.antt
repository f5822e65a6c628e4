use Rattle.std.proofs.Common.{◌++◌, ◌∷◌, [], ap, ◌∙◌}
use Rattle.sw_rowlock.specs.History.{calls, others}
use Rattle.sw_rowlock.specs.Seats.{new_seat}
use Rattle.sw_table_join.specs.Tables.{SharedNow}
use Rattle.sw_table.proofs.Notes.{seat_made}
use Rattle.sw_table.proofs.hands.Hands.seat.Goals as goal

pub returns-clause-seat : goal.returns-clause-seat
returns-clause-seat c =
    let from = c.args.from.now in
    seat_made c.table.inside.locks c.self.inside.rest from c.split-seat.result c.split-seen.result c.join.new.seat c.self.invariant.seen c.self.invariant.also c.split-seat.ensures.result c.split-seen.ensures.result c.join.ensures.seat
    ∙ ap (λ (y : SharedNow). new_seat y.locks 1 (others (calls from.seen)) (from.also ++ calls from.seen ∷ [])) c.table.view_is
