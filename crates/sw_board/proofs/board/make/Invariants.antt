use Rattle.std.proofs.Common.{◌≡◌, ◌+◌}
use Rattle.std.specs.Arc.{arc_value}
use Rattle.sw_board.specs.Values.{fresh_seats}
use Rattle.sw_board.specs.Places.{words_id, board_id, next_at, left_at, IsDealer}
use Rattle.sw_board.proofs.board.make.Given as goal

-- the actors before this one have their seats
abbrev pub invariant-loop-actor : goal.invariant-loop-actor
invariant-loop-actor l =
    ((arc_value l.words).sizes ≡ record { workers = l.workers; taskers = l.taskers; actors = l.actors })
    × IsDealer (words_id (arc_value l.words)) l.place
    × (next_at l.place ≡ l.actor)
    × (l.actor + left_at l.place ≡ l.actors)
    × (l.seats.items ≡ fresh_seats (board_id (arc_value l.words)) l.actor)
