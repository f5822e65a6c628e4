-- What a seat of the table is to the board.
use Rattle.std.specs.Prelude.{◌≡◌, ℕ, List, []}
use Rattle.atomic_table.specs.Seated.{TableId}
use Rattle.atomic_table.specs.declared.shared.Seat.{Seat}
use Rattle.sw_port_board.specs.declared.board.BoardStep.{BoardStep}
use Rattle.sw_board.specs.declared.rule.Log.{Log}
use Rattle.sw_board.specs.declared.rule.View.{View}
use Rattle.sw_board.specs.declared.words.Words.{Words}
use Rattle.sw_board.specs.Values.{BoardId, board_with}
use Rattle.sw_board.specs.Rule.{dealer, holder, seat, actor_of, steps_of}

abbrev pub words_id : Words → TableId
words_id w = w.table.shared.table_id

abbrev pub board_id : Words → BoardId
board_id w = board_with (words_id w) w.sizes

module _ {S : Type 0} where
  abbrev pub actor_at : Seat S View → ℕ
  actor_at p = actor_of p.me.0

  abbrev pub steps_at : Seat S View → List BoardStep
  steps_at p = steps_of p.me.0

  abbrev pub logs_at : Seat S View → List Log
  logs_at p = p.me.0.logs

  abbrev pub next_at : Seat S View → ℕ
  next_at p = p.me.0.next

  abbrev pub left_at : Seat S View → ℕ
  left_at p = p.me.0.left

  -- the seat of one actor
  pub record IsSeat (words : TableId) (place : Seat S View) : Type 0 where
    pub of_words : place.table_id ≡ words
    pub knows : place.me ≡ (seat (actor_at place) (steps_at place), [])

  -- the seat that deals the others
  pub record IsDealer (words : TableId) (place : Seat S View) : Type 0 where
    pub of_words : place.table_id ≡ words
    pub knows : place.me ≡ (dealer (next_at place) (left_at place), [])

  -- the seat that takes in the others
  pub record IsHolder (words : TableId) (place : Seat S View) : Type 0 where
    pub of_words : place.table_id ≡ words
    pub knows : place.me ≡ (holder (logs_at place), [])
