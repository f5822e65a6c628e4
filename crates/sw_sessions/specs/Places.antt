-- What the seats of a book know.
use Rattle.std.specs.Prelude.{◌≡◌, ◌<◌, ℕ, List, []}
use Rattle.atomic_table.specs.Seated.{TableId}
use Rattle.atomic_table.specs.declared.shared.Seat.{Seat}
use Rattle.sw_sessions.specs.declared.rule.Call.{Call}
use Rattle.sw_sessions.specs.declared.rule.View.{View}
use Rattle.sw_sessions.specs.declared.book.Book.{Book}
use Rattle.sw_sessions.specs.Rule.{closer, passer, ticket}
use Rattle.sw_sessions.specs.Values.{slots}

-- which table the words are
abbrev pub book_id : Book → TableId
book_id b = b.table.shared.table_id

module _ {S : Type 0} where
  -- parts of what a seat knows
  abbrev pub calls_at : Seat S View → List Call
  calls_at p = p.me.0.calls

  abbrev pub drawn_at : Seat S View → ℕ
  drawn_at p = p.me.0.drawn

  abbrev pub claimed_at : Seat S View → List ℕ
  claimed_at p = p.me.0.claimed

  abbrev pub out_at : Seat S View → ℕ
  out_at p = p.me.0.out

  -- the seat is the clerk's
  pub record IsClerk (book : TableId) (place : Seat S View) : Type 0 where
    pub of_book : place.table_id ≡ book
    pub knows : place.me ≡ (closer (slots book) (drawn_at place) (claimed_at place) (out_at place) (calls_at place), [])

  -- the seat is a pass
  pub record IsPass (book : TableId) (place : Seat S View) : Type 0 where
    pub of_book : place.table_id ≡ book
    pub knows : place.me ≡ (passer (slots book) (calls_at place), [])

  -- the seat is a ticket, and holds this number
  pub record IsTicket (book : TableId) (place : Seat S View) (number : ℕ) : Type 0 where
    pub of_book : place.table_id ≡ book
    pub knows : place.me ≡ (ticket (slots book) number, [])
    pub some : 0 < number
