use Rattle.std.proofs.Common.{ap, ◌∙◌}
use Rattle.sw_sessions.proofs.Seats.{leaves, pairs, parts}
use Rattle.sw_sessions.proofs.Ends.{tells}
use Rattle.sw_sessions.proofs.Places.{some_word}
use Rattle.sw_sessions.proofs.book.Book.apart.Goals as goal

pub split_seat-moved-requires : goal.split_seat-moved-requires
split_seat-moved-requires c =
    let his = c.requires.1.knows in
    (c.requires.1.of_book, some_word c.args.self.now, leaves _ _ _ (ap (λ m. m.0.holds) his) (ap (λ m. m.0.clerk) his) (ap (λ m. m.0.pass) his) (ap (λ m. m.0.calls) his))

pub join_seat-requires : goal.join_seat-requires
join_seat-requires c =
    let mine = c.requires.0.knows in let e = c.split_seat-moved.ensures in let his = e.4 in (
      c.requires.0.of_book,
      e.3 ∙ c.requires.1.of_book,
      ap (λ m. m.1) his,
      some_word c.args.self.now,
      pairs _ _ _ _ _ (ap (λ m. m.0.holds) mine) (ap (λ m. m.0.pass) mine) (ap (λ m. m.0.calls) mine) (ap (λ m. m.0.holds) his) (ap (λ m. m.0.pass) his) (ap (λ m. m.0.calls) his),
    )

pub load-requires : goal.load-requires
load-requires c =
    let now = c.join_seat.ensures.2 in
    (c.join_seat.ensures.0 ∙ c.requires.0.of_book, some_word c.args.self.now, tells _ _ _ _ (ap (λ m. m.0.holds) now) (ap (λ m. m.0.both) now))

pub split_seat-requires : goal.split_seat-requires
split_seat-requires c =
    let now = c.load.ensures.2.0 ∙ c.join_seat.ensures.2 in (
      c.load.ensures.0 ∙ c.join_seat.ensures.0 ∙ c.requires.0.of_book,
      some_word c.args.self.now,
      parts _ _ _ (ap (λ m. m.0.holds) now) (ap (λ m. m.0.both) now) (ap (λ m. m.0.pass) now) (ap (λ m. m.0.calls) now),
    )
