use Rattle.std.proofs.Common.{ap}
use Rattle.sw_sessions.proofs.Seats.{retires}
use Rattle.sw_sessions.proofs.Places.{some_word}
use Rattle.sw_sessions.proofs.book.Book.retire.Goals as goal

pub join_seat-requires : goal.join_seat-requires
join_seat-requires c =
    let mine = c.requires.0.knows in let his = c.requires.1.knows in (
      c.requires.0.of_book,
      c.requires.1.of_book,
      ap (λ m. m.1) his,
      some_word c.args.self.now,
      retires _ _ _ _ _ (ap (λ m. m.0.clerk) mine) (ap (λ m. m.0.pass) mine) (ap (λ m. m.0.pass) his),
    )
