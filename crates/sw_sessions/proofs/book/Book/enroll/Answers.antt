use Rattle.std.proofs.Common.{ap}
use Rattle.sw_sessions.proofs.Seats.{enrolls}
use Rattle.sw_sessions.proofs.Places.{some_word}
use Rattle.sw_sessions.proofs.book.Book.enroll.Goals as goal

pub split_seat-requires : goal.split_seat-requires
split_seat-requires c =
    let knows = c.requires.0.knows in
    (c.requires.0.of_book, some_word c.args.self.now, enrolls _ _ _ (ap (λ m. m.0.clerk) knows) (ap (λ m. m.0.pass) knows) c.requires.1)
