use Rattle.std.proofs.Common.{ap}
use Rattle.sw_sessions.proofs.Ends.{settles}
use Rattle.sw_sessions.proofs.Places.{some_word}
use Rattle.sw_sessions.proofs.book.Book.settle.Goals as goal

pub load-requires : goal.load-requires
load-requires c =
    let knows = c.requires.0.knows in
    (c.requires.0.of_book, some_word c.args.self.now, settles _ _ _ _ (ap (λ m. m.0.clerk) knows) c.requires.1)
