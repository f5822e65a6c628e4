use Rattle.std.proofs.Common.{◌<◌, ◌/◌, ◌%◌, ℕ, ap, sym, subst, ◌∙◌}
use Rattle.sw_sessions.specs.Places.{book_id}
use Rattle.sw_sessions.specs.Values.{slots}
use Rattle.sw_sessions.proofs.Seats.{carries}
use Rattle.sw_sessions.proofs.Binds.{releases}
use Rattle.sw_sessions.proofs.Slots.{slot_at, whole_at}
use Rattle.sw_sessions.proofs.Places.{some_word}
use Rattle.sw_sessions.proofs.book.Book.release.Goals as goal

pub join_seat-requires : goal.join_seat-requires
join_seat-requires c =
    let b = c.args.self.now in let mine = c.requires.pass.knows in let his = c.requires.ticket.knows in (
      c.requires.pass.of_book,
      c.requires.ticket.of_book,
      ap (λ m. m.1) his,
      some_word b,
      carries _ _ _ _ _ (ap (λ m. m.0.pass) mine) (ap (λ m. m.0.holds) his) (ap (λ m. m.0.pass) his) (ap (λ m. m.0.calls) his) (ap (λ m. m.0.max) mine ∙ sym (ap (λ m. m.0.max) his)),
    )

pub swap-requires : goal.swap-requires
swap-requires c =
    let b = c.args.self.now in let n : ℕ = c.args.number in let his = c.requires.ticket.knows in let now = c.join_seat.ensures.2 in
    let w = c.word_of-word.ensures in let j : ℕ = c.word_of-word.result in let k : ℕ = n % slots (book_id b) in (
      c.join_seat.ensures.0 ∙ c.requires.pass.of_book,
      w.word,
      releases _ _ _ _ (j / 8) j (whole_at j k w.at) (subst (λ i. i < b.table.shared.key.max) (sym (slot_at j k w.at)) w.slot) (ap (λ m. m.0.pass) now) (ap (λ m. m.0.holds) now)
          (ap (λ m. m.0.number % b.table.shared.key.max) now ∙ ap (λ m. m.0.number % b.table.shared.key.max) his ∙ ap (λ i. n % i) (sym w.same) ∙ sym (slot_at j k w.at)),
    )
