use Rattle.std.proofs.Common.{◌≡◌, ◌≢◌, ◌<◌, ◌+◌, ◌*◌, ◌/◌, ◌%◌, ℕ, ap, sym, subst, ◌∙◌}
use Rattle.sw_sessions.specs.Places.{book_id}
use Rattle.sw_sessions.specs.Values.{slots}
use Rattle.sw_sessions.specs.Rule.{after_claim}
use Rattle.sw_sessions.proofs.Steps.{claims, positive}
use Rattle.sw_sessions.proofs.Seats.{gives}
use Rattle.sw_sessions.proofs.Slots.{number_of, slot_at, whole_at}
use Rattle.sw_sessions.proofs.Places.{some_word}
use Rattle.sw_sessions.proofs.book.Book.claim.Goals as goal

pub compare_exchange-found-requires : goal.compare_exchange-found-requires
compare_exchange-found-requires c =
    let b = c.args.self.now in let n : ℕ = c.args.number in let number = number_of n in let above = c.requires.number in
    let w = c.word_of-word.ensures in let j : ℕ = c.word_of-word.result in let k : ℕ = n % slots (book_id b) in
    let own : (n * 4294967296 / 4294967296) % b.table.shared.key.max ≡ j / 8 = ap (λ i. i % b.table.shared.key.max) number ∙ ap (λ i. n % i) (sym w.same) ∙ sym (slot_at j k w.at) in
    let knows = c.requires.clerk.0.knows in (
      c.requires.clerk.0.of_book,
      w.word,
      claims b.table.shared.key.max _ _ _ (j / 8) j (n * 4294967296) (whole_at j k w.at) (subst (λ i. i < b.table.shared.key.max) (sym (slot_at j k w.at)) w.slot) (ap (λ i. i * 4294967296) (sym number))
          (ap (λ m. m.0.clerk) knows) (ap (λ m. m.0.pass) knows) c.requires.clerk.1 (number ∙ above) own,
    )

pub split_seat-requires : goal.split_seat-requires
split_seat-requires c =
    let b = c.args.self.now in let e = c.compare_exchange-found.ensures in let old = c.args.place.now.me in
    let now = e.2.0 ∙ ap (λ r. (after_claim old.0 (old.0.drawn + 1) r, old.1)) c.if-found-eq0.true in (
      e.0 ∙ c.requires.clerk.0.of_book,
      some_word b,
      gives _ _ _ (ap (λ m. m.0.clerk) now) (ap (λ m. m.0.pass) now) (ap (λ m. m.0.holds) now) (ap (λ m. m.0.calls) now),
    )

pub returns-else-found-eq0-clause-ticket : goal.returns-else-found-eq0-clause-ticket
returns-else-found-eq0-clause-ticket c =
    let b = c.args.self.now in let e = c.compare_exchange-found.ensures in let old = c.args.place.now.me in let r : ℕ = c.compare_exchange-found.result in
    let w = c.word_of-word.ensures in let j : ℕ = c.word_of-word.result in let k : ℕ = c.args.number % slots (book_id b) in
    let ne : r ≢ 0 = c.if-found-eq0.false in
    let now = e.2.0 ∙ ap (λ i. (after_claim old.0 (old.0.drawn + 1) i, old.1)) (positive r ne) in
    let met = e.2.2 ne in
    let max_is : old.0.max ≡ slots (book_id b) = ap (λ m. m.0.max) c.requires.clerk.0.knows in
    (ap (λ m. m.0.claimed) now, (r / 4294967296, met.0, ap (λ i. (r / 4294967296) % i) (sym max_is) ∙ met.1 ∙ slot_at j k w.at))
