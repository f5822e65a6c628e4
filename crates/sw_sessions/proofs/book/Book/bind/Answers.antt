use Rattle.std.proofs.Common.{◌≡◌, ◌<◌, ◌+◌, ◌*◌, ◌/◌, ◌%◌, ℕ, ap, sym, subst, ◌∙◌, arith}
use Rattle.std.proofs.lemmas.Nat.{mod-mul-add}
use Rattle.sw_sessions.specs.Places.{book_id}
use Rattle.sw_sessions.specs.Values.{slots}
use Rattle.sw_sessions.proofs.Binds.{binds_to}
use Rattle.sw_sessions.proofs.Slots.{number_of, slot_at, whole_at}
use Rattle.sw_sessions.proofs.book.Book.bind.Goals as goal

pub compare_exchange-requires : goal.compare_exchange-requires
compare_exchange-requires c =
    let b = c.args.self.now in let s : ℕ = c.args.session in let u : ℕ = c.args.uid in
    let w = c.word_of-word.ensures in let j : ℕ = c.word_of-word.result in let k : ℕ = s % slots (book_id b) in
    let fits = c.ranges.uid.fits in
    let uid_is : (s * 4294967296 + u) % 4294967296 ≡ u = mod-mul-add s 4294967296 u (omega (arith, fits)) in
    let number = number_of s in let some_session = c.requires.some.0 in let some_uid = c.requires.some.1 in
    let own : (s * 4294967296 / 4294967296) % b.table.shared.key.max ≡ j / 8 = ap (λ n. n % b.table.shared.key.max) number ∙ ap (λ n. s % n) (sym w.same) ∙ sym (slot_at j k w.at) in (
      c.requires.pass.of_book,
      w.word,
      binds_to b.table.shared.key.max _ _ _ (j / 8) j (s * 4294967296) (s * 4294967296 + u) (whole_at j k w.at) (subst (λ i. i < b.table.shared.key.max) (sym (slot_at j k w.at)) w.slot)
          (ap (λ n. n * 4294967296) (sym number)) (ap (λ n. s * 4294967296 + n) (sym uid_is))
          (λ z. absurd (omega (arith, z, uid_is, some_uid))) (λ z. absurd (omega (arith, z, number, some_session))) own (ap (λ m. m.0.pass) c.requires.pass.knows),
    )
