-- The words of a book.
use Rattle.std.proofs.Common.{◌≡◌, ◌<◌, ◌/◌, ◌∙◌, sym, ap, arith}
use Rattle.sw_sessions.specs.declared.book.Book.{Book}
use Rattle.sw_sessions.specs.Places.{book_id}
use Rattle.sw_sessions.specs.Values.{slots}
use Rattle.sw_sessions.proofs.Slots.{slot_is}

pub some_word : (b : Book) → 0 < b.table.shared.table_id.words
some_word b = let s = b.some in let w = b.words in omega (arith, s, w)

pub slots_is : (b : Book) → slots (book_id b) ≡ b.max
slots_is b = ap (λ k. k / 8) b.words ∙ slot_is b.max

pub slots_key : (b : Book) → slots (book_id b) ≡ b.table.shared.key.max
slots_key b = slots_is b ∙ sym b.key
