-- What the calls of a pass find, and leave.
use Rattle.std.specs.Prelude.{◌≡◌, ℕ, ◌%◌}
use Rattle.sw_port_book.specs.declared.word.Word.{Word}
use Rattle.sw_sessions.specs.Values.{PassNow, TicketNow, slots, called}
use Rattle.sw_sessions.specs.declared.rule.Call.TheVariants as call

-- a look finds a word, and is kept with it
abbrev pub pass_looks : PassNow → ℕ → Word → PassNow → Type 0
pass_looks p session word q = q ≡ called p (call.Look (session % slots p.book) word)

abbrev pub pass_binds : PassNow → ℕ → ℕ → Word → PassNow → Type 0
pass_binds p session uid word q = q ≡ called p (call.Bind session uid word)

abbrev pub pass_releases : PassNow → TicketNow → ℕ → PassNow → Type 0
pass_releases p ticket uid q = q ≡ called p (call.Release ticket.number uid)
