-- Lists of marked messages. The number before a message says how many the taker had taken, as far as the sender had learnt when it pushed it.
use Rattle.std.specs.Prelude.{◌≡◌, ◌≤◌, ℕ, ◌==◌, cond, List, [], ◌∷◌, length, All}
use mathlib.Core.Option.{some}
use lib.ListN.{get_elem?}
use Rattle.sw_pipe.specs.declared.mail.Mail.{Mail}

module _ {M : Type 0} where
  -- the messages of sender p, in order, each with its number
  abbrev pub of : ℕ → List (ℕ × Mail M) → List (ℕ × M)
  of p [] = []
  of p (m ∷ ms) = cond (m.1.from == p) ((m.0, m.1.body) ∷ of p ms) (of p ms)

  -- the messages without their numbers
  abbrev pub mails : List (ℕ × Mail M) → List (Mail M)
  mails [] = []
  mails (m ∷ ms) = m.1 ∷ mails ms

  -- each stands behind as many as its sender had learnt to be taken
  abbrev pub Behind : List (ℕ × Mail M) → Type 0
  Behind ms = (i : ℕ) (m : ℕ × Mail M) → get_elem? ms i ≡ some m → m.0 ≤ i

  -- for each sender's number and count: at least so many of that sender are among these messages
  abbrev pub AllTaken : List (ℕ × ℕ) → List (ℕ × Mail M) → Type 0
  AllTaken counts ms = All (λ c. c.1 ≤ length (of c.0 ms)) counts
