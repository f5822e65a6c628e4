-- What clauses see of a clerk, a pass and a ticket.
use Rattle.std.specs.Prelude.{◌≡◌, ℕ, ◌/◌, List, [], ◌∷◌, ◌++◌, Result, IfOk}
use Rattle.atomic_table.specs.Seated.{TableId}
use Rattle.sw_port_book.specs.declared.answers.ClaimFault.{ClaimFault}
use Rattle.sw_port_book.specs.Claims.{Claims, answer_of, numbers_of}
use Rattle.sw_sessions.specs.declared.rule.Call.{Call}

-- how many slots a book has: each has one of eight words in a row, so that no two share a cache line
abbrev pub slots : TableId → ℕ
slots book = book.words / 8

-- a clerk: its book, the last number drawn, the numbers claimed in order, and how many passes were made
pub record ClerkNow : Type 0 where
  pub book : TableId
  pub last : ℕ
  pub claimed : List ℕ
  pub passes : ℕ

-- a pass: its book and its calls in order
pub record PassNow : Type 0 where
  pub book : TableId
  pub calls : List Call

-- a ticket: its book and its number
pub record TicketNow : Type 0 where
  pub book : TableId
  pub number : ℕ

abbrev pub clerk_now : TableId → ℕ → List ℕ → ℕ → ClerkNow
clerk_now book last claimed passes = record { book = book; last = last; claimed = claimed; passes = passes }

abbrev pub pass_now : TableId → List Call → PassNow
pass_now book calls = record { book = book; calls = calls }

abbrev pub ticket_now : TableId → ℕ → TicketNow
ticket_now book number = record { book = book; number = number }

-- a pass after one more call
abbrev pub called : PassNow → Call → PassNow
called pass call = record pass { calls = pass.calls ++ call ∷ [] }

-- the calls of all these passes
abbrev pub all_calls : List PassNow → List Call
all_calls [] = []
all_calls (p ∷ ps) = p.calls ++ all_calls ps

-- a clerk after a claim: the number drawn last and the answer are those of its tries, and a ticket is one of its book
pub record ClerkClaims (before : ClerkNow) (answer : Result TicketNow ClaimFault) (after : ClerkNow) : Type 0 where
  pub clerk : after ≡ record before { last = after.last; claimed = before.claimed ++ numbers_of (answer_of (λ t. t.number) answer) }
  pub tries : Claims (slots before.book) before.claimed before.last (answer_of (λ t. t.number) answer) after.last
  pub ticket : IfOk answer (λ t. t.book ≡ before.book)
