-- What clauses see of a pipe's ends.
use Rattle.std.specs.Prelude.{◌≡◌, ◌⊎◌, ℕ, zero, suc, ◌+◌, ◌||◌, Bool, false, List, [], ◌∷◌, ◌++◌, length, Option, Some, None}
use Rattle.atomic_table.specs.Seated.{TableId}
use Rattle.sw_pipe.specs.declared.mail.Mail.{Mail}

-- a pipe: its queue, its counter, its room, and how many senders it has
pub record PipeId : Type 0 where
  pub queue : TableId
  pub counter : TableId
  pub capacity : ℕ
  pub senders : ℕ

-- A sender: its pipe, its number, how many it has learnt to be taken, what it pushed, each with the number that it had learnt by then, and whether a push of it was Full
pub record Pushed (M : Type 0) : Type 0 where
  pub pipe : PipeId
  pub number : ℕ
  pub learnt : ℕ
  pub pushed : List (ℕ × M)
  pub full : Bool

-- The taker: its pipe, what it took, each with the number that its sender had learnt, and the counts that it learnt, each a sender's number and how many that one had pushed
pub record Took (M : Type 0) : Type 0 where
  pub pipe : PipeId
  pub taken : List (ℕ × Mail M)
  pub counts : List (ℕ × ℕ)

-- a note: the queue, and how many were taken from it
pub record Noted : Type 0 where
  pub queue : TableId
  pub count : ℕ

-- a count: the queue, a sender's number, and how many it had pushed
pub record CountedUp : Type 0 where
  pub queue : TableId
  pub number : ℕ
  pub count : ℕ

abbrev pub noted : TableId → ℕ → Noted
noted queue count = record { queue = queue; count = count }

abbrev pub counted_up : TableId → ℕ → ℕ → CountedUp
counted_up queue number count = record { queue = queue; number = number; count = count }

module _ {M : Type 0} where
  abbrev pub pushed : PipeId → ℕ → ℕ → List (ℕ × M) → Bool → Pushed M
  pushed pipe number learnt ms full = record { pipe = pipe; number = number; learnt = learnt; pushed = ms; full = full }

  abbrev pub took : PipeId → List (ℕ × Mail M) → List (ℕ × ℕ) → Took M
  took pipe ms counts = record { pipe = pipe; taken = ms; counts = counts }

  -- the first n senders of a pipe, which have learnt and pushed nothing
  abbrev pub fresh : PipeId → ℕ → List (Pushed M)
  fresh pipe zero = []
  fresh pipe (suc n) = fresh pipe n ++ pushed pipe n 0 [] false ∷ []

  -- a message of sender p
  abbrev pub mail : ℕ → M → Mail M
  mail p m = record { from = p; body = m }

  -- the first message that is left, if there is one, and the rest
  abbrev pub left_of : Option (Mail M) → ℕ → List (ℕ × Mail M) → List (ℕ × Mail M)
  left_of None learnt rest = []
  left_of (Some m) learnt rest = (learnt, m) ∷ rest

  -- how many messages these senders pushed
  abbrev pub pushed_in : List (Pushed M) → ℕ
  pushed_in [] = 0
  pushed_in (s ∷ ss) = pushed_in ss + length s.pushed

  -- whether a push of one of these was Full
  abbrev pub any_full : List (Pushed M) → Bool
  any_full [] = false
  any_full (s ∷ ss) = any_full ss || s.full

  -- one of these senders has this number
  abbrev pub HasNumber : ℕ → List (Pushed M) → Type 0
  HasNumber p [] = ⊥
  HasNumber p (s ∷ ss) = (p ≡ s.number) ⊎ HasNumber p ss
