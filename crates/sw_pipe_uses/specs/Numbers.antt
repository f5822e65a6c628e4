-- What a message says of numbers.
use Rattle.std.specs.Prelude.{◌≡◌, ◌⊎◌, ℕ, [], ◌∷◌, ◌++◌, Option, Some, None}
use Rattle.sw_pipe.specs.Mails.{AllTaken}
use Rattle.sw_pipe.specs.Values.{Took, mail}
use Rattle.sw_pipe_uses.specs.declared.message.Message.{Message}
use Rattle.sw_pipe_uses.specs.declared.message.Message.TheVariants.{Text, Chain, Number}

-- the number that a message is, if it is one
abbrev pub number_in : Message → Option ℕ
number_in (Text bytes) = None
number_in (Chain node) = None
number_in (Number even) = Some even.number

-- a message was taken, and the answer is its number; or nothing was taken, since all was taken that the counts tell of
abbrev pub TookNumber : Took Message → Took Message → Option ℕ → Type 0
TookNumber old new answer =
    ((new ≡ old) × AllTaken old.counts old.taken × (answer ≡ None))
    ⊎ ((p : ℕ) × (learnt : ℕ) × (m : Message) × (new ≡ record old { taken = old.taken ++ (learnt, mail p m) ∷ [] }) × (answer ≡ number_in m))
