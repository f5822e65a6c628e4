-- The names of actors.
use Rattle.std.specs.Prelude.{ℕ, List, [], ◌∷◌, codes, nat_eq, Option, Some, None, if◌then◌else◌}
use Rattle.std.specs.Str.{bytes_eq}
use Rattle.sw_text.specs.Then.{◌>>=◌}
use Rattle.sw_text.specs.Numbers.{number_within}
use Rattle.sw_step.specs.declared.actor.ActorId.{ActorId}
use Rattle.sw_step.specs.declared.actor.ActorId.TheVariants.{Door, Reactor, Worker, Tasker}

-- a number that fits 32 bits
abbrev pub number_within_32 : List ℕ → Option ℕ
number_within_32 text = number_within 0 4294967295 text

-- r, w and t are the letters of reactors, workers and task workers
abbrev pub kind_by : ℕ → ℕ → Option ActorId
kind_by letter n = if nat_eq letter 114 then Some (Reactor n) else if nat_eq letter 119 then Some (Worker n) else if nat_eq letter 116 then Some (Tasker n) else None

unfoldable pub counted : ℕ → List ℕ → Option ActorId
counted letter digits = do
  n ← number_within_32 digits
  kind_by letter n

abbrev pub lettered : List ℕ → Option ActorId
lettered [] = None
lettered (b ∷ bs) = counted b bs

-- the actor of this name
abbrev pub actor_of : List ℕ → Option ActorId
actor_of text = if bytes_eq text (codes "door") then Some Door else lettered text
