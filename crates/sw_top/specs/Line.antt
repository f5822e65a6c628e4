-- How a command line ends.
use Rattle.std.specs.Prelude.{◌≡◌, ◌⊎◌, ℕ, List, map, drop, String, string_bytes, Option, Some, None}
use Rattle.std.specs.Global.{Vec, Global}
use Rattle.sw_answer.specs.declared.status.Status.{Status}
use Rattle.sw_answer.specs.declared.status.Status.TheVariants as statuses
use Rattle.sw_answer.specs.Statuses.{status_number}
use Rattle.sw_top.specs.Says.{FromSource, FromSink, Said, IsComplete}
use Rattle.sw_top.specs.Rightly.{PrintsRight}

-- the number is that of a status which is right for these words
pub record EndsWords (words : List (List ℕ)) (s : FromSource) (k : FromSink) (number : ℕ) : Type 0 where
  pub status : Status
  pub is : number ≡ status_number status
  pub says : Said words s k status
  pub right : PrintsRight words s k status
  pub complete : IsComplete words s k status

-- the arguments behind the first are the words; where memory runs out before they are, the number is that of OutOfMemory
abbrev pub EndsLine : Option (Vec (String Global)) → FromSource → FromSink → ℕ → Type 0
EndsLine None s k number = number ≡ status_number statuses.OutOfMemory
EndsLine (Some arguments) s k number = EndsWords (map string_bytes (drop 1 arguments.items)) s k number ⊎ (number ≡ status_number statuses.OutOfMemory)
