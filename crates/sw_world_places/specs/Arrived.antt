-- A link that arrived.
use Rattle.std.specs.Prelude.{ℕ, List, [], Option, Some, None}
use Rattle.sw_link.specs.declared.memory_link.LinkStep.{LinkStep}
use Rattle.sw_world_places.specs.declared.arrived.Claimed.{Claimed}
use Rattle.sw_world_places.specs.declared.arrived.Claimed.TheVariants.{Drew, NoSlot, NumbersSpent}

-- its address, what its claim answered, and the steps of its script that wait until its reactor has it
pub record Known : Type 0 where
  pub ip : ℕ
  pub claim : Option Claimed
  pub ahead : List LinkStep

-- one that wasn't accepted yet
abbrev pub come : ℕ → Known
come ip = record { ip = ip; claim = None; ahead = [] }

-- the session that a claim drew
abbrev pub session_by : Option Claimed → Option ℕ
session_by None = None
session_by (Some (Drew s)) = Some s
session_by (Some NoSlot) = None
session_by (Some NumbersSpent) = None
