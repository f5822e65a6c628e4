-- Among the links that were put into one Ends, the numbers of a descriptor rise.
use Rattle.std.specs.Prelude.{◌≡◌, ℕ, ◌<◌, ◌%◌, List, [], ◌∷◌}
use Rattle.sw_lists.specs.Lists.{collect, Each}
use Rattle.sw_record.specs.declared.record.LinkRecord.{LinkRecord}
use Rattle.sw_record.specs.Terms.{Terms}
use Rattle.sw_record.specs.Sessions.{sess}

-- each number is below those behind it that have its slot
abbrev pub RiseBySlot : ℕ → List ℕ → Type 0
RiseBySlot slots [] = Unit {0}
RiseBySlot slots (s ∷ ss) = Each (λ u. s % slots ≡ u % slots → s < u) ss × RiseBySlot slots ss

-- by the links of one Ends, in the order in which they were put there
abbrev pub EndsRise : Terms → List LinkRecord → Type 0
EndsRise t ends = RiseBySlot t.max_conn (collect sess ends)
