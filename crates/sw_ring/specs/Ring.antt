-- The bytes of a ring, and how much memory is in use for them.
use Rattle.std.specs.Prelude.{ℕ, ◌-◌, ◌≤◌, max, List, length, drop}
use Rattle.sw_ring.specs.declared.ring.Ring.TheInside.{Inside}
use Rattle.sw_ring.specs.declared.ring.TheConstants.{SLACK}

-- the bytes that weren't cut off
abbrev pub held : Inside → List ℕ
held r = drop r.start r.row.items

-- what was cut off and still takes room is no more than what is held, or than the slack
abbrev pub IsPacked : Inside → Type 0
IsPacked r = (r.start ≤ length r.row.items) × (r.start ≤ max SLACK (length r.row.items - r.start))
