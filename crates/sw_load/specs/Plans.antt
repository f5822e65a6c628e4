-- The numbers of a load.
use Rattle.std.specs.Prelude.{ℕ, ◌*◌, nat_lt, if◌then◌else◌, Option, Some, None}
use Rattle.sw_load.specs.declared.plan.Plan.{Plan}

-- a load has 1,000,000 packets at most
abbrev pub planned : ℕ → ℕ → ℕ → Option Plan
planned seed connections packets =
    if nat_lt 1000000 (connections * packets) then None
    else Some (record { seed = seed; connections = connections; packets = packets })
