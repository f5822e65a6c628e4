-- The dispatch modes: 1 round, 2 by descriptor, 3 idle, 4 by address, 5 by uid.
use Rattle.std.specs.Prelude.{ℕ, ◌==◌, Bool, true, if◌then◌else◌}

-- modes 2 and 4 keep each connection at one worker, and there Closed alone awaits a Bye
abbrev pub keeps : ℕ → Bool
keeps m = if m == 2 then true else m == 4

-- modes 2, 4 and 5 tell the workers of Connect and Closed
abbrev pub bound : ℕ → Bool
bound m = if keeps m then true else m == 5
