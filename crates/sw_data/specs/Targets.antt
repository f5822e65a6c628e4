-- The worker to which a packet goes, among w workers.
use Rattle.std.specs.Prelude.{ℕ, ◌%◌, ◌==◌, if◌then◌else◌}

-- the worker of a descriptor, where each connection keeps its worker
abbrev pub fixed_target : ℕ → ℕ → ℕ
fixed_target fd w = fd % w

-- the worker of an IPv4 address as a big-endian number
abbrev pub ip_target : ℕ → ℕ → ℕ
ip_target ip w = ip % w

-- the worker of a uid, and that of the descriptor where no uid is bound
abbrev pub uid_target : ℕ → ℕ → ℕ → ℕ
uid_target fd uid w = if uid == 0 then fixed_target fd w else uid % w

-- the worker of a position, round by round
abbrev pub round_target : ℕ → ℕ → ℕ
round_target k w = k % w
