-- The bytes of a load: of a plan's seed, a connection and a packet, each counted from 0.
use Rattle.std.specs.Prelude.{ℕ, zero, suc, ◌+◌, ◌*◌, ◌%◌, List, [], ◌∷◌, ◌++◌}
use Rattle.sw_load.specs.declared.plan.Plan.{Plan}

-- how many bytes a body has
abbrev pub body_len : Plan → ℕ → ℕ → ℕ
body_len p connection packet = 1 + (p.seed + 7 * connection + 13 * packet) % 32

-- the byte of a body at this place
abbrev pub body_byte : Plan → ℕ → ℕ → ℕ → ℕ
body_byte p connection packet at = (p.seed + connection + packet + at) % 256

-- the first n bytes of a body
abbrev pub body_bytes : Plan → ℕ → ℕ → ℕ → List ℕ
body_bytes p connection packet zero = []
body_bytes p connection packet (suc n) = body_bytes p connection packet n ++ body_byte p connection packet n ∷ []

-- a packet: its body's length as four bytes, the highest first, and its body
abbrev pub packet_bytes : Plan → ℕ → ℕ → List ℕ
packet_bytes p connection packet =
    (0 ∷ 0 ∷ 0 ∷ body_len p connection packet ∷ []) ++ body_bytes p connection packet (body_len p connection packet)

-- how many bytes a piece has that isn't a connection's last
abbrev pub piece_len : Plan → ℕ → ℕ
piece_len p connection = 1 + (p.seed + 11 * connection) % 997
