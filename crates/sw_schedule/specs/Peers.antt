-- What is known of the links' peers.
use Rattle.std.specs.Prelude.{ℕ, List, [], ◌∷◌, ◌++◌, Bool, true, false, nat_lt, length, slice_get, slice_set, Option, Some, None, if◌then◌else◌}

-- for each link whether its end was given, and whether no more links arrive
pub record Known : Type 0 where
  pub ended : List Bool
  pub over : Bool

abbrev pub no_peers : Known
no_peers = record { ended = []; over = false }

-- a link may arrive
abbrev pub is_open : Known → Bool
is_open k = if k.over then false else true

abbrev pub sends : Option Bool → Bool
sends None = false
sends (Some ended) = if ended then false else true

-- the link was opened, and its end wasn't given
abbrev pub is_sending : Known → ℕ → Bool
is_sending k l = sends (slice_get k.ended l)

-- one link more
abbrev pub opened : Known → Known
opened k = record k { ended = k.ended ++ false ∷ [] }

-- the end of a link that is there
abbrev pub ended_at : ℕ → Known → Known
ended_at l k = if nat_lt l (length k.ended) then record k { ended = slice_set k.ended l true } else k

-- no more links
abbrev pub closed : Known → Known
closed k = record k { over = true }
