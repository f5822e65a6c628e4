-- The net in memory as the ports have it; it doesn't fail.
use Rattle.std.specs.Prelude.{◌≡◌, ℕ, Bool, true, false, List, [], ◌∷◌, None}
use Rattle.sw_link.specs.declared.net.Accept.{Accept}
use Rattle.sw_link.specs.declared.net.Accept.TheVariants.{Got, NotYet, End, Failed}
use Rattle.sw_link.specs.declared.memory_link.MemoryLink.{MemoryLink}
use Rattle.sw_link.specs.MemoryNets.{Plan}
use Rattle.sw_world_ports.specs.Ports.{behind}

-- the addresses of links
abbrev pub addresses : List (MemoryLink × ℕ) → List ℕ
addresses [] = []
addresses (l ∷ ls) = l.1 ∷ addresses ls

-- the links that wait, and the end behind them
pub record NetStands (n : Plan) (waiting : List ℕ) (ended : Bool) : Type 0 where
  pub links : addresses n.links ≡ waiting
  pub ends : n.ends ≡ ended
  pub whole : n.fail_at ≡ None

-- what an accept answers, by the links that wait
abbrev pub AcceptIs : List ℕ → Bool → Accept MemoryLink → Type 0
AcceptIs waiting ended (Got link ip) = (rest : List ℕ) × (waiting ≡ ip ∷ rest)
AcceptIs waiting ended NotYet = (waiting ≡ []) × (ended ≡ false)
AcceptIs waiting ended End = (waiting ≡ []) × (ended ≡ true)
AcceptIs waiting ended Failed = ⊥

-- and the links that wait then
abbrev pub waits_then : List ℕ → Accept MemoryLink → List ℕ
waits_then waiting (Got link ip) = behind waiting
waits_then waiting NotYet = waiting
waits_then waiting End = waiting
waits_then waiting Failed = waiting
