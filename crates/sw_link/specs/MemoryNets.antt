-- A net in memory: its links, and what an accept makes of it.
use Rattle.std.specs.Prelude.{◌≡◌, ℕ, ◌+◌, ◌==◌, min, Bool, true, false, if◌then◌else◌, List, [], ◌∷◌, ◌++◌, Option, Some, None}
use Rattle.sw_causes.specs.Causes.{most}
use Rattle.sw_link.specs.declared.net.Accept.{Accept}
use Rattle.sw_link.specs.declared.net.Accept.TheVariants as accepts
use Rattle.sw_link.specs.declared.memory_link.MemoryLink.{MemoryLink}
use Rattle.sw_link.specs.Nets.{Coming}

-- the links that are still to come with their addresses, whether an end comes behind them, the number of the accept that fails,
-- and what was done
pub record Plan : Type 0 where
  pub links : List (MemoryLink × ℕ)
  pub ends : Bool
  pub fail_at : Option ℕ
  pub accepts : ℕ
  pub faults : ℕ
  pub at_end : Bool

-- nothing was read or written on a link, and it never failed
pub record IsNew (l : MemoryLink) : Type 0 where
  pub pieces : l.pieces ≡ []
  pub written : l.written ≡ []
  pub at_end : l.at_end ≡ false
  pub faults : l.faults ≡ 0

abbrev pub coming_of : Plan → Coming MemoryLink
coming_of n = record { links = n.links; at_end = n.at_end }

-- how often it failed
abbrev pub net_faults : Plan → ℕ
net_faults n = min n.faults most

abbrev pub new_net : List (MemoryLink × ℕ) → Bool → Option ℕ → Plan
new_net links ends fail_at = record { links = links; ends = ends; fail_at = fail_at; accepts = 0; faults = 0; at_end = false }

abbrev pub with_link : MemoryLink → ℕ → Plan → Plan
with_link link ip n = record n { links = n.links ++ (link, ip) ∷ [] }

abbrev pub closed : Plan → Plan
closed n = record n { ends = true }

-- what an accept comes to
pub record Accepted : Type 0 where
  pub answer : Accept MemoryLink
  pub net : Plan

-- the accept of this number fails
abbrev pub is_number : ℕ → Option ℕ → Bool
is_number n None = false
is_number n (Some k) = k == n

-- behind the last link comes the end, if there is one
abbrev pub accept_next : Plan → List (MemoryLink × ℕ) → Accepted
accept_next n (l ∷ ls) = record { answer = accepts.Got l.0 l.1; net = record n { links = ls } }
accept_next n [] = if n.ends then record { answer = accepts.End; net = record n { at_end = true } } else record { answer = accepts.NotYet; net = n }

abbrev pub counted_accept : Plan → Plan
counted_accept n = record n { accepts = min (n.accepts + 1) most }

abbrev pub memory_accept : Plan → Accepted
memory_accept n =
    if is_number n.accepts n.fail_at
    then record { answer = accepts.Failed; net = record (counted_accept n) { faults = min (n.faults + 1) most } }
    else accept_next (counted_accept n) n.links

-- an accept came to this
abbrev pub AcceptsBy : Plan → Accept MemoryLink → Plan → Type 0
AcceptsBy n a m = (a ≡ (memory_accept n).answer) × (m ≡ (memory_accept n).net)
