-- A net in memory tells what its accepts took.
use Rattle.std.specs.Prelude.{◌≡◌, ℕ, ◌+◌, ◌≤◌, min, Bool, true, false, if◌then◌else◌, List, [], ◌∷◌, Some, refl}
use Rattle.std.proofs.Common.{arith}
use Rattle.sw_causes.specs.Causes.{most}
use Rattle.sw_link.specs.declared.net.Accept.{Accept}
use Rattle.sw_link.specs.declared.net.Accept.TheVariants as accepts
use Rattle.sw_link.specs.declared.memory_link.MemoryLink.{MemoryLink}
use Rattle.sw_link.specs.Nets.{Takes, accept_tells, CountsAccept}
use Rattle.sw_link.specs.MemoryNets.{Plan, Accepted, coming_of, net_faults, is_number, accept_next, counted_accept, memory_accept, AcceptsBy}

-- the net behind an accept tells what it took, and its count fits
record Suits (n : Plan) (a : Accepted) : Type 0 where
  tells : Takes a.answer (coming_of n) (coming_of a.net)
  counts : CountsAccept (net_faults n) (net_faults a.net) a.answer

same : (n : ℕ) → n ≤ n
same n = omega arith

rose : (n : ℕ) → (min n most ≤ min (min (n + 1) most) most) × (min (min n most + 1) most ≤ min (min (n + 1) most) most)
rose n = (omega arith, omega arith)

next_suits : (n : Plan) (links : List (MemoryLink × ℕ)) → n.links ≡ links → Suits n (accept_next n links)
next_suits n (l ∷ ls) e = record { tells = (e, refl); counts = same (net_faults n) }
next_suits n [] e =
    pick n.ends
  where
    pick : (b : Bool) → Suits n (if b then record { answer = accepts.End; net = record n { at_end = true } } else record { answer = accepts.NotYet; net = n })
    pick true = record { tells = (refl, refl); counts = same (net_faults n) }
    pick false = record { tells = refl; counts = same (net_faults n) }

accept_suits : (n : Plan) → Suits n (memory_accept n)
accept_suits n =
    pick (is_number n.accepts n.fail_at)
  where
    counted : Suits (counted_accept n) (accept_next (counted_accept n) n.links) → Suits n (accept_next (counted_accept n) n.links)
    counted s = record { tells = s.tells; counts = s.counts }

    pick : (b : Bool) → Suits n (if b then record { answer = accepts.Failed; net = record (counted_accept n) { faults = min (n.faults + 1) most } } else accept_next (counted_accept n) n.links)
    pick true = record { tells = refl; counts = rose n.faults }
    pick false = counted (next_suits (counted_accept n) n.links refl)

-- an accept takes the first of the links to come; else it changes nothing of them
pub memory_accepts_tell : (n m : Plan) (a : Accept MemoryLink) → AcceptsBy n a m → accept_tells a (Some (coming_of n)) (Some (coming_of m))
memory_accepts_tell n m a (e, f) = rw (e, f) (accept_suits n).tells

-- an accept fails only where its count rose
pub memory_accepts_count : (n m : Plan) (a : Accept MemoryLink) → AcceptsBy n a m → CountsAccept (net_faults n) (net_faults m) a
memory_accepts_count n m a (e, f) = rw (e, f) (accept_suits n).counts
