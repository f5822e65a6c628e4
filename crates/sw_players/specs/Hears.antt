-- What a net remembers of its failures.
use Rattle.std.specs.Prelude.{◌≡◌, ◌≤◌, ℕ, Bool, true, false}
use Rattle.sw_causes.specs.Causes.{Rises}
use Rattle.sw_link.specs.declared.net.Accept.{Accept}
use Rattle.sw_link.specs.declared.net.Accept.TheVariants as accepts

-- a net as it was given, as it is, and whether an accept of it failed meanwhile
pub record Heard (N : Type 0) : Type 0 where
  pub was : N
  pub net : N
  pub failed : Bool

abbrev pub heard : {N : Type 0} → N → N → Bool → Heard N
heard was net failed = record { was = was; net = net; failed = failed }

-- an accept that failed is remembered
abbrev pub failed_by : {L : Type 0} → Accept L → Bool → Bool
failed_by (accepts.Got link ip) failed = failed
failed_by accepts.NotYet failed = failed
failed_by accepts.End failed = failed
failed_by accepts.Failed failed = true

-- the count didn't fall, and where an accept failed it rose
abbrev pub Hears : ℕ → ℕ → Bool → Type 0
Hears old new true = Rises old new
Hears old new false = old ≤ new

-- an accept of the net, of which is remembered whether it failed
abbrev pub ListensAs : {N L : Type 0} → (N → Accept L → N → Type 0) → Heard N → Accept L → Heard N → Type 0
ListensAs gives l a m = gives l.net a m.net × (m.failed ≡ failed_by a l.failed) × (m.was ≡ l.was)
