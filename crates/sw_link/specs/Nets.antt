-- What a net tells, and what an accept says of it.
use Rattle.std.specs.Prelude.{◌≡◌, ℕ, ◌≤◌, Bool, true, false, List, [], ◌∷◌, Option, Some, None}
use Rattle.sw_causes.specs.Causes.{Rises}
use Rattle.sw_link.specs.declared.net.Accept.{Accept}
use Rattle.sw_link.specs.declared.net.Accept.TheVariants as accepts
use Rattle.sw_link.specs.Told.{Told}

-- the links that are still to come with their addresses, and whether an accept answered End
pub record Coming (L : Type 0) : Type 0 where
  pub links : List (L × ℕ)
  pub at_end : Bool

-- what an accept says of the links to come before and after it
abbrev pub Takes : {L : Type 0} → Accept L → Coming L → Coming L → Type 0
Takes (accepts.Got link ip) old new = (old.links ≡ (link, ip) ∷ new.links) × (new.at_end ≡ old.at_end)
Takes accepts.NotYet old new = new ≡ old
Takes accepts.End old new = (new.links ≡ old.links) × (new.at_end ≡ true)
Takes accepts.Failed old new = new ≡ old

-- a net that tells goes on to tell, and one that doesn't never does
abbrev pub accept_tells : {L : Type 0} → Accept L → Option (Coming L) → Option (Coming L) → Type 0
accept_tells a None None = Unit {0}
accept_tells a (Some old) (Some new) = Takes a old new
accept_tells a None (Some new) = ⊥
accept_tells a (Some old) None = ⊥

-- a count of faults never falls, and rose where an accept failed
abbrev pub CountsAccept : {L : Type 0} → ℕ → ℕ → Accept L → Type 0
CountsAccept old new (accepts.Got link ip) = old ≤ new
CountsAccept old new accepts.NotYet = old ≤ new
CountsAccept old new accepts.End = old ≤ new
CountsAccept old new accepts.Failed = (old ≤ new) × Rises old new

-- nothing was read or written on a link
abbrev pub IsUnused : Option Told → Type 0
IsUnused None = Unit {0}
IsUnused (Some t) = (t.pieces ≡ []) × (t.written ≡ []) × (t.at_end ≡ false)

-- a link that an accept gives is new, and never failed
abbrev pub IsNewIn : {L : Type 0} → (L → Option Told) → (L → ℕ) → Accept L → Type 0
IsNewIn told faults (accepts.Got link ip) = IsUnused (told link) × (faults link ≡ 0)
IsNewIn told faults accepts.NotYet = Unit {0}
IsNewIn told faults accepts.End = Unit {0}
IsNewIn told faults accepts.Failed = Unit {0}
