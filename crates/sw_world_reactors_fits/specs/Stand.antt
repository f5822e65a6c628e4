-- The reactors of the core beside the world's.
use Rattle.std.specs.Prelude.{◌≡◌, ℕ, ◌<◌, List, length, slice_get, Some}
use Rattle.sw_data.specs.declared.ended.Ended.{Ended}
use Rattle.sw_link.specs.declared.memory_link.MemoryLink.{MemoryLink}
use Rattle.sw_record.specs.Terms.{Terms}
use Rattle.sw_reactor_table.specs.Reactor.{Reactor as Table}
use Rattle.sw_world_reactor_fits.specs.Plain.{ReactorIs}
use Rattle.sw_world_places.specs.Ends.{Keeping}
use Rattle.sw_world_reactors.specs.declared.owner.Owner.{Owner}
use Rattle.sw_world_reactors.specs.Owners.{IsReadyOwner}

-- what roomy ends keep
abbrev pub kept_of : Keeping → List (MemoryLink × Ended)
kept_of e = e.kept

-- a reactor with its ends is ready for a turn, and is this one of the world
pub record OwnerStands (t : Terms) (o : Owner) (s : Table) : Type 0 where
  pub ready : IsReadyOwner o
  pub is : ReactorIs t o.reactor (kept_of o.ends) s

-- the one of this number is
abbrev pub StandsAs : Terms → List Owner → ℕ → Table → Type 0
StandsAs t all n s = (o : Owner) × ((slice_get all n ≡ Some o) × OwnerStands t o s)

-- each of them is the world's of its number
pub record ReactorsStand (t : Terms) (all : List Owner) (tables : ℕ → Table) : Type 0 where
  pub count : length all ≡ t.reactor_num
  pub each : (n : ℕ) → n < t.reactor_num → StandsAs t all n (tables n)
