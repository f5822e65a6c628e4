-- How a run ended.
use Rattle.std.specs.Prelude.{◌≡◌, ◌⊎◌, ℕ, nat_lt, Bool, true, false, List, length, map, Option, Some, None}
use Rattle.std.specs.List.{list_all}
use Rattle.sw_causes.specs.Causes.{Rises}
use Rattle.sw_spawn.specs.declared.spawner.Ran.{Ran}
use Rattle.sw_spawn.specs.declared.spawner.Ran.TheVariants.{All as Whole, Failed, OutOfMemory}
use Rattle.sw_spawn.specs.declared.spawner.Way.{Way}
use Rattle.sw_spawn.specs.declared.spawner.Way.TheVariants.{Rounds, Apart}

-- each player has a thread of its own
abbrev pub is_apart : Way → Bool
is_apart (Rounds limit at) = false
is_apart Apart = true

abbrev pub is_failed : {P : Type 0} → Ran P → Bool
is_failed (Whole qs) = false
is_failed (Failed qs) = true
is_failed OutOfMemory = false

-- the start of one of so many players fails
abbrev pub is_named : Option ℕ → ℕ → Bool
is_named None n = false
is_named (Some at) n = nat_lt at n

-- the rounds were enough where each player is finished, and not enough only where a start fails or one isn't
abbrev pub IsEnough : {P : Type 0} → (P → Bool) → Option ℕ → ℕ → List P → Bool → Type 0
IsEnough finished fail_at count ps true = list_all finished ps ≡ true
IsEnough finished fail_at count ps false = (is_named fail_at count ≡ true) ⊎ (list_all finished ps ≡ false)

-- all came back in order, and each is finished
abbrev pub IsAll : {P M : Type 0} → (P → M) → (P → Bool) → List P → Ran P → Type 0
IsAll made finished ps (Whole qs) = (map made qs.items ≡ map made ps) × (list_all finished qs.items ≡ true)
IsAll made finished ps (Failed qs) = Unit {0}
IsAll made finished ps OutOfMemory = Unit {0}

-- all came back in order, and the count rose
abbrev pub IsFailed : {P M : Type 0} → (P → M) → List P → ℕ → ℕ → Ran P → Type 0
IsFailed made ps old new (Whole qs) = Unit {0}
IsFailed made ps old new (Failed qs) = (map made qs.items ≡ map made ps) × Rises old new
IsFailed made ps old new OutOfMemory = Unit {0}

-- why rounds failed: a start was to fail, or a player isn't finished
abbrev pub FellShort : {P : Type 0} → (P → Bool) → Way → List P → List P → Type 0
FellShort finished (Rounds limit fail_at) ps qs = (is_named fail_at (length ps) ≡ true) ⊎ (list_all finished qs ≡ false)
FellShort finished Apart ps qs = ⊥

-- a run fails only where it fell short
abbrev pub IsShort : {P : Type 0} → (P → Bool) → Way → List P → Ran P → Type 0
IsShort finished way ps (Whole qs) = Unit {0}
IsShort finished way ps (Failed qs) = FellShort finished way ps qs.items
IsShort finished way ps OutOfMemory = Unit {0}
