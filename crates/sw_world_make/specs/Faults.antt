-- Why a core can't be made.
use Rattle.std.specs.Prelude.{◌≡◌, ℕ, ◌==◌, if◌then◌else◌, List, [], ◌∷◌, length, Option, None, Some}
use Rattle.sw_settings.specs.declared.values.Values.{Values}
use Rattle.sw_world_make.specs.declared.fault.Part.{Part}
use Rattle.sw_world_make.specs.declared.fault.Part.TheVariants.{Workers, Taskers, Generations}
use Rattle.sw_world_make.specs.declared.fault.WorldFault.{WorldFault}
use Rattle.sw_world_make.specs.declared.fault.WorldFault.TheVariants.{Count, OutOfMemory}

-- the numbers differ, or the next part is looked at
abbrev pub or_next : Part → ℕ → ℕ → Option WorldFault → Option WorldFault
or_next part need given next = if given == need then next else Some (Count part need given)

-- a worker has no handler
abbrev pub unhandled : {H : Type 0} → List (List H) → Option WorldFault
unhandled [] = None
unhandled (hs ∷ rest) = if length hs == 0 then Some (Count Generations 1 0) else unhandled rest

-- the first part of which a wrong number is given: a list for each worker, a handler for each task worker, a handler in each list
abbrev pub count_fault : {H : Type 0} → Values → List (List H) → ℕ → Option WorldFault
count_fault v workers taskers = or_next Workers v.worker_num (length workers) (or_next Taskers v.task_worker_num taskers (unhandled workers))

-- the answer is that refusal; where the numbers are right, want of memory alone refuses
abbrev pub IsRefusal : Option WorldFault → WorldFault → Type 0
IsRefusal None f = f ≡ OutOfMemory
IsRefusal (Some g) f = f ≡ g
