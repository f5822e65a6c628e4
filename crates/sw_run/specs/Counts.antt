-- How many of each part a server needs.
use Rattle.std.specs.Prelude.{ℕ, ◌+◌, ◌==◌, if◌then◌else◌, List, [], ◌∷◌, length, Option, None, Some}
use Rattle.sw_run.specs.declared.faults.Part.{Part}
use Rattle.sw_run.specs.declared.faults.Part.TheVariants.{Ends, Workers, Generations, Taskers}
use Rattle.sw_settings.specs.declared.values.Values.{Values}

-- so many of a part are needed, and so many were given
abbrev pub Missing : Type 0
Missing = Part × ℕ × ℕ

-- the numbers differ, or the next part is looked at
abbrev pub or_next : Part → ℕ → ℕ → Option Missing → Option Missing
or_next part need given next = if given == need then next else Some (part, need, given)

-- the first worker that hasn't as many handlers as each needs
abbrev pub generations : ℕ → List ℕ → Option Missing → Option Missing
generations need [] next = next
generations need (n ∷ ns) next = or_next Generations need n (generations need ns next)

-- the first part of which not so many were given as are needed: ends, workers, handlers of each worker, task workers
abbrev pub miscount : Values → ℕ → List ℕ → ℕ → Option Missing
miscount v ends workers taskers =
    or_next Ends (v.reactor_num + 1) ends (or_next Workers v.worker_num (length workers)
    (generations v.generation_num workers (or_next Taskers v.task_worker_num taskers None)))
