-- What comes of a run.
use Rattle.std.specs.Prelude.{◌≡◌, ◌≤◌, ℕ, Bool, true, false, if◌then◌else◌, List, map, Option, None, Some, Result, Ok, Err}
use Rattle.sw_causes.specs.Causes.{Rises}
use Rattle.sw_run.specs.Counts.{Missing}
use Rattle.sw_run.specs.declared.faults.ServeFault.{ServeFault}
use Rattle.sw_run.specs.declared.faults.ServeFault.TheVariants as faults
use Rattle.sw_sweep.specs.declared.stopped.Stopped.{Stopped}

module _ {N E H T : Type 0} where
  -- HandlerCount comes exactly for the first part whose number differs; ListenFault only where the net's count rose, StartFault only
  -- where the spawner's did
  abbrev pub EndsBy : Option Missing → (N → ℕ) → N → ℕ → ℕ → Result (Stopped N E H T) (ServeFault N E H T) → Type 0
  EndsBy miscount heard net old new (Ok s) = miscount ≡ None
  EndsBy miscount heard net old new (Err (faults.HandlerCount part need given)) = miscount ≡ Some (part, need, given)
  EndsBy miscount heard net old new (Err (faults.ListenFault s)) = (miscount ≡ None) × Rises (heard net) (heard s.net)
  EndsBy miscount heard net old new (Err (faults.StartFault s)) = (miscount ≡ None) × Rises old new
  EndsBy miscount heard net old new (Err faults.OutOfMemory) = miscount ≡ None

  -- these handlers are back, in their order, by what each was made with
  abbrev pub HasBack : {A B : Type 0} → (H → A) → (T → B) → List (List A) → List B → Stopped N E H T → Type 0
  HasBack f g workers taskers s = (map (λ hs. map f hs.items) s.workers.items ≡ workers) × (map g s.taskers.items ≡ taskers)

  -- the handlers are back wherever something is left of the server
  abbrev pub GivesBack : {A B : Type 0} → (H → A) → (T → B) → List (List A) → List B → Result (Stopped N E H T) (ServeFault N E H T) → Type 0
  GivesBack f g workers taskers (Ok s) = HasBack f g workers taskers s
  GivesBack f g workers taskers (Err (faults.HandlerCount part need given)) = Unit {0}
  GivesBack f g workers taskers (Err (faults.ListenFault s)) = HasBack f g workers taskers s
  GivesBack f g workers taskers (Err (faults.StartFault s)) = HasBack f g workers taskers s
  GivesBack f g workers taskers (Err faults.OutOfMemory) = Unit {0}

  -- not all actors came to their end, or an accept failed, or neither
  abbrev pub told : Stopped N E H T → Bool → Bool → Result (Stopped N E H T) (ServeFault N E H T)
  told s true deaf = Err (faults.StartFault s)
  told s false true = Err (faults.ListenFault s)
  told s false false = Ok s
