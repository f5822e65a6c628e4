-- What is left of a run, by what its players were made with.
use Rattle.std.specs.Prelude.{◌≡◌, ℕ, Bool, List, [], ◌∷◌, map}
use Rattle.sw_players.specs.declared.door.AtDoor.{AtDoor}
use Rattle.sw_players.specs.Hears.{Hears}
use Rattle.sw_players.specs.Made.{Made}
use Rattle.sw_sweep.specs.declared.crew.Crew.{Crew}
use Rattle.sw_sweep.specs.declared.stopped.Stopped.{Stopped}
use Rattle.sw_sweep.specs.Told.{nets_of, workers_of, taskers_of}
use Rattle.sw_worker.specs.Generations.{made}

-- the handlers are those that the players had, in their order, by what each was made with; and of the one door's net the count of
-- faults didn't fall, and rose where an accept is said to have failed
pub record IsLeft {N E H T A B : Type 0} (f : H → A) (g : T → B) (faults : N → ℕ) (ms : List (Made N (List A) B)) (s : Stopped N E H T) (failed : Bool) : Type 0 where
  pub workers : map (λ hs. map f hs.items) s.workers.items ≡ workers_of ms
  pub taskers : map g s.taskers.items ≡ taskers_of ms
  pub hears : (was : N) → nets_of ms ≡ was ∷ [] → Hears (faults was) (faults s.net) failed

-- the same, by players who are sorted
pub record IsLeftBy {N J E H T L A B : Type 0} (f : H → A) (g : T → B) (faults : N → ℕ) (c : Crew N J E H T L) (s : Stopped N E H T) (failed : Bool) : Type 0 where
  pub workers : map (λ hs. map f hs.items) s.workers.items ≡ map (λ w. made f w.worker.handler) c.workers.items
  pub taskers : map g s.taskers.items ≡ map (λ t. g t.tasker.handler) c.taskers.items
  pub hears : (door : AtDoor N J E L) → c.doors.items ≡ door ∷ [] → Hears (faults door.net.was) (faults s.net) failed
