-- Players by their kinds, each kind in their order.
use Rattle.std.specs.Prelude.{◌≡◌, ℕ, All, List, [], ◌∷◌, ◌++◌}
use Rattle.sw_players.specs.declared.actor.Actor.{Actor}
use Rattle.sw_players.specs.declared.actor.Actor.TheVariants.{Door, Reactor, Worker, Tasker}
use Rattle.sw_players.specs.declared.door.AtDoor.{AtDoor}
use Rattle.sw_players.specs.declared.reactor.Reacting.{Reacting}
use Rattle.sw_players.specs.declared.tasker.Tasking.{Tasking}
use Rattle.sw_players.specs.declared.worker.Working.{Working}
use Rattle.sw_players.specs.Turns.{IsDoor, IsReactor}
use Rattle.sw_port_board.specs.declared.crew.Sizes.{Sizes}
use Rattle.sw_sessions.specs.Values.{TicketNow}
use Rattle.sw_sweep.specs.declared.crew.Crew.{Crew}

-- a reactor that is ready, of a server with so many session words and such a board
abbrev pub IsAtReactor : {J E L : Type 0} → ℕ → Sizes → Reacting L J E → Type 0
IsAtReactor words sizes r = IsReactor (λ (t : TicketNow). t.number) words sizes r.reactor

module _ {N J E H T L : Type 0} where
  abbrev pub doors_in : List (Actor N J E H T L) → List (AtDoor N J E L)
  doors_in [] = []
  doors_in (Door p ∷ ps) = p ∷ doors_in ps
  doors_in (Reactor p ∷ ps) = doors_in ps
  doors_in (Worker p ∷ ps) = doors_in ps
  doors_in (Tasker p ∷ ps) = doors_in ps

  abbrev pub reactors_in : List (Actor N J E H T L) → List (Reacting L J E)
  reactors_in [] = []
  reactors_in (Door p ∷ ps) = reactors_in ps
  reactors_in (Reactor p ∷ ps) = p ∷ reactors_in ps
  reactors_in (Worker p ∷ ps) = reactors_in ps
  reactors_in (Tasker p ∷ ps) = reactors_in ps

  abbrev pub workers_in : List (Actor N J E H T L) → List (Working L J H)
  workers_in [] = []
  workers_in (Door p ∷ ps) = workers_in ps
  workers_in (Reactor p ∷ ps) = workers_in ps
  workers_in (Worker p ∷ ps) = p ∷ workers_in ps
  workers_in (Tasker p ∷ ps) = workers_in ps

  abbrev pub taskers_in : List (Actor N J E H T L) → List (Tasking L J T)
  taskers_in [] = []
  taskers_in (Door p ∷ ps) = taskers_in ps
  taskers_in (Reactor p ∷ ps) = taskers_in ps
  taskers_in (Worker p ∷ ps) = taskers_in ps
  taskers_in (Tasker p ∷ ps) = p ∷ taskers_in ps

  -- a door more
  abbrev pub DoorMore : AtDoor N J E L → Crew N J E H T L → Crew N J E H T L → Type 0
  DoorMore p c d =
      IsDoor p.door × (d.doors.items ≡ c.doors.items ++ p ∷ []) × (d.reactors.items ≡ c.reactors.items)
      × (d.workers.items ≡ c.workers.items) × (d.taskers.items ≡ c.taskers.items)

  -- a reactor more
  abbrev pub ReactorMore : ℕ → Sizes → Reacting L J E → Crew N J E H T L → Crew N J E H T L → Type 0
  ReactorMore words sizes p c d =
      IsAtReactor words sizes p × (d.reactors.items ≡ c.reactors.items ++ p ∷ []) × (d.doors.items ≡ c.doors.items)
      × (d.workers.items ≡ c.workers.items) × (d.taskers.items ≡ c.taskers.items)

  -- a worker more
  abbrev pub WorkerMore : Working L J H → Crew N J E H T L → Crew N J E H T L → Type 0
  WorkerMore p c d =
      (d.workers.items ≡ c.workers.items ++ p ∷ []) × (d.doors.items ≡ c.doors.items)
      × (d.reactors.items ≡ c.reactors.items) × (d.taskers.items ≡ c.taskers.items)

  -- a task worker more
  abbrev pub TaskerMore : Tasking L J T → Crew N J E H T L → Crew N J E H T L → Type 0
  TaskerMore p c d =
      (d.taskers.items ≡ c.taskers.items ++ p ∷ []) × (d.doors.items ≡ c.doors.items)
      × (d.reactors.items ≡ c.reactors.items) × (d.workers.items ≡ c.workers.items)

  -- a player more
  abbrev pub More : ℕ → Sizes → Actor N J E H T L → Crew N J E H T L → Crew N J E H T L → Type 0
  More words sizes (Door p) c d = DoorMore p c d
  More words sizes (Reactor p) c d = ReactorMore words sizes p c d
  More words sizes (Worker p) c d = WorkerMore p c d
  More words sizes (Tasker p) c d = TaskerMore p c d

  -- each player is in its kind's list, in their order
  pub record Sorted (words : ℕ) (sizes : Sizes) (ps : List (Actor N J E H T L)) (c : Crew N J E H T L) : Type 0 where
    pub doors : c.doors.items ≡ doors_in ps
    pub reactors : c.reactors.items ≡ reactors_in ps
    pub workers : c.workers.items ≡ workers_in ps
    pub taskers : c.taskers.items ≡ taskers_in ps
    pub are_doors : All (λ (p : AtDoor N J E L). IsDoor p.door) c.doors.items
    pub are_reactors : All (IsAtReactor words sizes) c.reactors.items
