-- What players were made with, by their kinds.
use Rattle.std.specs.Prelude.{List, [], ◌∷◌}
use Rattle.sw_players.specs.Made.{Made, of_door, of_reactor, of_worker, of_tasker}

module _ {N H T : Type 0} where
  -- the nets of doors
  abbrev pub nets_of : List (Made N H T) → List N
  nets_of [] = []
  nets_of (of_door n ∷ ms) = n ∷ nets_of ms
  nets_of (of_reactor ∷ ms) = nets_of ms
  nets_of (of_worker h ∷ ms) = nets_of ms
  nets_of (of_tasker t ∷ ms) = nets_of ms

  -- what workers' handlers were made with
  abbrev pub workers_of : List (Made N H T) → List H
  workers_of [] = []
  workers_of (of_door n ∷ ms) = workers_of ms
  workers_of (of_reactor ∷ ms) = workers_of ms
  workers_of (of_worker h ∷ ms) = h ∷ workers_of ms
  workers_of (of_tasker t ∷ ms) = workers_of ms

  -- what task workers' handlers were made with
  abbrev pub taskers_of : List (Made N H T) → List T
  taskers_of [] = []
  taskers_of (of_door n ∷ ms) = taskers_of ms
  taskers_of (of_reactor ∷ ms) = taskers_of ms
  taskers_of (of_worker h ∷ ms) = taskers_of ms
  taskers_of (of_tasker t ∷ ms) = t ∷ taskers_of ms
