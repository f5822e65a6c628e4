-- The players of a server, by what they were made with.
use Rattle.std.specs.Prelude.{◌≡◌, List, [], ◌∷◌}
use Rattle.sw_players.specs.Made.{Made, of_door, of_reactor, of_worker, of_tasker}
use Rattle.sw_sweep.specs.Told.{nets_of, workers_of, taskers_of}

module _ {N H T : Type 0} where
  -- each is a reactor
  abbrev pub AreReactors : List (Made N H T) → Type 0
  AreReactors [] = Unit {0}
  AreReactors (of_door n ∷ ms) = ⊥
  AreReactors (of_reactor ∷ ms) = AreReactors ms
  AreReactors (of_worker h ∷ ms) = ⊥
  AreReactors (of_tasker t ∷ ms) = ⊥

  -- one door with this net, and workers and task workers whose handlers were made so, in their order
  pub record IsLineUp (net : N) (workers : List H) (taskers : List T) (ms : List (Made N H T)) : Type 0 where
    pub nets_are : nets_of ms ≡ net ∷ []
    pub workers_are : workers_of ms ≡ workers
    pub taskers_are : taskers_of ms ≡ taskers
