-- What an actor of any kind was made with, and whether it is finished.
use Rattle.std.specs.Prelude.{Bool, List}
use Rattle.sw_players.specs.declared.actor.Actor.{Actor}
use Rattle.sw_players.specs.declared.actor.Actor.TheVariants.{Door, Reactor, Worker, Tasker}
use Rattle.sw_players.specs.Made.{Made, of_door, of_reactor, of_worker, of_tasker}
use Rattle.sw_worker.specs.Generations.{made}

module _ {N J E H T L : Type 0} where
  -- its kind, the door's net, and what handlers were made with
  abbrev pub actor_made : {A B : Type 0} → (H → A) → (T → B) → Actor N J E H T L → Made N (List A) B
  actor_made f g (Door p) = of_door p.net.was
  actor_made f g (Reactor p) = of_reactor
  actor_made f g (Worker p) = of_worker (made f p.worker.handler)
  actor_made f g (Tasker p) = of_tasker (g p.tasker.handler)

  abbrev pub actor_over : Actor N J E H T L → Bool
  actor_over (Door p) = p.over
  actor_over (Reactor p) = p.over
  actor_over (Worker p) = p.over
  actor_over (Tasker p) = p.over
