-- Whether two actors are the same.
use Rattle.std.specs.Prelude.{◌==◌, Bool, true, false}
use Rattle.sw_step.specs.declared.actor.ActorId.{ActorId}
use Rattle.sw_step.specs.declared.actor.ActorId.TheVariants.{Door, Reactor, Worker, Tasker}

-- whether two actors are the same
abbrev pub is : ActorId → ActorId → Bool
is Door Door = true
is (Reactor m) (Reactor n) = m == n
is (Worker m) (Worker n) = m == n
is (Tasker m) (Tasker n) = m == n
is _ _ = false
