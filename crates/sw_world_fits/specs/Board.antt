-- The plain board as the ports have it.
use Rattle.std.specs.Prelude.{◌≡◌, ℕ, ◌+◌, ◌<◌, Bool, true, false, length, slice_index_or}
use Rattle.sw_step.specs.declared.actor.ActorId.{ActorId}
use Rattle.sw_step.specs.declared.actor.ActorId.TheVariants.{Door, Reactor, Worker, Tasker}
use Rattle.sw_port_board.specs.declared.crew.Crew.{Crew}
use Rattle.sw_port_board.specs.declared.crew.Crew.TheVariants.{Workers, Taskers}
use Rattle.sw_port_board.specs.PlainBoard.{PlainWords, no_counts, count_of}
use Rattle.sw_record.specs.Words.{Counter}
use Rattle.sw_record.specs.Terms.{Terms}
use Rattle.sw_world_ports.specs.Ports.{Ports}

-- an actor's number: workers first, then task workers, then reactors, then the door
abbrev pub number_of : Terms → ActorId → ℕ
number_of t (Worker w) = w
number_of t (Tasker k) = t.worker_num + k
number_of t (Reactor n) = t.worker_num + t.tasker_num + n
number_of t Door = t.worker_num + t.tasker_num + t.reactor_num

-- an actor that is there
abbrev pub IsThere : Terms → ActorId → Type 0
IsThere t (Worker w) = w < t.worker_num
IsThere t (Tasker k) = k < t.tasker_num
IsThere t (Reactor n) = n < t.reactor_num
IsThere t Door = Unit {0}

-- whether a crew is the task workers
abbrev pub of_taskers : Crew → Bool
of_taskers Workers = false
of_taskers Taskers = true

-- the words of the board
pub record BoardStands (t : Terms) (b : PlainWords) (p : Ports) : Type 0 where
  pub workers : b.sizes.workers ≡ t.worker_num
  pub taskers : b.sizes.taskers ≡ t.tasker_num
  pub actors : b.sizes.actors ≡ t.worker_num + t.tasker_num + t.reactor_num + 1
  pub marks : length b.idle ≡ t.worker_num + t.tasker_num
  pub words : length b.counts ≡ t.worker_num + t.tasker_num + t.reactor_num + 1
  pub stopped : b.stopped ≡ p.stop
  pub worker : (k : ℕ) → k < t.worker_num → slice_index_or b.idle k false ≡ p.idle (Worker k)
  pub tasker : (k : ℕ) → k < t.tasker_num → slice_index_or b.idle (t.worker_num + k) false ≡ p.idle (Tasker k)
  pub counts : (c : Counter) (y : ActorId) → IsThere t y → count_of c (slice_index_or b.counts (number_of t y) no_counts) ≡ p.counts c y
