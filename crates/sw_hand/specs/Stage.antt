-- The event at hand, and what a push is for.
use Rattle.std.specs.Prelude.{ℕ, ◌<◌, ◌-◌, ◌^◌, ◌==◌, if◌then◌else◌, Bool, true, false, Option, Some, None}
use Rattle.sw_base.specs.declared.counter.Counter.{Counter}
use Rattle.sw_base.specs.declared.counter.Counter.TheVariants as counters
use Rattle.sw_data.specs.declared.answers.Answer.{Answer}
use Rattle.sw_data.specs.declared.answers.Answer.TheVariants as answers
use Rattle.sw_data.specs.declared.events.Event.{Event}
use Rattle.sw_data.specs.declared.events.Event.TheVariants as events
use Rattle.sw_hand.specs.declared.house.Kind.{Kind}
use Rattle.sw_hand.specs.declared.house.Kind.TheVariants.{Worker, Tasker}
use Rattle.sw_hand.specs.declared.stage.Current.{Current}
use Rattle.sw_hand.specs.declared.stage.Current.TheVariants.{Connect, Packet, Closed, Finish, Task}
use Rattle.sw_hand.specs.declared.stage.Errand.{Errand}
use Rattle.sw_hand.specs.declared.stage.Errand.TheVariants as errands
use Rattle.sw_hand.specs.declared.stage.Stage.{Stage}
use Rattle.sw_hand.specs.declared.stage.Stage.TheVariants.{Idle, Acting, Sending, Leaving, Stopping, Finished}

-- an event without its bytes
abbrev pub current_of : Event → Current
current_of (events.Connect s) = Connect s
current_of (events.Packet s i b) = Packet s
current_of (events.Closed s) = Closed s
current_of (events.Finish id b) = Finish
current_of (events.Task w id b) = Task w id

-- the event is one of this session
abbrev pub is_of : ℕ → Current → Bool
is_of s (Connect u) = u == s
is_of s (Packet u) = u == s
is_of s (Closed u) = u == s
is_of s Finish = false
is_of s (Task w id) = false

-- the event is a task
abbrev pub is_task : Current → Bool
is_task (Connect s) = false
is_task (Packet s) = false
is_task (Closed s) = false
is_task Finish = false
is_task (Task w id) = true

-- the event is one for this hand's handler: tasks are for task workers, and all else for workers
abbrev pub is_for : Kind → Current → Bool
is_for (Worker w) c = if is_task c then false else true
is_for (Tasker k) c = is_task c

-- the answer to an act whose push is made, where this is the next task's id
abbrev pub answer_of : ℕ → Errand → Answer
answer_of next errands.Send = answers.Sent
answer_of next errands.Ask = answers.Asked
answer_of next errands.Post = answers.Posted next
answer_of next errands.Finish = answers.Finished

-- the counter that rises then
abbrev pub counter_of : Errand → Option Counter
counter_of errands.Send = Some counters.Sends
counter_of errands.Ask = None
counter_of errands.Post = Some counters.Tasks
counter_of errands.Finish = Some counters.Finishes

-- a task that is on its way has an id
abbrev pub HasId : ℕ → Errand → Type 0
HasId next errands.Send = Unit {0}
HasId next errands.Ask = Unit {0}
HasId next errands.Post = next < 2 ^ 64 - 1
HasId next errands.Finish = Unit {0}

-- what a stage says of the next task's id and of how many NoMore are pushed
abbrev pub Fits : ℕ → ℕ → Stage → Type 0
Fits next all Idle = Unit {0}
Fits next all (Acting c act) = Unit {0}
Fits next all (Sending c to errand) = HasId next errand
Fits next all (Leaving c to) = Unit {0}
Fits next all (Stopping n) = n < all
Fits next all Finished = Unit {0}
