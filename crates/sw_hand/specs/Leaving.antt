-- The end of an event, and the end of a hand.
use Rattle.std.specs.Prelude.{◌≡◌, ℕ, ◌+◌, ◌==◌, nat_lt, nat_le, Bool, true, false, if◌then◌else◌, Option, Some, None}
use Rattle.sw_data.specs.declared.messages.Msg.{Msg}
use Rattle.sw_data.specs.declared.messages.Msg.TheVariants.{Bye, Over, NoMore}
use Rattle.sw_data.specs.declared.messages.Target.{Target}
use Rattle.sw_data.specs.declared.messages.Target.TheVariants as targets
use Rattle.sw_data.specs.declared.messages.Ask.{Ask}
use Rattle.sw_data.specs.declared.messages.Ask.TheVariants.{Take, Push, Nothing as AskNothing, Finished as AskFinished}
use Rattle.sw_data.specs.declared.messages.Got.{Got}
use Rattle.sw_data.specs.declared.messages.Got.TheVariants as gots
use Rattle.sw_hand.specs.House.{keeps, reactor_of, enders, farewells, farewell}
use Rattle.sw_hand.specs.Hand.{own_less}
use Rattle.sw_hand.specs.Asking.{Waits}
use Rattle.sw_hand.specs.declared.hand.Hand.{Hand}
use Rattle.sw_hand.specs.declared.house.House.{House}
use Rattle.sw_hand.specs.declared.house.Kind.{Kind}
use Rattle.sw_hand.specs.declared.house.Kind.TheVariants.{Worker, Tasker}
use Rattle.sw_hand.specs.declared.stage.Current.{Current}
use Rattle.sw_hand.specs.declared.stage.Current.TheVariants.{Connect, Packet, Closed, Finish, Task}
use Rattle.sw_hand.specs.declared.stage.Stage.TheVariants.{Idle, Leaving, Stopping, Finished}

-- a Bye to the session's reactor
abbrev pub bye_of : {L K : Type 0} → House → ℕ → Option (Target × Msg L K)
bye_of h s = Some (targets.Reactor (reactor_of h s), Bye s)

-- what a worker pushes at the end of an event: the Bye of Closed, and of Connect and Packet where no connection keeps its worker
abbrev pub worker_words : {L K : Type 0} → House → Current → Option (Target × Msg L K)
worker_words h (Connect s) = if keeps h then None else bye_of h s
worker_words h (Packet s) = if keeps h then None else bye_of h s
worker_words h (Closed s) = bye_of h s
worker_words h Finish = None
worker_words h (Task w id) = None

-- what a task worker pushes at the end of a task: Over to its poster
abbrev pub tasker_words : {L K : Type 0} → Current → Option (Target × Msg L K)
tasker_words (Connect s) = None
tasker_words (Packet s) = None
tasker_words (Closed s) = None
tasker_words Finish = None
tasker_words (Task w id) = Some (targets.Worker w, Over id)

abbrev pub last_words : {L K : Type 0} → House → Kind → Current → Option (Target × Msg L K)
last_words h (Worker w) c = worker_words h c
last_words h (Tasker k) c = tasker_words c

-- Done: the event's last words are pushed, and an event without them is over
abbrev pub EndsAs : {H L K : Type 0} → Option (Target × Msg L K) → Hand H → Current → Hand H → Ask (Msg L K) → Type 0
EndsAs None h c k ask = (k ≡ record h { stage = Idle }) × (ask ≡ AskNothing)
EndsAs (Some (to, m)) h c k ask = (k ≡ record h { stage = Leaving c to }) × (ask ≡ Push to m)

abbrev pub Ends : {H L K : Type 0} → Hand H → Current → Hand H → Ask (Msg L K) → Type 0
Ends h c k ask = EndsAs (last_words h.house h.kind c) h c k ask

-- the last words are pushed, or are asked for again
abbrev pub Leaves : {H L K : Type 0} → Hand H → Current → Target → Got (Msg L K) → Hand H → Ask (Msg L K) → Type 0
Leaves h c to gots.Pushed k ask = (k ≡ record h { own = own_less h.house h.own c; stage = Idle }) × (ask ≡ AskNothing)
Leaves h c to (gots.Full m) k ask = (k ≡ record h { stage = Leaving c to }) × (ask ≡ Push to m)
Leaves h c to gots.Start k ask = Waits h (Leaving c to) k ask
Leaves h c to (gots.Took m) k ask = Waits h (Leaving c to) k ask
Leaves h c to gots.Empty k ask = Waits h (Leaving c to) k ask
Leaves h c to gots.Nothing k ask = Waits h (Leaving c to) k ask

-- NoMore to each in order, behind so many that are pushed
abbrev pub StopsAs : {H L K : Type 0} → Bool → Hand H → ℕ → Hand H → Ask (Msg L K) → Type 0
StopsAs true h n k ask = (k ≡ record h { stage = Stopping n }) × (ask ≡ Push (farewell h.house n) NoMore)
StopsAs false h n k ask = (k ≡ record h { stage = Finished }) × (ask ≡ AskFinished)

abbrev pub StopsAt : {H L K : Type 0} → Hand H → ℕ → Hand H → Ask (Msg L K) → Type 0
StopsAt h n k ask = StopsAs (nat_lt n (farewells h.house h.kind)) h n k ask

-- the next one once this one is pushed, and else this one again
abbrev pub Stops : {H L K : Type 0} → Hand H → ℕ → Got (Msg L K) → Hand H → Ask (Msg L K) → Type 0
Stops h n gots.Pushed k ask = StopsAt h (n + 1) k ask
Stops h n (gots.Full m) k ask = StopsAt h n k ask
Stops h n gots.Start k ask = StopsAt h n k ask
Stops h n (gots.Took m) k ask = StopsAt h n k ask
Stops h n gots.Empty k ask = StopsAt h n k ask
Stops h n gots.Nothing k ask = StopsAt h n k ask

-- without an event: a message is taken, until NoMore of all came and no task is out
abbrev pub may_stop : {H : Type 0} → Hand H → Bool
may_stop h = if nat_le (enders h.house h.kind) h.ended then h.out == 0 else false

abbrev pub GoesAs : {H L K : Type 0} → Bool → Hand H → Hand H → Ask (Msg L K) → Type 0
GoesAs true h k ask = StopsAt h 0 k ask
GoesAs false h k ask = (k ≡ record h { stage = Idle }) × (ask ≡ Take)

abbrev pub GoesOn : {H L K : Type 0} → Hand H → Hand H → Ask (Msg L K) → Type 0
GoesOn h k ask = GoesAs (may_stop h) h k ask
