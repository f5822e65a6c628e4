-- Tasks: their refusals in order, the task worker that one goes to, and what comes back to the poster.
use Rattle.std.specs.Prelude.{◌≡◌, ℕ, ◌-◌, ◌%◌, ◌^◌, ◌==◌, nat_lt, Bool, true, if◌then◌else◌, List, Option, Some, None}
use Rattle.sw_data.specs.declared.acts.Dst.{Dst}
use Rattle.sw_data.specs.declared.acts.Dst.TheVariants.{Any, At}
use Rattle.sw_data.specs.declared.answers.Answer.{Answer}
use Rattle.sw_data.specs.declared.answers.Answer.TheVariants.{NotHere, NoTaskWorkers, BadTarget, IdsSpent}
use Rattle.sw_data.specs.declared.events.Event.TheVariants as events
use Rattle.sw_data.specs.declared.messages.Msg.{Msg}
use Rattle.sw_data.specs.declared.messages.Msg.TheVariants.{Event as EventMsg}
use Rattle.sw_data.specs.declared.messages.Target.TheVariants as targets
use Rattle.sw_data.specs.declared.messages.Ask.{Ask}
use Rattle.sw_port_board.specs.declared.crew.Crew.TheVariants.{Taskers}
use Rattle.sw_port_board.specs.declared.crew.Sizes.{Sizes}
use Rattle.sw_port_board.specs.Board.{FindsIdle}
use Rattle.sw_hand.specs.Ports.{Acting as Handling, Going}
use Rattle.sw_hand.specs.House.{number_of}
use Rattle.sw_hand.specs.Asking.{Asks, Answers}
use Rattle.sw_hand.specs.declared.hand.Hand.{Hand}
use Rattle.sw_hand.specs.declared.house.House.{House}
use Rattle.sw_hand.specs.declared.house.Kind.{Kind}
use Rattle.sw_hand.specs.declared.house.Kind.TheVariants.{Worker, Tasker}
use Rattle.sw_hand.specs.declared.stage.Current.{Current}
use Rattle.sw_hand.specs.declared.stage.Current.TheVariants.{Connect, Packet, Closed, Finish, Task}
use Rattle.sw_hand.specs.declared.stage.Errand.TheVariants as errands

-- the task worker that is named is there
abbrev pub is_there : House → Dst → Bool
is_there h Any = true
is_there h (At n) = nat_lt n h.taskers

-- why a worker posts no task, in this order
abbrev pub worker_refusal : House → ℕ → Dst → Option Answer
worker_refusal h next dst =
    if h.taskers == 0 then Some NoTaskWorkers
    else if is_there h dst then (if next == 2 ^ 64 - 1 then Some IdsSpent else None) else Some BadTarget

-- a task worker posts none
abbrev pub post_refusal : Kind → House → ℕ → Dst → Option Answer
post_refusal (Tasker k) h next dst = Some NotHere
post_refusal (Worker w) h next dst = worker_refusal h next dst

abbrev pub idle_or : Option ℕ → ℕ → ℕ
idle_or None n = n
idle_or (Some m) n = m

-- where a task goes: to the one that is named; else to the first that is idle from the position of its id on, or to that position
abbrev pub FindsPlace : {C : Type 0} → Going C → (C → Sizes) → House → ℕ → Dst → C → ℕ → C → Type 0
FindsPlace goes sizes h next (At n) b place d = (place ≡ n) × (d ≡ b)
FindsPlace goes sizes h next Any b place d = (idle : Option ℕ) × (FindsIdle goes (sizes b) Taskers (next % h.taskers) b idle d × (place ≡ idle_or idle (next % h.taskers)))

-- a task that isn't refused is pushed under the next id
abbrev pub PostsAs : {H C L K : Type 0} → Option Answer → Handling H → Going C → (C → Sizes) → Hand H → C → Current → Dst → List ℕ → Hand H → C → Ask (Msg L K) → Type 0
PostsAs (Some a) acts goes sizes h b c dst bytes k d ask = Answers acts goes h b c a k d ask
PostsAs None acts goes sizes h b c dst bytes k d ask =
    (place : ℕ) × (FindsPlace goes sizes h.house h.next dst b place d
    × Asks h c (targets.Tasker place) errands.Post (EventMsg (events.Task (number_of h.kind) h.next bytes)) k ask)

abbrev pub Posts : {H C L K : Type 0} → Handling H → Going C → (C → Sizes) → Hand H → C → Current → Dst → List ℕ → Hand H → C → Ask (Msg L K) → Type 0
Posts acts goes sizes h b c dst bytes k d ask = PostsAs (post_refusal h.kind h.house h.next dst) acts goes sizes h b c dst bytes k d ask

-- the poster of the task at hand, and the task's id
abbrev pub poster_of : Current → Option (ℕ × ℕ)
poster_of (Connect s) = None
poster_of (Packet s) = None
poster_of (Closed s) = None
poster_of Finish = None
poster_of (Task w id) = Some (w, id)

-- bytes go back to the task's poster, under the task's id; outside a task there is none
abbrev pub FinishesAs : {H C L K : Type 0} → Option (ℕ × ℕ) → Handling H → Going C → Hand H → C → Current → List ℕ → Hand H → C → Ask (Msg L K) → Type 0
FinishesAs None acts goes h b c bytes k d ask = Answers acts goes h b c NotHere k d ask
FinishesAs (Some (w, id)) acts goes h b c bytes k d ask =
    Asks h c (targets.Worker w) errands.Finish (EventMsg (events.Finish id bytes)) k ask × (d ≡ b)

abbrev pub Finishes : {H C L K : Type 0} → Handling H → Going C → Hand H → C → Current → List ℕ → Hand H → C → Ask (Msg L K) → Type 0
Finishes acts goes h b c bytes k d ask = FinishesAs (poster_of c) acts goes h b c bytes k d ask
