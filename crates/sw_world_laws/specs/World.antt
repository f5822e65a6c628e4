-- The world: all actors, their pipes and the ports; and its steps.
use Rattle.std.specs.Prelude.{◌≡◌, ℕ, Bool, true, false, nat_lt, if◌then◌else◌, List, [], ◌∷◌, ◌++◌, length}
use Rattle.sw_lists.specs.Lists.{collect, when}
use Rattle.sw_step.specs.declared.actor.ActorId.{ActorId}
use Rattle.sw_step.specs.declared.actor.ActorId.TheVariants.{Door, Reactor, Worker, Tasker}
use Rattle.sw_record.specs.Terms.{Terms}
use Rattle.sw_record.specs.Places.{Ran}
use Rattle.sw_past.specs.Messages.{Message}
use Rattle.sw_link.specs.declared.memory_link.LinkStep.{LinkStep}
use Rattle.sw_world_ports.specs.Calls.{Did}
use Rattle.sw_world_ports.specs.Ports.{Ports, new_ports, set_at, AllAnswer, all_ported}
use Rattle.sw_world_laws.specs.Turns.{Ask, AskTake, AskPush, AskNothing, AskRest, AskFinished, Got, GotStart, GotTook, GotEmpty, GotPushed, GotFull, GotNothing}
use Rattle.sw_world_laws.specs.Actors.{Feed, Actors}

-- what is next for an actor: the pipe call that it asked for, a turn with what it got, or nothing since it found no memory
pub data Pending : Type 0 where
  Waits : Ask → Pending
  Gave : Got → Pending
  Lost : Pending

-- each actor's state and what is next for it, its pipe, the ports, what links were not handed yet, and whether a step
-- found no memory
pub record Core (S : Type 0) : Type 0 where
  pub states : ActorId → S
  pub nexts : ActorId → Pending
  pub pipes : ActorId → List Message
  pub ports : Ports
  pub feed : Feed
  pub lost : Bool

-- what a turn does: its calls, the state that it leaves, what it asks, and whether it found no memory
pub record Outcome (S : Type 0) : Type 0 where
  pub dids : List Did
  pub state : S
  pub ask : Ask
  pub fails : Bool

-- a step
pub data Step (S : Type 0) : Type 0 where
  -- the next of an actor: the pipe call that it asked for, or else a turn, with what this does
  Goes : ActorId → Outcome S → Step S
  -- a link from this address arrives, a step is added to the script of the link of this number, no more links arrive
  Arrive : ℕ → Step S
  Script : ℕ → LinkStep → Step S
  NetEnd : Step S
  -- a step that found no memory before it did anything
  Wants : Step S

-- an actor is there
abbrev pub there : Terms → ActorId → Bool
there t Door = true
there t (Reactor n) = nat_lt n t.reactor_num
there t (Worker n) = nat_lt n t.worker_num
there t (Tasker n) = nat_lt n t.tasker_num

-- and has a pipe
abbrev pub piped : Terms → ActorId → Bool
piped t Door = false
piped t y = there t y

-- before any step
abbrev pub start : (t : Terms) (p : Actors t) → Core p.State
start t p = record { states = p.start; nexts = λ y. Gave GotStart; pipes = λ y. []; ports = new_ports t; feed = []; lost = false }

-- a take answers the first message
abbrev pub took_of : List Message → Got
took_of [] = GotEmpty
took_of (m ∷ ms) = GotTook m

-- and leaves the others
abbrev pub left_of : List Message → List Message
left_of [] = []
left_of (m ∷ ms) = ms

-- an actor's pipe has room for one more
abbrev pub has_room : Terms → ActorId → List Message → Bool
has_room t x ms = if piped t x then nat_lt (length ms) t.pipe_capacity else false

-- a push answers so
abbrev pub push_got : Bool → Message → Got
push_got true m = GotPushed
push_got false m = GotFull m

-- and leaves the pipes so
abbrev pub push_left : {S : Type 0} → Core S → ActorId → Message → Bool → ActorId → List Message
push_left c x m true = set_at c.pipes x (c.pipes x ++ m ∷ [])
push_left c x m false = c.pipes

-- what was not handed yet, of links that a state has, or of the others
abbrev pub part_of : (ℕ → Bool) → Bool → ℕ × LinkStep → Feed
part_of has b x = when (if has x.0 then b else (if b then false else true)) x

-- what an actor is handed at a turn
abbrev pub handed : {S : Type 0} → (S → ℕ → Bool) → Core S → ActorId → Feed
handed has c y = collect (part_of (has (c.states y)) true) c.feed

-- what is next behind a turn
abbrev pub then_next : Bool → Ask → Pending
then_next true ask = Lost
then_next false ask = Waits ask

-- a turn
abbrev pub turned : (t : Terms) (p : Actors t) → Core p.State → ActorId → Outcome p.State → Core p.State
turned t p c y o =
    record {
      states = set_at c.states y o.state;
      nexts = set_at c.nexts y (then_next o.fails o.ask);
      pipes = c.pipes;
      ports = all_ported t c.ports y o.dids;
      feed = collect (part_of (p.has (c.states y)) false) c.feed;
      lost = o.fails;
    }

-- a take
abbrev pub taken : {S : Type 0} → Core S → ActorId → Core S
taken c y = record c { nexts = set_at c.nexts y (Gave (took_of (c.pipes y))); pipes = set_at c.pipes y (left_of (c.pipes y)) }

-- a push
abbrev pub pushed_by : {S : Type 0} → Core S → ActorId → ActorId → Message → Bool → Core S
pushed_by c y x m b = record c { nexts = set_at c.nexts y (Gave (push_got b m)); pipes = push_left c x m b }

-- the next of an actor that is there
abbrev pub goes : (t : Terms) (p : Actors t) → Core p.State → ActorId → Outcome p.State → Pending → Core p.State
goes t p c y o (Gave got) = turned t p c y o
goes t p c y o (Waits AskTake) = taken c y
goes t p c y o (Waits (AskPush x m)) = pushed_by c y x m (has_room t x (c.pipes x))
goes t p c y o (Waits AskNothing) = turned t p c y o
goes t p c y o (Waits AskRest) = turned t p c y o
goes t p c y o (Waits AskFinished) = c
goes t p c y o Lost = c

-- of any actor
abbrev pub goes_if : (t : Terms) (p : Actors t) → Core p.State → ActorId → Outcome p.State → Bool → Core p.State
goes_if t p c y o true = goes t p c y o (c.nexts y)
goes_if t p c y o false = c

-- a step while memory was found
abbrev pub next_by : (t : Terms) (p : Actors t) → Core p.State → Step p.State → Core p.State
next_by t p c (Goes y o) = goes_if t p c y o (there t y)
next_by t p c (Arrive ip) = record c { ports = record c.ports { waiting = c.ports.waiting ++ ip ∷ [] } }
next_by t p c (Script link item) = record c { feed = c.feed ++ (link, item) ∷ [] }
next_by t p c NetEnd = record c { ports = record c.ports { ended = true } }
next_by t p c Wants = record c { lost = true }

-- a step; behind one that found no memory nothing is done any more
abbrev pub next : (t : Terms) (p : Actors t) → Core p.State → Step p.State → Core p.State
next t p c x = if c.lost then c else next_by t p c x

-- a turn does what the actor's turns do
abbrev pub IsMade : (t : Terms) (p : Actors t) → Bool → Core p.State → ActorId → Outcome p.State → Got → Type 0
IsMade t p true c y o got = p.Fails y (c.states y) got (handed p.has c y) o.dids o.state
IsMade t p false c y o got = p.Turn y (c.states y) got (handed p.has c y) o.dids o.state o.ask

-- and its calls have the ports' answers
abbrev pub IsTurn : (t : Terms) → (List Ran → Type 0) → (p : Actors t) → Core p.State → ActorId → Outcome p.State → Got → Type 0
IsTurn t legal p c y o got = IsMade t p o.fails c y o got × AllAnswer t legal c.ports y o.dids

-- what is next may be this
abbrev pub MayGo : (t : Terms) → (List Ran → Type 0) → (p : Actors t) → Core p.State → ActorId → Outcome p.State → Pending → Type 0
MayGo t legal p c y o (Gave got) = IsTurn t legal p c y o got
MayGo t legal p c y o (Waits AskTake) = Unit {0}
MayGo t legal p c y o (Waits (AskPush x m)) = Unit {0}
MayGo t legal p c y o (Waits AskNothing) = IsTurn t legal p c y o GotNothing
MayGo t legal p c y o (Waits AskRest) = IsTurn t legal p c y o GotNothing
MayGo t legal p c y o (Waits AskFinished) = Unit {0}
MayGo t legal p c y o Lost = Unit {0}

-- a step may be this while memory was found
abbrev pub MayStepBy : (t : Terms) → (List Ran → Type 0) → (p : Actors t) → Core p.State → Step p.State → Type 0
MayStepBy t legal p c (Goes y o) = there t y ≡ true → MayGo t legal p c y o (c.nexts y)
MayStepBy t legal p c (Arrive ip) = Unit {0}
MayStepBy t legal p c (Script link item) = Unit {0}
MayStepBy t legal p c NetEnd = Unit {0}
MayStepBy t legal p c Wants = Unit {0}

-- a step may be this
abbrev pub MayStep : (t : Terms) → (List Ran → Type 0) → (p : Actors t) → Core p.State → Step p.State → Type 0
MayStep t legal p c x = c.lost ≡ false → MayStepBy t legal p c x

-- all steps
abbrev pub run : (t : Terms) (p : Actors t) → List (Step p.State) → Core p.State → Core p.State
run t p [] c = c
run t p (x ∷ xs) c = run t p xs (next t p c x)

-- all steps may be these
abbrev pub MayRun : (t : Terms) → (List Ran → Type 0) → (p : Actors t) → Core p.State → List (Step p.State) → Type 0
MayRun t legal p c [] = Unit {0}
MayRun t legal p c (x ∷ xs) = MayStep t legal p c x × MayRun t legal p (next t p c x) xs
