-- The code's places as the world has them.
use Rattle.std.specs.Prelude.{◌≡◌, ◌⊎◌, true, List, map, slice_get, Option, Some, None}
use Rattle.sw_lists.specs.Lists.{Each}
use Rattle.sw_step.specs.declared.actor.ActorId.{ActorId}
use Rattle.sw_step.specs.declared.actor.ActorId.TheVariants.{Door}
use Rattle.sw_record.specs.Terms.{Terms}
use Rattle.sw_record.specs.Places.{Ran}
use Rattle.sw_past.specs.Messages.{Message}
use Rattle.sw_world_laws.specs.Turns.{Got, GotNothing, AskTake, AskPush, AskNothing, AskRest, AskFinished}
use Rattle.sw_world_ports.specs.Ports.{set_at}
use Rattle.sw_world_laws.specs.Actors.{Actors}
use Rattle.sw_world_laws.specs.World.{Pending, Waits, Gave, Lost, Core, Outcome, there, has_room, goes, MayGo}
use Rattle.sw_world_fits.specs.Board.{number_of}
use Rattle.sw_world_places.specs.Pipes.{Getting}
use Rattle.sw_world_places.specs.Places.{Rows}
use Rattle.sw_world_places.specs.declared.place.Place.{Place}
use Rattle.sw_world_stands.specs.Asked.{bare_of, got_of, next_of}
use Rattle.sw_world_stands.specs.New.{CarriesNew, NoLink, GotNew, NextNew}

-- what is next for an actor, its pipe, and the room there; links on their way are new
pub record PlaceStands (t : Terms) (y : ActorId) (q : Place) (x : Pending) (ms : List Message) : Type 0 where
  pub next : next_of q.next ≡ x
  pub pipe : map bare_of q.inbox.waiting ≡ ms
  pub room : q.inbox.room ≡ t.pipe_capacity
  pub new : NextNew y q.next
  pub links : Each CarriesNew q.inbox.waiting

-- the place of an actor's number stands for it
abbrev pub StandsAt : Terms → Rows → ActorId → Pending → List Message → Type 0
StandsAt t r y next pipe = (q : Place) × ((slice_get r.all (number_of t y) ≡ Some q) × PlaceStands t y q next pipe)

-- all places: workers first, then task workers, then reactors, then the door
pub record RowsStand (t : Terms) (r : Rows) (nexts : ActorId → Pending) (pipes : ActorId → List Message) : Type 0 where
  pub workers : r.workers ≡ t.worker_num
  pub taskers : r.taskers ≡ t.tasker_num
  pub reactors : r.reactors ≡ t.reactor_num
  pub each : (y : ActorId) → there t y ≡ true → StandsAt t r y (nexts y) (pipes y)

-- a turn is due with this
abbrev pub IsDue : Pending → Got → Type 0
IsDue (Gave got) due = got ≡ due
IsDue (Waits AskTake) due = ⊥
IsDue (Waits (AskPush x m)) due = ⊥
IsDue (Waits AskNothing) due = due ≡ GotNothing
IsDue (Waits AskRest) due = due ≡ GotNothing
IsDue (Waits AskFinished) due = ⊥
IsDue Lost due = ⊥

-- only the door pushes links
abbrev pub LinksByDoor : {S : Type 0} → Terms → Core S → ActorId → Type 0
LinksByDoor t c y = (x : ActorId) (m : Message) → Waits (AskPush x m) ≡ c.nexts y → has_room t x (c.pipes x) ≡ true → (y ≡ Door) ⊎ NoLink m

-- nothing else is changed
pub record OnlyPipes {S : Type 0} (c d : Core S) : Type 0 where
  pub states : d.states ≡ c.states
  pub ports : d.ports ≡ c.ports
  pub feed : d.feed ≡ c.feed
  pub lost : d.lost ≡ c.lost

-- where no turn is due, a step of this actor does what was done; else a turn is due, with a new link if it took one, and all but what
-- is next for the actor is as it was
abbrev pub WentBy : (t : Terms) → (List Ran → Type 0) → (p : Actors t) → Core p.State → ActorId → Option Getting → Rows → Pending → Type 0
WentBy t legal p c y None s w = (o : Outcome p.State) → MayGo t legal p c y o w × (RowsStand t s (goes t p c y o w).nexts (goes t p c y o w).pipes × OnlyPipes c (goes t p c y o w))
WentBy t legal p c y (Some got) s w = IsDue w (got_of got) × GotNew y got × ((n : Pending) × RowsStand t s (set_at c.nexts y n) c.pipes)

-- by what is next for it
abbrev pub Went : (t : Terms) → (List Ran → Type 0) → (p : Actors t) → Core p.State → ActorId → Option Getting → Rows → Type 0
Went t legal p c y due s = WentBy t legal p c y due s (c.nexts y)
