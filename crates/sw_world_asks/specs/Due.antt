-- A turn of an actor that is due in the world and in the code's places, and a step that came of it.
use Rattle.std.specs.Prelude.{◌≡◌, List}
use Rattle.sw_step.specs.declared.actor.ActorId.{ActorId}
use Rattle.sw_record.specs.Terms.{Terms}
use Rattle.sw_record.specs.Places.{Ran}
use Rattle.sw_world_ports.specs.Ports.{set_at}
use Rattle.sw_world_laws.specs.Actors.{Actors}
use Rattle.sw_world_laws.specs.World.{Pending, Core, Outcome, Goes, turned, next, MayStep}
use Rattle.sw_world_laws.specs.History.{History, diary_of}
use Rattle.sw_world_laws.specs.Law.{Holds}
use Rattle.sw_world_places.specs.Pipes.{Getting}
use Rattle.sw_world_places.specs.Places.{Rows}
use Rattle.sw_world_stands.specs.Asked.{got_of}
use Rattle.sw_world_stands.specs.New.{GotNew}
use Rattle.sw_world_stands.specs.Rows.{RowsStand, IsDue, OnlyPipes}

-- a turn is due with this: the actor's law holds with nothing on its way, a link that it took is new, and nothing else of the
-- places changed
pub record TurnIsDue (t : Terms) (legal : List Ran → Type 0) (p : Actors t) (c : Core p.State) (y : ActorId) (got : Getting) (s : Rows) : Type 0 where
  pub due : IsDue (c.nexts y) (got_of got)
  pub quiet : (h : History) → Holds t legal p c h → p.Quiet y (c.states y) (got_of got) (diary_of h y)
  pub new : GotNew y got
  pub left : Pending
  pub rows : RowsStand t s (set_at c.nexts y left) c.pipes

-- the actor's step may be made: it makes the pipe call that was asked for, and the places stand behind it
pub record CallIsStep (t : Terms) (legal : List Ran → Type 0) (p : Actors t) (c : Core p.State) (y : ActorId) (s : Rows) : Type 0 where
  pub outcome : Outcome p.State
  pub may : MayStep t legal p c (Goes y outcome)
  pub rows : RowsStand t s (next t p c (Goes y outcome)).nexts (next t p c (Goes y outcome)).pipes
  pub only : OnlyPipes c (next t p c (Goes y outcome))

-- the actor's step may be made: it is this turn
pub record TurnIsStep (t : Terms) (legal : List Ran → Type 0) (p : Actors t) (c : Core p.State) (y : ActorId) (o : Outcome p.State) : Type 0 where
  pub may : MayStep t legal p c (Goes y o)
  pub is : next t p c (Goes y o) ≡ turned t p c y o
