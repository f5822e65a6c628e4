-- What happened so far in the world.
use Rattle.std.specs.Prelude.{List}
use Rattle.sw_lists.specs.Lists.{collect}
use Rattle.sw_step.specs.declared.actor.ActorId.{ActorId}
use Rattle.sw_step.specs.declared.actor.ActorId.TheVariants.{Door, Reactor}
use Rattle.sw_record.specs.Terms.{Terms}
use Rattle.sw_past.specs.Past.{Mail, Past}
use Rattle.sw_world_ports.specs.Calls.{Did}
use Rattle.sw_world_ports.specs.Made.{accept_in}
use Rattle.sw_world_laws.specs.Turns.{Diary, After}
use Rattle.sw_world_laws.specs.Actors.{Actors}
use Rattle.sw_world_laws.specs.World.{Pending, Waits, Gave, Lost, Core}

-- what each actor did, and all that was ever pushed to each, with who pushed it
pub record History : Type 0 where
  pub took : ActorId → Mail
  pub pushed : ActorId → Mail
  pub refused : ActorId → Mail
  pub sent : ActorId → Mail
  pub dids : ActorId → List Did

-- what one actor did
abbrev pub diary_of : History → ActorId → Diary
diary_of h y = record { took = h.took y; pushed = h.pushed y; refused = h.refused y; dids = h.dids y }

-- what the laws of the join speak of
abbrev pub past_of : (t : Terms) (p : Actors t) → Core p.State → History → Past
past_of t p c h =
    record { took = h.took; pushed = h.pushed; log = λ y. p.log (c.states y); kept = λ n. p.kept (c.states (Reactor n)); accepts = collect accept_in (h.dids Door) }

-- an actor's local law, by what is next for it
abbrev pub LocalBy : (t : Terms) (p : Actors t) → ActorId → p.State → Pending → Diary → Type 0
LocalBy t p y s (Gave got) d = p.Quiet y s got d
LocalBy t p y s (Waits ask) d = After t (p.Quiet y) (p.Done y) s ask d
LocalBy t p y s Lost d = p.Lost y s d
