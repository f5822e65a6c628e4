-- What the world keeps.
use Rattle.std.specs.Prelude.{◌≡◌, ℕ, ◌<◌, ◌≤◌, true, false, List, [], ◌∷◌, ◌++◌, length}
use Rattle.sw_lists.specs.Lists.{collect, Each, Has}
use Rattle.sw_step.specs.declared.actor.ActorId.{ActorId}
use Rattle.sw_step.specs.declared.actor.ActorId.TheVariants.{Door, Reactor, Tasker}
use Rattle.sw_record.specs.Words.{Log}
use Rattle.sw_record.specs.Terms.{Terms}
use Rattle.sw_record.specs.Own.{StandsEarly}
use Rattle.sw_record.specs.Places.{Ran}
use Rattle.sw_past.specs.Messages.{Message, FreshMsg}
use Rattle.sw_past.specs.Past.{Mail, bare, of}
use Rattle.sw_past.specs.Views.{sends_in, no_more}
use Rattle.sw_world_laws.specs.Shows.{ComeFirst}
use Rattle.sw_past.specs.Routes.{IsHand}
use Rattle.sw_join.specs.Steps.{IsPiped}
use Rattle.sw_world_ports.specs.Calls.{MayDo}
use Rattle.sw_world_ports.specs.Law.{PortsLaw}
use Rattle.sw_world_laws.specs.Actors.{Actors}
use Rattle.sw_world_laws.specs.World.{Pending, Waits, Gave, Lost, Core, there}
use Rattle.sw_world_laws.specs.Marks.{TaskMarks, FinishMarks}
use Rattle.sw_world_laws.specs.History.{History, diary_of, LocalBy}

-- what is in a pipe is what was pushed to it and not taken
pub record Lies (took sent : Mail) (pipe : List Message) : Type 0 where
  pub rest : Mail
  pub split : sent ≡ took ++ rest
  pub inside : bare rest ≡ pipe

-- a push to a task worker that was refused found its pipe full
abbrev pub FullLaw : Terms → (ActorId → Mail) → (ActorId → Mail) → Type 0
FullLaw t refused sent = (y : ActorId) (n : ℕ) (m : Message) → n < t.tasker_num → Has (Tasker n, m) (refused y) → t.pipe_capacity ≤ length (sent (Tasker n))

-- what a reactor took of a hand before it took a session's link stands in the hand's log before an event of the session
abbrev pub NotesLaw : Terms → (ActorId → Mail) → (ActorId → Log) → Type 0
NotesLaw t took log = (n : ℕ) (y : ActorId) → IsHand t y → (ip s : ℕ) (early rest : Mail) → took (Reactor n) ≡ early ++ (Door, FreshMsg ip s) ∷ rest → StandsEarly (log y) s (collect (sends_in s) (of y early))

-- an actor that found memory
abbrev pub IsSound : Pending → Type 0
IsSound (Waits ask) = Unit {0}
IsSound (Gave got) = Unit {0}
IsSound Lost = ⊥

-- where there are workers, a NoMore of a hand comes to a reactor once it took the door's
abbrev pub DoorsFirst : Terms → (ActorId → Mail) → (ActorId → Mail) → Type 0
DoorsFirst t took sent = 0 < t.worker_num → (n : ℕ) → n < t.reactor_num → (y : ActorId) → ¬ (y ≡ Door) → ¬ (collect no_more (of y (sent (Reactor n))) ≡ []) → ¬ (collect no_more (of Door (took (Reactor n))) ≡ [])

-- THE LAW: each actor's own, the pipes', the notes and marks, the session words', the board's and the Table's
pub record Holds (t : Terms) (legal : List Ran → Type 0) (p : Actors t) (c : Core p.State) (h : History) : Type 0 where
  pub local : (y : ActorId) → there t y ≡ true → LocalBy t p y (c.states y) (c.nexts y) (diary_of h y)
  pub absent : (y : ActorId) → there t y ≡ false → h.pushed y ≡ []
  pub sound : c.lost ≡ false → (y : ActorId) → IsSound (c.nexts y)
  pub pipes : IsPiped h.took h.pushed h.sent
  pub may : (y : ActorId) → Each (MayDo t y) (h.dids y)
  pub lies : (x : ActorId) → Lies (h.took x) (h.sent x) (c.pipes x)
  pub notes : NotesLaw t h.took (λ y. p.log (c.states y))
  pub task_marks : TaskMarks t (length c.ports.table) h.took (λ y. p.log (c.states y))
  pub finish_marks : FinishMarks t (length c.ports.table) h.took (λ y. p.log (c.states y))
  pub ports : PortsLaw t legal c.ports h.dids
  pub full : FullLaw t h.refused h.sent
  pub doors_first : DoorsFirst t h.took h.sent
  pub links_first : 0 < t.worker_num → (n : ℕ) → n < t.reactor_num → ComeFirst (bare (h.took (Reactor n)))

-- with some history
abbrev pub Law : (t : Terms) → (List Ran → Type 0) → (p : Actors t) → Core p.State → Type 0
Law t legal p c = (h : History) × Holds t legal p c h
