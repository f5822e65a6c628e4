-- What an actor gets at a turn and what it asks for, and what it did so far.
use Rattle.std.specs.Prelude.{◌<◌, List, [], ◌∷◌, ◌++◌}
use Rattle.sw_step.specs.declared.actor.ActorId.{ActorId}
use Rattle.sw_step.specs.declared.actor.ActorId.TheVariants.{Door, Reactor, Worker, Tasker}
use Rattle.sw_record.specs.Terms.{Terms}
use Rattle.sw_past.specs.Messages.{Message}
use Rattle.sw_past.specs.Past.{Mail}
use Rattle.sw_world_ports.specs.Calls.{Did}

-- what a turn ends with: the pipe call that the actor asks for, or another turn, or the same after a rest, or no more
pub data Ask : Type 0 where
  AskTake : Ask
  AskPush : ActorId → Message → Ask
  AskNothing : Ask
  AskRest : Ask
  AskFinished : Ask

-- what a turn begins with: the answer of the pipe call, or nothing
pub data Got : Type 0 where
  GotStart : Got
  GotTook : Message → Got
  GotEmpty : Got
  GotPushed : Got
  GotFull : Message → Got
  GotNothing : Got

-- all that one actor did: what it took, pushed, and wanted to push where it was full, and its calls
pub record Diary : Type 0 where
  pub took : Mail
  pub pushed : Mail
  pub refused : Mail
  pub dids : List Did

-- an actor that did nothing
abbrev pub no_diary : Diary
no_diary = record { took = []; pushed = []; refused = []; dids = [] }

-- further calls
abbrev pub with_dids : Diary → List Did → Diary
with_dids d ds = record d { dids = d.dids ++ ds }

-- an actor that is there and has a pipe: what is pushed to anyone else is answered as by a full pipe
abbrev pub HasPipe : Terms → ActorId → Type 0
HasPipe t Door = ⊥
HasPipe t (Reactor n) = n < t.reactor_num
HasPipe t (Worker n) = n < t.worker_num
HasPipe t (Tasker n) = n < t.tasker_num

-- a law of what an actor got, with nothing on its way, makes one of what it asks, whatever the pipe answers
abbrev pub After : {S : Type 0} → Terms → (S → Got → Diary → Type 0) → (S → Diary → Type 0) → S → Ask → Diary → Type 0
After t quiet done s AskTake d = quiet s GotEmpty d × ((who : ActorId) (m : Message) → quiet s (GotTook m) (record d { took = d.took ++ (who, m) ∷ [] }))
After t quiet done s (AskPush to m) d = (HasPipe t to → quiet s GotPushed (record d { pushed = d.pushed ++ (to, m) ∷ [] })) × quiet s (GotFull m) (record d { refused = d.refused ++ (to, m) ∷ [] })
After t quiet done s AskNothing d = quiet s GotNothing d
After t quiet done s AskRest d = quiet s GotNothing d
After t quiet done s AskFinished d = done s d
