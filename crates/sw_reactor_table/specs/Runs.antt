-- A reactor's runs: turns and, between them, pipe calls, whatever the ports and the pipes answer.
use Rattle.std.specs.Prelude.{◌≡◌, ◌⊎◌, ℕ, ◌<◌, Bool, List, [], ◌∷◌, ◌++◌, Option, Some, None}
use Rattle.sw_data.specs.declared.messages.Got.{Got}
use Rattle.sw_data.specs.declared.messages.Got.TheVariants.{Start, Took, Empty, Pushed, Full}
use Rattle.sw_data.specs.declared.messages.Got.TheVariants as gots
use Rattle.sw_lists.specs.Lists.{Each}
use Rattle.sw_step.specs.declared.actor.ActorId.{ActorId}
use Rattle.sw_step.specs.declared.actor.ActorId.TheVariants.{Worker}
use Rattle.sw_record.specs.Words.{Event, Ended}
use Rattle.sw_record.specs.declared.record.LinkRecord.{LinkRecord}
use Rattle.sw_record.specs.declared.record.LinkState.TheVariants.{Over}
use Rattle.sw_record.specs.Terms.{Terms}
use Rattle.sw_past.specs.Messages.{Message}
use Rattle.sw_past.specs.Past.{Mail}
use Rattle.sw_past.specs.Routes.{ToWorker}
use Rattle.sw_reactor_table.specs.Conn.{Conn, Answers, Does, Pushes, Moves, Stays, Leaves, serve}
use Rattle.sw_reactor_table.specs.Reactor.{Reactor, Ask, Take, Push, Nothing, Rest, Finished, all, settled, turn, started}
use Rattle.sw_reactor_table.specs.Quiet.{IsIdle}
use Rattle.sw_reactor_table.specs.Modes.{IsReleased}

-- what the ports may answer in a turn: an idle worker is there, and a uid that was seen is the one that the release answers
pub record IsHonest (t : Terms) (a : Answers) (r : Reactor) : Type 0 where
  pub idle : IsIdle t a
  pub released : (c : Conn) (cs : List Conn) → r.next ≡ c ∷ cs → IsReleased t (serve t a r.round c).conn a.released

-- the same by the session words alone: a look shows no uid or that of the served connection's session, and the release answers it
pub record IsFaithful (t : Terms) (word : ℕ → ℕ) (a : Answers) (r : Reactor) : Type 0 where
  pub idle : IsIdle t a
  pub look : (c : Conn) (cs : List Conn) → r.next ≡ c ∷ cs → (a.look ≡ 0) ⊎ (a.look ≡ word c.session)
  pub released : (c : Conn) (cs : List Conn) → r.next ≡ c ∷ cs → a.released ≡ word c.session

-- a uid that was seen is that of the session
abbrev pub Known : (ℕ → ℕ) → Conn → Type 0
Known word c = (c.uid ≡ 0) ⊎ (c.uid ≡ word c.session)

-- a link that ended tells the uid of its session
abbrev pub TellsUid : (ℕ → ℕ) → LinkRecord → Type 0
TellsUid word l = (e : Ended) (s : ℕ) → l.state ≡ Over e → e.session ≡ Some s → e.uid ≡ word s

-- the pipe call that a reactor asked for: what it makes of the history, and what it gives
pub data Called (r : Reactor) (took pushed : Mail) : Mail → Mail → Got Message → Type 0 where
  TookOne : r.last ≡ Take → (from : ActorId) (m : Message) → Called r took pushed (took ++ (from, m) ∷ []) pushed (Took m)
  FoundNone : r.last ≡ Take → Called r took pushed took pushed Empty
  PushedOne : (w : ℕ) (m : Message) → r.last ≡ Push w m → Called r took pushed took (pushed ++ (Worker w, m) ∷ []) Pushed
  CameBack : (w : ℕ) (m : Message) → r.last ≡ Push w m → Called r took pushed took pushed (Full m)
  NoCall : (r.last ≡ Nothing) ⊎ (r.last ≡ Rest) → Called r took pushed took pushed gots.Nothing

-- a reactor behind some turns, before the pipe call that it asks for
pub data Runs (t : Terms) (word : ℕ → ℕ) : Mail → Mail → Reactor → Type 0 where
  First : (starved : Bool) (a : Answers) → IsFaithful t word a started → Runs t word [] [] (turn t starved a Start started)
  Then : {took pushed : Mail} {r : Reactor} → Runs t word took pushed r → (later more : Mail) (got : Got Message) → Called r took pushed later more got → (starved : Bool) (a : Answers) → IsFaithful t word a (settled t starved got r) → Runs t word later more (turn t starved a got r)

-- what it holds and asks for goes to a worker, whatever it took
abbrev pub HeldBelow : Terms → Option (ℕ × Event) → Type 0
HeldBelow t None = Unit {0}
HeldBelow t (Some h) = h.0 < t.worker_num

-- the same of a connection
abbrev pub HoldsBelow : Terms → Conn → Type 0
HoldsBelow t c = HeldBelow t c.held

-- what it asks for goes to a worker
abbrev pub AsksBelow : Terms → Ask → Type 0
AsksBelow t Take = Unit {0}
AsksBelow t (Push w m) = ToWorker t (Worker w, m)
AsksBelow t Nothing = Unit {0}
AsksBelow t Rest = Unit {0}
AsksBelow t Finished = Unit {0}

-- all of these
pub record Straight (t : Terms) (pushed : Mail) (r : Reactor) : Type 0 where
  pub pushed_is : Each (ToWorker t) pushed
  pub held : Each (HoldsBelow t) (all r)
  pub asks : AsksBelow t r.last

-- what a serve pushes goes to a worker
abbrev pub DoesBelow : Terms → Does → Type 0
DoesBelow t (Pushes w e) = w < t.worker_num
DoesBelow t Moves = Unit {0}
DoesBelow t Stays = Unit {0}
DoesBelow t (Leaves e) = Unit {0}
