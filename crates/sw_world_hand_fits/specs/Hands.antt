-- A worker's and a task worker's code beside the state that the family has of it.
use Rattle.std.specs.Prelude.{◌≡◌, ◌⊎◌, ℕ, ◌+◌, ◌≤◌, min, true, false, List, [], ◌∷◌, ◌++◌, length, map, replicate}
use Rattle.sw_lists.specs.Lists.{collect}
use Rattle.sw_step.specs.declared.actor.ActorId.{ActorId}
use Rattle.sw_data.specs.declared.messages.Msg.{Msg}
use Rattle.sw_data.specs.declared.messages.Ask.{Ask as CodeAsk}
use Rattle.sw_data.specs.declared.messages.Got.{Got as CodeGot}
use Rattle.sw_data.specs.declared.messages.Got.TheVariants as gots
use Rattle.sw_port_book.specs.Plain.{Words}
use Rattle.sw_port_board.specs.PlainBoard.{PlainWords}
use Rattle.sw_table_laws.specs.Table.{Shape}
use Rattle.sw_tmodel.specs.Plain.{PlainTable}
use Rattle.sw_join.specs.Legal.{LegalFor}
use Rattle.sw_world_ports.specs.Calls.{Did}
use Rattle.sw_world_ports.specs.Ports.{Ports as WorldPorts, AllAnswer, all_ported}
use Rattle.sw_record.specs.Words.{Given, EventGiven, AnswerGiven, Act, Log}
use Rattle.sw_record.specs.Terms.{Terms}
use Rattle.sw_past.specs.Messages.{message_of}
use Rattle.sw_world_laws.specs.Turns.{Ask, Got, GotStart, GotTook, GotEmpty, GotPushed, GotFull, GotNothing}
use Rattle.sw_hand.specs.Ports.{Acting}
use Rattle.sw_hand.specs.Hand.{IsHand}
use Rattle.sw_hand.specs.declared.hand.Hand.{Hand as CodeHand}
use Rattle.sw_hand_calls.specs.Calls.{PortCall, around}
use Rattle.sw_worker.specs.Generations.{Line}
use Rattle.sw_hand_laws.specs.Hand.{Hand, Stage, Acting as ActingStage, Sending, Leaving}
use Rattle.sw_hand_fits.specs.Matches.{Matches, StageFits, ask_of, gave_in, wants_in, IsNumberedEvent, IsNumbered}
use Rattle.sw_world_hands.specs.Hands.{HandState, Crews, world_ask, HandTurn, HandFails}
use Rattle.sw_world_hand_fits.specs.Plain.{Stands}

-- what a pipe call gave, as the world has it
abbrev pub world_got : {L K : Type 0} → (K → ℕ) → CodeGot (Msg L K) → Got
world_got number gots.Start = GotStart
world_got number (gots.Took m) = GotTook (message_of number m)
world_got number gots.Empty = GotEmpty
world_got number gots.Pushed = GotPushed
world_got number (gots.Full m) = GotFull (message_of number m)
world_got number gots.Nothing = GotNothing

-- and what is asked for
abbrev pub world_asks : {L K : Type 0} → (K → ℕ) → CodeAsk (Msg L K) → Ask
world_asks number ask = world_ask (ask_of number ask)

-- a hand's code with this state: the settings, who it is, its own sessions and counts, and what it is about; it found memory
pub record HandIs {H : Type 0} (t : Terms) (y : ActorId) (h : CodeHand H) (s : HandState) : Type 0 where
  pub code : IsHand h
  pub matches : Matches t y s.hand.own s.hand.next s.hand.out s.hand.ended h
  pub stage : StageFits s.hand.next h.stage s.stage

-- a task worker's
abbrev pub TaskerIs : {T : Type 0} → Terms → ActorId → CodeHand T → HandState → Type 0
TaskerIs t y h s = HandIs t y h s

-- a worker's handlers: which one is at hand, how many follow it, and how many events it was given
pub record LineIs {H : Type 0} (limit : ℕ) (g : Hand) (l : Line H) : Type 0 where
  pub most : l.most ≡ limit
  pub at : l.at ≡ length g.gone
  pub left : length l.items ≡ l.at + 1 + g.left
  -- the code counts up to how many it may be
  pub events : l.events ≡ min g.events limit
  pub few : (limit ≡ 0) ⊎ ((g.left ≡ 0) ⊎ (g.events ≤ limit))

-- a worker's
pub record WorkerIs {H : Type 0} (t : Terms) (crews : Crews) (y : ActorId) (h : CodeHand (Line H)) (s : HandState) : Type 0 where
  pub hand : HandIs t y h s
  pub line : LineIs crews.limit s.hand h.handler

-- a handler that tells what it was given and did, and one that tells it of each entry
abbrev pub Tells : {H : Type 0} → (H → Log) → Acting H → Type 0
Tells {H} told acts = (h : H) (given : Given) (act : Act) (k : H) → acts h given act k → told k ≡ told h ++ (given, act) ∷ []

-- what the handlers of a worker tell is the worker's log, cut where one follows the other
abbrev pub LineTells : {H : Type 0} → (H → Log) → Hand → Line H → Type 0
LineTells told g l = map told l.items ≡ g.gone ++ g.current ∷ replicate g.left []

-- what a turn of the code came to
pub record Gone {H L K : Type 0} (t : Terms) (limit : ℕ) (y : ActorId) (number : K → ℕ) (s : HandState) (got : Got) (k : CodeHand H) (ask : CodeAsk (Msg L K)) (calls : List PortCall) (dids : List Did) : Type 0 where
  pub state : HandState
  pub turn : HandTurn t limit y s got dids state (world_asks number ask)
  pub code : HandIs t y k state
  -- what its handler was given, with its acts
  pub log : state.hand.log ≡ s.hand.log ++ collect gave_in calls
  pub found : collect wants_in calls ≡ []

-- or found no memory
pub record Went {H L K : Type 0} (t : Terms) (shape : Shape) (limit : ℕ) (y : ActorId) (number : K → ℕ) (s : HandState) (got : Got) (k : CodeHand H) (f : Words) (u : PlainTable) (r : PlainWords) (ask : CodeAsk (Msg L K)) (calls : List PortCall) (p : WorldPorts) : Type 0 where
  pub dids : List Did
  pub answers : AllAnswer t (LegalFor shape) p y dids
  pub stands : Stands t shape y (around k f u r) (all_ported t p y dids)
  pub came : ((k.lost ≡ true) × (HandFails t y s got dids s × (collect gave_in calls ≡ []))) ⊎ ((k.lost ≡ false) × Gone t limit y number s got k ask calls dids)

-- a stage whose event and act are of sessions other than 0
abbrev pub Numbered : Stage → Type 0
Numbered (ActingStage e act) = IsNumberedEvent e × IsNumbered act
Numbered (Sending e act to m a) = IsNumberedEvent e
Numbered (Leaving e to m) = IsNumberedEvent e
Numbered _ = Unit {0}

-- what a handler is given is of sessions other than 0
abbrev pub IsNumberedGiven : Given → Type 0
IsNumberedGiven (EventGiven e) = IsNumberedEvent e
IsNumberedGiven (AnswerGiven a) = Unit {0}

-- a handler that acts on sessions other than 0, as far as it was told of such
abbrev pub Numbers : {H : Type 0} → Acting H → Type 0
Numbers {H} acts = (h : H) (given : Given) (act : Act) (k : H) → acts h given act k → IsNumberedGiven given → IsNumbered act
