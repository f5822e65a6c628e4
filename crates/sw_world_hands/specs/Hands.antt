-- Workers and task workers as actors of the world: their turns are those of the hands' tables, and their law.
use Rattle.std.specs.Prelude.{◌≡◌, ℕ, ◌+◌, ◌<◌, ◌≤◌, Bool, nat_lt, false, List, [], ◌∷◌, ◌++◌, length}
use Rattle.sw_lists.specs.Lists.{collect, Has}
use Rattle.sw_step.specs.declared.actor.ActorId.{ActorId}
use Rattle.sw_step.specs.declared.actor.ActorId.TheVariants.{Door, Reactor, Worker, Tasker}
use Rattle.sw_record.specs.Words.{Act, Stats, Answer, Count, Counter, Log}
use Rattle.sw_record.specs.Terms.{Terms}
use Rattle.sw_record.specs.Answers.{answers_of}
use Rattle.sw_record.specs.Counts.{tally, counted}
use Rattle.sw_past.specs.Messages.{Message}
use Rattle.sw_past.specs.Past.{Mail, bare}
use Rattle.sw_past.specs.Routes.{IsHand}
use Rattle.sw_world_ports.specs.Calls.{Did, Stops, Sums}
use Rattle.sw_world_ports.specs.Made.{live_in, other_in, pass_in, found_in, had_in, seat_in, spent_in, stop_in, add_in, sum_in}
use Rattle.sw_world_laws.specs.Turns.{Ask, AskTake, AskPush, AskNothing, AskRest, AskFinished, Got, GotStart, GotTook, GotEmpty, GotPushed, GotFull, GotNothing, Diary}
use Rattle.sw_join.specs.Laws.{HandLaw}
use Rattle.sw_hand_laws.specs.Hand.{Got as HandGot, Start, Took, Empty, Pushed, Full, Nothing, Ask as HandAsk, Take, Push, Rest, AskNothing as NothingAsked, AskFinished as FinishedAsked, Ports, Seen, Stage, Idle, Sending, Stopped, Hand, Turned, turn}
use Rattle.sw_hand_laws.specs.Kept.{Kept, GotFits, taken, sent}
use Rattle.sw_hand_laws.specs.Fits.{Fitting}
use Rattle.sw_hand_laws.specs.Moved.{PortsFit}
use Rattle.sw_hand_laws.specs.Generations.{Generations}
use Rattle.sw_hand_laws.specs.Course.{new}
use Rattle.sw_world_hands.specs.Calls.{turn_calls}

-- what a hand is about, and what its turns need
pub record HandState : Type 0 where
  pub stage : Stage
  pub hand : Hand

-- how many events a handler is given at most where another follows it, 0 for any number, and how many follow a worker's first
-- and a task worker's
pub record Crews : Type 0 where
  pub limit : ℕ
  pub left : ActorId → ℕ

-- before its first turn
abbrev pub new_hand : ℕ → HandState
new_hand left = record { stage = Idle; hand = new left }

-- a hand that is there
abbrev pub is_hand : Terms → ActorId → Bool
is_hand t Door = false
is_hand t (Reactor n) = false
is_hand t (Worker w) = nat_lt w t.worker_num
is_hand t (Tasker k) = nat_lt k t.tasker_num

-- what it got, as the tables have it: who pushed a message is nothing to a hand
abbrev pub hand_got : Got → HandGot
hand_got GotStart = Start
hand_got (GotTook m) = Took Door m
hand_got GotEmpty = Empty
hand_got GotPushed = Pushed
hand_got (GotFull m) = Full m
hand_got GotNothing = Nothing

-- what the tables ask, as the world has it
abbrev pub world_ask : HandAsk → Ask
world_ask Take = AskTake
world_ask (Push to m) = AskPush to m
world_ask Rest = AskRest
world_ask NothingAsked = AskNothing
world_ask FinishedAsked = AskFinished

-- a turn of the table, whatever the ports and the handler answer, as far as ports may
abbrev pub turned : Terms → ActorId → ℕ → Ports → HandState → Got → Turned
turned t y limit p s got = turn t y limit p s.stage s.hand (hand_got got)

-- its calls
abbrev pub dids_of : Terms → ActorId → Ports → HandState → Got → List Did
dids_of t y p s got = turn_calls t y p s.stage s.hand (hand_got got)

-- a turn by some answers of the ports and of the handler
pub record HandTurn (t : Terms) (limit : ℕ) (y : ActorId) (s : HandState) (got : Got) (dids : List Did) (u : HandState) (ask : Ask) : Type 0 where
  pub is : IsHand t y
  pub ports : Ports
  pub fit : PortsFit t s.stage s.hand ports
  pub calls : dids ≡ dids_of t y ports s got
  pub state : u ≡ record { stage = (turned t y limit ports s got).stage; hand = (turned t y limit ports s got).hand }
  pub ask_is : ask ≡ world_ask (turned t y limit ports s got).ask

-- a turn that finds no memory for its handler's act or for an answer: its calls are made, the stop word is set, and all else is as it was
pub record HandFails (t : Terms) (y : ActorId) (s : HandState) (got : Got) (dids : List Did) (u : HandState) : Type 0 where
  pub is : IsHand t y
  pub ports : Ports
  pub fit : PortsFit t s.stage s.hand ports
  pub calls : dids ≡ dids_of t y ports s got ++ Stops ∷ []
  pub state : u ≡ s

-- a push to a task worker that is there found no room
abbrev pub HadNoRoom : Terms → Mail → Type 0
HadNoRoom t refused = (n : ℕ) × ((n < t.tasker_num) × ((m : Message) × Has (Tasker n, m) refused))

-- the push that was asked for found no room
abbrev pub Refused : Stage → Got → Mail → Type 0
Refused (Sending e act to m a) (GotFull n) refused = Has (to, n) refused
Refused _ _ refused = Unit {0}

-- of each count that the log has, the sum was made behind what was counted before
abbrev pub SumsBehind : Log → List Did → Type 0
SumsBehind log dids =
    (before behind : List (Act × Answer)) (c : Counter) (n : ℕ) → answers_of log ≡ before ++ (Stats c, Count n) ∷ behind →
    (first : List Did) × ((later : List Did) × ((dids ≡ first ++ Sums c n ∷ later) × (length (collect (counted c) before) ≤ length (collect (add_in c) first))))

-- its calls are what the tables say that its ports showed
pub record CallsShow (seen : Seen) (log : Log) (dids : List Did) : Type 0 where
  pub lives : collect live_in dids ≡ seen.lives
  pub others : collect other_in dids ≡ seen.others
  pub passes : collect pass_in dids ≡ seen.passes
  pub bounds : collect had_in dids ≡ seen.bounds
  pub infos : (p : ℕ × ℕ) → Has p seen.infos → Has p (collect found_in dids)
  pub seat : collect seat_in dids ≡ seen.seat
  pub spents : collect spent_in dids ≡ seen.spents
  pub sums : collect sum_in dids ≡ seen.sums
  pub stops : collect stop_in dids ≡ seen.stops
  pub adds : (c : Counter) → length (collect (add_in c) dids) ≡ length (tally c log)
  pub least : SumsBehind log dids

-- the law of a hand before a turn, with what is on its way
pub record HandHolds (t : Terms) (limit left : ℕ) (y : ActorId) (s : HandState) (got : Got) (d : Diary) : Type 0 where
  pub is : IsHand t y
  pub fits : GotFits t s.stage (hand_got got)
  pub kept : Kept t y s.stage s.hand
  pub fitting : Fitting t y s.stage s.hand
  pub generations : Generations limit (left + 1) s.hand
  pub took : bare (taken (hand_got got) s.hand.took) ≡ bare d.took
  pub pushed : sent t s.stage (hand_got got) s.hand.pushed ≡ d.pushed
  pub calls : CallsShow s.hand.seen s.hand.log d.dids
  pub fulls : ¬ (s.hand.seen.fulls ≡ []) → HadNoRoom t d.refused
  pub refused : Refused s.stage got d.refused

-- the law of a hand that is finished
pub record HandOver (t : Terms) (limit left : ℕ) (y : ActorId) (s : HandState) (d : Diary) : Type 0 where
  pub is : IsHand t y
  pub stopped : s.stage ≡ Stopped
  pub kept : Kept t y s.stage s.hand
  pub fitting : Fitting t y s.stage s.hand
  pub generations : Generations limit (left + 1) s.hand
  pub took : bare s.hand.took ≡ bare d.took
  pub pushed : s.hand.pushed ≡ d.pushed
  pub calls : CallsShow s.hand.seen s.hand.log d.dids
  pub fulls : ¬ (s.hand.seen.fulls ≡ []) → HadNoRoom t d.refused

-- the law of a hand that found no memory
pub record HandLost (t : Terms) (y : ActorId) (s : HandState) (d : Diary) : Type 0 where
  pub is : IsHand t y
  pub law : HandLaw t y d.took d.pushed s.hand.log
