-- All states that a hand comes to, whatever the pipes, the ports and the handlers answer.
use Rattle.std.specs.Prelude.{ℕ, ◌+◌, [], None}
use Rattle.sw_step.specs.declared.actor.ActorId.{ActorId}
use Rattle.sw_record.specs.Terms.{Terms}
use Rattle.sw_hand_laws.specs.Hand.{Got, Start, Ports, Stage, Idle, Hand, turn}
use Rattle.sw_hand_laws.specs.Kept.{Kept, After, GotFits}
use Rattle.sw_hand_laws.specs.Fits.{Fitting, Tallied}
use Rattle.sw_hand_laws.specs.Moved.{PortsFit, SumFits}
use Rattle.sw_hand_laws.specs.Owns.{Owns}
use Rattle.sw_hand_laws.specs.Generations.{Generations}

-- a new hand, with so many handlers behind the first
abbrev pub new : ℕ → Hand
new left = record {
  took = [];
  pushed = [];
  log = [];
  own = λ n. None;
  next = 0;
  out = 0;
  ended = 0;
  seen = record { lives = []; others = []; passes = []; bounds = []; infos = []; seat = []; spents = []; sums = []; fulls = []; stops = [] };
  words = λ n. 0;
  gone = [];
  current = [];
  events = 0;
  left = left;
}

-- a state before a turn
pub data Course (t : Terms) (y : ActorId) (c : ℕ) (left : ℕ) : Stage → Hand → Got → Type 0 where
  Begins : Course t y c left Idle (new left) Start
  Turns : (st : Stage) (h : Hand) (got : Got) (p : Ports) (after : Got) → Course t y c left st h got → PortsFit t st h p → SumFits st h p → After t (turn t y c p st h got).ask after → Course t y c left (turn t y c p st h got).stage (turn t y c p st h got).hand after

-- all laws of a hand before a turn
pub record Good (t : Terms) (y : ActorId) (c : ℕ) (left : ℕ) (st : Stage) (h : Hand) (got : Got) : Type 0 where
  pub kept : Kept t y st h
  pub fitting : Fitting t y st h
  pub generations : Generations c (left + 1) h
  pub tallied : Tallied h
  pub owns : Owns t st h
  pub fits : GotFits t st got
