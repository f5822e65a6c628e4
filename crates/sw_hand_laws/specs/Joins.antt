-- The hands of a record's past, each at some state that it comes to.
use Rattle.std.specs.Prelude.{◌≡◌, ℕ, ◌+◌}
use Rattle.sw_step.specs.declared.actor.ActorId.{ActorId}
use Rattle.sw_record.specs.Words.{Log}
use Rattle.sw_record.specs.Terms.{Terms}
use Rattle.sw_record.specs.Fits.{AnswersFitLog}
use Rattle.sw_past.specs.Past.{Mail, Past}
use Rattle.sw_past.specs.Routes.{IsHand, is_worker}
use Rattle.sw_hand_laws.specs.Hand.{Stage, Hand}
use Rattle.sw_hand_laws.specs.Kept.{Shown, Finished}
use Rattle.sw_hand_laws.specs.Shows.{Showing}
use Rattle.sw_hand_laws.specs.Fits.{Tallied}
use Rattle.sw_hand_laws.specs.Generations.{Generations}

-- a hand of the past at a state that it comes to
pub record Shows (t : Terms) (y : ActorId) (c : ℕ) (left : ℕ) (took pushed : Mail) (log : Log) (h : Hand) : Type 0 where
  pub log_is : log ≡ h.log
  pub shown : Shown t y took pushed h.log
  pub stage : Stage
  pub showing : Showing t stage h
  pub fits : AnswersFitLog t (is_worker y) h.log
  pub generations : Generations c (left + 1) h
  pub tallied : Tallied h

-- all of them
pub record Hands (t : Terms) (c : ℕ) (left : ℕ) (p : Past) (at : ActorId → Hand) : Type 0 where
  pub shows : (y : ActorId) → IsHand t y → Shows t y c left (p.took y) (p.pushed y) (p.log y) (at y)

-- all are finished
pub record HandsDone (t : Terms) (p : Past) : Type 0 where
  pub done : (y : ActorId) → IsHand t y → Finished t y (p.took y) (p.pushed y) (p.log y)
