-- Answers that fit their act, the settings, the event at hand and the sessions of one's own; and counts.
use Rattle.std.specs.Prelude.{◌≡◌, ◌⊎◌, ℕ, ◌≤◌, List, [], ◌∷◌, ◌++◌, length}
use Rattle.sw_lists.specs.Lists.{collect, Each}
use Rattle.sw_step.specs.declared.actor.ActorId.{ActorId}
use Rattle.sw_record.specs.Words.{Act, Answer, Counter}
use Rattle.sw_record.specs.Terms.{Terms}
use Rattle.sw_record.specs.Fits.{Replay, own_behind, replay_after, at_start, Fits, AnswersFitLog}
use Rattle.sw_record.specs.Answers.{answers_of}
use Rattle.sw_record.specs.Counts.{tally, count_in, counted, greatest}
use Rattle.sw_past.specs.Routes.{is_worker}
use Rattle.sw_hand_laws.specs.Hand.{Stage, Acting, Sending, Leaving, Hand}
use Rattle.sw_hand_laws.specs.Moved.{AimFits}

-- the hand has what its log tells: its own sessions, the event at hand and the next id
abbrev pub Replayed : Terms → Stage → Hand → Replay → Type 0
Replayed t (Acting e act) h r = (r.own ≡ h.own) × ((r.event ≡ e ∷ []) × (r.next ≡ h.next))
Replayed t (Sending e act to m a) h r = (r.own ≡ h.own) × ((r.event ≡ e ∷ []) × (r.next ≡ h.next))
Replayed t (Leaving e to m) h r = (r.own ≡ h.own) × ((r.event ≡ e ∷ []) × (r.next ≡ h.next))
Replayed t _ h r = (own_behind t r.own r.event ≡ h.own) × (r.next ≡ h.next)

-- the answer that waits for its push fits, and a task that waits goes to a task worker that is there
abbrev pub FitsPending : Terms → ActorId → Stage → Hand → Type 0
FitsPending t y (Sending e act to m a) h = Fits t (is_worker y) h.own h.next e act a × AimFits t act to
FitsPending t y _ h = Unit {0}

-- every answer fits, also the one that waits for its push
pub record Fitting (t : Terms) (y : ActorId) (st : Stage) (h : Hand) : Type 0 where
  pub fits : AnswersFitLog t (is_worker y) h.log
  pub replayed : Replayed t st h (replay_after t at_start h.log)
  pub pending : FitsPending t y st h

-- a word stands at what was counted, up to the greatest
abbrev pub Saturated : ℕ → ℕ → Type 0
Saturated n k = ((k ≡ n) × (n ≤ greatest)) ⊎ ((k ≡ greatest) × (k ≤ n))

-- a sum is at least what this hand added before
abbrev pub SumsAfter : List (Act × Answer) → List (Act × Answer) → Type 0
SumsAfter before [] = Unit {0}
SumsAfter before (x ∷ xs) = Each (λ (p : Counter × ℕ). (length (collect (counted p.0) before) ≤ p.1) ⊎ (p.1 ≡ greatest)) (count_in x) × SumsAfter (before ++ x ∷ []) xs

-- a hand's words and the sums that it was told
pub record Tallied (h : Hand) : Type 0 where
  pub words : (k : Counter) → Saturated (length (tally k h.log)) (h.words k)
  pub sums : SumsAfter [] (answers_of h.log)
