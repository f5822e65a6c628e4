-- What a hand's log shows of what its ports answered.
use Rattle.std.specs.Prelude.{◌≡◌, ◌⊎◌, ℕ, ◌%◌, true, List, [], ◌∷◌, ◌++◌, slice_get, Some, suc}
use Rattle.sw_lists.specs.Lists.{collect, Each, Has, IsPrefix}
use Rattle.sw_step.specs.declared.actor.ActorId.{ActorId}
use Rattle.sw_record.specs.Words.{Act, Close, Reset, Shutdown, Answer, Asked, Given, AnswerGiven, Log}
use Rattle.sw_record.specs.Terms.{Terms}
use Rattle.sw_record.specs.Logs.{told_of}
use Rattle.sw_record.specs.Answers.{answers_of}
use Rattle.sw_record.specs.Causes.{granted, refused, task_full}
use Rattle.sw_record.specs.Uids.{binds, bind_in, bound_in, info_in}
use Rattle.sw_record.specs.Places.{placed, place_in, busy_in, spent_in}
use Rattle.sw_record.specs.Counts.{count_in}
use Rattle.sw_record.specs.Fits.{is_some, is_of}
use Rattle.sw_past.specs.Messages.{Message, CloseMsg, ResetMsg}
use Rattle.sw_hand_laws.specs.Hand.{Stage, Sending, Hand, Seen}
use Rattle.sw_hand_laws.specs.Keeps.{now}

-- a session that was granted was seen to live, or an event of it was given
abbrev pub Granted : Log → Seen → ℕ → Type 0
Granted log seen s = Has s seen.lives ⊎ (¬ (told_of s log ≡ []))

-- an Info has its descriptor, and no uid or the one that a look found
abbrev pub Found : Terms → Seen → ℕ × (ℕ × ℕ) → Type 0
Found t seen p = (p.1.0 ≡ p.0 % t.max_conn) × ((p.1.1 ≡ 0) ⊎ Has (p.0, p.1.1) seen.infos)

-- an act that was answered Asked
abbrev pub IsAnswered : Log → Act → Type 0
IsAnswered log act = (at : ℕ) × ((given : Given) × ((next : Act) × ((slice_get log at ≡ Some (given, act)) × (slice_get log (suc at) ≡ Some (AnswerGiven Asked, next)))))

-- an ask of a reactor has its answer
abbrev pub Asks : Log → Message → Type 0
Asks log (CloseMsg s) = IsAnswered log (Close s)
Asks log (ResetMsg s) = IsAnswered log (Reset s)
Asks log _ = Unit {0}

-- what waits for its answer may be granted
abbrev pub Pending : Log → Seen → Stage → Type 0
Pending log seen (Sending e act to m a) = Each (Granted log seen) (collect granted ((act, a) ∷ []))
Pending log seen _ = Unit {0}

-- the stop word was set
abbrev pub stop_in : Act × Answer → List ℕ
stop_in (Shutdown, a) = 0 ∷ []
stop_in _ = []

-- what the log shows is what the ports showed
pub record Showing (t : Terms) (st : Stage) (h : Hand) : Type 0 where
  pub passes : binds h.log ≡ h.seen.passes
  pub bounds : collect bound_in (answers_of h.log) ≡ h.seen.bounds
  pub others : collect refused (answers_of h.log) ≡ h.seen.others
  pub seat : placed h.log ≡ h.seen.seat
  pub sums : collect count_in (answers_of h.log) ≡ h.seen.sums
  pub fulls : collect task_full (answers_of h.log) ≡ h.seen.fulls
  pub stops : collect stop_in (answers_of h.log) ≡ h.seen.stops
  -- no call of the Table was refused since a lock was taken, and the places were used up where the seat said so
  pub busy : collect busy_in (answers_of h.log) ≡ []
  pub spents : collect spent_in (answers_of h.log) ≡ h.seen.spents
  pub finds : Each (Found t h.seen) (collect info_in (answers_of h.log))
  pub grants : Each (Granted h.log h.seen) (collect granted (answers_of h.log))
  pub pending : Pending h.log h.seen st
  pub owned : (s : ℕ) → is_some s (h.own (s % t.max_conn)) ≡ true → ¬ (told_of s h.log ≡ [])
  pub current : (s : ℕ) → Each (λ e. is_of s e ≡ true → ¬ (told_of s h.log ≡ [])) (now st)
  pub asks : Each (λ (p : ActorId × Message). Asks h.log p.1) h.pushed

-- a list with more behind it
abbrev pub onto : {A : Type 0} → List A → List A → List A
onto xs [] = xs
onto xs (y ∷ ys) = xs ++ y ∷ ys

-- what an answer at once adds to each
pub record Noted (t : Terms) (log : Log) (seen : Seen) (act : Act) (a : Answer) (after : Seen) : Type 0 where
  pub passes : after.passes ≡ onto seen.passes (bind_in (act, a))
  pub bounds : after.bounds ≡ onto seen.bounds (bound_in (act, a))
  pub others : after.others ≡ onto seen.others (refused (act, a))
  pub seat : after.seat ≡ onto seen.seat (place_in (act, a))
  pub sums : after.sums ≡ onto seen.sums (count_in (act, a))
  pub fulls : after.fulls ≡ onto seen.fulls (task_full (act, a))
  pub stops : after.stops ≡ onto seen.stops (stop_in (act, a))
  pub busy : busy_in (act, a) ≡ []
  pub spents : after.spents ≡ onto seen.spents (spent_in (act, a))
  pub lives : IsPrefix seen.lives after.lives
  pub infos : IsPrefix seen.infos after.infos
  pub finds : Each (Found t after) (info_in (act, a))
  pub grants : Each (Granted log after) (granted (act, a))
