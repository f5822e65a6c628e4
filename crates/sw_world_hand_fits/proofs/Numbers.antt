-- A hand whose handler acts on sessions other than 0 stays with such sessions.
use Rattle.std.proofs.Common.{◌≡◌, ℕ, ltb, Bool, true, false, List, [], ◌∷◌, ◌++◌, refl, ◌∙◌, sym, subst}
use Rattle.sw_lists.specs.Lists.{Each}
use Rattle.sw_step.specs.declared.actor.ActorId.{ActorId}
use Rattle.sw_record.specs.Words.{Event, Given, EventGiven, AnswerGiven, Act, TaskFull, Log}
use Rattle.sw_record.specs.Terms.{Terms}
use Rattle.sw_past.specs.Messages.{Message, FreshMsg, SendMsg, CloseMsg, ResetMsg, Bye, EventMsg, OverMsg, NoMore}
use Rattle.sw_past.specs.Views.{event_in, for_hand}
use Rattle.sw_hand.specs.Ports.{Acting as Handling}
use Rattle.sw_hand_laws.specs.Hand.{Got, Start, Took, Empty, Pushed, Full, Nothing, Ports, Stage, Idle, Acting, Sending, Leaving, Stopping, Stopped, Hand, goodbyes, skip, stop_if, go_if, may_stop, took_event, took_turn, idle_turn, turn}
use Rattle.sw_hand_laws.specs.Kept.{GotFits}
use Rattle.sw_hand_laws.specs.Moved.{PortsFit, Moved, Waits, Answers, Aims, Sends, Fulls, Hears, Skips, Overs, Leaves, Lefts, Stops, Nones, SkipStops, SkipNones, Nexts, Lasts}
use Rattle.sw_hand_laws.proofs.Moves.{turn_moves}
use Rattle.sw_hand_fits.specs.Matches.{IsNumbered, IsNumberedEvent, IsNumberedGot, IsNumberedStage}
use Rattle.sw_world_hand_fits.specs.Hands.{Numbered, IsNumberedGiven, Numbers}
use Rattle.sw_world_hand_fits.proofs.Lines.{Passed, cancel}

pub numbered_stage : (st : Stage) → Numbered st → IsNumberedStage st
numbered_stage Idle n = tt
numbered_stage (Acting e act) n = n.1
numbered_stage (Sending e act to m a) n = tt
numbered_stage (Leaving e to m) n = n
numbered_stage (Stopping k) n = tt
numbered_stage Stopped n = tt

-- the one act that a handler made
new_act : {H : Type 0} (acts : Handling H) (log more gave : Log) (x y : H) (g : Given) (act : Act) → Numbers acts → more ≡ log ++ (g, act) ∷ [] → more ≡ log ++ gave → Passed acts gave x y → IsNumberedGiven g → IsNumbered act
new_act acts log more gave x y g act num q r h given =
    let one : gave ≡ (g, act) ∷ [] = cancel log gave ((g, act) ∷ []) (sym r ∙ q) in
    let k = subst (λ (es : Log). Passed acts es x y) one h in
    num x g act k.0 k.1.0 given

abbrev NotIdle : Stage → Type 0
NotIdle Idle = ⊥
NotIdle _ = Unit {0}

moved_numbers : {H : Type 0} (acts : Handling H) (t : Terms) (y : ActorId) (c : ℕ) (a b : Stage) (f g : Hand) (gave : Log) (v w : H) → Moved t y c a f b g → NotIdle a → Numbers acts → g.log ≡ f.log ++ gave → Passed acts gave v w → Numbered a → Numbered b
moved_numbers acts t y c a b f g gave v w (Waits st h) i num q p n = n
moved_numbers acts t y c a b f g gave v w (Answers h e act after an next m s k) i num q p n = (n.0, new_act acts h.log (h.log ++ (AnswerGiven an, next) ∷ []) gave v w (AnswerGiven an) next num refl q p tt)
moved_numbers acts t y c a b f g gave v w (Aims h e act after to m an k r s) i num q p n = n.0
moved_numbers acts t y c a b f g gave v w (Sends h e act to m an next) i num q p n = (n, new_act acts h.log (h.log ++ (AnswerGiven an, next) ∷ []) gave v w (AnswerGiven an) next num refl q p tt)
moved_numbers acts t y c a b f g gave v w (Fulls h e d x to m an after next) i num q p n = (n, new_act acts h.log (h.log ++ (AnswerGiven TaskFull, next) ∷ []) gave v w (AnswerGiven TaskFull) next num refl q p tt)
moved_numbers acts t y c a b f g gave v w (Hears h from e act k) i num q p n = absurd i
moved_numbers acts t y c a b f g gave v w (Skips h from m k) i num q p n = absurd i
moved_numbers acts t y c a b f g gave v w (Overs h e k) i num q p n = tt
moved_numbers acts t y c a b f g gave v w (Leaves h e to m k) i num q p n = n.0
moved_numbers acts t y c a b f g gave v w (Lefts h e to m) i num q p n = tt
moved_numbers acts t y c a b f g gave v w (Stops h) i num q p n = absurd i
moved_numbers acts t y c a b f g gave v w (Nones h) i num q p n = absurd i
moved_numbers acts t y c a b f g gave v w (SkipStops h from m k) i num q p n = absurd i
moved_numbers acts t y c a b f g gave v w (SkipNones h from m k) i num q p n = absurd i
moved_numbers acts t y c a b f g gave v w (Nexts h j) i num q p n = tt
moved_numbers acts t y c a b f g gave v w (Lasts h j) i num q p n = tt

-- without an event
stop_numbers : (t : Terms) (g : Hand) (k : ℕ) (v : Bool) → Numbered (stop_if t g k v).stage
stop_numbers t g k true = tt
stop_numbers t g k false = tt

go_numbers : (t : Terms) (y : ActorId) (g : Hand) (v : Bool) → Numbered (go_if t y g v).stage
go_numbers t y g true = stop_numbers t g 0 (ltb 0 (goodbyes t y))
go_numbers t y g false = tt

event_numbers : {H : Type 0} (acts : Handling H) (t : Terms) (y : ActorId) (c : ℕ) (h : Hand) (from : ActorId) (e : Event) (act : Act) (es : List Event) (gave : Log) (v w : H) → Numbers acts → IsNumberedEvent e → (took_event t y c h from e act es).hand.log ≡ h.log ++ gave → Passed acts gave v w → Numbered (took_event t y c h from e act es).stage
event_numbers acts t y c h from e act [] gave v w num n q p = go_numbers t y (skip h from (EventMsg e)) (may_stop t y (skip h from (EventMsg e)))
event_numbers acts t y c h from e act (x ∷ xs) gave v w num n q p = (n, new_act acts h.log (h.log ++ (EventGiven e, act) ∷ []) gave v w (EventGiven e) act num refl q p n)

took_numbers : {H : Type 0} (acts : Handling H) (t : Terms) (y : ActorId) (c : ℕ) (h : Hand) (from : ActorId) (act : Act) (m : Message) (gave : Log) (v w : H) → Numbers acts → Each IsNumberedEvent (event_in m) → (took_turn t y c h from act m).hand.log ≡ h.log ++ gave → Passed acts gave v w → Numbered (took_turn t y c h from act m).stage
took_numbers acts t y c h from act (EventMsg e) gave v w num n q p = event_numbers acts t y c h from e act (for_hand y e) gave v w num n.0 q p
took_numbers acts t y c h from act (FreshMsg ip s) gave v w num n q p = go_numbers t y (skip h from (FreshMsg ip s)) (may_stop t y (skip h from (FreshMsg ip s)))
took_numbers acts t y c h from act (SendMsg s b) gave v w num n q p = go_numbers t y (skip h from (SendMsg s b)) (may_stop t y (skip h from (SendMsg s b)))
took_numbers acts t y c h from act (CloseMsg s) gave v w num n q p = go_numbers t y (skip h from (CloseMsg s)) (may_stop t y (skip h from (CloseMsg s)))
took_numbers acts t y c h from act (ResetMsg s) gave v w num n q p = go_numbers t y (skip h from (ResetMsg s)) (may_stop t y (skip h from (ResetMsg s)))
took_numbers acts t y c h from act (Bye s) gave v w num n q p = go_numbers t y (skip h from (Bye s)) (may_stop t y (skip h from (Bye s)))
took_numbers acts t y c h from act (OverMsg id) gave v w num n q p = go_numbers t y (skip h from (OverMsg id)) (may_stop t y (skip h from (OverMsg id)))
took_numbers acts t y c h from act NoMore gave v w num n q p = go_numbers t y (skip h from NoMore) (may_stop t y (skip h from NoMore))

idle_numbers : {H : Type 0} (acts : Handling H) (t : Terms) (y : ActorId) (c : ℕ) (p : Ports) (h : Hand) (got : Got) (gave : Log) (v w : H) → Numbers acts → GotFits t Idle got → IsNumberedGot got → (idle_turn t y c h p got).hand.log ≡ h.log ++ gave → Passed acts gave v w → Numbered (idle_turn t y c h p got).stage
idle_numbers acts t y c p h (Took from m) gave v w num f n q k = took_numbers acts t y c h from p.act m gave v w num n q k
idle_numbers acts t y c p h Empty gave v w num f n q k = tt
idle_numbers acts t y c p h Start gave v w num f n q k = go_numbers t y h (may_stop t y h)
idle_numbers acts t y c p h Nothing gave v w num f n q k = go_numbers t y h (may_stop t y h)
idle_numbers acts t y c p h Pushed gave v w num f n q k = absurd f
idle_numbers acts t y c p h (Full m) gave v w num f n q k = absurd f

pub turn_numbers : {H : Type 0} (acts : Handling H) (t : Terms) (y : ActorId) (c : ℕ) (p : Ports) (st : Stage) (h : Hand) (got : Got) (gave : Log) (v w : H) → Numbers acts → PortsFit t st h p → GotFits t st got → IsNumberedGot got → Numbered st → (turn t y c p st h got).hand.log ≡ h.log ++ gave → Passed acts gave v w → Numbered (turn t y c p st h got).stage
turn_numbers acts t y c p Idle h got gave v w num u f n st q k = idle_numbers acts t y c p h got gave v w num f n q k
turn_numbers acts t y c p (Acting e act) h got gave v w num u f n st q k = moved_numbers acts t y c (Acting e act) (turn t y c p (Acting e act) h got).stage h (turn t y c p (Acting e act) h got).hand gave v w (turn_moves t y c p (Acting e act) h got u f) tt num q k st
turn_numbers acts t y c p (Sending e act to m a) h got gave v w num u f n st q k = moved_numbers acts t y c (Sending e act to m a) (turn t y c p (Sending e act to m a) h got).stage h (turn t y c p (Sending e act to m a) h got).hand gave v w (turn_moves t y c p (Sending e act to m a) h got u f) tt num q k st
turn_numbers acts t y c p (Leaving e to m) h got gave v w num u f n st q k = moved_numbers acts t y c (Leaving e to m) (turn t y c p (Leaving e to m) h got).stage h (turn t y c p (Leaving e to m) h got).hand gave v w (turn_moves t y c p (Leaving e to m) h got u f) tt num q k st
turn_numbers acts t y c p (Stopping j) h got gave v w num u f n st q k = moved_numbers acts t y c (Stopping j) (turn t y c p (Stopping j) h got).stage h (turn t y c p (Stopping j) h got).hand gave v w (turn_moves t y c p (Stopping j) h got u f) tt num q k st
turn_numbers acts t y c p Stopped h got gave v w num u f n st q k = absurd f
