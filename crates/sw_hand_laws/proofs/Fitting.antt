-- Each move keeps that answers fit.
use Rattle.std.proofs.Common.{◌≡◌, ℕ, true, List, [], ◌∷◌, ◌++◌, refl, ap, ◌∙◌, sym, subst, Option, Bool}
use Rattle.sw_lists.specs.Lists.{Each}
use Rattle.sw_step.specs.declared.actor.ActorId.{ActorId}
use Rattle.sw_step.specs.declared.actor.ActorId.TheVariants.{Door, Reactor, Tasker, Worker}
use Rattle.sw_record.specs.Words.{Event, Act, TaskAct, Done, Answer, Sent, Asked, BindOk, Exists, InfoIs, Posted, Finished, TableIs, TableRefused, Count, NoSession, Bound, BadUid, WrongMode, TaskFull, BadTarget, NoTaskWorkers, IdsSpent, NotHere, NoTable, Given, EventGiven, AnswerGiven, Log, Closed, Connect, Dst, Finish, Packet, Task}
use Rattle.sw_record.specs.Terms.{Terms}
use Rattle.sw_record.specs.Fits.{next_with, own_with, own_behind, Fits, MayPost, Replay, replay_then, FitsGiven, FitsAfter, replay_after, at_start, AnswersFitLog}
use Rattle.sw_past.specs.Messages.{Message}
use Rattle.sw_past.specs.Said.{last_after}
use Rattle.sw_past.specs.Views.{for_hand}
use Rattle.sw_past.specs.Routes.{is_worker}
use Rattle.sw_join.proofs.Own.{own}
use Rattle.sw_hand_laws.specs.Hand.{Got, Ports, Stage, Idle, Acting, Sending, Leaving, Stopping, Stopped, Hand, turn, bye_of, last_words}
use Rattle.sw_hand_laws.specs.Keeps.{Carried, CPost, silent}
use Rattle.sw_hand_laws.specs.Kept.{Kept, GotFits}
use Rattle.sw_hand_laws.specs.Fits.{Replayed, Fitting}
use Rattle.sw_hand_laws.specs.Moved.{Moved, Waits, Answers, Aims, Sends, Fulls, Hears, Skips, Overs, Leaves, Lefts, Stops, Nones, SkipStops, SkipNones, Nexts, Lasts, PortsFit, Holds}
use Rattle.sw_hand_laws.proofs.Ends.{last_is}
use Rattle.sw_hand_laws.proofs.Moves.{turn_moves}

-- one more entry
fits_end : (t : Terms) (v : Bool) (r : Replay) (act : Act) (log : Log) (g : Given) (a : Act) → FitsAfter t v r act log → FitsGiven t v (replay_after t r log) (last_after act log) g → FitsAfter t v r act (log ++ (g, a) ∷ [])
fits_end t v r act [] g a f k = (k, tt)
fits_end t v r act (x ∷ xs) g a f k = (f.0, fits_end t v (replay_then t r x.0) x.1 xs g a f.1 k)

replay_end : (t : Terms) (r : Replay) (log : Log) (g : Given) (a : Act) → replay_after t r (log ++ (g, a) ∷ []) ≡ replay_then t (replay_after t r log) g
replay_end t r [] g a = refl
replay_end t r (x ∷ xs) g a = replay_end t (replay_then t r x.0) xs g a

-- silent answers use no id
silent_next : (n : ℕ) (a : Answer) → silent a ≡ true → next_with n a ≡ n
silent_next n Sent q = absurd (cc)
silent_next n (Posted i) q = absurd (cc)
silent_next n Finished q = absurd (cc)
silent_next n Asked q = refl
silent_next n BindOk q = refl
silent_next n Exists q = refl
silent_next n (InfoIs f u) q = refl
silent_next n (TableIs at r cells) q = refl
silent_next n (TableRefused i) q = refl
silent_next n (Count i) q = refl
silent_next n (NoSession i) q = refl
silent_next n (Bound i) q = refl
silent_next n BadUid q = refl
silent_next n WrongMode q = refl
silent_next n TaskFull q = refl
silent_next n BadTarget q = refl
silent_next n NoTaskWorkers q = refl
silent_next n IdsSpent q = refl
silent_next n NotHere q = refl
silent_next n NoTable q = refl

-- the answer that stands next fits what the log tells
given_fits : (t : Terms) (v : Bool) (h : Hand) (r : Replay) (e : Event) (act was : Act) (a : Answer) → r.own ≡ h.own → r.event ≡ e ∷ [] → r.next ≡ h.next → was ≡ act → Fits t v h.own h.next e act a → Each (λ x. Fits t v r.own r.next x was a) r.event
given_fits t v h r e act was a o w n q f = subst (λ es. Each (λ x. Fits t v r.own r.next x was a) es) (sym w) (subst (λ (z : Act). Fits t v r.own r.next e z a) (sym q) (subst (λ i. Fits t v r.own i e act a) (sym n) (subst (λ (z : ℕ → Option ℕ). Fits t v z h.next e act a) (sym o) f)), tt)

log_fits : (t : Terms) (v : Bool) (h : Hand) (e : Event) (act : Act) (a : Answer) (next : Act) → Replayed t (Acting e act) h (replay_after t at_start h.log) → last_after Done h.log ≡ act → Fits t v h.own h.next e act a → AnswersFitLog t v h.log → AnswersFitLog t v (h.log ++ (AnswerGiven a, next) ∷ [])
log_fits t v h e act a next r q f k = fits_end t v at_start Done h.log (AnswerGiven a) next k (given_fits t v h (replay_after t at_start h.log) e act (last_after Done h.log) a r.0 r.1.0 r.1.1 q f)

moved_on : (t : Terms) (log : Log) (own : ℕ → Option ℕ) (es : List Event) (n m : ℕ) (a : Answer) (next : Act) → (replay_after t at_start log).own ≡ own → (replay_after t at_start log).event ≡ es → (replay_after t at_start log).next ≡ n → next_with n a ≡ m → ((replay_after t at_start (log ++ (AnswerGiven a, next) ∷ [])).own ≡ own) × (((replay_after t at_start (log ++ (AnswerGiven a, next) ∷ [])).event ≡ es) × ((replay_after t at_start (log ++ (AnswerGiven a, next) ∷ [])).next ≡ m))
moved_on t log own es n m a next o v i q =
    let e : replay_after t at_start (log ++ (AnswerGiven a, next) ∷ []) ≡ replay_then t (replay_after t at_start log) (AnswerGiven a) = replay_end t at_start log (AnswerGiven a) next in
    (ap (λ (r : Replay). r.own) e ∙ o, (ap (λ (r : Replay). r.event) e ∙ v, ap (λ (r : Replay). r.next) e ∙ ap (λ j. next_with j a) i ∙ q))

full_fits : (t : Terms) (y : ActorId) (h : Hand) (e : Event) (d : Dst) (b : List ℕ) (to : ActorId) (m : Message) (a : Answer) → Carried t y h.next e (TaskAct d b) to m a → Fits t (is_worker y) h.own h.next e (TaskAct d b) a → MayPost t (is_worker y) h.next d
full_fits t y h e d b to m a (CPost w k u v q f lt) p = p.0

-- an event without last words leaves the sessions of one's own
worker_leaves : (t : Terms) (own : ℕ → Option ℕ) (e : Event) → bye_of t e ≡ [] → own_behind t own (e ∷ []) ≡ own
worker_leaves t own (Connect s) q = refl
worker_leaves t own (Packet s i b) q = refl
worker_leaves t own (Closed s) q = absurd (cc)
worker_leaves t own (Finish id b) q = refl
worker_leaves t own (Task w id b) q = refl

tasker_leaves : (t : Terms) (own : ℕ → Option ℕ) (k : ℕ) (e : Event) → for_hand (Tasker k) e ≡ e ∷ [] → own_behind t own (e ∷ []) ≡ own
tasker_leaves t own k (Connect s) m = absurd (cc)
tasker_leaves t own k (Packet s i b) m = absurd (cc)
tasker_leaves t own k (Closed s) m = absurd (cc)
tasker_leaves t own k (Finish id b) m = absurd (cc)
tasker_leaves t own k (Task w id b) m = refl

none_leaves : (t : Terms) (y : ActorId) (own : ℕ → Option ℕ) (e : Event) → for_hand y e ≡ e ∷ [] → last_words t y e ≡ [] → own_behind t own (e ∷ []) ≡ own
none_leaves t Door own e m q = worker_leaves t own e q
none_leaves t (Reactor n) own e m q = worker_leaves t own e q
none_leaves t (Worker w) own e m q = worker_leaves t own e q
none_leaves t (Tasker k) own e m q = tasker_leaves t own k e m

-- a hand's last act, and what is on its way
pub holds_moves : (t : Terms) (y : ActorId) (c : ℕ) (a b : Stage) (f g : Hand) → Moved t y c a f b g → Holds t y a f → Holds t y b g
holds_moves t y c a b f g (Waits st h) k = k
holds_moves t y c a b f g (Answers h e act after ans next may q fit) k = record { last = last_is Done h.log (AnswerGiven ans) next; mine = k.mine; carries = tt }
holds_moves t y c a b f g (Aims h e act after to m ans car fit aim) k = record { last = k.last; mine = k.mine; carries = car }
holds_moves t y c a b f g (Sends h e act to m ans next) k = record { last = last_is Done h.log (AnswerGiven ans) next; mine = k.mine; carries = tt }
holds_moves t y c a b f g (Fulls h e d s to m ans after next) k = record { last = last_is Done h.log (AnswerGiven TaskFull) next; mine = k.mine; carries = tt }
holds_moves t y c a b f g (Hears h from e act mine) k = record { last = last_is Done h.log (EventGiven e) act; mine = (mine, tt); carries = tt }
holds_moves t y c a b f g (Skips h from m none) k = record { last = k.last; mine = tt; carries = tt }
holds_moves t y c a b f g (Overs h e none) k = record { last = k.last; mine = tt; carries = tt }
holds_moves t y c a b f g (Leaves h e to m q) k = record { last = k.last; mine = k.mine; carries = q }
holds_moves t y c a b f g (Lefts h e to m) k = record { last = k.last; mine = tt; carries = tt }
holds_moves t y c a b f g (Stops h) k = record { last = k.last; mine = tt; carries = tt }
holds_moves t y c a b f g (Nones h) k = record { last = k.last; mine = tt; carries = tt }
holds_moves t y c a b f g (SkipStops h from m none) k = record { last = k.last; mine = tt; carries = tt }
holds_moves t y c a b f g (SkipNones h from m none) k = record { last = k.last; mine = tt; carries = tt }
holds_moves t y c a b f g (Nexts h j) k = record { last = k.last; mine = tt; carries = tt }
holds_moves t y c a b f g (Lasts h j) k = record { last = k.last; mine = tt; carries = tt }

pub holds : (t : Terms) (y : ActorId) (st : Stage) (h : Hand) → Kept t y st h → Holds t y st h
holds t y Idle h k = record { last = k.speaks.last; mine = k.speaks.mine; carries = tt }
holds t y (Acting e act) h k = record { last = k.speaks.last; mine = k.speaks.mine; carries = tt }
holds t y (Sending e act to m a) h k = record { last = k.speaks.last; mine = k.speaks.mine; carries = k.speaks.carries }
holds t y (Leaving e to m) h k = record { last = k.speaks.last; mine = k.speaks.mine; carries = k.speaks.carries }
holds t y (Stopping j) h k = record { last = k.speaks.last; mine = k.speaks.mine; carries = tt }
holds t y Stopped h k = record { last = k.speaks.last; mine = k.speaks.mine; carries = tt }

pub fitting_moves : (t : Terms) (y : ActorId) (c : ℕ) (a b : Stage) (f g : Hand) → Moved t y c a f b g → Holds t y a f → Fitting t y a f → Fitting t y b g
fitting_moves t y c a b f g (Waits st h) held k = k
fitting_moves t y c a b f g (Answers h e act after ans next may q fit) held k = record { fits = log_fits t (is_worker y) h e act ans next k.replayed held.last fit k.fits; replayed = moved_on t h.log h.own (e ∷ []) h.next h.next ans next k.replayed.0 k.replayed.1.0 k.replayed.1.1 (silent_next h.next ans q); pending = tt }
fitting_moves t y c a b f g (Aims h e act after to m ans car fit aim) held k = record { fits = k.fits; replayed = k.replayed; pending = (fit, aim) }
fitting_moves t y c a b f g (Sends h e act to m ans next) held k = record { fits = log_fits t (is_worker y) h e act ans next k.replayed held.last k.pending.0 k.fits; replayed = moved_on t h.log h.own (e ∷ []) h.next (next_with h.next ans) ans next k.replayed.0 k.replayed.1.0 k.replayed.1.1 refl; pending = tt }
fitting_moves t y c a b f g (Fulls h e d s to m ans after next) held k = record { fits = log_fits t (is_worker y) h e (TaskAct d s) TaskFull next k.replayed held.last (full_fits t y h e d s to m ans held.carries k.pending.0) k.fits; replayed = moved_on t h.log h.own (e ∷ []) h.next h.next TaskFull next k.replayed.0 k.replayed.1.0 k.replayed.1.1 refl; pending = tt }
fitting_moves t y c a b f g (Hears h from e act mine) held k = record { fits = fits_end t (is_worker y) at_start Done h.log (EventGiven e) act k.fits tt; replayed = (let q = replay_end t at_start h.log (EventGiven e) act in (ap (λ (r : Replay). r.own) q ∙ ap (λ (z : ℕ → Option ℕ). own_with t z e) k.replayed.0, (ap (λ (r : Replay). r.event) q, ap (λ (r : Replay). r.next) q ∙ k.replayed.1))); pending = tt }
fitting_moves t y c a b f g (Skips h from m none) held k = record { fits = k.fits; replayed = k.replayed; pending = tt }
fitting_moves t y c a b f g (Overs h e none) held k = record { fits = k.fits; replayed = (ap (own_behind t (replay_after t at_start h.log).own) k.replayed.1.0 ∙ none_leaves t y (replay_after t at_start h.log).own e held.mine.0 none ∙ k.replayed.0, k.replayed.1.1); pending = tt }
fitting_moves t y c a b f g (Leaves h e to m q) held k = record { fits = k.fits; replayed = k.replayed; pending = tt }
fitting_moves t y c a b f g (Lefts h e to m) held k = record { fits = k.fits; replayed = (ap (own_behind t (replay_after t at_start h.log).own) k.replayed.1.0 ∙ ap (λ (z : ℕ → Option ℕ). own_behind t z (e ∷ [])) k.replayed.0, k.replayed.1.1); pending = tt }
fitting_moves t y c a b f g (Stops h) held k = record { fits = k.fits; replayed = k.replayed; pending = tt }
fitting_moves t y c a b f g (Nones h) held k = record { fits = k.fits; replayed = k.replayed; pending = tt }
fitting_moves t y c a b f g (SkipStops h from m none) held k = record { fits = k.fits; replayed = k.replayed; pending = tt }
fitting_moves t y c a b f g (SkipNones h from m none) held k = record { fits = k.fits; replayed = k.replayed; pending = tt }
fitting_moves t y c a b f g (Nexts h j) held k = record { fits = k.fits; replayed = k.replayed; pending = tt }
fitting_moves t y c a b f g (Lasts h j) held k = record { fits = k.fits; replayed = k.replayed; pending = tt }

-- every turn keeps that answers fit
pub turn_fits : (t : Terms) (y : ActorId) (c : ℕ) (p : Ports) (st : Stage) (h : Hand) (got : Got) → PortsFit t st h p → GotFits t st got → Kept t y st h → Fitting t y st h → Fitting t y (turn t y c p st h got).stage (turn t y c p st h got).hand
turn_fits t y c p st h got u f k r = fitting_moves t y c st (turn t y c p st h got).stage h (turn t y c p st h got).hand (turn_moves t y c p st h got u f) (holds t y st h k) r
