-- What a turn took and pushed, once it is settled.
use Rattle.std.proofs.Common.{◌≡◌, ℕ, suc, ltb, Bool, true, false, List, [], ◌∷◌, refl}
use Rattle.sw_step.specs.declared.actor.ActorId.{ActorId}
use Rattle.sw_record.specs.Words.{Event, Act, Send, Close, Reset, Bind, Exist, Info, TaskAct, FinishAct, Table, Stats, Shutdown, Done, Answer}
use Rattle.sw_record.specs.Terms.{Terms}
use Rattle.sw_past.specs.Messages.{Message, FreshMsg, SendMsg, CloseMsg, ResetMsg, Bye, EventMsg, OverMsg, NoMore}
use Rattle.sw_past.specs.Views.{for_hand}
use Rattle.sw_hand_laws.specs.Hand.{Got, Start, Took, Empty, Pushed, Full, Nothing, Ports, Stage, Idle, Acting, Sending, Leaving, Stopping, Stopped, Hand, goodbye, goodbyes, settle, skip, full, sending, leaving, stop_if, stopping, go_if, may_stop, took_event, took_turn, idle_turn, make, turn}
use Rattle.sw_hand_laws.specs.Kept.{PushFits, GotFits, taken, sent}
use Rattle.sw_hand_laws.specs.Moved.{PortsFit, Moved, Waits, Answers, Aims, Sends, Fulls, Hears, Skips, Overs, Leaves, Lefts, Stops, Nones, SkipStops, SkipNones, Nexts, Lasts}
use Rattle.sw_hand_laws.proofs.Moves.{turn_moves}

-- the same mail
abbrev pub SameMail : Hand → Hand → Type 0
SameMail h g = (g.took ≡ h.took) × (g.pushed ≡ h.pushed)

abbrev IsActing : Stage → Type 0
IsActing (Acting e act) = Unit {0}
IsActing _ = ⊥

-- an act's turn takes and pushes nothing
acting_mail : (t : Terms) (y : ActorId) (c : ℕ) (a b : Stage) (f g : Hand) → Moved t y c a f b g → IsActing a → SameMail f g
acting_mail t y c a b f g (Waits st h) i = (refl, refl)
acting_mail t y c a b f g (Answers h e act after an next m s k) i = (refl, refl)
acting_mail t y c a b f g (Aims h e act after to m an k n r) i = (refl, refl)
acting_mail t y c a b f g (Sends h e act to m an next) i = absurd i
acting_mail t y c a b f g (Fulls h e d x to m an after next) i = absurd i
acting_mail t y c a b f g (Hears h from e act k) i = absurd i
acting_mail t y c a b f g (Skips h from m k) i = absurd i
acting_mail t y c a b f g (Overs h e k) i = (refl, refl)
acting_mail t y c a b f g (Leaves h e to m k) i = (refl, refl)
acting_mail t y c a b f g (Lefts h e to m) i = absurd i
acting_mail t y c a b f g (Stops h) i = absurd i
acting_mail t y c a b f g (Nones h) i = absurd i
acting_mail t y c a b f g (SkipStops h from m k) i = absurd i
acting_mail t y c a b f g (SkipNones h from m k) i = absurd i
acting_mail t y c a b f g (Nexts h j) i = absurd i
acting_mail t y c a b f g (Lasts h j) i = absurd i

-- what the turn came to has this mail
abbrev pub Mailed : Terms → Stage → Hand → Got → Hand → Type 0
Mailed t st h got g = (g.took ≡ taken got h.took) × (g.pushed ≡ sent t st got h.pushed)

nothing_mailed : (t : Terms) (st : Stage) (h g : Hand) (got : Got) → got ≡ Nothing → SameMail h g → Mailed t st h got g
nothing_mailed t st h g Nothing q m = m
nothing_mailed t st h g Start q m = absurd (cc)
nothing_mailed t st h g (Took x n) q m = absurd (cc)
nothing_mailed t st h g Empty q m = absurd (cc)
nothing_mailed t st h g Pushed q m = absurd (cc)
nothing_mailed t st h g (Full n) q m = absurd (cc)

full_mail : (h : Hand) (e : Event) (act : Act) (to : ActorId) (m : Message) (a : Answer) (next : Act) → SameMail h (full h e act to m a next).hand
full_mail h e (TaskAct d b) to m a next = (refl, refl)
full_mail h e (Send s b) to m a next = (refl, refl)
full_mail h e (Close s) to m a next = (refl, refl)
full_mail h e (Reset s) to m a next = (refl, refl)
full_mail h e (Bind s u) to m a next = (refl, refl)
full_mail h e (Exist s) to m a next = (refl, refl)
full_mail h e (Info s) to m a next = (refl, refl)
full_mail h e (FinishAct b) to m a next = (refl, refl)
full_mail h e (Table c) to m a next = (refl, refl)
full_mail h e (Stats c) to m a next = (refl, refl)
full_mail h e Shutdown to m a next = (refl, refl)
full_mail h e Done to m a next = (refl, refl)

stop_mail : (t : Terms) (g : Hand) (k : ℕ) (v : Bool) → SameMail g (stop_if t g k v).hand
stop_mail t g k true = (refl, refl)
stop_mail t g k false = (refl, refl)

go_mail : (t : Terms) (y : ActorId) (g : Hand) (v : Bool) → SameMail g (go_if t y g v).hand
go_mail t y g true = stop_mail t g 0 (ltb 0 (goodbyes t y))
go_mail t y g false = (refl, refl)

event_mail : (t : Terms) (y : ActorId) (c : ℕ) (h : Hand) (from : ActorId) (e : Event) (act : Act) (es : List Event) → Mailed t Idle h (Took from (EventMsg e)) (took_event t y c h from e act es).hand
event_mail t y c h from e act [] = go_mail t y (skip h from (EventMsg e)) (may_stop t y (skip h from (EventMsg e)))
event_mail t y c h from e act (f ∷ fs) = (refl, refl)

took_mail : (t : Terms) (y : ActorId) (c : ℕ) (h : Hand) (from : ActorId) (act : Act) (m : Message) → Mailed t Idle h (Took from m) (took_turn t y c h from act m).hand
took_mail t y c h from act (EventMsg e) = event_mail t y c h from e act (for_hand y e)
took_mail t y c h from act (FreshMsg ip s) = go_mail t y (skip h from (FreshMsg ip s)) (may_stop t y (skip h from (FreshMsg ip s)))
took_mail t y c h from act (SendMsg s b) = go_mail t y (skip h from (SendMsg s b)) (may_stop t y (skip h from (SendMsg s b)))
took_mail t y c h from act (CloseMsg s) = go_mail t y (skip h from (CloseMsg s)) (may_stop t y (skip h from (CloseMsg s)))
took_mail t y c h from act (ResetMsg s) = go_mail t y (skip h from (ResetMsg s)) (may_stop t y (skip h from (ResetMsg s)))
took_mail t y c h from act (Bye s) = go_mail t y (skip h from (Bye s)) (may_stop t y (skip h from (Bye s)))
took_mail t y c h from act (OverMsg id) = go_mail t y (skip h from (OverMsg id)) (may_stop t y (skip h from (OverMsg id)))
took_mail t y c h from act NoMore = go_mail t y (skip h from NoMore) (may_stop t y (skip h from NoMore))

idle_mail : (t : Terms) (y : ActorId) (c : ℕ) (h : Hand) (p : Ports) (got : Got) → GotFits t Idle got → Mailed t Idle h got (idle_turn t y c h p got).hand
idle_mail t y c h p (Took from m) f = took_mail t y c h from p.act m
idle_mail t y c h p Empty f = (refl, refl)
idle_mail t y c h p Start f = go_mail t y h (may_stop t y h)
idle_mail t y c h p Nothing f = go_mail t y h (may_stop t y h)
idle_mail t y c h p Pushed f = absurd f
idle_mail t y c h p (Full m) f = absurd f

sending_mail : (t : Terms) (h : Hand) (e : Event) (act : Act) (to : ActorId) (m : Message) (a : Answer) (p : Ports) (got : Got) → PushFits t to m got → Mailed t (Sending e act to m a) h got (sending h e act to m a p got).hand
sending_mail t h e act to m a p Pushed f = (refl, refl)
sending_mail t h e act to m a p (Full n) f = full_mail h e act to n a p.act
sending_mail t h e act to m a p Start f = absurd f
sending_mail t h e act to m a p (Took x n) f = absurd f
sending_mail t h e act to m a p Empty f = absurd f
sending_mail t h e act to m a p Nothing f = absurd f

leaving_mail : (t : Terms) (h : Hand) (e : Event) (to : ActorId) (m : Message) (got : Got) → PushFits t to m got → Mailed t (Leaving e to m) h got (leaving t h e to m got).hand
leaving_mail t h e to m Pushed f = (refl, refl)
leaving_mail t h e to m (Full n) f = (refl, refl)
leaving_mail t h e to m Start f = absurd f
leaving_mail t h e to m (Took x n) f = absurd f
leaving_mail t h e to m Empty f = absurd f
leaving_mail t h e to m Nothing f = absurd f

stopping_mail : (t : Terms) (y : ActorId) (h : Hand) (k : ℕ) (got : Got) → PushFits t (goodbye t k) NoMore got → Mailed t (Stopping k) h got (stopping t y h k got).hand
stopping_mail t y h k Pushed f = stop_mail t (settle h (goodbye t k) NoMore) (suc k) (ltb (suc k) (goodbyes t y))
stopping_mail t y h k (Full n) f = (refl, refl)
stopping_mail t y h k Start f = absurd f
stopping_mail t y h k (Took x n) f = absurd f
stopping_mail t y h k Empty f = absurd f
stopping_mail t y h k Nothing f = absurd f

pub turn_mail : (t : Terms) (y : ActorId) (c : ℕ) (p : Ports) (st : Stage) (h : Hand) (got : Got) → PortsFit t st h p → GotFits t st got → Mailed t st h got (turn t y c p st h got).hand
turn_mail t y c p Idle h got u f = idle_mail t y c h p got f
turn_mail t y c p (Acting e act) h got u f = nothing_mailed t (Acting e act) h (make t y h e p act).hand got f (acting_mail t y c (Acting e act) (make t y h e p act).stage h (make t y h e p act).hand (turn_moves t y c p (Acting e act) h got u f) tt)
turn_mail t y c p (Sending e act to m a) h got u f = sending_mail t h e act to m a p got f
turn_mail t y c p (Leaving e to m) h got u f = leaving_mail t h e to m got f
turn_mail t y c p (Stopping k) h got u f = stopping_mail t y h k got f
turn_mail t y c p Stopped h got u f = absurd f
