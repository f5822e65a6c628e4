-- Each step keeps what is said of NoMore.
use Rattle.std.proofs.Common.{◌≡◌, ℕ, ◌+◌, ◌-◌, ltb, ◌<◌, ◌≤◌, Bool, true, false, if◌then◌else◌, List, [], ◌∷◌, ◌++◌, length, refl, ap, ◌∙◌, sym, subst, append-nil, append_assoc, arith, inl, inr, zero, suc}
use Rattle.std.proofs.lemmas.Bool.Decides.{nat_tests}
use Rattle.std.proofs.lemmas.Bool.{cases_lt}
use Rattle.sw_lists.specs.Lists.{collect, Each, when}
use Rattle.sw_lists.proofs.Lists.{collect-append, each_append, length_append, eq_other, append_none, equal_or_not, each_more}
use Rattle.sw_step.specs.declared.actor.ActorId.{ActorId}
use Rattle.sw_step.specs.declared.actor.ActorId.TheVariants.{Door, Reactor, Worker, Tasker}
use Rattle.sw_step.specs.Actors.{is}
use Rattle.sw_record.specs.Words.{Event, Connect, Packet, Closed, Finish, Task, Act, Answer, Given}
use Rattle.sw_record.specs.Terms.{Terms, reactor_of}
use Rattle.sw_past.specs.Messages.{Message, FreshMsg, EventMsg, NoMore, OverMsg, Bye, SendMsg, CloseMsg, ResetMsg}
use Rattle.sw_past.specs.Routes.{MayPush, IsRouted}
use Rattle.sw_past.specs.Past.{Mail, bare, of}
use Rattle.sw_past.specs.Views.{no_more}
use Rattle.sw_join.specs.Drained.{LastMarked}
use Rattle.sw_join.proofs.Routes.{is_refl, is_same}
use Rattle.sw_hand_laws.specs.Hand.{Hand, Seen, Stage, Idle, Acting, Sending, Leaving, Stopping, Stopped, say, hear, skip, settle, answered, left_event, goodbye, goodbyes}
use Rattle.sw_hand_laws.specs.Keeps.{Carried, CSend, CClose, CReset, CPost, CGive}
use Rattle.sw_hand_laws.specs.Ending.{given, farewell, MayStop, Stops, Ending}
use Rattle.sw_hand_laws.proofs.Ends.{bare_collect, of_more, of_collect, of_append, none_here, all_marked}

-- steps that push nothing, from an event to an event or to none
pub ending_stage : (t : Terms) (y : ActorId) (st other : Stage) (h : Hand) → given t y st ≡ given t y other → Stops t y other h → Ending t y st h → Ending t y other h
ending_stage t y st other h q s k = record { counted = k.counted; work = k.work; split = k.split ∙ ap (λ n. k.work ++ farewell t n) q; quiet = k.quiet; stops = s }

pub ending_say : (t : Terms) (y : ActorId) (st : Stage) (h : Hand) (seen : Seen) (g : Given) (a : Act) → Ending t y st h → Ending t y st (say (record h { seen = seen }) g a)
ending_say t y st h seen g a k = record { counted = k.counted; work = k.work; split = k.split; quiet = k.quiet; stops = stops_same st k.stops }
  where
    stops_same : (x : Stage) → Stops t y x h → Stops t y x (say (record h { seen = seen }) g a)
    stops_same Idle s = s
    stops_same (Acting e b) s = s
    stops_same (Sending e b to m c) s = s
    stops_same (Leaving e to m) s = s
    stops_same (Stopping n) s = s
    stops_same Stopped s = s

pub ending_seen : (t : Terms) (y : ActorId) (e : Event) (act : Act) (h : Hand) (seen : Seen) → Ending t y (Acting e act) h → Ending t y (Acting e act) (record h { seen = seen })
ending_seen t y e act h seen k = record { counted = k.counted; work = k.work; split = k.split; quiet = k.quiet; stops = tt }

-- a message that isn't NoMore is settled
pub push_work : (pushed work : Mail) (to : ActorId) (m : Message) → pushed ≡ work ++ [] → pushed ++ (to, m) ∷ [] ≡ (work ++ (to, m) ∷ []) ++ []
push_work pushed work to m q = ap (λ (ms : Mail). ms ++ (to, m) ∷ []) (q ∙ append-nil work) ∙ sym (append-nil (work ++ (to, m) ∷ []))

pub carried_not : (t : Terms) (y : ActorId) (next : ℕ) (e : Event) (act : Act) (to : ActorId) (m : Message) (a : Answer) → Carried t y next e act to m a → no_more m ≡ []
carried_not t y next e act to m a (CSend s b) = refl
carried_not t y next e act to m a (CClose s) = refl
carried_not t y next e act to m a (CReset s) = refl
carried_not t y next e act to m a (CPost w k d b q f r) = refl
carried_not t y next e act to m a (CGive w id c b q) = refl

pub ending_answered : (t : Terms) (y : ActorId) (h : Hand) (e : Event) (act : Act) (to : ActorId) (m : Message) (a : Answer) (next : Act) → no_more m ≡ [] → Ending t y (Sending e act to m a) h → Ending t y (Acting e next) (answered h to m a next)
ending_answered t y h e act to m a next n k = record { counted = k.counted; work = k.work ++ (to, m) ∷ []; split = push_work h.pushed k.work to m k.split; quiet = each_append (λ (p : ActorId × Message). no_more p.1 ≡ []) k.work ((to, m) ∷ []) k.quiet (n, tt); stops = tt }

pub ending_left : (t : Terms) (y : ActorId) (h : Hand) (e : Event) (to : ActorId) (m : Message) → no_more m ≡ [] → Ending t y (Leaving e to m) h → Ending t y Idle (left_event t h e to m)
ending_left t y h e to m n k = record { counted = k.counted; work = k.work ++ (to, m) ∷ []; split = push_work h.pushed k.work to m k.split; quiet = each_append (λ (p : ActorId × Message). no_more p.1 ≡ []) k.work ((to, m) ∷ []) k.quiet (n, tt); stops = tt }

pub ending_hear : (t : Terms) (y : ActorId) (c : ℕ) (h : Hand) (from : ActorId) (e : Event) (act : Act) → Ending t y Idle h → Ending t y (Acting e act) (hear t c h from e act)
ending_hear t y c h from e act k = record { counted = k.counted ∙ ap length (sym (bare_collect no_more h.took from (EventMsg e) ∙ append-nil (collect no_more (bare h.took)))); work = k.work; split = k.split; quiet = k.quiet; stops = tt }

pub ending_skip : (t : Terms) (y : ActorId) (h : Hand) (from : ActorId) (m : Message) → Ending t y Idle h → Ending t y Idle (skip h from m)
ending_skip t y h from m k = record { counted = omega (arith, k.counted, ap length (bare_collect no_more h.took from m), length_append (collect no_more (bare h.took)) (no_more m)); work = k.work; split = k.split; quiet = k.quiet; stops = tt }

-- NoMore goes to each in order
pub ending_stop : (t : Terms) (y : ActorId) (h : Hand) → MayStop t y h → Ending t y Idle h → Ending t y (Stopping 0) h
ending_stop t y h s k = record { counted = k.counted; work = k.work; split = k.split; quiet = k.quiet; stops = s }

pub ending_none : (t : Terms) (y : ActorId) (h : Hand) → goodbyes t y ≡ 0 → MayStop t y h → Ending t y Idle h → Ending t y Stopped h
ending_none t y h q s k = record { counted = k.counted; work = k.work; split = k.split ∙ ap (λ n. k.work ++ farewell t n) (sym q); quiet = k.quiet; stops = s }

pub next_split : (t : Terms) (pushed work : Mail) (k : ℕ) → pushed ≡ work ++ farewell t k → pushed ++ (goodbye t k, NoMore) ∷ [] ≡ work ++ farewell t (suc k)
next_split t pushed work k q = ap (λ (ms : Mail). ms ++ (goodbye t k, NoMore) ∷ []) q ∙ append_assoc work (farewell t k) ((goodbye t k, NoMore) ∷ [])

pub ending_next : (t : Terms) (y : ActorId) (h : Hand) (k : ℕ) → Ending t y (Stopping k) h → Ending t y (Stopping (suc k)) (settle h (goodbye t k) NoMore)
ending_next t y h k s = record { counted = s.counted; work = s.work; split = next_split t h.pushed s.work k s.split; quiet = s.quiet; stops = s.stops }

pub ending_last : (t : Terms) (y : ActorId) (h : Hand) (k : ℕ) → suc k ≡ goodbyes t y → Ending t y (Stopping k) h → Ending t y Stopped (settle h (goodbye t k) NoMore)
ending_last t y h k q s = record { counted = s.counted; work = s.work; split = next_split t h.pushed s.work k s.split ∙ ap (λ n. s.work ++ farewell t n) q; quiet = s.quiet; stops = s.stops }

-- at most one NoMore goes to each
apart_if : (t : Terms) (n k : ℕ) (u v : Bool) → ltb n t.reactor_num ≡ u → ltb k t.reactor_num ≡ v → n < k → is (if u then Reactor n else Tasker (n - t.reactor_num)) (if v then Reactor k else Tasker (k - t.reactor_num)) ≡ false
apart_if t n k true true p q lt = eq_other n k (λ e. absurd (omega (arith, e)))
apart_if t n k true false p q lt = refl
apart_if t n k false true p q lt = refl
apart_if t n k false false p q lt = eq_other (n - t.reactor_num) (k - t.reactor_num) (λ e. absurd (grind (arith, nat_tests)))

none_before : (t : Terms) (k n : ℕ) → n ≤ k → of (goodbye t k) (farewell t n) ≡ []
none_before t k zero le = refl
none_before t k (suc n) le = of_more (goodbye t k) (farewell t n) (goodbye t n) NoMore ∙ ap (λ (ms : List Message). ms ++ when (is (goodbye t n) (goodbye t k)) NoMore) (none_before t k n (omega (arith, le))) ∙ ap (λ v. when v NoMore) (apart_if t n k (ltb n t.reactor_num) (ltb k t.reactor_num) refl refl (omega (arith, le)))

farewell_once : (t : Terms) (z : ActorId) (n : ℕ) → length (collect no_more (of z (farewell t n))) ≤ 1
farewell_once t z zero = omega arith
farewell_once t z (suc n) = pick (is (goodbye t n) z) refl (farewell_once t z n)
  where
    pick : (v : Bool) → is (goodbye t n) z ≡ v → length (collect no_more (of z (farewell t n))) ≤ 1 → length (collect no_more (of z (farewell t (suc n)))) ≤ 1
    pick true q less = (let same : goodbye t n ≡ z = is_same (goodbye t n) z q in let none : of z (farewell t n) ≡ [] = subst (λ x. of x (farewell t n) ≡ []) same (none_before t n n (omega arith)) in omega (arith, ap length (of_collect no_more z (farewell t n) (goodbye t n) NoMore), length_append (collect no_more (of z (farewell t n))) (collect no_more (when (is (goodbye t n) z) NoMore)), ap (λ ms. length (collect no_more ms)) none, ap (λ v. length (collect no_more (when v NoMore))) q))
    pick false q less = omega (arith, less, ap length (of_collect no_more z (farewell t n) (goodbye t n) NoMore), length_append (collect no_more (of z (farewell t n))) (collect no_more (when (is (goodbye t n) z) NoMore)), ap (λ v. length (collect no_more (when v NoMore))) q)

work_none : (z : ActorId) (work : Mail) → Each (λ (p : ActorId × Message). no_more p.1 ≡ []) work → collect no_more (of z work) ≡ []
work_none z [] h = refl
work_none z (p ∷ work) h = collect-append no_more (when (is p.0 z) p.1) (of z work) ∙ ap (λ (ns : List ℕ). ns ++ collect no_more (of z work)) (none_here no_more (is p.0 z) p.1 h.0) ∙ work_none z work h.1

pub once_of : (t : Terms) (z : ActorId) (work pushed : Mail) (n : ℕ) → pushed ≡ work ++ farewell t n → Each (λ (p : ActorId × Message). no_more p.1 ≡ []) work → length (collect no_more (of z pushed)) ≤ 1
once_of t z work pushed n q quiet = omega (arith, farewell_once t z n, ap (λ ms. length (collect no_more (of z ms))) q, ap (λ ms. length (collect no_more ms)) (of_append z work (farewell t n)), ap length (collect-append no_more (of z work) (of z (farewell t n))), length_append (collect no_more (of z work)) (collect no_more (of z (farewell t n))), ap length (work_none z work quiet))

pub no_more_once : (t : Terms) (y : ActorId) (st : Stage) (h : Hand) (z : ActorId) → Ending t y st h → length (collect no_more (of z h.pushed)) ≤ 1
no_more_once t y st h z k = once_of t z k.work h.pushed (given t y st) k.split k.quiet

-- the last that goes to a task worker is NoMore
farewell_marks : (t : Terms) (z : ActorId) (n : ℕ) → Each (λ m. ¬ (no_more m ≡ [])) (of z (farewell t n))
farewell_marks t z zero = tt
farewell_marks t z (suc n) = subst (Each (λ m. ¬ (no_more m ≡ []))) (sym (of_more z (farewell t n) (goodbye t n) NoMore)) (each_append (λ m. ¬ (no_more m ≡ [])) (of z (farewell t n)) (when (is (goodbye t n) z) NoMore) (farewell_marks t z n) (pick (is (goodbye t n) z)))
  where
    pick : (v : Bool) → Each (λ m. ¬ (no_more m ≡ [])) (when v NoMore)
    pick true = ((λ e. absurd (cc)), tt)
    pick false = tt

farewell_has : (t : Terms) (k n : ℕ) → k < n → ¬ (of (goodbye t k) (farewell t n) ≡ [])
farewell_has t k zero lt e = absurd (omega (arith, lt))
farewell_has t k (suc n) lt e = elim (equal_or_not k n) [
  | inl q ↦ (let here : when (is (goodbye t n) (goodbye t k)) NoMore ≡ NoMore ∷ [] = subst (λ j. when (is (goodbye t n) (goodbye t j)) NoMore ≡ NoMore ∷ []) (sym q) (ap (λ v. when v NoMore) (is_refl (goodbye t n))) in absurd (let z : NoMore ∷ [] ≡ [] = sym here ∙ (append_none (of (goodbye t k) (farewell t n)) (when (is (goodbye t n) (goodbye t k)) NoMore) (sym (of_more (goodbye t k) (farewell t n) (goodbye t n) NoMore) ∙ e)).1 in cc))
  | inr ne ↦ farewell_has t k n (omega (arith, lt, ne)) (append_none (of (goodbye t k) (farewell t n)) (when (is (goodbye t n) (goodbye t k)) NoMore) (sym (of_more (goodbye t k) (farewell t n) (goodbye t n) NoMore) ∙ e)).0
]

marked_end : (f : Message → List ℕ) (xs ms : List Message) → ¬ (ms ≡ []) → Each (λ x. ¬ (f x ≡ [])) ms → LastMarked f (xs ++ ms)
marked_end f xs [] n h = absurd (n refl)
marked_end f xs (m ∷ ms) n h = all_marked f xs m ms h

tasker_of : (t : Terms) (k : ℕ) → goodbye t (t.reactor_num + k) ≡ Tasker k
tasker_of t k = pick (ltb (t.reactor_num + k) t.reactor_num) refl
  where
    pick : (v : Bool) → ltb (t.reactor_num + k) t.reactor_num ≡ v → (if v then Reactor (t.reactor_num + k) else Tasker ((t.reactor_num + k) - t.reactor_num)) ≡ Tasker k
    pick true q = absurd (grind (arith, nat_tests))
    pick false q = ap Tasker (omega arith)

pub worker_last : (t : Terms) (w : ℕ) (h : Hand) (k : ℕ) → k < t.tasker_num → Ending t (Worker w) Stopped h → LastMarked no_more (of (Tasker k) h.pushed)
worker_last t w h k lt e = subst (LastMarked no_more) (sym (ap (of (Tasker k)) e.split ∙ of_append (Tasker k) e.work (farewell t (t.reactor_num + t.tasker_num)))) (marked_end no_more (of (Tasker k) e.work) (of (Tasker k) (farewell t (t.reactor_num + t.tasker_num))) (subst (λ (z : ActorId). ¬ (of z (farewell t (t.reactor_num + t.tasker_num)) ≡ [])) (tasker_of t k) (farewell_has t (t.reactor_num + k) (t.reactor_num + t.tasker_num) (omega (arith, lt)))) (farewell_marks t (Tasker k) (t.reactor_num + t.tasker_num)))

-- no task goes to a task worker that isn't there
end_alone : (t : Terms) (w k : ℕ) (m : Message) → ¬ (k < t.tasker_num) → MayPush t (Worker w) (Tasker k) m → ¬ (no_more m ≡ [])
end_alone t w k NoMore n r e = absurd (cc)
end_alone t w k (FreshMsg ip s) n r e = absurd (let q : Worker w ≡ Door = r.0 in cc)
end_alone t w k (SendMsg s b) n r e = absurd (let q : Tasker k ≡ Reactor (reactor_of t s) = r.1 in cc)
end_alone t w k (CloseMsg s) n r e = absurd (let q : Tasker k ≡ Reactor (reactor_of t s) = r.1 in cc)
end_alone t w k (ResetMsg s) n r e = absurd (let q : Tasker k ≡ Reactor (reactor_of t s) = r.1 in cc)
end_alone t w k (Bye s) n r e = absurd (let q : Tasker k ≡ Reactor (reactor_of t s) = r.1 in cc)
end_alone t w k (OverMsg id) n r e = absurd (let q : Worker w ≡ Tasker r.0.0 = r.0.1.1 in cc)
end_alone t w k (EventMsg (Connect s)) n r e = absurd (let q : Worker w ≡ Reactor (reactor_of t s) = r.0 in cc)
end_alone t w k (EventMsg (Packet s i b)) n r e = absurd (let q : Worker w ≡ Reactor (reactor_of t s) = r.0 in cc)
end_alone t w k (EventMsg (Closed s)) n r e = absurd (let q : Worker w ≡ Reactor (reactor_of t s) = r.0 in cc)
end_alone t w k (EventMsg (Finish id b)) n r e = absurd (let q : Worker w ≡ Tasker r.0.0 = r.0.1.1 in cc)
end_alone t w k (EventMsg (Task v id b)) n r e = absurd (let q : k ≡ r.1.0 = (let s : Tasker k ≡ Tasker r.1.0 = r.1.1.1 in cc) in n (subst (λ j. j < t.tasker_num) (sym q) r.1.1.0))

of_those : (P : Message → Type 0) (x : ActorId) (ms : Mail) → Each (λ (p : ActorId × Message). p.0 ≡ x → P p.1) ms → Each P (of x ms)
of_those P x [] h = tt
of_those P x (p ∷ ms) h = pick (is p.0 x) refl (of_those P x ms h.1)
  where
    pick : (v : Bool) → is p.0 x ≡ v → Each P (of x ms) → Each P (when v p.1 ++ of x ms)
    pick true q rest = (h.0 (is_same p.0 x q), rest)
    pick false q rest = rest

all_end : (f : Message → List ℕ) (xs : List Message) → Each (λ x. ¬ (f x ≡ [])) xs → LastMarked f xs
all_end f [] h = tt
all_end f (x ∷ xs) h = all_marked f [] x xs h

pub worker_last_any : (t : Terms) (w : ℕ) (h : Hand) (k : ℕ) → IsRouted t (Worker w) h.pushed → Ending t (Worker w) Stopped h → LastMarked no_more (of (Tasker k) h.pushed)
worker_last_any t w h k r e = elim (cases_lt k t.tasker_num) [
  | inl lt ↦ worker_last t w h k lt e
  | inr ge ↦ all_end no_more (of (Tasker k) h.pushed) (each_more (λ m. MayPush t (Worker w) (Tasker k) m) (λ m. ¬ (no_more m ≡ [])) (of (Tasker k) h.pushed) (λ m p. end_alone t w k m (λ lt. absurd (omega (arith, ge, lt))) p) (of_those (λ m. MayPush t (Worker w) (Tasker k) m) (Tasker k) h.pushed (each_more (λ (p : ActorId × Message). MayPush t (Worker w) p.0 p.1) (λ (p : ActorId × Message). p.0 ≡ Tasker k → MayPush t (Worker w) (Tasker k) p.1) h.pushed (λ p a q. subst (λ (z : ActorId). MayPush t (Worker w) z p.1) q a) r)))
]
