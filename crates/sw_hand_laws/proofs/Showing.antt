-- Each step keeps what the log shows of the ports.
use Rattle.std.proofs.Common.{◌≡◌, ◌⊎◌, ℕ, ◌%◌, ◌==◌, Bool, true, false, if◌then◌else◌, List, [], ◌∷◌, ◌++◌, length, refl, ap, ◌∙◌, sym, subst, append-nil, arith, Option, Some, None, slice_get, inl, inr, zero, suc}
use Rattle.sw_lists.specs.Lists.{collect, Each, when, IsPrefix, Has}
use Rattle.sw_lists.proofs.Lists.{each_append, each_more, append_none}
use Rattle.sw_step.specs.declared.actor.ActorId.{ActorId}
use Rattle.sw_record.specs.Words.{Event, Connect, Packet, Closed, Finish, Task, Act, Close, Reset, Done, Answer, Asked, Given, EventGiven, AnswerGiven, Log}
use Rattle.sw_record.specs.Terms.{Terms, keeps}
use Rattle.sw_record.specs.Logs.{told_of, of_session, event_of, events_of}
use Rattle.sw_record.specs.Answers.{answers_of, answer_to}
use Rattle.sw_record.specs.Causes.{granted, refused, IsAsked, task_full}
use Rattle.sw_record.specs.Uids.{bind_in, bound_in, info_in}
use Rattle.sw_record.specs.Places.{place_in, busy_in, spent_in}
use Rattle.sw_record.specs.Counts.{count_in}
use Rattle.sw_record.specs.Fits.{is_some, is_of, is_own, at_fd, own_with, own_behind, own_without}
use Rattle.sw_past.specs.Messages.{Message, FreshMsg, SendMsg, CloseMsg, ResetMsg, Bye, EventMsg, OverMsg, NoMore}
use Rattle.sw_past.specs.Past.{Mail}
use Rattle.sw_past.specs.Said.{last_after}
use Rattle.sw_join.specs.Causes.{AskLaw}
use Rattle.sw_join.proofs.Own.{own}
use Rattle.sw_hand_laws.specs.Hand.{Hand, Seen, Stage, Idle, Acting, Sending, Leaving, say, hear, skip, settle, answered, left_event}
use Rattle.sw_hand_laws.specs.Keeps.{Carried, CSend, CClose, CReset, CPost, CGive, now}
use Rattle.sw_hand_laws.specs.Shows.{Granted, Found, IsAnswered, Asks, Pending, Showing, onto, Noted, stop_in}
use Rattle.sw_hand_laws.proofs.Ends.{one_more, answers_more, told_same, at_end, stays}

-- one more entry
shown : {B : Type 0} (f : Act × Answer → List B) (log : Log) (act : Act) (a : Answer) (next : Act) → last_after Done log ≡ act → collect f (answers_of (log ++ (AnswerGiven a, next) ∷ [])) ≡ collect f (answers_of log) ++ f (act, a)
shown f log act a next q = ap (collect f) (answers_more log (AnswerGiven a) next ∙ ap (λ (x : Act). answers_of log ++ answer_to x (AnswerGiven a)) q) ∙ one_more f (answers_of log) (act, a)

shown_event : {B : Type 0} (f : Act × Answer → List B) (log : Log) (e : Event) (next : Act) → collect f (answers_of (log ++ (EventGiven e, next) ∷ [])) ≡ collect f (answers_of log)
shown_event f log e next = ap (collect f) (answers_more log (EventGiven e) next ∙ append-nil (answers_of log))

pub told_more : (s : ℕ) (log : Log) (e : Event) (act : Act) → told_of s (log ++ (EventGiven e, act) ∷ []) ≡ told_of s log ++ of_session s e
told_more s log e act = ap (collect (of_session s)) (one_more event_of log (EventGiven e, act)) ∙ one_more (of_session s) (events_of log) e

pub told_still : (s : ℕ) (log : Log) (a : Answer) (act : Act) → told_of s (log ++ (AnswerGiven a, act) ∷ []) ≡ told_of s log
told_still s log a act = ap (collect (of_session s)) (told_same log a act)

pub onto_is : {A : Type 0} (xs ys : List A) → onto xs ys ≡ xs ++ ys
onto_is xs [] = sym (append-nil xs)
onto_is xs (y ∷ ys) = refl

has_more : {A : Type 0} (x : A) (xs ys : List A) → IsPrefix xs ys → Has x xs → Has x ys
has_more x xs ys (rest, q) (at, e) = (at, subst (λ zs. slice_get zs at ≡ Some x) q (stays xs rest at x e))

told_still_not : (s : ℕ) (log : Log) (a : Answer) (act : Act) → ¬ (told_of s log ≡ []) → ¬ (told_of s (log ++ (AnswerGiven a, act) ∷ []) ≡ [])
told_still_not s log a act n e = n (sym (told_still s log a act) ∙ e)

told_more_not : (s : ℕ) (log : Log) (e : Event) (act : Act) → ¬ (told_of s log ≡ []) → ¬ (told_of s (log ++ (EventGiven e, act) ∷ []) ≡ [])
told_more_not s log e act n q = n (append_none (told_of s log) (of_session s e) (sym (told_more s log e act) ∙ q)).0

grant_more : (log : Log) (seen after : Seen) (s : ℕ) → IsPrefix seen.lives after.lives → Granted log seen s → Granted log after s
grant_more log seen after s p (inl h) = inl (has_more s seen.lives after.lives p h)
grant_more log seen after s p (inr n) = inr n

grant_said : (log : Log) (seen : Seen) (a : Answer) (act : Act) (s : ℕ) → Granted log seen s → Granted (log ++ (AnswerGiven a, act) ∷ []) seen s
grant_said log seen a act s (inl h) = inl h
grant_said log seen a act s (inr n) = inr (told_still_not s log a act n)

grant_heard : (log : Log) (seen : Seen) (e : Event) (act : Act) (s : ℕ) → Granted log seen s → Granted (log ++ (EventGiven e, act) ∷ []) seen s
grant_heard log seen e act s (inl h) = inl h
grant_heard log seen e act s (inr n) = inr (told_more_not s log e act n)

found_more : (t : Terms) (seen after : Seen) (p : ℕ × (ℕ × ℕ)) → IsPrefix seen.infos after.infos → Found t seen p → Found t after p
found_more t seen after p q (d, inl z) = (d, inl z)
found_more t seen after p q (d, inr h) = (d, inr (has_more (p.0, p.1.1) seen.infos after.infos q h))

-- asks
answered_more : (log more : Log) (act : Act) → IsAnswered log act → IsAnswered (log ++ more) act
answered_more log more act (at, (given, (next, (e, f)))) = (at, (given, (next, (stays log more at (given, act) e, stays log more (suc at) (AnswerGiven Asked, next) f))))

asks_more : (log more : Log) (m : Message) → Asks log m → Asks (log ++ more) m
asks_more log more (CloseMsg s) h = answered_more log more (Close s) h
asks_more log more (ResetMsg s) h = answered_more log more (Reset s) h
asks_more log more (FreshMsg ip s) h = tt
asks_more log more (SendMsg s b) h = tt
asks_more log more (Bye s) h = tt
asks_more log more (EventMsg e) h = tt
asks_more log more (OverMsg id) h = tt
asks_more log more NoMore h = tt

all_ask_more : (log more : Log) (pushed : Mail) → Each (λ (p : ActorId × Message). Asks log p.1) pushed → Each (λ (p : ActorId × Message). Asks (log ++ more) p.1) pushed
all_ask_more log more pushed h = each_more (λ (p : ActorId × Message). Asks log p.1) (λ (p : ActorId × Message). Asks (log ++ more) p.1) pushed (λ p k. asks_more log more p.1 k) h

-- where the last act stands
pub last_at : (act : Act) (log : Log) (x : Act) → last_after act log ≡ x → ((log ≡ []) × (act ≡ x)) ⊎ ((at : ℕ) × ((g : Given) × ((slice_get log at ≡ Some (g, x)) × (suc at ≡ length log))))
last_at act [] x q = inl (refl, q)
last_at act ((g, a) ∷ []) x q = inr (0, (g, (ap (λ b. Some (g, b)) q, refl)))
last_at act ((g, a) ∷ (f, b) ∷ log) x q = elim (last_at a ((f, b) ∷ log) x q) [ inl n ↦ absurd (let r : (f, b) ∷ log ≡ [] = n.0 in cc) | inr (at, (k, (e, l))) ↦ inr (suc at, (k, (e, ap suc l))) ]

-- an answer at once
pub showing_at_once : (t : Terms) (h : Hand) (e : Event) (act : Act) (after : Seen) (a : Answer) (next : Act) → last_after Done h.log ≡ act → Noted t h.log h.seen act a after → Showing t (Acting e act) h → Showing t (Acting e next) (say (record h { seen = after }) (AnswerGiven a) next)
showing_at_once t h e act after a next q n k = record {
  passes = shown bind_in h.log act a next q ∙ ap (λ ps. ps ++ bind_in (act, a)) k.passes ∙ sym (onto_is h.seen.passes (bind_in (act, a))) ∙ sym n.passes;
  bounds = shown bound_in h.log act a next q ∙ ap (λ ps. ps ++ bound_in (act, a)) k.bounds ∙ sym (onto_is h.seen.bounds (bound_in (act, a))) ∙ sym n.bounds;
  others = shown refused h.log act a next q ∙ ap (λ ps. ps ++ refused (act, a)) k.others ∙ sym (onto_is h.seen.others (refused (act, a))) ∙ sym n.others;
  seat = shown place_in h.log act a next q ∙ ap (λ ps. ps ++ place_in (act, a)) k.seat ∙ sym (onto_is h.seen.seat (place_in (act, a))) ∙ sym n.seat;
  sums = shown count_in h.log act a next q ∙ ap (λ ps. ps ++ count_in (act, a)) k.sums ∙ sym (onto_is h.seen.sums (count_in (act, a))) ∙ sym n.sums;
  fulls = shown task_full h.log act a next q ∙ ap (λ ps. ps ++ task_full (act, a)) k.fulls ∙ sym (onto_is h.seen.fulls (task_full (act, a))) ∙ sym n.fulls;
  stops = shown stop_in h.log act a next q ∙ ap (λ ps. ps ++ stop_in (act, a)) k.stops ∙ sym (onto_is h.seen.stops (stop_in (act, a))) ∙ sym n.stops;
  busy = shown busy_in h.log act a next q ∙ ap (λ ps. ps ++ busy_in (act, a)) k.busy ∙ n.busy;
  spents = shown spent_in h.log act a next q ∙ ap (λ ps. ps ++ spent_in (act, a)) k.spents ∙ sym (onto_is h.seen.spents (spent_in (act, a))) ∙ sym n.spents;
  finds = subst (Each (Found t after)) (sym (shown info_in h.log act a next q)) (each_append (Found t after) (collect info_in (answers_of h.log)) (info_in (act, a)) (each_more (Found t h.seen) (Found t after) (collect info_in (answers_of h.log)) (λ p f. found_more t h.seen after p n.infos f) k.finds) n.finds);
  grants = subst (Each (Granted (h.log ++ (AnswerGiven a, next) ∷ []) after)) (sym (shown granted h.log act a next q)) (each_append (Granted (h.log ++ (AnswerGiven a, next) ∷ []) after) (collect granted (answers_of h.log)) (granted (act, a)) (each_more (Granted h.log h.seen) (Granted (h.log ++ (AnswerGiven a, next) ∷ []) after) (collect granted (answers_of h.log)) (λ s g. grant_said h.log after a next s (grant_more h.log h.seen after s n.lives g)) k.grants) (each_more (Granted h.log after) (Granted (h.log ++ (AnswerGiven a, next) ∷ []) after) (granted (act, a)) (λ s g. grant_said h.log after a next s g) n.grants));
  pending = tt;
  owned = λ s o. told_still_not s h.log a next (k.owned s o);
  current = λ s. ((λ o. told_still_not s h.log a next ((k.current s).0 o)), tt);
  asks = all_ask_more h.log ((AnswerGiven a, next) ∷ []) h.pushed k.asks;
}

pub showing_asked : (t : Terms) (h : Hand) (e : Event) (act : Act) (lives : List ℕ) (to : ActorId) (m : Message) (a : Answer) → IsPrefix h.seen.lives lives → Each (Granted h.log (record h.seen { lives = lives })) (granted (act, a)) → Showing t (Acting e act) h → Showing t (Sending e act to m a) (record h { seen = record h.seen { lives = lives } })
showing_asked t h e act lives to m a p g k = record {
  passes = k.passes;
  bounds = k.bounds;
  others = k.others;
  seat = k.seat;
  sums = k.sums;
  fulls = k.fulls;
  stops = k.stops;
  busy = k.busy;
  spents = k.spents;
  finds = k.finds;
  grants = each_more (Granted h.log h.seen) (Granted h.log (record h.seen { lives = lives })) (collect granted (answers_of h.log)) (λ s x. grant_more h.log h.seen (record h.seen { lives = lives }) s p x) k.grants;
  pending = each_append (Granted h.log (record h.seen { lives = lives })) (granted (act, a)) [] g tt;
  owned = k.owned;
  current = k.current;
  asks = k.asks;
}

-- the act's message is pushed
carried_nothing : (t : Terms) (y : ActorId) (next : ℕ) (e : Event) (act : Act) (to : ActorId) (m : Message) (a : Answer) → Carried t y next e act to m a → (bind_in (act, a) ≡ []) × ((bound_in (act, a) ≡ []) × ((refused (act, a) ≡ []) × ((place_in (act, a) ≡ []) × ((count_in (act, a) ≡ []) × (info_in (act, a) ≡ [])))))
carried_nothing t y next e act to m a (CSend s b) = (refl, (refl, (refl, (refl, (refl, refl)))))
carried_nothing t y next e act to m a (CClose s) = (refl, (refl, (refl, (refl, (refl, refl)))))
carried_nothing t y next e act to m a (CReset s) = (refl, (refl, (refl, (refl, (refl, refl)))))
carried_nothing t y next e act to m a (CPost w k d b q f r) = (refl, (refl, (refl, (refl, (refl, refl)))))
carried_nothing t y next e act to m a (CGive w id c b q) = (refl, (refl, (refl, (refl, (refl, refl)))))

carried_marks : (t : Terms) (y : ActorId) (next : ℕ) (e : Event) (act : Act) (to : ActorId) (m : Message) (a : Answer) → Carried t y next e act to m a → (task_full (act, a) ≡ []) × ((stop_in (act, a) ≡ []) × ((busy_in (act, a) ≡ []) × (spent_in (act, a) ≡ [])))
carried_marks t y next e act to m a (CSend s b) = (refl, (refl, (refl, refl)))
carried_marks t y next e act to m a (CClose s) = (refl, (refl, (refl, refl)))
carried_marks t y next e act to m a (CReset s) = (refl, (refl, (refl, refl)))
carried_marks t y next e act to m a (CPost w k d b q f r) = (refl, (refl, (refl, refl)))
carried_marks t y next e act to m a (CGive w id c b q) = (refl, (refl, (refl, refl)))

nothing_more : {B : Type 0} (f : Act × Answer → List B) (log : Log) (act : Act) (a : Answer) (next : Act) → last_after Done log ≡ act → f (act, a) ≡ [] → collect f (answers_of (log ++ (AnswerGiven a, next) ∷ [])) ≡ collect f (answers_of log)
nothing_more f log act a next q n = shown f log act a next q ∙ ap (λ ps. collect f (answers_of log) ++ ps) n ∙ append-nil (collect f (answers_of log))

is_answered : (log : Log) (act : Act) (next : Act) → ¬ (Done ≡ act) → last_after Done log ≡ act → IsAnswered (log ++ (AnswerGiven Asked, next) ∷ []) act
is_answered log act next n q = elim (last_at Done log act q) [ inl z ↦ absurd (n z.1) | inr (at, (g, (e, l))) ↦ (at, (g, (next, (stays log ((AnswerGiven Asked, next) ∷ []) at (g, act) e, at_end log (AnswerGiven Asked, next) (suc at) (sym l))))) ]

asks_carried : (t : Terms) (y : ActorId) (log : Log) (n : ℕ) (e : Event) (act : Act) (to : ActorId) (m : Message) (a : Answer) (next : Act) → last_after Done log ≡ act → Carried t y n e act to m a → Asks (log ++ (AnswerGiven a, next) ∷ []) m
asks_carried t y log n e act to m a next q (CSend s b) = tt
asks_carried t y log n e act to m a next q (CClose s) = is_answered log (Close s) next (λ r. absurd (cc)) q
asks_carried t y log n e act to m a next q (CReset s) = is_answered log (Reset s) next (λ r. absurd (cc)) q
asks_carried t y log n e act to m a next q (CPost w k d b r f lt) = tt
asks_carried t y log n e act to m a next q (CGive w id c b r) = tt

pub showing_answered : (t : Terms) (y : ActorId) (h : Hand) (e : Event) (act : Act) (to : ActorId) (m : Message) (a : Answer) (next : Act) → last_after Done h.log ≡ act → Carried t y h.next e act to m a → Showing t (Sending e act to m a) h → Showing t (Acting e next) (answered h to m a next)
showing_answered t y h e act to m a next q c k =
    let n = carried_nothing t y h.next e act to m a c in
    record {
      passes = nothing_more bind_in h.log act a next q n.0 ∙ k.passes;
      bounds = nothing_more bound_in h.log act a next q n.1.0 ∙ k.bounds;
      others = nothing_more refused h.log act a next q n.1.1.0 ∙ k.others;
      seat = nothing_more place_in h.log act a next q n.1.1.1.0 ∙ k.seat;
      sums = nothing_more count_in h.log act a next q n.1.1.1.1.0 ∙ k.sums;
      fulls = nothing_more task_full h.log act a next q (carried_marks t y h.next e act to m a c).0 ∙ k.fulls;
      stops = nothing_more stop_in h.log act a next q (carried_marks t y h.next e act to m a c).1.0 ∙ k.stops;
      busy = nothing_more busy_in h.log act a next q (carried_marks t y h.next e act to m a c).1.1.0 ∙ k.busy;
      spents = nothing_more spent_in h.log act a next q (carried_marks t y h.next e act to m a c).1.1.1 ∙ k.spents;
      finds = subst (Each (Found t h.seen)) (sym (nothing_more info_in h.log act a next q n.1.1.1.1.1)) k.finds;
      grants = subst (Each (Granted (h.log ++ (AnswerGiven a, next) ∷ []) h.seen)) (sym (shown granted h.log act a next q)) (each_append (Granted (h.log ++ (AnswerGiven a, next) ∷ []) h.seen) (collect granted (answers_of h.log)) (granted (act, a)) (each_more (Granted h.log h.seen) (Granted (h.log ++ (AnswerGiven a, next) ∷ []) h.seen) (collect granted (answers_of h.log)) (λ s g. grant_said h.log h.seen a next s g) k.grants) (each_more (Granted h.log h.seen) (Granted (h.log ++ (AnswerGiven a, next) ∷ []) h.seen) (granted (act, a)) (λ s g. grant_said h.log h.seen a next s g) (subst (Each (Granted h.log h.seen)) (append-nil (granted (act, a))) k.pending)));
      pending = tt;
      owned = λ s o. told_still_not s h.log a next (k.owned s o);
      current = λ s. ((λ o. told_still_not s h.log a next ((k.current s).0 o)), tt);
      asks = each_append (λ (p : ActorId × Message). Asks (h.log ++ (AnswerGiven a, next) ∷ []) p.1) h.pushed ((to, m) ∷ []) (all_ask_more h.log ((AnswerGiven a, next) ∷ []) h.pushed k.asks) (asks_carried t y h.log h.next e act to m a next q c, tt);
    }

-- an event is heard
of_when : (u s : ℕ) (x : Event) → (u == s) ≡ true → ¬ (when (u == s) x ≡ [])
of_when u s x q e = absurd (let r : x ∷ [] ≡ [] = ap (λ v. when v x) (sym q) ∙ e in cc)

is_of_it : (s : ℕ) (e : Event) → is_of s e ≡ true → ¬ (of_session s e ≡ [])
is_of_it s (Connect u) q = of_when u s (Connect u) q
is_of_it s (Packet u i b) q = of_when u s (Packet u i b) q
is_of_it s (Closed u) q = of_when u s (Closed u) q
is_of_it s (Finish id b) q = absurd (cc)
is_of_it s (Task w id b) q = absurd (cc)

pub told_it : (s : ℕ) (log : Log) (e : Event) (act : Act) → is_of s e ≡ true → ¬ (told_of s (log ++ (EventGiven e, act) ∷ []) ≡ [])
told_it s log e act q n = is_of_it s e q (append_none (told_of s log) (of_session s e) (sym (told_more s log e act) ∙ n)).1

own_told : (t : Terms) (own : ℕ → Option ℕ) (log : Log) (act : Act) (e : Event) (s : ℕ) → ((u : ℕ) → is_some u (own (u % t.max_conn)) ≡ true → ¬ (told_of u log ≡ [])) → is_some s (own_with t own e (s % t.max_conn)) ≡ true → ¬ (told_of s (log ++ (EventGiven e, act) ∷ []) ≡ [])
own_told t own log act (Connect u) s k o₀ = kept (keeps t.mode) o₀
  where
    slot : (w : Bool) → is_some s (if w then Some u else own (s % t.max_conn)) ≡ true → ¬ (told_of s (log ++ (EventGiven (Connect u), act) ∷ []) ≡ [])
    slot true o = told_it s log (Connect u) act o
    slot false o = told_more_not s log (Connect u) act (k s o)

    kept : (v : Bool) → is_some s ((if v then at_fd own (u % t.max_conn) (Some u) else own) (s % t.max_conn)) ≡ true → ¬ (told_of s (log ++ (EventGiven (Connect u), act) ∷ []) ≡ [])
    kept true o = slot (s % t.max_conn == u % t.max_conn) o
    kept false o = told_more_not s log (Connect u) act (k s o)
own_told t own log act (Packet u i b) s k o = told_more_not s log (Packet u i b) act (k s o)
own_told t own log act (Closed u) s k o = told_more_not s log (Closed u) act (k s o)
own_told t own log act (Finish id b) s k o = told_more_not s log (Finish id b) act (k s o)
own_told t own log act (Task w id b) s k o = told_more_not s log (Task w id b) act (k s o)

pub showing_hear : (t : Terms) (c : ℕ) (h : Hand) (from : ActorId) (e : Event) (act : Act) → Showing t Idle h → Showing t (Acting e act) (hear t c h from e act)
showing_hear t c h from e act k = record {
  passes = shown_event bind_in h.log e act ∙ k.passes;
  bounds = shown_event bound_in h.log e act ∙ k.bounds;
  others = shown_event refused h.log e act ∙ k.others;
  seat = shown_event place_in h.log e act ∙ k.seat;
  sums = shown_event count_in h.log e act ∙ k.sums;
  fulls = shown_event task_full h.log e act ∙ k.fulls;
  stops = shown_event stop_in h.log e act ∙ k.stops;
  busy = shown_event busy_in h.log e act ∙ k.busy;
  spents = shown_event spent_in h.log e act ∙ k.spents;
  finds = subst (Each (Found t h.seen)) (sym (shown_event info_in h.log e act)) k.finds;
  grants = subst (Each (Granted (h.log ++ (EventGiven e, act) ∷ []) h.seen)) (sym (shown_event granted h.log e act)) (each_more (Granted h.log h.seen) (Granted (h.log ++ (EventGiven e, act) ∷ []) h.seen) (collect granted (answers_of h.log)) (λ s g. grant_heard h.log h.seen e act s g) k.grants);
  pending = tt;
  owned = λ s o. own_told t h.own h.log act e s k.owned o;
  current = λ s. ((λ o. told_it s h.log e act o), tt);
  asks = all_ask_more h.log ((EventGiven e, act) ∷ []) h.pushed k.asks;
}

-- steps that leave the log and the ports
pub showing_stage : (t : Terms) (st other : Stage) (h : Hand) → now st ≡ now other → Pending h.log h.seen other → Showing t st h → Showing t other h
showing_stage t st other h q p k = record { passes = k.passes; bounds = k.bounds; others = k.others; seat = k.seat; sums = k.sums; fulls = k.fulls; stops = k.stops; busy = k.busy; spents = k.spents; finds = k.finds; grants = k.grants; pending = p; owned = k.owned; current = λ s. subst (Each (λ e. is_of s e ≡ true → ¬ (told_of s h.log ≡ []))) q (k.current s); asks = k.asks }

pub showing_over : (t : Terms) (st : Stage) (h : Hand) → Showing t st h → Showing t Idle h
showing_over t st h k = record { passes = k.passes; bounds = k.bounds; others = k.others; seat = k.seat; sums = k.sums; fulls = k.fulls; stops = k.stops; busy = k.busy; spents = k.spents; finds = k.finds; grants = k.grants; pending = tt; owned = k.owned; current = λ s. tt; asks = k.asks }

pub showing_skip : (t : Terms) (st : Stage) (h : Hand) (from : ActorId) (m : Message) → Showing t st h → Showing t st (skip h from m)
showing_skip t st h from m k = record { passes = k.passes; bounds = k.bounds; others = k.others; seat = k.seat; sums = k.sums; fulls = k.fulls; stops = k.stops; busy = k.busy; spents = k.spents; finds = k.finds; grants = k.grants; pending = k.pending; owned = k.owned; current = k.current; asks = k.asks }

pub showing_settle : (t : Terms) (st : Stage) (h : Hand) (to : ActorId) (m : Message) → Asks h.log m → Showing t st h → Showing t st (settle h to m)
showing_settle t st h to m a k = record { passes = k.passes; bounds = k.bounds; others = k.others; seat = k.seat; sums = k.sums; fulls = k.fulls; stops = k.stops; busy = k.busy; spents = k.spents; finds = k.finds; grants = k.grants; pending = k.pending; owned = k.owned; current = k.current; asks = each_append (λ (p : ActorId × Message). Asks h.log p.1) h.pushed ((to, m) ∷ []) k.asks (a, tt) }

less_is : (t : Terms) (own : ℕ → Option ℕ) (u s : ℕ) → is_some s (own_without t own u (s % t.max_conn)) ≡ true → is_some s (own (s % t.max_conn)) ≡ true
less_is t own u s = outer (is_some u (own (u % t.max_conn)))
  where
    inner : (w : Bool) → is_some s (if w then None else own (s % t.max_conn)) ≡ true → is_some s (own (s % t.max_conn)) ≡ true
    inner true o = absurd (cc)
    inner false o = o

    outer : (v : Bool) → is_some s ((if v then at_fd own (u % t.max_conn) None else own) (s % t.max_conn)) ≡ true → is_some s (own (s % t.max_conn)) ≡ true
    outer true o = inner (s % t.max_conn == u % t.max_conn) o
    outer false o = o

pub own_less_is : (t : Terms) (own : ℕ → Option ℕ) (e : Event) (s : ℕ) → is_some s (own_behind t own (e ∷ []) (s % t.max_conn)) ≡ true → is_some s (own (s % t.max_conn)) ≡ true
own_less_is t own (Connect u) s o = o
own_less_is t own (Packet u i b) s o = o
own_less_is t own (Closed u) s o = less_is t own u s o
own_less_is t own (Finish id b) s o = o
own_less_is t own (Task w id b) s o = o

pub showing_left : (t : Terms) (h : Hand) (e : Event) (to : ActorId) (m : Message) → Asks h.log m → Showing t (Leaving e to m) h → Showing t Idle (left_event t h e to m)
showing_left t h e to m a k = record { passes = k.passes; bounds = k.bounds; others = k.others; seat = k.seat; sums = k.sums; fulls = k.fulls; stops = k.stops; busy = k.busy; spents = k.spents; finds = k.finds; grants = k.grants; pending = tt; owned = λ s o. k.owned s (own_less_is t h.own e s o); current = λ s. tt; asks = each_append (λ (p : ActorId × Message). Asks h.log p.1) h.pushed ((to, m) ∷ []) k.asks (a, tt) }

-- an own session was told of
pub own_granted : (t : Terms) (st : Stage) (h : Hand) (e : Event) (s : ℕ) → now st ≡ e ∷ [] → Showing t st h → is_own t h.own e s ≡ true → ¬ (told_of s h.log ≡ [])
own_granted t st h e s q k = pick (keeps t.mode)
  where
    pick : (v : Bool) → (if v then is_some s (h.own (s % t.max_conn)) else is_of s e) ≡ true → ¬ (told_of s h.log ≡ [])
    pick true o = k.owned s o
    pick false o = (subst (Each (λ x. is_of s x ≡ true → ¬ (told_of s h.log ≡ []))) q (k.current s)).0 o

-- at every moment
asked_by : (log : Log) (act : Act) → IsAnswered log act → IsAsked log act
asked_by log act (at, (given, (next, (e, f)))) = record { at = at; given = given; there = e; answer = inr (next, f) }

pub ask_law : (log : Log) (m : Message) → Asks log m → AskLaw log m
ask_law log (CloseMsg s) h = asked_by log (Close s) h
ask_law log (ResetMsg s) h = asked_by log (Reset s) h
ask_law log (FreshMsg ip s) h = tt
ask_law log (SendMsg s b) h = tt
ask_law log (Bye s) h = tt
ask_law log (EventMsg e) h = tt
ask_law log (OverMsg id) h = tt
ask_law log NoMore h = tt

past_end : (log : Log) (n : ℕ) → n ≡ length log → slice_get log n ≡ None
past_end [] n e = refl
past_end (x ∷ log) zero e = absurd (omega (arith, e))
past_end (x ∷ log) (suc n) e = past_end log n (omega (arith, e))

asked_last : (log : Log) (act : Act) → ¬ (Done ≡ act) → last_after Done log ≡ act → IsAsked log act
asked_last log act n q = elim (last_at Done log act q) [ inl z ↦ absurd (n z.1) | inr (at, (g, (e, l))) ↦ record { at = at; given = g; there = e; answer = inl (past_end log (suc at) l) } ]

-- with the act's message in hand
pub ask_carried : (t : Terms) (y : ActorId) (log : Log) (n : ℕ) (e : Event) (act : Act) (to : ActorId) (m : Message) (a : Answer) → last_after Done log ≡ act → Carried t y n e act to m a → AskLaw log m
ask_carried t y log n e act to m a q (CSend s b) = tt
ask_carried t y log n e act to m a q (CClose s) = asked_last log (Close s) (λ r. absurd (cc)) q
ask_carried t y log n e act to m a q (CReset s) = asked_last log (Reset s) (λ r. absurd (cc)) q
ask_carried t y log n e act to m a q (CPost w k d b r f lt) = tt
ask_carried t y log n e act to m a q (CGive w id c b r) = tt
