-- Each step keeps what was pushed of tasks that were given.
use Rattle.std.proofs.Common.{◌≡◌, ◌⊎◌, ℕ, ◌+◌, ◌-◌, ltb, ◌==◌, Bool, true, false, if◌then◌else◌, List, [], ◌∷◌, ◌++◌, length, refl, ap, ◌∙◌, sym, subst, append-nil, arith, inl, inr, suc}
use Rattle.sw_lists.specs.Lists.{collect, Each, when, IsPrefix}
use Rattle.sw_lists.proofs.Lists.{collect-append, each_all, each_collect, length_append}
use Rattle.sw_step.specs.declared.actor.ActorId.{ActorId}
use Rattle.sw_step.specs.declared.actor.ActorId.TheVariants.{Reactor, Worker, Tasker}
use Rattle.sw_step.specs.Actors.{is}
use Rattle.sw_record.specs.Words.{Event, Finish, Task, Act, FinishAct, Done, Answer, Finished, Given, EventGiven, AnswerGiven, Log}
use Rattle.sw_record.specs.Terms.{Terms}
use Rattle.sw_record.specs.Logs.{event_of, events_of, numbers}
use Rattle.sw_record.specs.Tasks.{task_of, tasks_of, now_of, gave_by, give_of, with_bytes, made}
use Rattle.sw_past.specs.Messages.{Message, EventMsg, OverMsg, NoMore}
use Rattle.sw_past.specs.Past.{Mail, of}
use Rattle.sw_past.specs.Views.{for_hand, finish_in, over_in}
use Rattle.sw_past.specs.Said.{last_after, given_after, now_after}
use Rattle.sw_join.specs.Tasks.{FinishLaw}
use Rattle.sw_join.specs.Drained.{LastMarked}
use Rattle.sw_join.proofs.Talking.{given_more, made_settled}
use Rattle.sw_hand_laws.specs.Hand.{Hand, Seen, Stage, Idle, Acting, Sending, Leaving, say, hear, skip, settle, answered, left_event, last_words, goodbye}
use Rattle.sw_hand_laws.specs.Keeps.{silent, Carried, CSend, CClose, CReset, CPost, CGive, now}
use Rattle.sw_hand_laws.specs.Tasks.{Making}
use Rattle.sw_hand_laws.proofs.Ends.{all_marked, one_more, of_more, of_collect, now_is, silent_gave, over_msg, words_to, told_same}

-- what is not changed
given_same : (w : ℕ) (log : Log) (g : Given) (a : Act) → gave_by (now_after w [] log) (last_after Done log) g ≡ [] → given_after w [] Done (log ++ (g, a) ∷ []) ≡ given_after w [] Done log
given_same w log g a q = given_more w log g a ∙ ap (λ ps. given_after w [] Done log ++ ps) q ∙ append-nil (given_after w [] Done log)

tasks_same : (w : ℕ) (log : Log) (a : Answer) (act : Act) → tasks_of w (log ++ (AnswerGiven a, act) ∷ []) ≡ tasks_of w log
tasks_same w log a act = ap (collect (task_of w)) (told_same log a act)

now_same : (w : ℕ) (log : Log) (a : Answer) (act : Act) (e : Event) → now_after w [] log ≡ now_of w e → now_after w [] (log ++ (AnswerGiven a, act) ∷ []) ≡ now_of w e
now_same w log a act e q = now_is w [] log (AnswerGiven a) act ∙ q

pub making_at_once : (h : Hand) (e : Event) (act : Act) (seen : Seen) (a : Answer) (next : Act) → silent a ≡ true → Making (Acting e act) h → Making (Acting e next) (say (record h { seen = seen }) (AnswerGiven a) next)
making_at_once h e act seen a next q k = record {
  gave = λ w. k.gave w ∙ sym (given_same w h.log (AnswerGiven a) next (silent_gave (now_after w [] h.log) (last_after Done h.log) a q));
  nows = λ w. (now_same w h.log a next e (k.nows w).0, tt);
  overs = λ w. k.overs w ∙ sym (ap length (tasks_same w h.log a next));
  last = k.last;
}

-- the same, with another stage
pub making_stage : (st other : Stage) (h : Hand) (seen : Seen) → now st ≡ now other → Making st h → Making other (record h { seen = seen })
making_stage st other h seen q k = record {
  gave = k.gave;
  nows = λ w. subst (λ es. Each (λ e. now_after w [] h.log ≡ now_of w e) es) q (k.nows w);
  overs = λ w. subst (λ es. length (collect over_in (of (Worker w) h.pushed)) + length (collect (task_of w) es) ≡ length (tasks_of w h.log)) q (k.overs w);
  last = λ w. subst (λ es. LastMarked over_in (of (Worker w) h.pushed) ⊎ (¬ (collect (task_of w) es ≡ []))) q (k.last w);
}

-- a message that goes to no worker
unheard : (w : ℕ) (pushed : Mail) (to : ActorId) (m : Message) → is to (Worker w) ≡ false → of (Worker w) (pushed ++ (to, m) ∷ []) ≡ of (Worker w) pushed
unheard w pushed to m q = of_more (Worker w) pushed to m ∙ ap (λ v. of (Worker w) pushed ++ when v m) q ∙ append-nil (of (Worker w) pushed)

pub making_settle : (st : Stage) (h : Hand) (to : ActorId) (m : Message) → ((w : ℕ) → is to (Worker w) ≡ false) → Making st h → Making st (settle h to m)
making_settle st h to m f k = record {
  gave = λ w. ap (collect finish_in) (unheard w h.pushed to m (f w)) ∙ k.gave w;
  nows = k.nows;
  overs = λ w. ap (λ ms. length (collect over_in ms) + length (collect (task_of w) (now st))) (unheard w h.pushed to m (f w)) ∙ k.overs w;
  last = λ w. subst (λ ms. LastMarked over_in ms ⊎ (¬ (collect (task_of w) (now st) ≡ []))) (sym (unheard w h.pushed to m (f w))) (k.last w);
}

-- the act's message
quiet_answered : (h : Hand) (e : Event) (act : Act) (to : ActorId) (m : Message) (a : Answer) (next : Act) → ((w : ℕ) → is to (Worker w) ≡ false) → ((ns : List ℕ) (x : Act) → gave_by ns x (AnswerGiven a) ≡ []) → Making (Sending e act to m a) h → Making (Acting e next) (answered h to m a next)
quiet_answered h e act to m a next f g k =
    let s : Making (Sending e act to m a) (settle h to m) = making_settle (Sending e act to m a) h to m f k in
    record {
      gave = λ w. s.gave w ∙ sym (given_same w h.log (AnswerGiven a) next (g (now_after w [] h.log) (last_after Done h.log)));
      nows = λ w. (now_same w h.log a next e (k.nows w).0, tt);
      overs = λ w. s.overs w ∙ sym (ap length (tasks_same w h.log a next));
      last = s.last;
    }

finish_when : (v : Bool) (id : ℕ) (b c : List ℕ) → collect finish_in (when v (EventMsg (Finish id b))) ≡ collect (with_bytes b) (numbers (when v (id, c)))
finish_when true id b c = refl
finish_when false id b c = refl

no_over : (v : Bool) (id : ℕ) (b : List ℕ) → collect over_in (when v (EventMsg (Finish id b))) ≡ []
no_over true id b = refl
no_over false id b = refl

give_carried : (h : Hand) (v id : ℕ) (c b : List ℕ) (next : Act) → last_after Done h.log ≡ FinishAct b → Making (Sending (Task v id c) (FinishAct b) (Worker v) (EventMsg (Finish id b)) Finished) h → Making (Acting (Task v id c) next) (answered h (Worker v) (EventMsg (Finish id b)) Finished next)
give_carried h v id c b next q k = record {
  gave = λ w. of_collect finish_in (Worker w) h.pushed (Worker v) (EventMsg (Finish id b)) ∙ ap (λ (ps : List (ℕ × List ℕ)). ps ++ collect finish_in (when (v == w) (EventMsg (Finish id b)))) (k.gave w) ∙ ap (λ ps. given_after w [] Done h.log ++ ps) (finish_when (v == w) id b c ∙ sym (ap (collect (with_bytes b)) (k.nows w).0) ∙ ap (λ (x : Act). gave_by (now_after w [] h.log) x (AnswerGiven Finished)) (sym q)) ∙ sym (given_more w h.log (AnswerGiven Finished) next);
  nows = λ w. (now_same w h.log Finished next (Task v id c) (k.nows w).0, tt);
  overs = λ w. ap (λ ns. length ns + length (collect (task_of w) (Task v id c ∷ []))) (of_collect over_in (Worker w) h.pushed (Worker v) (EventMsg (Finish id b)) ∙ ap (λ ns. collect over_in (of (Worker w) h.pushed) ++ ns) (no_over (v == w) id b) ∙ append-nil (collect over_in (of (Worker w) h.pushed))) ∙ k.overs w ∙ sym (ap length (tasks_same w h.log Finished next));
  last = λ w. pick w (v == w) refl;
}
  where
    pick : (w : ℕ) (x : Bool) → v == w ≡ x → LastMarked over_in (of (Worker w) (h.pushed ++ (Worker v, EventMsg (Finish id b)) ∷ [])) ⊎ (¬ (collect (task_of w) (Task v id c ∷ []) ≡ []))
    pick w true r = inr (λ e. absurd (let z : (id, c) ∷ [] ≡ [] = ap (λ y. when y (id, c)) (sym r) ∙ sym (append-nil (when (v == w) (id, c))) ∙ e in cc))
    pick w false r = subst (λ ms. LastMarked over_in ms ⊎ (¬ (collect (task_of w) (Task v id c ∷ []) ≡ []))) (sym (unheard w h.pushed (Worker v) (EventMsg (Finish id b)) r)) (k.last w)

pub making_answered : (t : Terms) (y : ActorId) (h : Hand) (e : Event) (act : Act) (to : ActorId) (m : Message) (a : Answer) (next : Act) → last_after Done h.log ≡ act → Carried t y h.next e act to m a → Making (Sending e act to m a) h → Making (Acting e next) (answered h to m a next)
making_answered t y h e act to m a next q (CSend s b) k = quiet_answered h e act to m a next (λ w. refl) (λ ns x. refl) k
making_answered t y h e act to m a next q (CClose s) k = quiet_answered h e act to m a next (λ w. refl) (λ ns x. refl) k
making_answered t y h e act to m a next q (CReset s) k = quiet_answered h e act to m a next (λ w. refl) (λ ns x. refl) k
making_answered t y h e act to m a next q (CPost v j d b r f lt) k = quiet_answered h e act to m a next (λ w. refl) (λ ns x. refl) k
making_answered t y h e act to m a next q (CGive v id c b r) k = subst (λ x. Making (Acting x next) (answered h (Worker v) (EventMsg (Finish id b)) Finished next)) (sym r) (give_carried h v id c b next q (subst (λ x. Making (Sending x (FinishAct b) (Worker v) (EventMsg (Finish id b)) Finished) h) r k))

pub making_hear : (t : Terms) (c : ℕ) (h : Hand) (from : ActorId) (e : Event) (act : Act) → Making Idle h → Making (Acting e act) (hear t c h from e act)
making_hear t c h from e act k = record {
  gave = λ w. k.gave w ∙ sym (given_same w h.log (EventGiven e) act refl);
  nows = λ w. (now_is w [] h.log (EventGiven e) act, tt);
  overs = λ w. (let more : tasks_of w (h.log ++ (EventGiven e, act) ∷ []) ≡ tasks_of w h.log ++ task_of w e = ap (collect (task_of w)) (one_more event_of h.log (EventGiven e, act)) ∙ one_more (task_of w) (events_of h.log) e in omega (arith, k.overs w, ap length more, length_append (tasks_of w h.log) (task_of w e), ap length (append-nil (task_of w e))));
  last = λ w. elim (k.last w) [ inl m ↦ inl m | inr n ↦ absurd (n refl) ];
}

pub making_skip : (st : Stage) (h : Hand) (from : ActorId) (m : Message) → Making st h → Making st (skip h from m)
making_skip st h from m k = record { gave = k.gave; nows = k.nows; overs = k.overs; last = k.last }

-- an event without last words is no task
no_task : (ps : List (ℕ × List ℕ)) → collect over_msg ps ≡ [] → ps ≡ []
no_task [] q = refl
no_task (p ∷ ps) q = absurd (cc)

pub making_over : (t : Terms) (y : ActorId) (h : Hand) (e : Event) (act : Act) → for_hand y e ≡ e ∷ [] → last_words t y e ≡ [] → Making (Acting e act) h → Making Idle h
making_over t y h e act mine none k = record {
  gave = k.gave;
  nows = λ w. tt;
  overs = λ w. ap (λ (ps : List (ℕ × List ℕ)). length (collect over_in (of (Worker w) h.pushed)) + length ps) (sym (untasked w)) ∙ k.overs w;
  last = λ w. elim (k.last w) [ inl m ↦ inl m | inr n ↦ absurd (n (untasked w)) ];
}
  where
    untasked : (w : ℕ) → collect (task_of w) (e ∷ []) ≡ []
    untasked w = append-nil (task_of w e) ∙ no_task (task_of w e) (sym (words_to t y w e mine) ∙ ap (of (Worker w)) none)

-- the last words of an event
over_marks : (ps : List (ℕ × List ℕ)) → Each (λ m. ¬ (over_in m ≡ [])) (collect over_msg ps)
over_marks ps = each_collect (λ m. ¬ (over_in m ≡ [])) over_msg ps (each_all (λ p. Each (λ m. ¬ (over_in m ≡ [])) (over_msg p)) ps (λ p. ((λ e. absurd (cc)), tt)))

over_num : (ps : List (ℕ × List ℕ)) → length (collect over_in (collect over_msg ps)) ≡ length ps
over_num [] = refl
over_num (p ∷ ps) = ap suc (over_num ps)

over_free : (ps : List (ℕ × List ℕ)) → collect finish_in (collect over_msg ps) ≡ []
over_free [] = refl
over_free (p ∷ ps) = over_free ps

over_last : (xs : List Message) (ps : List (ℕ × List ℕ)) → LastMarked over_in xs ⊎ (¬ (ps ++ [] ≡ [])) → LastMarked over_in (xs ++ collect over_msg ps)
over_last xs [] (inl m) = subst (LastMarked over_in) (sym (append-nil xs)) m
over_last xs [] (inr n) = absurd (n refl)
over_last xs (p ∷ ps) h = all_marked over_in xs (OverMsg p.0) (collect over_msg ps) (over_marks (p ∷ ps))

pub making_left : (t : Terms) (y : ActorId) (h : Hand) (e : Event) (to : ActorId) (m : Message) → for_hand y e ≡ e ∷ [] → last_words t y e ≡ (to, m) ∷ [] → Making (Leaving e to m) h → Making Idle (left_event t h e to m)
making_left t y h e to m mine q k = record {
  gave = λ w. ap (collect finish_in) (now_has w) ∙ collect-append finish_in (of (Worker w) h.pushed) (collect over_msg (task_of w e)) ∙ ap (λ ps. collect finish_in (of (Worker w) h.pushed) ++ ps) (over_free (task_of w e)) ∙ append-nil (collect finish_in (of (Worker w) h.pushed)) ∙ k.gave w;
  nows = λ w. tt;
  overs = λ w. omega (arith, k.overs w, ap (λ ms. length (collect over_in ms)) (now_has w), ap length (collect-append over_in (of (Worker w) h.pushed) (collect over_msg (task_of w e))), length_append (collect over_in (of (Worker w) h.pushed)) (collect over_in (collect over_msg (task_of w e))), over_num (task_of w e), ap length (append-nil (task_of w e)));
  last = λ w. inl (subst (LastMarked over_in) (sym (now_has w)) (over_last (of (Worker w) h.pushed) (task_of w e) (k.last w)));
}
  where
    now_has : (w : ℕ) → of (Worker w) (h.pushed ++ (to, m) ∷ []) ≡ of (Worker w) h.pushed ++ collect over_msg (task_of w e)
    now_has w = of_more (Worker w) h.pushed to m ∙ ap (λ ms. of (Worker w) h.pushed ++ ms) (sym (append-nil (when (is to (Worker w)) m)) ∙ ap (of (Worker w)) (sym q) ∙ words_to t y w e mine)

goodbye_if : (t : Terms) (k w : ℕ) (v : Bool) → is (if v then Reactor k else Tasker (k - t.reactor_num)) (Worker w) ≡ false
goodbye_if t k w true = refl
goodbye_if t k w false = refl

pub making_ended : (st : Stage) (t : Terms) (h : Hand) (k : ℕ) → Making st h → Making st (settle h (goodbye t k) NoMore)
making_ended st t h k s = making_settle st h (goodbye t k) NoMore (λ w. goodbye_if t k w (ltb k t.reactor_num)) s

-- at every moment
pub finish_law : (st : Stage) (h : Hand) → Making st h → FinishLaw h.pushed h.log
finish_law st h k w = (give_of (now_after w [] h.log) (last_after Done h.log), ap (λ (ps : List (ℕ × List ℕ)). ps ++ give_of (now_after w [] h.log) (last_after Done h.log)) (k.gave w) ∙ sym (made_settled w h.log))

-- with the act's message in hand
made_prefix : (h : Hand) (pushed : Mail) (w : ℕ) → collect finish_in (of (Worker w) pushed) ≡ given_after w [] Done h.log → IsPrefix (collect finish_in (of (Worker w) pushed)) (made w h.log)
made_prefix h pushed w q = (give_of (now_after w [] h.log) (last_after Done h.log), ap (λ (ps : List (ℕ × List ℕ)). ps ++ give_of (now_after w [] h.log) (last_after Done h.log)) q ∙ sym (made_settled w h.log))

pub finish_law_quiet : (st : Stage) (h : Hand) (to : ActorId) (m : Message) → ((w : ℕ) → is to (Worker w) ≡ false) → Making st h → FinishLaw (h.pushed ++ (to, m) ∷ []) h.log
finish_law_quiet st h to m f k w = finish_law st (settle h to m) (making_settle st h to m f k) w

pub finish_law_sent : (t : Terms) (y : ActorId) (h : Hand) (e : Event) (act : Act) (to : ActorId) (m : Message) (a : Answer) → last_after Done h.log ≡ act → Carried t y h.next e act to m a → Making (Sending e act to m a) h → FinishLaw (h.pushed ++ (to, m) ∷ []) h.log
finish_law_sent t y h e act to m a q (CSend s b) k w = finish_law_quiet (Sending e act to m a) h to m (λ v. refl) k w
finish_law_sent t y h e act to m a q (CClose s) k w = finish_law_quiet (Sending e act to m a) h to m (λ v. refl) k w
finish_law_sent t y h e act to m a q (CReset s) k w = finish_law_quiet (Sending e act to m a) h to m (λ v. refl) k w
finish_law_sent t y h e act to m a q (CPost v j d b r f lt) k w = finish_law_quiet (Sending e act to m a) h to m (λ u. refl) k w
finish_law_sent t y h e act to m a q (CGive v id c b r) k w = ([], append-nil (collect finish_in (of (Worker w) (h.pushed ++ (Worker v, EventMsg (Finish id b)) ∷ []))) ∙ of_collect finish_in (Worker w) h.pushed (Worker v) (EventMsg (Finish id b)) ∙ ap (λ (ps : List (ℕ × List ℕ)). ps ++ collect finish_in (when (v == w) (EventMsg (Finish id b)))) (k.gave w) ∙ ap (λ ps. given_after w [] Done h.log ++ ps) (finish_when (v == w) id b c ∙ sym (ap (collect (with_bytes b)) ((k.nows w).0 ∙ ap (now_of w) r)) ∙ ap (λ (x : Act). give_of (now_after w [] h.log) x) (sym q)) ∙ sym (made_settled w h.log))
