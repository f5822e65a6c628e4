-- What a hand shows at every moment: with nothing on its way, with a message taken and not settled, and with one pushed and not settled.
use Rattle.std.proofs.Common.{◌≡◌, ◌⊎◌, ℕ, ◌+◌, ◌≤◌, Bool, true, false, List, [], ◌∷◌, ◌++◌, length, refl, ap, ◌∙◌, sym, subst, append-nil, arith, inl, inr, suc}
use Rattle.sw_lists.specs.Lists.{collect, IsPrefix, when}
use Rattle.sw_lists.proofs.Lists.{eq_same, each_append, each_more, prefix_refl, length_append}
use Rattle.sw_step.specs.declared.actor.ActorId.{ActorId}
use Rattle.sw_step.specs.declared.actor.ActorId.TheVariants.{Door, Reactor, Worker, Tasker}
use Rattle.sw_step.specs.Actors.{is}
use Rattle.sw_record.specs.Words.{Event, Connect, Packet, Closed, Finish, Task, Act, Done, Answer, Log}
use Rattle.sw_record.specs.Terms.{Terms, reactor_of}
use Rattle.sw_record.specs.Logs.{events_of}
use Rattle.sw_record.specs.Tasks.{post_of, give_of}
use Rattle.sw_record.specs.Fits.{AnswersFitLog}
use Rattle.sw_past.specs.Messages.{Message, FreshMsg, SendMsg, CloseMsg, ResetMsg, Bye, EventMsg, OverMsg, NoMore}
use Rattle.sw_past.specs.Past.{Mail, bare, of}
use Rattle.sw_past.specs.Views.{heard_in, talk_in, task_in, task_id, no_more, over_in}
use Rattle.sw_past.specs.Said.{said, said_last, last_after, owed_after, settled, posted_after, given_after, now_after}
use Rattle.sw_past.specs.Routes.{IsHand, IsRouted, MayPush, is_worker}
use Rattle.sw_join.specs.Laws.{HandLaw}
use Rattle.sw_join.specs.Causes.{AskLaw}
use Rattle.sw_join.specs.Drained.{LastMarked}
use Rattle.sw_join.proofs.Routes.{is_same}
use Rattle.sw_join.proofs.Talking.{said_settled, posts_settled, made_settled}
use Rattle.sw_hand_laws.specs.Hand.{Got, Start, Took, Empty, Pushed, Full, Nothing, Ask, Take, Push, Rest, AskNothing, AskFinished, Stage, Idle, Acting, Sending, Leaving, Stopping, Stopped, Hand, last_words, goodbye, settle, left_event}
use Rattle.sw_hand_laws.specs.Keeps.{IsPresent, Speaks, Carried, talk_now}
use Rattle.sw_hand_laws.specs.Shows.{Asks}
use Rattle.sw_hand_laws.specs.Ending.{Ending}
use Rattle.sw_hand_laws.specs.Kept.{Kept, AskFits, After, PushFits, GotFits, taken, sent, Shown, Finished}
use Rattle.sw_hand_laws.proofs.Ends.{bare_collect, of_collect, heard_by, words_are, ends_done}
use Rattle.sw_hand_laws.proofs.Speaks.{last_carried, may_push, speaks_left, speaks_ended}
use Rattle.sw_hand_laws.proofs.Posting.{post_law, post_law_quiet, post_law_sent, tasks_few, tasks_few_quiet, tasks_few_sent}
use Rattle.sw_hand_laws.proofs.Making.{finish_law, finish_law_sent, making_left, making_ended}
use Rattle.sw_hand_laws.proofs.Showing.{ask_law, ask_carried}
use Rattle.sw_hand_laws.proofs.Ending.{no_more_once, once_of, next_split, push_work, carried_not, ending_left, worker_last_any}

-- a pipe call is a projection: what it may give fits the stage
take_fits : (t : Terms) (got : Got) → After t Take got → GotFits t Idle got
take_fits t Start a = absurd a
take_fits t (Took x n) a = tt
take_fits t Empty a = tt
take_fits t Pushed a = absurd a
take_fits t (Full n) a = absurd a
take_fits t Nothing a = absurd a

rest_fits : (t : Terms) (got : Got) → After t Rest got → GotFits t Idle got
rest_fits t Start a = absurd a
rest_fits t (Took x n) a = absurd a
rest_fits t Empty a = absurd a
rest_fits t Pushed a = absurd a
rest_fits t (Full n) a = absurd a
rest_fits t Nothing a = tt

nothing_fits : (t : Terms) (got : Got) → After t AskNothing got → got ≡ Nothing
nothing_fits t Start a = absurd a
nothing_fits t (Took x n) a = absurd a
nothing_fits t Empty a = absurd a
nothing_fits t Pushed a = absurd a
nothing_fits t (Full n) a = absurd a
nothing_fits t Nothing a = refl

push_fits : (t : Terms) (to : ActorId) (m : Message) (got : Got) → After t (Push to m) got → PushFits t to m got
push_fits t to m Start a = absurd a
push_fits t to m (Took x n) a = absurd a
push_fits t to m Empty a = absurd a
push_fits t to m Pushed a = a
push_fits t to m (Full n) a = a
push_fits t to m Nothing a = absurd a

finish_fits : (t : Terms) (got : Got) → After t AskFinished got → ⊥
finish_fits t Start a = absurd a
finish_fits t (Took x n) a = absurd a
finish_fits t Empty a = absurd a
finish_fits t Pushed a = absurd a
finish_fits t (Full n) a = absurd a
finish_fits t Nothing a = absurd a

idle_fits : (t : Terms) (got : Got) → got ≡ Nothing → GotFits t Idle got
idle_fits t got q = subst (GotFits t Idle) (sym q) tt

pub pipe_fits : (t : Terms) (st : Stage) (ask : Ask) (got : Got) → AskFits t st ask → After t ask got → GotFits t st got
pipe_fits t Idle ask got (inl q) a = take_fits t got (subst (λ x. After t x got) q a)
pipe_fits t Idle ask got (inr (inl q)) a = rest_fits t got (subst (λ x. After t x got) q a)
pipe_fits t Idle ask got (inr (inr q)) a = idle_fits t got (nothing_fits t got (subst (λ x. After t x got) q a))
pipe_fits t (Acting e act) ask got q a = nothing_fits t got (subst (λ x. After t x got) q a)
pipe_fits t (Sending e act to m c) ask got q a = push_fits t to m got (subst (λ x. After t x got) q a)
pipe_fits t (Leaving e to m) ask got q a = push_fits t to m got (subst (λ x. After t x got) q a)
pipe_fits t (Stopping k) ask got q a = push_fits t (goodbye t k) NoMore got (subst (λ x. After t x got) q a)
pipe_fits t Stopped ask got q a = finish_fits t got (subst (λ x. After t x got) q a)

-- room at a task worker
task_or_end : (t : Terms) (w n : ℕ) (m : Message) → MayPush t (Worker w) (Tasker n) m → 1 ≤ length (task_id w m) + length (no_more m)
task_or_end t w n (FreshMsg ip s) r = absurd (let q : Worker w ≡ Door = r.0 in cc)
task_or_end t w n (SendMsg s b) r = absurd (let q : Tasker n ≡ Reactor (reactor_of t s) = r.1 in cc)
task_or_end t w n (CloseMsg s) r = absurd (let q : Tasker n ≡ Reactor (reactor_of t s) = r.1 in cc)
task_or_end t w n (ResetMsg s) r = absurd (let q : Tasker n ≡ Reactor (reactor_of t s) = r.1 in cc)
task_or_end t w n (Bye s) r = absurd (let q : Tasker n ≡ Reactor (reactor_of t s) = r.1 in cc)
task_or_end t w n (OverMsg id) r = absurd (let q : Worker w ≡ Tasker r.0.0 = r.0.1.1 in cc)
task_or_end t w n NoMore r = omega arith
task_or_end t w n (EventMsg (Connect s)) r = absurd (let q : Worker w ≡ Reactor (reactor_of t s) = r.0 in cc)
task_or_end t w n (EventMsg (Packet s i b)) r = absurd (let q : Worker w ≡ Reactor (reactor_of t s) = r.0 in cc)
task_or_end t w n (EventMsg (Closed s)) r = absurd (let q : Worker w ≡ Reactor (reactor_of t s) = r.0 in cc)
task_or_end t w n (EventMsg (Finish id b)) r = absurd (let q : Worker w ≡ Tasker r.0.0 = r.0.1.1 in cc)
task_or_end t w n (EventMsg (Task v id b)) r = (let q : v ≡ w = (let s : Worker w ≡ Worker v = r.0 in cc) in subst (λ u. 1 ≤ length (task_id w (EventMsg (Task u id b))) + length (no_more (EventMsg (Task u id b)))) (sym q) (own_one w id b))
  where
    own_one : (u i : ℕ) (c : List ℕ) → 1 ≤ length (task_id u (EventMsg (Task u i c))) + length (no_more (EventMsg (Task u i c)))
    own_one u i c = rw (eq_same u u refl) (omega arith)

room_for : (t : Terms) (w n : ℕ) (pushed : Mail) → IsRouted t (Worker w) pushed → length (of (Tasker n) pushed) ≤ length (collect (task_id w) (bare pushed)) + length (collect no_more (of (Tasker n) pushed))
room_for t w n [] r = omega arith
room_for t w n ((to, m) ∷ pushed) r = pick (is to (Tasker n)) refl (room_for t w n pushed r.1)
  where
    pick : (v : Bool) → is to (Tasker n) ≡ v → length (of (Tasker n) pushed) ≤ length (collect (task_id w) (bare pushed)) + length (collect no_more (of (Tasker n) pushed)) → length (when v m ++ of (Tasker n) pushed) ≤ length (task_id w m ++ collect (task_id w) (bare pushed)) + length (collect no_more (when v m ++ of (Tasker n) pushed))
    pick true q less = omega (arith, less, task_or_end t w n m (subst (λ (z : ActorId). MayPush t (Worker w) z m) (is_same to (Tasker n) q) r.0), length_append (task_id w m) (collect (task_id w) (bare pushed)), length_append (no_more m) (collect no_more (of (Tasker n) pushed)))
    pick false q less = omega (arith, less, length_append (task_id w m) (collect (task_id w) (bare pushed)))

-- what was pushed of s is said, or is settled and will be
talk_front : (t : Terms) (s : ℕ) (st : Stage) (log : Log) → IsPrefix (talk_now t s st log) (said t s log)
talk_front t s Idle log = prefix_refl (said t s log)
talk_front t s (Acting e act) log = (said_last s (owed_after t s [] log) (last_after Done log), sym (said_settled t s log))
talk_front t s (Sending e act to m a) log = (said_last s (owed_after t s [] log) (last_after Done log), sym (said_settled t s log))
talk_front t s (Leaving e to m) log = (said_last s (owed_after t s [] log) (last_after Done log), sym (said_settled t s log))
talk_front t s (Stopping k) log = prefix_refl (said t s log)
talk_front t s Stopped log = prefix_refl (said t s log)

hand_still : (t : Terms) (y : ActorId) (st : Stage) (h : Hand) → Speaks t y st h → AnswersFitLog t (is_worker y) h.log → HandLaw t y h.took h.pushed h.log
hand_still t y st h k fit = record { routed = k.routed; told = ([], append-nil (events_of h.log) ∙ k.told); dialogue = k.dialogue; fits = fit; talk = λ s. subst (λ ms. IsPrefix ms (said t s h.log)) (sym (k.talk s)) (talk_front t s st h.log) }

hand_took : (t : Terms) (y x : ActorId) (m : Message) (took pushed : Mail) (log : Log) → HandLaw t y took pushed log → events_of log ≡ collect (heard_in y) (bare took) → HandLaw t y (took ++ (x, m) ∷ []) pushed log
hand_took t y x m took pushed log k q = record { routed = k.routed; told = (heard_in y m, ap (λ (es : List Event). es ++ heard_in y m) q ∙ sym (bare_collect (heard_in y) took x m)); dialogue = k.dialogue; fits = k.fits; talk = k.talk }

hand_sent : (t : Terms) (y : ActorId) (h : Hand) (e : Event) (act : Act) (to : ActorId) (m : Message) (a : Answer) → IsHand t y → IsPresent t to → Speaks t y (Sending e act to m a) h → AnswersFitLog t (is_worker y) h.log → HandLaw t y h.took (h.pushed ++ (to, m) ∷ []) h.log
hand_sent t y h e act to m a hand there k fit = record {
  routed = each_append (λ (p : ActorId × Message). MayPush t y p.0 p.1) h.pushed ((to, m) ∷ []) k.routed (may_push t y h.next e act to m a hand there k.mine.0 k.carries, tt);
  told = ([], append-nil (events_of h.log) ∙ k.told);
  dialogue = k.dialogue;
  fits = fit;
  talk = λ s. ([], append-nil (collect (talk_in s) (of (Reactor (reactor_of t s)) (h.pushed ++ (to, m) ∷ []))) ∙ of_collect (talk_in s) (Reactor (reactor_of t s)) h.pushed to m ∙ ap (λ (ms : List Message). ms ++ heard_by t s to m) (k.talk s) ∙ ap (λ (ms : List Message). settled t s h.log ++ ms) (last_carried t y h.next e act to m a s (owed_after t s [] h.log) k.carries ∙ ap (λ (x : Act). said_last s (owed_after t s [] h.log) x) (sym k.last)) ∙ sym (said_settled t s h.log));
}

-- nothing on its way
pub shown_still : (t : Terms) (y : ActorId) (st : Stage) (h : Hand) → Kept t y st h → AnswersFitLog t (is_worker y) h.log → Shown t y h.took h.pushed h.log
shown_still t y st h k fit = record {
  hand = hand_still t y st h k.speaks fit;
  post = λ w r. post_law w h (k.posting w r);
  finish = finish_law st h k.making;
  asks = each_more (λ (p : ActorId × Message). Asks h.log p.1) (λ (p : ActorId × Message). AskLaw h.log p.1) h.pushed (λ p a. ask_law h.log p.1 a) k.showing.asks;
  once = λ z. no_more_once t y st h z k.ending;
  room = λ w n r. omega (arith, room_for t w n h.pushed (subst (λ (z : ActorId). IsRouted t z h.pushed) r k.speaks.routed), tasks_few w h (k.posting w r), no_more_once t y st h (Tasker n) k.ending);
}

shown_took : (t : Terms) (y : ActorId) (st : Stage) (h : Hand) (x : ActorId) (m : Message) → Kept t y st h → AnswersFitLog t (is_worker y) h.log → Shown t y (h.took ++ (x, m) ∷ []) h.pushed h.log
shown_took t y st h x m k fit = let s = shown_still t y st h k fit in record { hand = hand_took t y x m h.took h.pushed h.log s.hand k.speaks.told; post = s.post; finish = s.finish; asks = s.asks; once = s.once; room = s.room }

-- with the act's message, the last words or NoMore pushed
shown_sent : (t : Terms) (y : ActorId) (h : Hand) (e : Event) (act : Act) (to : ActorId) (m : Message) (a : Answer) → IsHand t y → IsPresent t to → Kept t y (Sending e act to m a) h → AnswersFitLog t (is_worker y) h.log → Shown t y h.took (h.pushed ++ (to, m) ∷ []) h.log
shown_sent t y h e act to m a hand there k fit =
    let law = hand_sent t y h e act to m a hand there k.speaks fit in
    let ends : (z : ActorId) → length (collect no_more (of z (h.pushed ++ (to, m) ∷ []))) ≤ 1 = λ z. once_of t z (k.ending.work ++ (to, m) ∷ []) (h.pushed ++ (to, m) ∷ []) 0 (push_work h.pushed k.ending.work to m k.ending.split) (each_append (λ (p : ActorId × Message). no_more p.1 ≡ []) k.ending.work ((to, m) ∷ []) k.ending.quiet (carried_not t y h.next e act to m a k.speaks.carries, tt)) in
    record {
      hand = law;
      post = λ w r. post_law_sent t w h e act to m a k.speaks.last (subst (λ (z : ActorId). Carried t z h.next e act to m a) r k.speaks.carries) (k.posting w r);
      finish = finish_law_sent t y h e act to m a k.speaks.last k.speaks.carries k.making;
      asks = each_append (λ (p : ActorId × Message). AskLaw h.log p.1) h.pushed ((to, m) ∷ []) (shown_still t y (Sending e act to m a) h k fit).asks (ask_carried t y h.log h.next e act to m a k.speaks.last k.speaks.carries, tt);
      once = ends;
      room = λ w n r. omega (arith, room_for t w n (h.pushed ++ (to, m) ∷ []) (subst (λ (z : ActorId). IsRouted t z (h.pushed ++ (to, m) ∷ [])) r law.routed), tasks_few_sent t w h e act to m a k.speaks.last (subst (λ (z : ActorId). Carried t z h.next e act to m a) r k.speaks.carries) (k.posting w r), ends (Tasker n));
    }

words_plain : (t : Terms) (y : ActorId) (log : Log) (w : ℕ) (e : Event) (to : ActorId) (m : Message) → last_words t y e ≡ (to, m) ∷ [] → (task_in w m ≡ []) × ((no_more m ≡ []) × AskLaw log m)
words_plain t y log w e to m q = words_are (λ (p : ActorId × Message). (task_in w p.1 ≡ []) × ((no_more p.1 ≡ []) × AskLaw log p.1)) (λ n s. (refl, (refl, tt))) (λ v id. (refl, (refl, tt))) t y e to m q

shown_left : (t : Terms) (y : ActorId) (h : Hand) (e : Event) (to : ActorId) (m : Message) → IsHand t y → IsPresent t to → Kept t y (Leaving e to m) h → AnswersFitLog t (is_worker y) h.log → Shown t y h.took (h.pushed ++ (to, m) ∷ []) h.log
shown_left t y h e to m hand there k fit =
    let law : HandLaw t y h.took (h.pushed ++ (to, m) ∷ []) h.log = hand_still t y Idle (left_event t h e to m) (speaks_left t y h e to m hand there k.speaks) fit in
    let ends : (z : ActorId) → length (collect no_more (of z (h.pushed ++ (to, m) ∷ []))) ≤ 1 = λ z. no_more_once t y Idle (left_event t h e to m) z (ending_left t y h e to m (words_plain t y h.log 0 e to m k.speaks.carries).1.0 k.ending) in
    record {
      hand = law;
      post = λ w r. post_law_quiet w h to m (words_plain t y h.log w e to m k.speaks.carries).0 (k.posting w r);
      finish = finish_law Idle (left_event t h e to m) (making_left t y h e to m k.speaks.mine.0 k.speaks.carries k.making);
      asks = each_append (λ (p : ActorId × Message). AskLaw h.log p.1) h.pushed ((to, m) ∷ []) (shown_still t y (Leaving e to m) h k fit).asks ((words_plain t y h.log 0 e to m k.speaks.carries).1.1, tt);
      once = ends;
      room = λ w n r. omega (arith, room_for t w n (h.pushed ++ (to, m) ∷ []) (subst (λ (z : ActorId). IsRouted t z (h.pushed ++ (to, m) ∷ [])) r law.routed), tasks_few_quiet w h to m (words_plain t y h.log w e to m k.speaks.carries).0 (k.posting w r), ends (Tasker n));
    }

shown_ended : (t : Terms) (y : ActorId) (h : Hand) (j : ℕ) → IsHand t y → IsPresent t (goodbye t j) → Kept t y (Stopping j) h → AnswersFitLog t (is_worker y) h.log → Shown t y h.took (h.pushed ++ (goodbye t j, NoMore) ∷ []) h.log
shown_ended t y h j hand there k fit =
    let law : HandLaw t y h.took (h.pushed ++ (goodbye t j, NoMore) ∷ []) h.log = hand_still t y Idle (settle h (goodbye t j) NoMore) (speaks_ended t y h j hand there k.speaks) fit in
    let ends : (z : ActorId) → length (collect no_more (of z (h.pushed ++ (goodbye t j, NoMore) ∷ []))) ≤ 1 = λ z. once_of t z k.ending.work (h.pushed ++ (goodbye t j, NoMore) ∷ []) (suc j) (next_split t h.pushed k.ending.work j k.ending.split) k.ending.quiet in
    record {
      hand = law;
      post = λ w r. post_law_quiet w h (goodbye t j) NoMore refl (k.posting w r);
      finish = finish_law (Stopping j) (settle h (goodbye t j) NoMore) (making_ended (Stopping j) t h j k.making);
      asks = each_append (λ (p : ActorId × Message). AskLaw h.log p.1) h.pushed ((goodbye t j, NoMore) ∷ []) (shown_still t y (Stopping j) h k fit).asks (tt, tt);
      once = ends;
      room = λ w n r. omega (arith, room_for t w n (h.pushed ++ (goodbye t j, NoMore) ∷ []) (subst (λ (z : ActorId). IsRouted t z (h.pushed ++ (goodbye t j, NoMore) ∷ [])) r law.routed), tasks_few_quiet w h (goodbye t j) NoMore refl (k.posting w r), ends (Tasker n));
    }

-- every moment
pub shows : (t : Terms) (y : ActorId) (st : Stage) (h : Hand) (got : Got) → IsHand t y → GotFits t st got → Kept t y st h → AnswersFitLog t (is_worker y) h.log → Shown t y (taken got h.took) (sent t st got h.pushed) h.log
shows t y st h Start hand f k fit = shown_still t y st h k fit
shows t y st h Empty hand f k fit = shown_still t y st h k fit
shows t y st h (Full n) hand f k fit = shown_still t y st h k fit
shows t y st h Nothing hand f k fit = shown_still t y st h k fit
shows t y st h (Took x m) hand f k fit = shown_took t y st h x m k fit
shows t y Idle h Pushed hand f k fit = absurd f
shows t y (Acting e act) h Pushed hand f k fit = absurd (cc)
shows t y (Sending e act to m a) h Pushed hand f k fit = shown_sent t y h e act to m a hand f k fit
shows t y (Leaving e to m) h Pushed hand f k fit = shown_left t y h e to m hand f k fit
shows t y (Stopping j) h Pushed hand f k fit = shown_ended t y h j hand f k fit
shows t y Stopped h Pushed hand f k fit = absurd f

-- once it is finished
marked_now : (xs : List Message) (ps : List (ℕ × List ℕ)) → ps ≡ [] → LastMarked over_in xs ⊎ (¬ (ps ≡ [])) → LastMarked over_in xs
marked_now xs ps q (inl m) = m
marked_now xs ps q (inr n) = absurd (n q)

pub finished : (t : Terms) (y : ActorId) (h : Hand) → Kept t y Stopped h → Finished t y h.took h.pushed h.log
finished t y h k = record {
  heard = k.speaks.told;
  done = ends_done Done h.log k.speaks.last;
  posted = λ w r. omega (arith, (k.posting w r).mail.pushes, (k.posting w r).logged.tasks, ap length (posts_settled h.log ∙ ap (λ (x : Act). posted_after Done h.log ++ post_of x) k.speaks.last), length_append (posted_after Done h.log) []);
  worker_last = λ w j r. worker_last_any t w h j (subst (λ (z : ActorId). IsRouted t z h.pushed) r k.speaks.routed) (subst (λ (z : ActorId). Ending t z Stopped h) r k.ending);
  overs_taken = λ w r. omega (arith, (k.posting w r).mail.pushes, (k.posting w r).overs, k.ending.stops.1);
  worker_all = λ w r. (let s : Ending t (Worker w) Stopped h = subst (λ (z : ActorId). Ending t z Stopped h) r k.ending in omega (arith, s.stops.0, s.counted));
  tasker_all = λ j r. (let s : Ending t (Tasker j) Stopped h = subst (λ (z : ActorId). Ending t z Stopped h) r k.ending in omega (arith, s.stops.0, s.counted));
  gave = λ w. k.making.gave w ∙ sym (made_settled w h.log ∙ ap (λ (x : Act). given_after w [] Done h.log ++ give_of (now_after w [] h.log) x) k.speaks.last ∙ append-nil (given_after w [] Done h.log));
  overs_pushed = λ w. omega (arith, k.making.overs w);
  tasker_last = λ w. marked_now (of (Worker w) h.pushed) [] refl (k.making.last w);
}
