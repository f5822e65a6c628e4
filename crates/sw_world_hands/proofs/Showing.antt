-- What a hand's law shows of it.
use Rattle.std.proofs.Common.{◌≡◌, ◌⊎◌, ℕ, ◌+◌, ◌≤◌, ◌%◌, Bool, true, false, List, [], ◌∷◌, ◌++◌, length, refl, ap, ◌∙◌, sym, subst, arith, inl, inr}
use Rattle.sw_lists.specs.Lists.{collect, when, Each, Has, IsPrefix}
use Rattle.sw_lists.proofs.Lists.{each_at, each_more}
use Rattle.sw_step.specs.declared.actor.ActorId.{ActorId}
use Rattle.sw_step.specs.declared.actor.ActorId.TheVariants.{Worker, Tasker}
use Rattle.sw_step.specs.Actors.{is}
use Rattle.sw_record.specs.Words.{Connect, Packet, Closed, Finish, Task, Shutdown, Done, Log}
use Rattle.sw_record.specs.Terms.{Terms}
use Rattle.sw_record.specs.Answers.{answers_of}
use Rattle.sw_record.specs.Causes.{granted, refused}
use Rattle.sw_record.specs.Counts.{count_in}
use Rattle.sw_record.specs.Logs.{told_of, events_of}
use Rattle.sw_record.specs.Places.{spent_in as spent_of}
use Rattle.sw_record.specs.Tasks.{posts}
use Rattle.sw_record.specs.Uids.{bound_in, info_in}
use Rattle.sw_past.specs.Messages.{Message, FreshMsg, SendMsg, CloseMsg, ResetMsg, Bye, EventMsg, OverMsg, NoMore}
use Rattle.sw_past.specs.Past.{Mail, bare, of}
use Rattle.sw_past.specs.Views.{heard_in, task_id, no_more, over_in}
use Rattle.sw_past.specs.Routes.{IsHand, IsRouted, MayPush}
use Rattle.sw_join.proofs.Routes.{is_same}
use Rattle.sw_world_ports.specs.Made.{other_in, had_in, found_in, spent_in, sum_in}
use Rattle.sw_world_laws.specs.Turns.{Diary}
use Rattle.sw_world_laws.specs.Shows.{EndsCame, HandShows, Shows}
use Rattle.sw_world_laws.specs.Done.{DoneShows}
use Rattle.sw_world_laws.specs.Account.{untold}
use Rattle.sw_world_laws.proofs.Locals.{no_hand_door, no_hand_reactor}
use Rattle.sw_hand_laws.specs.Hand.{Stage, Hand}
use Rattle.sw_hand_laws.specs.Shows.{Showing, Found}
use Rattle.sw_hand_laws.specs.Kept.{Shown, Finished}
use Rattle.sw_hand_laws.proofs.Stops.{stop_asked}
use Rattle.sw_world_hands.specs.Hands.{HadNoRoom, CallsShow}

-- with the same messages taken, and the same mail pushed
pub shown_as : (t : Terms) (y : ActorId) (took taken pushed sent : Mail) (log : Log) → bare took ≡ bare taken → pushed ≡ sent → Shown t y took pushed log → Shown t y taken sent log
shown_as t y took taken pushed sent log b q s = subst (λ (ms : Mail). Shown t y taken ms log) q (record {
  hand = record {
    routed = s.hand.routed;
    told = subst (λ (ms : List Message). IsPrefix (events_of log) (collect (heard_in y) ms)) b s.hand.told;
    dialogue = s.hand.dialogue;
    fits = s.hand.fits;
    talk = s.hand.talk;
  };
  post = s.post;
  finish = s.finish;
  asks = s.asks;
  once = s.once;
  room = s.room;
})

pub finished_as : (t : Terms) (y : ActorId) (took taken pushed sent : Mail) (log : Log) → bare took ≡ bare taken → pushed ≡ sent → Finished t y took pushed log → Finished t y taken sent log
finished_as t y took taken pushed sent log b q s = subst (λ (ms : Mail). Finished t y taken ms log) q (record {
  heard = s.heard ∙ ap (λ (ms : List Message). collect (heard_in y) ms) b;
  done = s.done;
  posted = s.posted;
  worker_last = s.worker_last;
  overs_taken = λ w e. subst (λ (ms : List Message). length (collect (task_id w) (bare pushed)) ≤ length (collect over_in ms)) b (s.overs_taken w e);
  worker_all = λ w e. subst (λ (ms : List Message). t.reactor_num ≤ length (collect no_more ms)) b (s.worker_all w e);
  tasker_all = λ k e. subst (λ (ms : List Message). t.worker_num ≤ length (collect no_more ms)) b (s.tasker_all k e);
  gave = s.gave;
  overs_pushed = s.overs_pushed;
  tasker_last = s.tasker_last;
})

-- a task worker pushes nothing to a task worker
no_task : (t : Terms) (k n : ℕ) (m : Message) → MayPush t (Tasker k) (Tasker n) m → ⊥
no_task t k n (FreshMsg ip s) h = absurd (let q = h.0 in cc)
no_task t k n (SendMsg s b) h = absurd (let q = h.1 in cc)
no_task t k n (CloseMsg s) h = absurd (let q = h.1 in cc)
no_task t k n (ResetMsg s) h = absurd (let q = h.1 in cc)
no_task t k n (Bye s) h = absurd (let q = h.1 in cc)
no_task t k n (EventMsg (Connect s)) h = absurd (let q = h.0 in cc)
no_task t k n (EventMsg (Packet s i b)) h = absurd (let q = h.0 in cc)
no_task t k n (EventMsg (Closed s)) h = absurd (let q = h.0 in cc)
no_task t k n (EventMsg (Finish id b)) h = absurd (let q = h.1.1.1 in cc)
no_task t k n (EventMsg (Task w id b)) h = absurd (let q = h.0 in cc)
no_task t k n (OverMsg id) h = absurd (let q = h.1.1.1 in cc)
no_task t k n NoMore h = absurd (let q = h.1.1 in cc)

no_tasks : (t : Terms) (k n : ℕ) (ms : Mail) → IsRouted t (Tasker k) ms → of (Tasker n) ms ≡ []
no_tasks t k n [] h = refl
no_tasks t k n ((to, m) ∷ ms) h = pick (is to (Tasker n)) refl (no_tasks t k n ms h.1)
  where
    pick : (b : Bool) → is to (Tasker n) ≡ b → of (Tasker n) ms ≡ [] → of (Tasker n) ((to, m) ∷ ms) ≡ []
    pick true q r = absurd (no_task t k n m (subst (λ (x : ActorId). MayPush t (Tasker k) x m) (is_same to (Tasker n) q) h.0))
    pick false q r = ap (λ b. when b m ++ of (Tasker n) ms) q ∙ r

has_room : (t : Terms) (y : ActorId) (pushed : Mail) (log : Log) (n : ℕ) → IsHand t y → IsRouted t y pushed → ((w k : ℕ) → y ≡ Worker w → length (of (Tasker k) pushed) ≤ length (posts log) + 1) → length (of (Tasker n) pushed) ≤ length (posts log) + 1
has_room t y pushed log n (inl (w, (lt, q))) r h = h w n q
has_room t y pushed log n (inr (k, (lt, q))) r h = omega (arith, ap length (no_tasks t k n pushed (subst (λ (x : ActorId). IsRouted t x pushed) q r)))

-- what is told is what was shown
all_shown : {A : Type 0} (xs shown told : List A) → xs ≡ shown → told ≡ shown → Each (λ x. Has x xs) told
all_shown xs shown told q r = subst (λ ys. Each (λ x. Has x xs) ys) (q ∙ sym r) (each_at (λ x. Has x xs) xs (λ x h. h))

pub hand_shows : (t : Terms) (y : ActorId) (st : Stage) (h : Hand) (d : Diary) → IsHand t y → Shown t y d.took d.pushed h.log → Showing t st h → CallsShow h.seen h.log d.dids → (¬ (h.seen.fulls ≡ []) → HadNoRoom t d.refused) → (¬ (collect no_more (bare d.pushed) ≡ []) → EndsCame t y d.took) → HandShows t y h.log d
hand_shows t y st h d hand s g c f ended = record {
  law = s.hand;
  ended = ended;
  asks = s.asks;
  grants = subst (λ xs. Each (λ n. Has n xs ⊎ (¬ (told_of n h.log ≡ []))) (collect granted (answers_of h.log))) (sym c.lives) g.grants;
  refusals = all_shown (collect other_in d.dids) h.seen.others (collect refused (answers_of h.log)) c.others g.others;
  task_full = λ n. f (λ e. n (g.fulls ∙ e));
  room = λ n. has_room t y d.pushed h.log n hand s.hand.routed s.room;
  stops = λ n. (elim (stop_asked Done h.log (λ e. n (c.stops ∙ sym g.stops ∙ e)) s.hand.dialogue) [
    | inl q ↦ absurd (let r : Done ≡ Shutdown = q.0 in cc)
    | inr (i, (v, (next, (e, w)))) ↦ record { at = i; given = v; there = e; answer = inr (next, w) }
  ]);
  binds_are = g.passes ∙ sym c.passes;
  bound = all_shown (collect had_in d.dids) h.seen.bounds (collect bound_in (answers_of h.log)) c.bounds g.bounds;
  info = each_more (Found t h.seen) (λ (p : ℕ × (ℕ × ℕ)). (p.1.0 ≡ p.0 % t.max_conn) × ((p.1.1 ≡ 0) ⊎ Has (p.0, p.1.1) (collect found_in d.dids))) (collect info_in (answers_of h.log)) (λ p k. (k.0, elim k.1 [ inl z ↦ inl z | inr i ↦ inr (c.infos (p.0, p.1.1) i) ])) g.finds;
  logged = g.seat ∙ sym c.seat;
  no_busy = g.busy;
  spent = all_shown (collect spent_in d.dids) h.seen.spents (collect spent_of (answers_of h.log)) c.spents g.spents;
  counts = all_shown (collect sum_in d.dids) h.seen.sums (collect count_in (answers_of h.log)) c.sums g.sums;
  adds = λ i. (let q = c.adds i in omega (arith, q));
  least = c.least;
}

-- all that it shows
pub shows_hand : (t : Terms) (y : ActorId) (st : Stage) (h : Hand) (d : Diary) → IsHand t y → Shown t y d.took d.pushed h.log → Showing t st h → CallsShow h.seen h.log d.dids → (¬ (h.seen.fulls ≡ []) → HadNoRoom t d.refused) → (¬ (collect no_more (bare d.pushed) ≡ []) → EndsCame t y d.took) → Shows t y h.log [] (λ n. untold) d
shows_hand t y st h d hand s g c f ended = record {
  door = λ e. absurd (no_hand_door t (subst (IsHand t) e hand));
  reactor = λ n lt e. absurd (no_hand_reactor t n (subst (IsHand t) e hand));
  hand = λ i. hand_shows t y st h d hand s g c f ended;
  worker = λ w lt e. s.post w e;
  tasker = λ k lt e. s.finish;
}

-- and once it is finished
pub hand_done : (t : Terms) (y : ActorId) (log : Log) (d : Diary) → IsHand t y → ((x : ActorId) → length (collect no_more (of x d.pushed)) ≤ 1) → Finished t y d.took d.pushed log → DoneShows t y log [] d
hand_done t y log d hand once s = record {
  once = once;
  door = λ e. absurd (no_hand_door t (subst (IsHand t) e hand));
  reactor = λ n lt e. absurd (no_hand_reactor t n (subst (IsHand t) e hand));
  hand = λ i. record { heard = s.heard; done = s.done };
  worker = λ w lt e. record { posted = s.posted w e; last = λ k. s.worker_last w k e; overs = s.overs_taken w e };
  tasker = λ k lt e. record { all = s.tasker_all k e; gave = s.gave; overs = s.overs_pushed; last = s.tasker_last };
  round = λ m. record {
    round = λ n lt e. absurd (no_hand_reactor t n (subst (IsHand t) e hand));
    last = λ n j lt e. absurd (no_hand_reactor t n (subst (IsHand t) e hand));
    all = λ j lt e. s.worker_all j e;
  };
}
