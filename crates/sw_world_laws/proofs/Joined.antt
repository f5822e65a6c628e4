-- What the world keeps gives the laws of the join.
use Rattle.std.proofs.Common.{◌≡◌, ◌⊎◌, ℕ, ◌+◌, ◌<◌, ◌≤◌, ◌%◌, nat_lt, Bool, true, false, if◌then◌else◌, List, [], ◌∷◌, length, refl, ap, ◌∙◌, sym, subst, arith, inl, inr, suc}
use Rattle.std.proofs.lemmas.Bool.Decides.{nat_tests}
use Rattle.sw_lists.specs.Lists.{collect, IsPrefix, Each, Has}
use Rattle.sw_lists.proofs.Lists.{length_append, prefix_refl, each_more, collect-collect, collect-same}
use Rattle.sw_step.specs.declared.actor.ActorId.{ActorId}
use Rattle.sw_step.specs.declared.actor.ActorId.TheVariants.{Door, Reactor, Worker, Tasker}
use Rattle.sw_record.specs.Words.{Shutdown, Connect, Packet, Closed, Finish, Task}
use Rattle.sw_record.specs.Terms.{Terms}
use Rattle.sw_record.specs.Causes.{IsAsked}
use Rattle.sw_record.specs.Answers.{answers_of}
use Rattle.sw_record.specs.Uids.{bound_in, info_in}
use Rattle.sw_past.specs.Claims.{Claim, drew_in}
use Rattle.sw_past.specs.Messages.{Message, FreshMsg, SendMsg, CloseMsg, ResetMsg, Bye, EventMsg, OverMsg, NoMore}
use Rattle.sw_past.specs.Past.{Mail, bare, of}
use Rattle.sw_past.specs.Views.{fresh_in, no_more}
use Rattle.sw_past.specs.Routes.{IsHand, MayPush, crew}
use Rattle.sw_join.specs.Sessions.{WordLaws}
use Rattle.sw_join.specs.Causes.{Looks, CauseLaws}
use Rattle.sw_join.specs.Uids.{UidLaws}
use Rattle.sw_join.specs.Places.{TableLaws}
use Rattle.sw_join.specs.Drained.{FinishedLaws}
use Rattle.sw_join.proofs.Told.{Kind, AsDoor, AsReactor, AsHand, AsNone, kind, all_routed}
use Rattle.sw_join.proofs.Routes.{took_may}
use Rattle.sw_join.proofs.Senders.{sum_over, count, over_least}
use Rattle.sw_join.proofs.Merged.{crew_has}
use Rattle.sw_record.specs.Places.{Ran, spent_in as spent_of}
use Rattle.sw_join.specs.Modes.{AimOf, EndOf}
use Rattle.sw_world_ports.specs.Made.{accept_in, live_in, other_in, pass_in, found_in, had_in, free_in, firsts, seat_in, stop_in, saw_stop_in, spent_in}
use Rattle.sw_world_ports.specs.Law.{OneBind, IsStopped, all_in}
use Rattle.sw_world_ports.proofs.Haves.{each_has}
use Rattle.sw_world_ports.proofs.Uids.{uid_found, uid_is, bound_once}
use Rattle.sw_world_laws.specs.Shows.{HandShows, fresh_pair, drew_pair}
use Rattle.sw_world_laws.specs.Done.{DoneShows, ReactorDone, HandDone, WorkerDone, TaskerDone}
use Rattle.sw_world_laws.specs.Actors.{Actors}
use Rattle.sw_world_laws.specs.World.{Pending, Core, there}
use Rattle.sw_world_laws.specs.History.{History, diary_of, past_of, LocalBy}
use Rattle.sw_world_laws.specs.Law.{Holds}
use Rattle.sw_world_laws.specs.Runs.{AllDone}
use Rattle.sw_world_laws.proofs.Locals.{shown, locals, joint, lt_test, test_lt, there_hand, pair_fresh, pair_drew, door_shown, uid_of, words_found}
use Rattle.sw_world_laws.proofs.Turns.{more_of, fair_took}

hand_of : (t : Terms) (legal : List Ran → Type 0) (p : Actors t) (c : Core p.State) (h : History) → Holds t legal p c h → c.lost ≡ false → (y : ActorId) → IsHand t y → HandShows t y (p.log (c.states y)) (diary_of h y)
hand_of t legal p c h l ok y k = (shown t legal p c h l ok y (there_hand t y k)).hand k

-- session words
abbrev pub released_in : History → ℕ → List ℕ
released_in h n = firsts (collect free_in (h.dids (Reactor n)))

pub word_laws : (t : Terms) (legal : List Ran → Type 0) (p : Actors t) (c : Core p.State) (h : History) → Holds t legal p c h → WordLaws t (past_of t p c h) (released_in h)
word_laws t legal p c h l =
    record {
      again = λ s u hs hu lt e. l.ports.words.book.again s u hs hu lt e;
      release = λ n lt s has. (more_of t legal p c h l n lt).freed_kept s has;
    }

-- what was found of the session words, the stop word and full pipes
abbrev pub is_some : {A : Type 0} → List A → Bool
is_some [] = false
is_some (x ∷ xs) = true

some_true : {A : Type 0} (xs : List A) → ¬ (xs ≡ []) → is_some xs ≡ true
some_true [] n = absurd (n refl)
some_true (x ∷ xs) n = refl

true_some : {A : Type 0} (xs : List A) → is_some xs ≡ true → ¬ (xs ≡ [])
true_some [] e q = absurd (cc)
true_some (x ∷ xs) e q = absurd (cc)

-- a task worker to whom as much was pushed as a pipe holds
abbrev pub was_full : Terms → History → ℕ → Bool
was_full t h n = if nat_lt n t.tasker_num then (if nat_lt (length (h.sent (Tasker n))) t.pipe_capacity then false else true) else false

abbrev pub looks_of : Terms → History → Looks
looks_of t h = record { lives = λ y. collect live_in (h.dids y); others = λ y. collect other_in (h.dids y); stopped = λ n. is_some (collect saw_stop_in (h.dids (Reactor n))); full = was_full t h }

full_true : (t : Terms) (h : History) (n : ℕ) → n < t.tasker_num → t.pipe_capacity ≤ length (h.sent (Tasker n)) → was_full t h n ≡ true
full_true t h n lt le = ap (λ b. if b then (if nat_lt (length (h.sent (Tasker n))) t.pipe_capacity then false else true) else false) (lt_test n t.tasker_num lt) ∙ two (nat_lt (length (h.sent (Tasker n))) t.pipe_capacity) refl
  where
    two : (b : Bool) → nat_lt (length (h.sent (Tasker n))) t.pipe_capacity ≡ b → (if b then false else true) ≡ true
    two true e = absurd (let q : length (h.sent (Tasker n)) < t.pipe_capacity = test_lt (length (h.sent (Tasker n))) t.pipe_capacity e in omega arith)
    two false e = refl

true_full : (t : Terms) (h : History) (n : ℕ) → was_full t h n ≡ true → (n < t.tasker_num) × (t.pipe_capacity ≤ length (h.sent (Tasker n)))
true_full t h n = one (nat_lt n t.tasker_num) refl (nat_lt (length (h.sent (Tasker n))) t.pipe_capacity) refl
  where
    one : (b : Bool) → nat_lt n t.tasker_num ≡ b → (d : Bool) → nat_lt (length (h.sent (Tasker n))) t.pipe_capacity ≡ d → (if b then (if d then false else true) else false) ≡ true → (n < t.tasker_num) × (t.pipe_capacity ≤ length (h.sent (Tasker n)))
    one true e true f q = absurd (cc)
    one true e false f q = (test_lt n t.tasker_num e, (grind (arith, nat_tests)))
    one false e d f q = absurd (cc)

-- all that came to a task worker is of workers that are there
to_tasker : (t : Terms) (y : ActorId) (n : ℕ) (m : Message) → MayPush t y (Tasker n) m → (w : ℕ) × (y ≡ Worker w)
to_tasker t y n (FreshMsg ip s) h = absurd (let q = h.1 in cc)
to_tasker t y n (SendMsg s b) h = absurd (let q = h.1 in cc)
to_tasker t y n (CloseMsg s) h = absurd (let q = h.1 in cc)
to_tasker t y n (ResetMsg s) h = absurd (let q = h.1 in cc)
to_tasker t y n (Bye s) h = absurd (let q = h.1 in cc)
to_tasker t y n (EventMsg (Connect s)) h = absurd (let q : Tasker n ≡ Worker h.1.0 = h.1.1.1 in cc)
to_tasker t y n (EventMsg (Packet s i b)) h = absurd (let q : Tasker n ≡ Worker h.1.0 = h.1.1.1 in cc)
to_tasker t y n (EventMsg (Closed s)) h = absurd (let q : Tasker n ≡ Worker h.1.0 = h.1.1.1 in cc)
to_tasker t y n (EventMsg (Finish id b)) h = absurd (let q : Tasker n ≡ Worker h.1.0 = h.1.1.1 in cc)
to_tasker t y n (EventMsg (Task w id b)) h = (w, h.0)
to_tasker t y n (OverMsg id) h = absurd (let q : Tasker n ≡ Worker h.1.0 = h.1.1.1 in cc)
to_tasker t y n NoMore h = (h.0, h.1.1)

abbrev one_of : Message → List ℕ
one_of m = 0 ∷ []

ones : (ms : List Message) → length (collect one_of ms) ≡ length ms
ones [] = refl
ones (m ∷ ms) = ap (λ n. suc n) (ones ms)

bare_length : (ms : Mail) → length (bare ms) ≡ length ms
bare_length [] = refl
bare_length (m ∷ ms) = ap (λ n. suc n) (bare_length ms)

-- counting what workers pushed to a task worker
share_lengths : (h : History) (n : ℕ) (ys : List ActorId) → ((y : ActorId) → of (Tasker n) (h.pushed y) ≡ of y (h.sent (Tasker n))) → sum_over (count one_of (h.sent (Tasker n))) ys ≡ length (collect (λ y. of (Tasker n) (h.pushed y)) ys)
share_lengths h n [] e = refl
share_lengths h n (y ∷ ys) e =
    omega (arith, share_lengths h n ys e, ones (of y (h.sent (Tasker n))), ap (λ (ms : List Message). length ms) (e y), length_append (of (Tasker n) (h.pushed y)) (collect (λ z. of (Tasker n) (h.pushed z)) ys))

from_worker : (t : Terms) (legal : List Ran → Type 0) (p : Actors t) (c : Core p.State) (h : History) → Holds t legal p c h → (n : ℕ) (y : ActorId) → Kind t y → Each (λ (e : ActorId × Message). e.0 ≡ Tasker n → Has y (crew Worker 0 t.worker_num)) (h.pushed y)
from_worker t legal p c h l n y k = by k
  where
    routed : Each (λ (e : ActorId × Message). MayPush t y e.0 e.1) (h.pushed y)
    routed = all_routed t (AimOf t) (EndOf t) (past_of t p c h) (locals t legal p c h l) (joint t legal p c h l) y

    each : ((w : ℕ) → y ≡ Worker w → Has y (crew Worker 0 t.worker_num)) → Each (λ (e : ActorId × Message). e.0 ≡ Tasker n → Has y (crew Worker 0 t.worker_num)) (h.pushed y)
    each f = each_more (λ (e : ActorId × Message). MayPush t y e.0 e.1) (λ (e : ActorId × Message). e.0 ≡ Tasker n → Has y (crew Worker 0 t.worker_num)) (h.pushed y)
        (λ e may i. (let w = to_tasker t y n e.1 (subst (λ (z : ActorId). MayPush t y z e.1) i may) in f w.0 w.1)) routed

    by : Kind t y → Each (λ (e : ActorId × Message). e.0 ≡ Tasker n → Has y (crew Worker 0 t.worker_num)) (h.pushed y)
    by (AsDoor q) = each (λ w i. absurd (let j : Door ≡ Worker w = sym q ∙ i in cc))
    by (AsReactor m lt q) = each (λ w i. absurd (let j : Reactor m ≡ Worker w = sym q ∙ i in cc))
    by (AsHand (inl q)) = each (λ w i. subst (λ (z : ActorId). Has z (crew Worker 0 t.worker_num)) (sym q.1.1) (let e : 0 + q.0 ≡ q.0 = omega arith in subst (λ v. Has (Worker v) (crew Worker 0 t.worker_num)) e (crew_has Worker 0 t.worker_num q.0 q.1.0)))
    by (AsHand (inr q)) = each (λ w i. absurd (let j : Tasker q.0 ≡ Worker w = sym q.1.1 ∙ i in cc))
    by (AsNone d r q) = subst (Each (λ (e : ActorId × Message). e.0 ≡ Tasker n → Has y (crew Worker 0 t.worker_num))) (sym ((locals t legal p c h l).absent y d r q)) tt

sent_workers : (t : Terms) (legal : List Ran → Type 0) (p : Actors t) (c : Core p.State) (h : History) → Holds t legal p c h → (n : ℕ) → Each (λ (e : ActorId × Message). Has e.0 (crew Worker 0 t.worker_num)) (h.sent (Tasker n))
sent_workers t legal p c h l n = took_may (λ y m. Has y (crew Worker 0 t.worker_num)) (record (past_of t p c h) { took = h.sent }) (λ x y. subst (IsPrefix (of y (h.sent x))) (sym (l.pipes.same x y)) (prefix_refl (of y (h.sent x)))) (Tasker n) (λ y. from_worker t legal p c h l n y (kind t y))

full_workers : (t : Terms) (legal : List Ran → Type 0) (p : Actors t) (c : Core p.State) (h : History) → Holds t legal p c h → (n : ℕ) → length (h.sent (Tasker n)) ≤ length (collect (λ y. of (Tasker n) (h.pushed y)) (crew Worker 0 t.worker_num))
full_workers t legal p c h l n =
    let a : length (collect one_of (bare (h.sent (Tasker n)))) ≤ sum_over (count one_of (h.sent (Tasker n))) (crew Worker 0 t.worker_num) =
    over_least one_of (crew Worker 0 t.worker_num) (h.sent (Tasker n)) (each_more (λ (e : ActorId × Message). Has e.0 (crew Worker 0 t.worker_num)) (λ (e : ActorId × Message). (one_of e.1 ≡ []) ⊎ Has e.0 (crew Worker 0 t.worker_num)) (h.sent (Tasker n)) (λ e k. inr k) (sent_workers t legal p c h l n)) in
    let b : length (collect one_of (bare (h.sent (Tasker n)))) ≡ length (h.sent (Tasker n)) = ones (bare (h.sent (Tasker n))) ∙ bare_length (h.sent (Tasker n)) in
    let d : sum_over (count one_of (h.sent (Tasker n))) (crew Worker 0 t.worker_num) ≡ length (collect (λ y. of (Tasker n) (h.pushed y)) (crew Worker 0 t.worker_num)) = share_lengths h n (crew Worker 0 t.worker_num) (λ y. l.pipes.same (Tasker n) y) in
    omega arith

-- the stop word was set by a Shutdown, or as the net failed
stopped_by : (t : Terms) (legal : List Ran → Type 0) (p : Actors t) (c : Core p.State) (h : History) → Holds t legal p c h → c.lost ≡ false → IsStopped t h.dids → (t.listen_fault ≡ true) ⊎ ((y : ActorId) × (IsHand t y × IsAsked (p.log (c.states y)) Shutdown))
stopped_by t legal p c h l ok (y, (inl e, some)) = inl ((door_shown t legal p c h l).stops (subst (λ (z : ActorId). ¬ (collect stop_in (h.dids z) ≡ [])) e some))
stopped_by t legal p c h l ok (y, (inr k, some)) = inr (y, (k, (hand_of t legal p c h l ok y k).stops some))

pub cause_laws : (t : Terms) (legal : List Ran → Type 0) (p : Actors t) (c : Core p.State) (h : History) → Holds t legal p c h → c.lost ≡ false → CauseLaws t (past_of t p c h) (looks_of t h)
cause_laws t legal p c h l ok =
    record {
      asks = λ y k. (hand_of t legal p c h l ok y k).asks;
      grants = λ y k. (hand_of t legal p c h l ok y k).grants;
      refusals = λ y k. (hand_of t legal p c h l ok y k).refusals;
      task_full = λ y k some. (let q = (hand_of t legal p c h l ok y k).task_full some in (q.0, full_true t h q.0 q.1.0 (l.full y q.0 q.1.1.0 q.1.0 q.1.1.1)));
      room = λ w n lt. (hand_of t legal p c h l ok (Worker w) (inl (w, (lt, refl)))).room n;
      closed = λ n lt. (more_of t legal p c h l n lt).closed;
      resets = λ n lt. (more_of t legal p c h l n lt).resets;
      stops = λ n lt k e has i cause own. some_true (collect saw_stop_in (h.dids (Reactor n))) ((more_of t legal p c h l n lt).stops k e has i cause own);
      lives = λ y. (l.ports.words.found y).lives;
      others = λ y. (l.ports.words.found y).others;
      stopped = λ n e. stopped_by t legal p c h l ok (l.ports.stop.seen (Reactor n) (true_some (collect saw_stop_in (h.dids (Reactor n))) e));
      full = λ n e. (let q = true_full t h n e in let a : t.pipe_capacity ≤ length (h.sent (Tasker n)) = q.1 in let b : length (h.sent (Tasker n)) ≤ length (collect (λ y. of (Tasker n) (h.pushed y)) (crew Worker 0 t.worker_num)) = full_workers t legal p c h l n in omega arith);
    }

-- uids
pub uid_laws : (t : Terms) (legal : List Ran → Type 0) (p : Actors t) (c : Core p.State) (h : History) → Holds t legal p c h → c.lost ≡ false → UidLaws t (past_of t p c h)
uid_laws t legal p c h l ok =
    record {
      uid = uid_of t h;
      passes = all_in pass_in h.dids;
      once = λ s. (let q = l.ports.words.book.one s in bound_once t (all_in pass_in h.dids) s q.0 q.1);
      gave = λ s. refl;
      binds_are = λ y k. (hand_of t legal p c h l ok y k).binds_are;
      bound = λ y k. each_more (λ (q : ℕ × ℕ). Has q (collect had_in (h.dids y))) (λ (q : ℕ × ℕ). q.1 ≡ uid_of t h q.0) (collect bound_in (answers_of (p.log (c.states y))))
          (λ q has. uid_found t (all_in pass_in h.dids) q.0 q.1 (each_has (λ (x : ℕ × ℕ). OneBind t (all_in pass_in h.dids) x.0 x.1) (collect had_in (h.dids y)) q (l.ports.words.found y).had has)) (hand_of t legal p c h l ok y k).bound;
      info = λ y k. each_more (λ (q : ℕ × (ℕ × ℕ)). (q.1.0 ≡ q.0 % t.max_conn) × ((q.1.1 ≡ 0) ⊎ Has (q.0, q.1.1) (collect found_in (h.dids y)))) (λ (q : ℕ × (ℕ × ℕ)). (q.1.0 ≡ q.0 % t.max_conn) × ((q.1.1 ≡ 0) ⊎ (q.1.1 ≡ uid_of t h q.0))) (collect info_in (answers_of (p.log (c.states y))))
          (λ q has. (has.0, elim has.1 [ inl z ↦ inl z | inr z ↦ found y q.0 q.1.1 z ])) (hand_of t legal p c h l ok y k).info;
      over = λ n lt s k e has is state own. uid_is t (all_in pass_in h.dids) s e.uid (l.ports.words.book.frees n lt s e.uid ((more_of t legal p c h l n lt).over s k e has is state own));
      live = λ n lt s k e has is state. elim ((more_of t legal p c h l n lt).live s k e has is state) [ inl z ↦ inl z | inr z ↦ found (Reactor n) s e.uid z ];
    }
  where
    found : (y : ActorId) (s u : ℕ) → Has (s, u) (collect found_in (h.dids y)) → (u ≡ 0) ⊎ (u ≡ uid_of t h s)
    found y s u has = elim (each_has (λ (x : ℕ × ℕ). (x.1 ≡ 0) ⊎ OneBind t (all_in pass_in h.dids) x.0 x.1) (collect found_in (h.dids y)) (s, u) (l.ports.words.found y).found has) [ inl z ↦ inl z | inr z ↦ inr (uid_found t (all_in pass_in h.dids) s u z) ]

-- the Table
pub table_laws : (t : Terms) (legal : List Ran → Type 0) (p : Actors t) (c : Core p.State) (h : History) → Holds t legal p c h → c.lost ≡ false → TableLaws t legal (past_of t p c h) (all_in seat_in h.dids)
table_laws t legal p c h l ok =
    let k = l.ports.shelf in
    record {
      logged = λ y i. (hand_of t legal p c h l ok y i).logged;
      history = c.ports.table;
      is_legal = k.is_legal;
      each = k.each;
      rise = k.rise;
      once = k.once;
      all = k.all;
      no_busy = λ y i. (hand_of t legal p c h l ok y i).no_busy;
      spent = λ y i. each_more (λ n. Has n (collect spent_in (h.dids y))) (λ n. (n ≡ t.table_last_call) × (length c.ports.table ≡ n)) (collect spent_of (answers_of (p.log (c.states y))))
          (λ n has. each_has (λ m. (m ≡ t.table_last_call) × (length c.ports.table ≡ m)) (collect spent_in (h.dids y)) n (k.none_left y) has) (hand_of t legal p c h l ok y i).spent;
    }

-- once all actors are finished
pub done_of : (t : Terms) (legal : List Ran → Type 0) (p : Actors t) (c : Core p.State) (h : History) → Holds t legal p c h → AllDone t p c → (y : ActorId) → there t y ≡ true → DoneShows t y (p.log (c.states y)) (p.kept (c.states y)) (diary_of h y)
done_of t legal p c h l d y th = p.done_shows y (c.states y) (diary_of h y) (subst (λ (n : Pending). LocalBy t p y (c.states y) n (diary_of h y)) (d y th) (l.local y th))

fresh_all : (ms : List Message) (xs : List (ℕ × Claim)) → collect fresh_pair ms ≡ collect drew_pair xs → collect fresh_in ms ≡ collect drew_in xs
fresh_all ms xs e =
    let f : ℕ × ℕ → List ℕ = λ (q : ℕ × ℕ). q.1 ∷ [] in
    sym (collect-collect f fresh_pair ms ∙ collect-same (λ m. collect f (fresh_pair m)) fresh_in pair_fresh ms) ∙ ap (collect f) e ∙ (collect-collect f drew_pair xs ∙ collect-same (λ x. collect f (drew_pair x)) drew_in pair_drew xs)

pub finished_laws : (t : Terms) (legal : List Ran → Type 0) (p : Actors t) (c : Core p.State) (h : History) → Holds t legal p c h → AllDone t p c → FinishedLaws t (past_of t p c h)
finished_laws t legal p c h l d =
    record {
      once = λ x y. at_most x y (there t y) refl;
      fresh = fresh_all (bare (h.pushed Door)) (collect accept_in (h.dids Door)) ((done_of t legal p c h l d Door refl).door refl).fresh;
      door_last = ((done_of t legal p c h l d Door refl).door refl).last;
      over = λ n lt. (reactor n lt).over;
      settled = λ n lt. (reactor n lt).settled;
      reactor_all = λ n lt. (reactor n lt).all;
      heard = λ y k. (hand y k).heard;
      done = λ y k. (hand y k).done;
      posted = λ w lt. (worker w lt).posted;
      worker_last = λ w k lt. (worker w lt).last k;
      overs_taken = λ w lt. (worker w lt).overs;
      tasker_all = λ k lt. (tasker k lt).all;
      gave = λ k w lt. (tasker k lt).gave w;
      overs_pushed = λ k w lt. (tasker k lt).overs w;
      tasker_last = λ k w lt. (tasker k lt).last w;
    }
  where
    at_most : (x y : ActorId) (b : Bool) → there t y ≡ b → length (collect no_more (of x (h.pushed y))) ≤ 1
    at_most x y true e = (done_of t legal p c h l d y e).once x
    at_most x y false e = subst (λ (ms : Mail). length (collect no_more (of x ms)) ≤ 1) (sym (l.absent y e)) (omega arith)

    reactor : (n : ℕ) → n < t.reactor_num → ReactorDone t (p.kept (c.states (Reactor n))) (diary_of h (Reactor n))
    reactor n lt = (done_of t legal p c h l d (Reactor n) (lt_test n t.reactor_num lt)).reactor n lt refl (words_found t legal p c h l n lt) (fair_took t legal p c h l n)

    hand : (y : ActorId) → IsHand t y → HandDone y (p.log (c.states y)) (diary_of h y)
    hand y k = (done_of t legal p c h l d y (there_hand t y k)).hand k

    worker : (w : ℕ) → w < t.worker_num → WorkerDone w (p.log (c.states (Worker w))) (diary_of h (Worker w))
    worker w lt = (done_of t legal p c h l d (Worker w) (lt_test w t.worker_num lt)).worker w lt refl

    tasker : (k : ℕ) → k < t.tasker_num → TaskerDone t (p.log (c.states (Tasker k))) (diary_of h (Tasker k))
    tasker k lt = (done_of t legal p c h l d (Tasker k) (lt_test k t.tasker_num lt)).tasker k lt refl
