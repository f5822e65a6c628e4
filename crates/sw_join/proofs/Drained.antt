-- Nothing is on its way once all actors are finished.
use Rattle.std.proofs.Common.{◌≡◌, ◌⊎◌, ℕ, ◌+◌, ◌<◌, ◌≤◌, ◌==◌, Bool, true, false, List, [], ◌∷◌, ◌++◌, length, refl, ap, ◌∙◌, sym, subst, arith, Some, slice_get, inl, inr, zero, suc}
use Rattle.sw_lists.proofs.Lists.{collect-collect, collect-same, each_all, each_more, eq_same, length_append, perm_has, prefix_collect, prefix_length}
use Rattle.sw_lists.specs.Lists.{collect, Each, Has, when}
use Rattle.sw_lists.specs.Numbers.{IsCounting}
use Rattle.sw_step.specs.Actors.{is}
use Rattle.sw_step.specs.declared.actor.ActorId.{ActorId}
use Rattle.sw_step.specs.declared.actor.ActorId.TheVariants.{Door, Reactor, Worker, Tasker}
use Rattle.sw_record.specs.Drained.{AllSettled}
use Rattle.sw_record.specs.Logs.{number_of, numbers, EndsDone}
use Rattle.sw_record.specs.Tasks.{posts, task_of, tasks_of, finish_of, finishes_of, made, only}
use Rattle.sw_record.specs.Terms.{Terms, HasLink, reactor_of}
use Rattle.sw_record.specs.Words.{Event, Connect, Packet, Closed, Finish, Task, Log}
use Rattle.sw_record.specs.declared.record.LinkRecord.{LinkRecord}
use Rattle.sw_record.specs.declared.record.Record.{Record}
use Rattle.sw_past.specs.Messages.{Message, FreshMsg, SendMsg, CloseMsg, ResetMsg, Bye, EventMsg, OverMsg, NoMore}
use Rattle.sw_past.specs.Past.{Mail, Past, bare, of}
use Rattle.sw_past.specs.Routes.{IsWorker, IsTasker, MayEnd, MayPush, crew, hands}
use Rattle.sw_past.specs.Views.{heard_in, fresh_in, fresh_of, task_in, task_id, finish_in, no_more, over_in}
use Rattle.sw_join.proofs.Merged.{crew_apart, crew_are, crew_has, hands_have}
use Rattle.sw_join.proofs.Own.{log_of}
use Rattle.sw_join.proofs.Routes.{of_own, one_sender}
use Rattle.sw_join.proofs.Scatter.{has_prefix}
use Rattle.sw_join.proofs.Senders.{count, over_least, over_most, sum_each, sum_one, sum_over, whole_by_marks}
use Rattle.sw_join.proofs.Sessions.{link_has, sess_drawn}
use Rattle.sw_join.proofs.Shown.{shown_tasker, shown_worker}
use Rattle.sw_join.proofs.Tasks.{crew_has_log, heard_finish, heard_task, only_share, sorted, task_sender}
use Rattle.sw_join.proofs.Told.{all_routed, took_all}
use Rattle.sw_join.specs.Drained.{LastMarked, FinishedLaws}
use Rattle.sw_join.specs.Laws.{Aim, Ending, Joint, Locals}
use Rattle.sw_join.specs.Shown.{IsComing, IsShown}
use Rattle.sw_join.specs.Tasks.{TaskLocals}

pub each_has : (P : ActorId → Type 0) (ys : List ActorId) (y : ActorId) → Each P ys → Has y ys → P y
each_has P [] y h k = absurd (let q : slice_get [] k.0 ≡ Some y = k.1 in cc)
each_has P (z ∷ ys) y h (zero, e) = subst P (let q : z ≡ y = cc in q) h.0
each_has P (z ∷ ys) y h (suc n, e) = each_has P ys y h.1 (n, e)

pub length_crew : (f : ℕ → ActorId) (n k : ℕ) → length (crew f n k) ≡ k
length_crew f n zero = refl
length_crew f n (suc k) = omega (arith, length_crew f (n + 1) k)

-- where as many NoMore came as there are senders, one came of each
pub one_each : (t : Terms) (x : ActorId) (ys : List ActorId) (ms : Mail) → Each (λ (e : ActorId × Message). (no_more e.1 ≡ []) ⊎ Has e.0 ys) ms → Each (λ y. count no_more ms y ≤ 1) ys → length ys ≤ length (collect no_more (bare ms)) → Each (λ y. 1 ≤ count no_more ms y) ys
one_each t x ys ms s most n =
    let a : length (collect no_more (bare ms)) ≤ sum_over (count no_more ms) ys = over_least no_more ys ms s in
    let b : sum_over (λ y. 1) ys ≡ length ys = sum_one ys in
    sum_each (λ y. 1) (count no_more ms) ys most (omega arith)

-- and what it pushed is all there
pub pipe_whole : (t : Terms) (h : Past) → Joint t h → FinishedLaws t h → (x y : ActorId) → LastMarked no_more (of x (h.pushed y)) → 1 ≤ count no_more (h.took x) y → of y (h.took x) ≡ of x (h.pushed y)
pipe_whole t h j f x y last one =
    let a : length (collect no_more (of x (h.pushed y))) ≤ 1 = f.once x y in
    whole_by_marks no_more (of y (h.took x)) (of x (h.pushed y)) (j.pipes x y) last (omega arith)

-- a beginning of what was pushed has no more of them
pub count_once : (t : Terms) (h : Past) → Joint t h → FinishedLaws t h → (x : ActorId) (ys : List ActorId) → Each (λ y. count no_more (h.took x) y ≤ 1) ys
count_once t h j f x ys = each_all (λ y. count no_more (h.took x) y ≤ 1) ys (λ y.
    let a : length (collect no_more (of y (h.took x))) ≤ length (collect no_more (of x (h.pushed y))) = prefix_length (collect no_more (of y (h.took x))) (collect no_more (of x (h.pushed y))) (prefix_collect no_more (of y (h.took x)) (of x (h.pushed y)) (j.pipes x y)) in
    let b : length (collect no_more (of x (h.pushed y))) ≤ 1 = f.once x y in omega arith)

-- who says NoMore to whom
enders_of : (t : Terms) (P : ActorId → Type 0) (from to : ActorId) (m : Message) → (MayEnd t from to → P from) → MayPush t from to m → (no_more m ≡ []) ⊎ P from
enders_of t P from to NoMore g r = inr (g r)
enders_of t P from to (FreshMsg ip u) g r = inl refl
enders_of t P from to (SendMsg u b) g r = inl refl
enders_of t P from to (CloseMsg u) g r = inl refl
enders_of t P from to (ResetMsg u) g r = inl refl
enders_of t P from to (Bye u) g r = inl refl
enders_of t P from to (EventMsg e) g r = inl refl
enders_of t P from to (OverMsg id) g r = inl refl

pub took_enders : (t : Terms) (a : Aim) (w : Ending) (h : Past) → Locals t a w h → Joint t h → (x : ActorId) (ys : List ActorId) → ((y : ActorId) → MayEnd t y x → Has y ys) → Each (λ (e : ActorId × Message). (no_more e.1 ≡ []) ⊎ Has e.0 ys) (h.took x)
took_enders t a w h l j x ys g = each_more (λ (e : ActorId × Message). MayPush t e.0 x e.1) (λ (e : ActorId × Message). (no_more e.1 ≡ []) ⊎ Has e.0 ys) (h.took x) (λ e r. enders_of t (λ y. Has y ys) e.0 x e.1 (g e.0) r) (took_all t a w h l j x)

door_whole : (t : Terms) (a : Aim) (w : Ending) (h : Past) → Locals t a w h → Joint t h → FinishedLaws t h → (n : ℕ) → n < t.reactor_num → of Door (h.took (Reactor n)) ≡ of (Reactor n) (h.pushed Door)
door_whole t a w h l j f n lt =
    let ys : List ActorId = Door ∷ hands t in
    let len : length (hands t) ≡ t.worker_num + t.tasker_num = (let p : length (crew Worker 0 t.worker_num) ≡ t.worker_num = length_crew Worker 0 t.worker_num in let q : length (crew Tasker 0 t.tasker_num) ≡ t.tasker_num = length_crew Tasker 0 t.tasker_num in omega (arith, length_append (crew Worker 0 t.worker_num) (crew Tasker 0 t.tasker_num))) in
    let all : 1 + (t.worker_num + t.tasker_num) ≤ length (collect no_more (bare (h.took (Reactor n)))) = f.reactor_all n lt in
    let each = one_each t (Reactor n) ys (h.took (Reactor n)) (took_enders t a w h l j (Reactor n) ys (λ y e. elim e [ inl d ↦ (0, ap (λ z. Some z) (sym d)) | inr k ↦ (let g = hands_have t y k in (suc g.0, g.1)) ])) (count_once t h j f (Reactor n) ys) (omega arith) in
    pipe_whole t h j f (Reactor n) Door (f.door_last n lt) each.0

worker_has : (t : Terms) (w : ℕ) → w < t.worker_num → Has (Worker w) (crew Worker 0 t.worker_num)
worker_has t w lt = subst (λ (i : ℕ). Has (Worker i) (crew Worker 0 t.worker_num)) (let e : 0 + w ≡ w = omega arith in e) (crew_has Worker 0 t.worker_num w lt)

tasker_has : (t : Terms) (k : ℕ) → k < t.tasker_num → Has (Tasker k) (crew Tasker 0 t.tasker_num)
tasker_has t k lt = subst (λ (i : ℕ). Has (Tasker i) (crew Tasker 0 t.tasker_num)) (let e : 0 + k ≡ k = omega arith in e) (crew_has Tasker 0 t.tasker_num k lt)

worker_in : (t : Terms) (y : ActorId) → IsWorker t y → Has y (crew Worker 0 t.worker_num)
worker_in t y w = rw w.1.1 (worker_has t w.0 w.1.0)

tasks_whole : (t : Terms) (a : Aim) (e : Ending) (h : Past) → Locals t a e h → Joint t h → FinishedLaws t h → (w k : ℕ) → w < t.worker_num → k < t.tasker_num → of (Worker w) (h.took (Tasker k)) ≡ of (Tasker k) (h.pushed (Worker w))
tasks_whole t a e h l j f w k lt ltk =
    let ys : List ActorId = crew Worker 0 t.worker_num in
    let len : length (crew Worker 0 t.worker_num) ≡ t.worker_num = length_crew Worker 0 t.worker_num in
    let all : t.worker_num ≤ length (collect no_more (bare (h.took (Tasker k)))) = f.tasker_all k ltk in
    let each = one_each t (Tasker k) ys (h.took (Tasker k)) (took_enders t a e h l j (Tasker k) ys (λ y q. worker_in t y q)) (count_once t h j f (Tasker k) ys) (omega arith) in
    pipe_whole t h j f (Tasker k) (Worker w) (f.worker_last w k lt) (each_has (λ y. 1 ≤ count no_more (h.took (Tasker k)) y) ys (Worker w) each (worker_has t w lt))

-- a task worker was given all tasks that were pushed to it
tasks_given : (t : Terms) (a : Aim) (e : Ending) (h : Past) → Locals t a e h → Joint t h → FinishedLaws t h → (w k : ℕ) → w < t.worker_num → k < t.tasker_num → tasks_of w (h.log (Tasker k)) ≡ collect (task_in w) (of (Tasker k) (h.pushed (Worker w)))
tasks_given t a e h l j f w k lt ltk =
    ap (collect (task_of w)) (f.heard (Tasker k) (inr (k, (ltk, refl))))
    ∙ collect-collect (task_of w) (heard_in (Tasker k)) (bare (h.took (Tasker k))) ∙ collect-same (λ m. collect (task_of w) (heard_in (Tasker k) m)) (task_in w) (heard_task k w) (bare (h.took (Tasker k)))
    ∙ sym (one_sender (task_in w) (Worker w) (h.took (Tasker k)) (each_more (λ (x : ActorId × Message). MayPush t x.0 (Tasker k) x.1) (λ (x : ActorId × Message). (task_in w x.1 ≡ []) ⊎ (x.0 ≡ Worker w)) (h.took (Tasker k)) (λ x r. task_sender t w x.0 (Tasker k) x.1 r) (took_all t a e h l j (Tasker k))))
    ∙ ap (collect (task_in w)) (tasks_whole t a e h l j f w k lt ltk)

ids_is : (w : ℕ) (ms : List Message) → numbers (collect (task_in w) ms) ≡ collect (task_id w) ms
ids_is w ms = collect-collect number_of (task_in w) ms

-- tasks go to task workers
task_to : (t : Terms) (w : ℕ) (from to : ActorId) (m : Message) → MayPush t from to m → (task_id w m ≡ []) ⊎ IsTasker t to
task_to t w from to (EventMsg (Task v id b)) h = inr h.1
task_to t w from to (EventMsg (Connect u)) h = inl refl
task_to t w from to (EventMsg (Packet u i b)) h = inl refl
task_to t w from to (EventMsg (Closed u)) h = inl refl
task_to t w from to (EventMsg (Finish id b)) h = inl refl
task_to t w from to (FreshMsg ip u) h = inl refl
task_to t w from to (SendMsg u b) h = inl refl
task_to t w from to (CloseMsg u) h = inl refl
task_to t w from to (ResetMsg u) h = inl refl
task_to t w from to (Bye u) h = inl refl
task_to t w from to (OverMsg id) h = inl refl
task_to t w from to NoMore h = inl refl

find_share : (t : Terms) (f : Message → List ℕ) (n : ℕ) (ms : Mail) → Each (λ (e : ActorId × Message). (f e.1 ≡ []) ⊎ IsTasker t e.0) ms → Has n (collect f (bare ms)) → (k : ℕ) × ((k < t.tasker_num) × Has n (collect f (of (Tasker k) ms)))
find_share t f n [] h (x, e) = absurd (cc)
find_share t f n (m ∷ ms) h has = split (here (f m.1) (collect f (bare ms)) has.0 has.1) (λ k. find_share t f n ms h.1 k)
  where
    here : (xs ys : List ℕ) (k : ℕ) → slice_get (xs ++ ys) k ≡ Some n → Has n xs ⊎ Has n ys
    here [] ys k e = inr (k, e)
    here (x ∷ xs) ys zero e = inl (0, e)
    here (x ∷ xs) ys (suc k) e = elim (here xs ys k e) [ inl a ↦ inl (suc a.0, a.1) | inr b ↦ inr b ]

    right : (xs ys : List ℕ) → Has n ys → Has n (xs ++ ys)
    right [] ys a = a
    right (x ∷ xs) ys a = let b = right xs ys a in (suc b.0, b.1)

    behind : (k : ℕ) (b : Bool) → Has n (collect f (of (Tasker k) ms)) → Has n (collect f (when b m.1 ++ of (Tasker k) ms))
    behind k true a = right (f m.1) (collect f (of (Tasker k) ms)) a
    behind k false a = a

    none : Has n (f m.1) → f m.1 ≡ [] → ⊥
    none a e = absurd (let q : slice_get [] a.0 ≡ Some n = subst (λ (xs : List ℕ). slice_get xs a.0 ≡ Some n) e a.1 in cc)

    own : (k : ℕ) → m.0 ≡ Tasker k → Has n (f m.1) → Has n (collect f (of (Tasker k) (m ∷ ms)))
    own k e a = subst (λ (zs : List Message). Has n (collect f zs)) (sym (of_own (Tasker k) m ms e)) (has_prefix n (f m.1) (f m.1 ++ collect f (of (Tasker k) ms)) (collect f (of (Tasker k) ms), refl) a)

    split : Has n (f m.1) ⊎ Has n (collect f (bare ms)) → (Has n (collect f (bare ms)) → (k : ℕ) × ((k < t.tasker_num) × Has n (collect f (of (Tasker k) ms)))) → (k : ℕ) × ((k < t.tasker_num) × Has n (collect f (of (Tasker k) (m ∷ ms))))
    split (inl a) g = elim h.0 [ inl e ↦ absurd (none a e) | inr w ↦ (w.0, (w.1.0, own w.0 w.1.1 a)) ]
    split (inr b) g = let k = g b in (k.0, (k.1.0, behind k.0 (is m.0 (Tasker k.0)) k.1.1))

counting_all : (n : ℕ) (ns : List ℕ) → IsCounting n ns → (k : ℕ) → k < length ns → Has (n + k) ns
counting_all n [] c k lt = absurd (omega arith)
counting_all n (m ∷ ns) c zero lt = (0, ap (λ (z : ℕ). Some z) (let e : m ≡ n + 0 = (let q : m ≡ n = c.0 in omega arith) in e))
counting_all n (m ∷ ns) c (suc k) lt = let r = counting_all (n + 1) ns c.1 k (omega arith) in (suc r.0, r.1 ∙ ap (λ (z : ℕ). Some z) (let e : n + 1 + k ≡ n + suc k = omega arith in e))

-- Overs come of task workers
over_sender : (t : Terms) (from to : ActorId) (m : Message) → MayPush t from to m → (over_in m ≡ []) ⊎ Has from (crew Tasker 0 t.tasker_num)
over_sender t from to (OverMsg id) h = inr (rw h.0.1.1 (tasker_has t h.0.0 h.0.1.0))
over_sender t from to (FreshMsg ip u) h = inl refl
over_sender t from to (SendMsg u b) h = inl refl
over_sender t from to (CloseMsg u) h = inl refl
over_sender t from to (ResetMsg u) h = inl refl
over_sender t from to (Bye u) h = inl refl
over_sender t from to (EventMsg e) h = inl refl
over_sender t from to NoMore h = inl refl

length_numbers : (ps : List (ℕ × List ℕ)) → length (numbers ps) ≡ length ps
length_numbers [] = refl
length_numbers (p ∷ ps) = omega (arith, length_numbers ps)

-- all that task workers pushed to a worker was taken: as many Overs came as tasks were pushed
back_whole : (t : Terms) (a : Aim) (e : Ending) (h : Past) → Locals t a e h → Joint t h → FinishedLaws t h → (w k : ℕ) → w < t.worker_num → k < t.tasker_num → of (Tasker k) (h.took (Worker w)) ≡ of (Worker w) (h.pushed (Tasker k))
back_whole t a e h l j f w k lt ltk =
    let ys : List ActorId = crew Tasker 0 t.tasker_num in
    let x : ActorId = Worker w in
    let few : Each (λ y. count over_in (h.took x) y ≤ count (task_id w) (h.pushed x) y) ys = crew_are Tasker (λ y. count over_in (h.took x) y ≤ count (task_id w) (h.pushed x) y) 0 t.tasker_num (λ m c. bound m (omega arith)) in
    let p : length (collect (task_id w) (bare (h.pushed x))) ≤ length (collect over_in (bare (h.took x))) = f.overs_taken w lt in
    let q : length (collect over_in (bare (h.took x))) ≤ sum_over (count over_in (h.took x)) ys = over_least over_in ys (h.took x) (each_more (λ (z : ActorId × Message). MayPush t z.0 x z.1) (λ (z : ActorId × Message). (over_in z.1 ≡ []) ⊎ Has z.0 ys) (h.took x) (λ z r. over_sender t z.0 x z.1 r) (took_all t a e h l j x)) in
    let r : sum_over (count (task_id w) (h.pushed x)) ys ≤ length (collect (task_id w) (bare (h.pushed x))) = over_most (task_id w) ys (crew_apart Tasker 0 t.tasker_num (λ m n z. cc)) (h.pushed x) in
    let each = sum_each (count (task_id w) (h.pushed x)) (count over_in (h.took x)) ys few (omega arith) in
    let mine : count (task_id w) (h.pushed x) (Tasker k) ≤ count over_in (h.took x) (Tasker k) = each_has (λ y. count (task_id w) (h.pushed x) y ≤ count over_in (h.took x) y) ys (Tasker k) each (tasker_has t k ltk) in
    let pushed : length (collect over_in (of x (h.pushed (Tasker k)))) ≤ length (tasks_of w (h.log (Tasker k))) = f.overs_pushed k w ltk in
    let same : length (tasks_of w (h.log (Tasker k))) ≡ count (task_id w) (h.pushed x) (Tasker k) = given_count k ltk in
    whole_by_marks over_in (of (Tasker k) (h.took x)) (of x (h.pushed (Tasker k))) (j.pipes x (Tasker k)) (f.tasker_last k w ltk) (omega arith)
  where
    given_count : (m : ℕ) → m < t.tasker_num → length (tasks_of w (h.log (Tasker m))) ≡ count (task_id w) (h.pushed (Worker w)) (Tasker m)
    given_count m c = sym (length_numbers (tasks_of w (h.log (Tasker m)))) ∙ ap (λ (ps : List (ℕ × List ℕ)). length (numbers ps)) (tasks_given t a e h l j f w m lt c) ∙ ap (λ zs. length zs) (ids_is w (of (Tasker m) (h.pushed (Worker w))))

    bound : (m : ℕ) → m < t.tasker_num → count over_in (h.took (Worker w)) (Tasker m) ≤ count (task_id w) (h.pushed (Worker w)) (Tasker m)
    bound m c =
        let u : count over_in (h.took (Worker w)) (Tasker m) ≤ length (collect over_in (of (Worker w) (h.pushed (Tasker m)))) = prefix_length (collect over_in (of (Tasker m) (h.took (Worker w)))) (collect over_in (of (Worker w) (h.pushed (Tasker m)))) (prefix_collect over_in (of (Tasker m) (h.took (Worker w))) (of (Worker w) (h.pushed (Tasker m))) (j.pipes (Worker w) (Tasker m))) in
        let v : length (collect over_in (of (Worker w) (h.pushed (Tasker m)))) ≤ length (tasks_of w (h.log (Tasker m))) = f.overs_pushed m w c in
        let s : length (tasks_of w (h.log (Tasker m))) ≡ count (task_id w) (h.pushed (Worker w)) (Tasker m) = given_count m c in
        omega arith

-- a message without a link
add_one : (s : ℕ) (y z : ActorId) (m : Message) (ms : Mail) → fresh_in m ≡ [] → Has s (collect fresh_in (of y ms)) → Has s (collect fresh_in (of y ((z, m) ∷ ms)))
add_one s y z m ms n h = pick (is z y)
  where
    pick : (b : Bool) → Has s (collect fresh_in (when b m ++ of y ms))
    pick true = subst (λ (xs : List ℕ). Has s (xs ++ collect fresh_in (of y ms))) (sym n) h
    pick false = h

drop_one : (s : ℕ) (y z : ActorId) (m : Message) (ms : Mail) → fresh_in m ≡ [] → Has s (collect fresh_in (of y ((z, m) ∷ ms))) → Has s (collect fresh_in (of y ms))
drop_one s y z m ms n h = pick (is z y) h
  where
    pick : (b : Bool) → Has s (collect fresh_in (when b m ++ of y ms)) → Has s (collect fresh_in (of y ms))
    pick true k = subst (λ (xs : List ℕ). Has s (xs ++ collect fresh_in (of y ms))) n k
    pick false k = k

-- a link that was drawn and pushed came to its reactor
fresh_routed : (t : Terms) (n s : ℕ) (ms : Mail) → Each (λ (e : ActorId × Message). MayPush t Door e.0 e.1) ms → Has s (collect fresh_in (bare ms)) → Has s (collect fresh_in (of (Reactor (reactor_of t s)) ms))
fresh_routed t n s [] r h = absurd (let q : slice_get [] h.0 ≡ Some s = h.1 in cc)
fresh_routed t n s ((y, FreshMsg ip u) ∷ ms) r (zero, e) =
    let q : u ≡ s = cc in
    subst (λ (zs : List Message). Has s (collect fresh_in zs)) (sym (of_own (Reactor (reactor_of t s)) (y, FreshMsg ip u) ms (r.0.1 ∙ ap (λ v. Reactor (reactor_of t v)) q))) (0, ap (λ z. Some z) q)
fresh_routed t n s ((y, FreshMsg ip u) ∷ ms) r (suc k, e) = more (is y (Reactor (reactor_of t s))) (fresh_routed t n s ms r.1 (k, e))
  where
    more : (b : Bool) → Has s (collect fresh_in (of (Reactor (reactor_of t s)) ms)) → Has s (collect fresh_in (when b (FreshMsg ip u) ++ of (Reactor (reactor_of t s)) ms))
    more true h = (suc h.0, h.1)
    more false h = h
fresh_routed t n s ((y, SendMsg u b) ∷ ms) r h = add_one s (Reactor (reactor_of t s)) y (SendMsg u b) ms refl (fresh_routed t n s ms r.1 h)
fresh_routed t n s ((y, CloseMsg u) ∷ ms) r h = add_one s (Reactor (reactor_of t s)) y (CloseMsg u) ms refl (fresh_routed t n s ms r.1 h)
fresh_routed t n s ((y, ResetMsg u) ∷ ms) r h = add_one s (Reactor (reactor_of t s)) y (ResetMsg u) ms refl (fresh_routed t n s ms r.1 h)
fresh_routed t n s ((y, Bye u) ∷ ms) r h = add_one s (Reactor (reactor_of t s)) y (Bye u) ms refl (fresh_routed t n s ms r.1 h)
fresh_routed t n s ((y, EventMsg e) ∷ ms) r h = add_one s (Reactor (reactor_of t s)) y (EventMsg e) ms refl (fresh_routed t n s ms r.1 h)
fresh_routed t n s ((y, OverMsg id) ∷ ms) r h = add_one s (Reactor (reactor_of t s)) y (OverMsg id) ms refl (fresh_routed t n s ms r.1 h)
fresh_routed t n s ((y, NoMore) ∷ ms) r h = add_one s (Reactor (reactor_of t s)) y NoMore ms refl (fresh_routed t n s ms r.1 h)

has_fresh : (s : ℕ) (y : ActorId) (ms : Mail) → Has s (collect fresh_in (of y ms)) → ¬ (collect (fresh_of s) (bare ms) ≡ [])
has_fresh s y [] h none = absurd (let q : slice_get [] h.0 ≡ Some s = h.1 in cc)
has_fresh s y ((z, FreshMsg ip u) ∷ ms) h none = pick (is z y) (u == s) refl h none (λ a b. has_fresh s y ms a b)
  where
    pick : (b v : Bool) → u == s ≡ v → Has s (collect fresh_in (when b (FreshMsg ip u) ++ of y ms)) → collect (fresh_of s) (bare ((z, FreshMsg ip u) ∷ ms)) ≡ [] → (Has s (collect fresh_in (of y ms)) → ¬ (collect (fresh_of s) (bare ms) ≡ [])) → ⊥
    pick b true q k n g = absurd (let e : u ∷ collect (fresh_of s) (bare ms) ≡ [] = subst (λ (x : Bool). when x u ++ collect (fresh_of s) (bare ms) ≡ []) q n in cc)
    pick true false q (zero, e) n g = absurd (let a : u == s ≡ true = eq_same u s (let c : u ≡ s = cc in c) in cc)
    pick true false q (suc k, e) n g = g (k, e) (subst (λ (x : Bool). when x u ++ collect (fresh_of s) (bare ms) ≡ []) q n)
    pick false false q k n g = g k (subst (λ (x : Bool). when x u ++ collect (fresh_of s) (bare ms) ≡ []) q n)
has_fresh s y ((z, SendMsg u b) ∷ ms) h none = has_fresh s y ms (drop_one s y z (SendMsg u b) ms refl h) none
has_fresh s y ((z, CloseMsg u) ∷ ms) h none = has_fresh s y ms (drop_one s y z (CloseMsg u) ms refl h) none
has_fresh s y ((z, ResetMsg u) ∷ ms) h none = has_fresh s y ms (drop_one s y z (ResetMsg u) ms refl h) none
has_fresh s y ((z, Bye u) ∷ ms) h none = has_fresh s y ms (drop_one s y z (Bye u) ms refl h) none
has_fresh s y ((z, EventMsg e) ∷ ms) h none = has_fresh s y ms (drop_one s y z (EventMsg e) ms refl h) none
has_fresh s y ((z, OverMsg id) ∷ ms) h none = has_fresh s y ms (drop_one s y z (OverMsg id) ms refl h) none
has_fresh s y ((z, NoMore) ∷ ms) h none = has_fresh s y ms (drop_one s y z NoMore ms refl h) none

pub drained : (t : Terms) (a : Aim) (e : Ending) (h : Past) (r : Record) → 1 ≤ t.reactor_num → Locals t a e h → Joint t h → IsShown t h r → TaskLocals t h → FinishedLaws t h → AllSettled t r
drained t a e h r some l j i tl f =
    record {
      over = λ s k has. elim (i.link s k has) [
        | inl q ↦ f.over (reactor_of t s) q.0 s k q.1 has.session
        | inr c ↦ absurd (came s k has c)
      ];
      tasks = λ w log there n lt. (let b = shown_worker t h r i w log there in
          let ids : List ℕ = collect (task_id w) (bare (h.pushed (Worker w))) in
          let size : length ids ≡ length (posts (h.log (Worker w))) = f.posted w b.0 in
          let all : Has n ids = subst (λ (x : ℕ). Has x ids) (let q : 0 + n ≡ n = omega arith in q) (counting_all 0 ids (tl.worker w b.0).counting n (omega (arith, ap (λ (x : Log). length (posts x)) b.1))) in
          let k = find_share t (task_id w) n (h.pushed (Worker w)) (each_more (λ (x : ActorId × Message). MayPush t (Worker w) x.0 x.1) (λ (x : ActorId × Message). (task_id w x.1 ≡ []) ⊎ IsTasker t x.0) (h.pushed (Worker w)) (λ x q. task_to t w (Worker w) x.0 x.1 q) (all_routed t a e h l j (Worker w))) all in (
            k.0,
            (
              h.log (Tasker k.0),
              (
                (ap (λ (xs : List Log). slice_get xs k.0) i.taskers ∙ crew_has_log h Tasker 0 t.tasker_num k.0 k.1.0 ∙ ap (λ (x : ℕ). Some (h.log (Tasker x))) (let c : 0 + k.0 ≡ k.0 = omega arith in c)),
                subst (Has n) (sym (ids_is w (of (Tasker k.0) (h.pushed (Worker w)))) ∙ sym (ap numbers (tasks_given t a e h l j f w k.0 b.0 k.1.0))) k.1.1,
              ),
            ),
          ));
      finishes = λ w k log given there theres. (let b = shown_worker t h r i w log there in let c = shown_tasker t h r i k given theres in
          subst (λ (x : Log). only (numbers (tasks_of w x)) (finishes_of log) ≡ made w x) c.1 (subst (λ (x : Log). only (numbers (tasks_of w (h.log (Tasker k)))) (finishes_of x) ≡ made w (h.log (Tasker k))) b.1
          (ap (λ (es : List Event). only (numbers (tasks_of w (h.log (Tasker k)))) (collect finish_of es)) (f.heard (Worker w) (inl (w, (b.0, refl))))
          ∙ ap (only (numbers (tasks_of w (h.log (Tasker k))))) (collect-collect finish_of (heard_in (Worker w)) (bare (h.took (Worker w))) ∙ collect-same (λ m. collect finish_of (heard_in (Worker w) m)) finish_in (heard_finish w) (bare (h.took (Worker w))))
          ∙ only_share (numbers (tasks_of w (h.log (Tasker k)))) (Tasker k) (h.took (Worker w)) (sorted t a e h l j tl w k b.0 c.0)
          ∙ ap (collect finish_in) (back_whole t a e h l j f w k b.0 c.0)
          ∙ f.gave k w c.0)));
      done = λ k log there. (let o = log_of t h r i k log there in subst (λ (x : Log). (x ≡ []) ⊎ EndsDone x) o.log_is (f.done o.who o.hand));
    }
  where
    came : (s : ℕ) (k : LinkRecord) → HasLink r.links s k → IsComing t h s k → ⊥
    came s k has c =
        let n : ℕ = reactor_of t s in
        let lt : reactor_of t s < t.reactor_num = omega arith in
        let d : Has s (collect fresh_in (bare (h.pushed Door))) = subst (Has s) (sym f.fresh) (perm_has s (sess_drawn t h r i) (link_has r.links has.at k s has.there has.session)) in
        let g : Has s (collect fresh_in (of (Reactor (reactor_of t s)) (h.pushed Door))) = fresh_routed t n s (h.pushed Door) l.door.routed d in
        let here : ¬ (collect (fresh_of s) (bare (h.took (Reactor (reactor_of t s)))) ≡ []) = has_fresh s Door (h.took (Reactor (reactor_of t s))) (subst (λ (ms : List Message). Has s (collect fresh_in ms)) (sym (door_whole t a e h l j f (reactor_of t s) lt)) g) in
        let o = f.settled (reactor_of t s) lt s here in
        c.unkept o.0 o.1.0 o.1.1
