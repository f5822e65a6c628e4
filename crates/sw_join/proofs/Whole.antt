-- Nothing is missing of a link at its end.
use Rattle.std.proofs.Common.{◌≡◌, ◌⊎◌, ℕ, ◌+◌, ◌<◌, ◌≤◌, List, [], ◌∷◌, ◌++◌, length, take, refl, ap, ◌∙◌, sym, subst, append_assoc, arith, Some, slice_get, inl, inr, zero, suc}
use Rattle.sw_lists.proofs.Lists.{collect-append, collect-collect, collect-same, each_more, equal_or_not as eq_cases, length_append, prefix_collect, prefix_length}
use Rattle.sw_lists.proofs.Sums.{sum_each}
use Rattle.sw_lists.specs.Lists.{collect, IsPrefix, Each, Has}
use Rattle.sw_lists.specs.Numbers.{sum_below}
use Rattle.sw_step.specs.declared.actor.ActorId.{ActorId}
use Rattle.sw_step.specs.declared.actor.ActorId.TheVariants.{Door, Reactor, Worker, Tasker}
use Rattle.sw_record.specs.Logs.{of_session, events_of, told_of, packets_in}
use Rattle.sw_record.specs.Order.{target}
use Rattle.sw_record.specs.Terms.{Terms, session_of, numbered, packets_cut, packets_on, reactor_of}
use Rattle.sw_record.specs.Whole.{IsAllCut, IsSoft, IsOwnEnd, IsToldWhole, StandsLate, IsWrittenWhole, Whole, WholeKept}
use Rattle.sw_record.specs.Words.{Event, Connect, Packet, Closed, Finish, Task, Ended, Log}
use Rattle.sw_record.specs.declared.record.LinkRecord.{LinkRecord}
use Rattle.sw_record.specs.declared.record.LinkState.TheVariants.{Over}
use Rattle.sw_record.specs.declared.record.Record.{Record}
use Rattle.sw_past.specs.Messages.{Message, FreshMsg, SendMsg, CloseMsg, ResetMsg, Bye, EventMsg, OverMsg, NoMore}
use Rattle.sw_past.specs.Past.{Mail, Past, bare, of}
use Rattle.sw_past.specs.Routes.{IsWorker, IsHand, MayPush}
use Rattle.sw_past.specs.Said.{said}
use Rattle.sw_past.specs.Views.{heard_in, sends_in, byes_in, talk_in, due, due_in}
use Rattle.sw_join.proofs.Counts.{count_of, counts_least, counts_most}
use Rattle.sw_join.proofs.Dues.{due_streams, said_byes, whole_by_dues}
use Rattle.sw_join.proofs.Late.{stands_late}
use Rattle.sw_join.proofs.Order.{story_packets}
use Rattle.sw_join.proofs.Own.{IsLogOf, Talks, behind, log_of, own, owned_by, owned_kept, part_of, split_share, took_behind}
use Rattle.sw_join.proofs.Said.{talk_byes}
use Rattle.sw_join.proofs.Shown.{shown_worker}
use Rattle.sw_join.proofs.Told.{shows, told_prefix, took_all}
use Rattle.sw_join.specs.Aims.{packets_from, story, KeptAim, KeptEnd}
use Rattle.sw_join.specs.Laws.{Aim, Ending, streams, LastDue, IsEnded, IsKept, Joint, Locals}
use Rattle.sw_join.specs.Shown.{IsComing, IsShown}

talk_byes_is : (s : ℕ) (ms : List Message) → collect (byes_in s) (collect (talk_in s) ms) ≡ collect (byes_in s) ms
talk_byes_is s ms = collect-collect (byes_in s) (talk_in s) ms ∙ collect-same (λ m. collect (byes_in s) (talk_in s m)) (byes_in s) (talk_byes s) ms

-- a reactor took no more Byes of a worker than the worker's handler was given due events
byes_told : (t : Terms) (a : Aim) (w : Ending) (h : Past) → Locals t a w h → Joint t h → (s k : ℕ) → k < t.worker_num → count_of (byes_in s) (h.took (Reactor (reactor_of t s))) k ≤ length (collect (due t s) (told_of s (h.log (Worker k))))
byes_told t a w h l j s k lt =
    let x : ActorId = Reactor (reactor_of t s) in
    let y : ActorId = Worker k in
    let p : length (collect (byes_in s) (of y (h.took x))) ≤ length (collect (byes_in s) (of x (h.pushed y))) = prefix_length (collect (byes_in s) (of y (h.took x))) (collect (byes_in s) (of x (h.pushed y))) (prefix_collect (byes_in s) (of y (h.took x)) (of x (h.pushed y)) (j.pipes x y)) in
    let q : length (collect (byes_in s) (collect (talk_in s) (of x (h.pushed y)))) ≤ length (collect (byes_in s) (said t s (h.log y))) = prefix_length (collect (byes_in s) (collect (talk_in s) (of x (h.pushed y)))) (collect (byes_in s) (said t s (h.log y))) (prefix_collect (byes_in s) (collect (talk_in s) (of x (h.pushed y))) (said t s (h.log y)) ((l.hand y (inl (k, (lt, refl)))).talk s)) in
    let e : length (collect (byes_in s) (collect (talk_in s) (of x (h.pushed y)))) ≡ length (collect (byes_in s) (of x (h.pushed y))) = ap (λ zs. length zs) (talk_byes_is s (of x (h.pushed y))) in
    let r : length (collect (byes_in s) (said t s (h.log y))) ≤ length (collect (due t s) (told_of s (h.log y))) = said_byes t s (h.log y) in
    omega arith

dues_told : (t : Terms) (a : Aim) (w : Ending) (h : Past) → Locals t a w h → Joint t h → (s k : ℕ) → k < t.worker_num → length (collect (due t s) (told_of s (h.log (Worker k)))) ≤ count_of (due_in t s) (h.pushed (Reactor (reactor_of t s))) k
dues_told t a w h l j s k lt =
    let x : ActorId = Reactor (reactor_of t s) in
    let p : length (collect (due t s) (told_of s (h.log (Worker k)))) ≤ length (collect (due t s) (streams s (h.pushed x) k)) = prefix_length (collect (due t s) (told_of s (h.log (Worker k)))) (collect (due t s) (streams s (h.pushed x) k)) (prefix_collect (due t s) (told_of s (h.log (Worker k))) (streams s (h.pushed x) k) (told_prefix t a w h l j k s lt)) in
    omega (arith, ap (λ zs. length zs) (due_streams t s (of (Worker k) (h.pushed x))))

-- Byes come of workers
bye_sender : (t : Terms) (s : ℕ) (from to : ActorId) (m : Message) → MayPush t from to m → (byes_in s m ≡ []) ⊎ IsWorker t from
bye_sender t s from to (Bye u) h = inr h.0
bye_sender t s from to (SendMsg u b) h = inl refl
bye_sender t s from to (FreshMsg ip u) h = inl refl
bye_sender t s from to (CloseMsg u) h = inl refl
bye_sender t s from to (ResetMsg u) h = inl refl
bye_sender t s from to (EventMsg e) h = inl refl
bye_sender t s from to (OverMsg id) h = inl refl
bye_sender t s from to NoMore h = inl refl

-- THE COUNT. As many Byes in all as due events were pushed: so as many of each worker
each_bye : (t : Terms) (s : ℕ) (pushed ms : Mail) → Each (λ (e : ActorId × Message). MayPush t e.0 (Reactor (reactor_of t s)) e.1) ms → ((k : ℕ) → k < t.worker_num → count_of (byes_in s) ms k ≤ count_of (due_in t s) pushed k) → length (collect (due_in t s) (bare pushed)) ≤ length (collect (byes_in s) (bare ms)) → (k : ℕ) → k < t.worker_num → count_of (due_in t s) pushed k ≤ count_of (byes_in s) ms k
each_bye t s pushed ms r most n =
    let a : sum_below (count_of (due_in t s) pushed) t.worker_num ≤ length (collect (due_in t s) (bare pushed)) = counts_most (due_in t s) pushed t.worker_num in
    let b : length (collect (byes_in s) (bare ms)) ≤ sum_below (count_of (byes_in s) ms) t.worker_num = counts_least (byes_in s) t ms (each_more (λ (e : ActorId × Message). MayPush t e.0 (Reactor (reactor_of t s)) e.1) (λ (e : ActorId × Message). (byes_in s e.1 ≡ []) ⊎ IsWorker t e.0) ms (λ e q. bye_sender t s e.0 (Reactor (reactor_of t s)) e.1 q) r) in
    sum_each (count_of (due_in t s) pushed) (count_of (byes_in s) ms) t.worker_num most (omega arith)

-- at an end each worker was given all that was pushed to it
pub told_all : (t : Terms) (a : Aim) (w : Ending) (h : Past) → Locals t a w h → Joint t h → (s : ℕ) (l : LinkRecord) (e : Ended) (mid : Mail) → IsEnded t s l e (h.took (Reactor (reactor_of t s))) mid (h.pushed (Reactor (reactor_of t s))) → (k : ℕ) → k < t.worker_num → told_of s (h.log (Worker k)) ≡ streams s (h.pushed (Reactor (reactor_of t s))) k
told_all t a w h l j s link e mid i k lt =
    let x : ActorId = Reactor (reactor_of t s) in
    let most : (m : ℕ) → m < t.worker_num → count_of (byes_in s) (h.took x) m ≤ count_of (due_in t s) (h.pushed x) m =
    λ m c. (let p : count_of (byes_in s) (h.took x) m ≤ length (collect (due t s) (told_of s (h.log (Worker m)))) = byes_told t a w h l j s m c in let q : length (collect (due t s) (told_of s (h.log (Worker m)))) ≤ count_of (due_in t s) (h.pushed x) m = dues_told t a w h l j s m c in omega arith) in
    let least : count_of (due_in t s) (h.pushed x) k ≤ count_of (byes_in s) (h.took x) k = each_bye t s (h.pushed x) (h.took x) (took_all t a w h l j x) most i.byes k lt in
    let given : count_of (byes_in s) (h.took x) k ≤ length (collect (due t s) (told_of s (h.log (Worker k)))) = byes_told t a w h l j s k lt in
    whole_by_dues t s (told_of s (h.log (Worker k))) (streams s (h.pushed x) k) (told_prefix t a w h l j k s lt) (i.last k)
    (omega (arith, ap (λ zs. length zs) (due_streams t s (of (Worker k) (h.pushed x)))))

-- at a soft end the Byes of each worker came before the end
byes_mid : (t : Terms) (a : Aim) (w : Ending) (h : Past) → Locals t a w h → Joint t h → (s ip : ℕ) (early mid later : Mail) → h.took (Reactor (reactor_of t s)) ≡ early ++ (Door, FreshMsg ip s) ∷ (mid ++ later) → length (collect (due_in t s) (bare (h.pushed (Reactor (reactor_of t s))))) ≤ length (collect (byes_in s) (bare mid)) → (k : ℕ) → k < t.worker_num → length (collect (due t s) (told_of s (h.log (Worker k)))) ≤ length (collect (byes_in s) (of (Worker k) mid))
byes_mid t a w h l j s ip early mid later split enough k lt =
    let x : ActorId = Reactor (reactor_of t s) in
    let most : (m : ℕ) → m < t.worker_num → count_of (byes_in s) mid m ≤ count_of (due_in t s) (h.pushed x) m =
    λ m c. (
    let p : count_of (byes_in s) (h.took x) m ≤ length (collect (due t s) (told_of s (h.log (Worker m)))) = byes_told t a w h l j s m c in
    let q : length (collect (due t s) (told_of s (h.log (Worker m)))) ≤ count_of (due_in t s) (h.pushed x) m = dues_told t a w h l j s m c in
    let parts : count_of (byes_in s) (h.took x) m ≡ length (collect (byes_in s) (of (Worker m) early) ++ (collect (byes_in s) (of (Worker m) mid) ++ collect (byes_in s) (of (Worker m) later))) =
    ap (λ (ms : Mail). count_of (byes_in s) ms m) split ∙ ap (λ zs. length zs) (split_share (byes_in s) (Worker m) (Door, FreshMsg ip s) early mid later refl) in
    omega (arith, length_append (collect (byes_in s) (of (Worker m) early)) (collect (byes_in s) (of (Worker m) mid) ++ collect (byes_in s) (of (Worker m) later)), length_append (collect (byes_in s) (of (Worker m) mid)) (collect (byes_in s) (of (Worker m) later)))) in
    let least : count_of (due_in t s) (h.pushed x) k ≤ count_of (byes_in s) mid k = each_bye t s (h.pushed x) mid (took_behind t (reactor_of t s) early mid later (h.took x) (Door, FreshMsg ip s) split (took_all t a w h l j x)) most enough k lt in
    let q : length (collect (due t s) (told_of s (h.log (Worker k)))) ≤ count_of (due_in t s) (h.pushed x) k = dues_told t a w h l j s k lt in
    omega arith

-- a task worker's handler is given no event of a session
tasker_heard : (k s : ℕ) (m : Message) → collect (of_session s) (heard_in (Tasker k) m) ≡ []
tasker_heard k s (EventMsg (Connect u)) = refl
tasker_heard k s (EventMsg (Packet u i b)) = refl
tasker_heard k s (EventMsg (Closed u)) = refl
tasker_heard k s (EventMsg (Finish id b)) = refl
tasker_heard k s (EventMsg (Task w id b)) = refl
tasker_heard k s (FreshMsg ip u) = refl
tasker_heard k s (SendMsg u b) = refl
tasker_heard k s (CloseMsg u) = refl
tasker_heard k s (ResetMsg u) = refl
tasker_heard k s (Bye u) = refl
tasker_heard k s (OverMsg id) = refl
tasker_heard k s NoMore = refl

no_heard : (k s : ℕ) (ms : List Message) → collect (of_session s) (collect (heard_in (Tasker k)) ms) ≡ []
no_heard k s [] = refl
no_heard k s (m ∷ ms) = collect-append (of_session s) (heard_in (Tasker k) m) (collect (heard_in (Tasker k)) ms) ∙ ap (λ (zs : List Event). zs ++ collect (of_session s) (collect (heard_in (Tasker k)) ms)) (tasker_heard k s m) ∙ no_heard k s ms

prefix_nothing : {A : Type 0} (xs ys : List A) → IsPrefix xs ys → ys ≡ [] → xs ≡ []
prefix_nothing [] ys p e = refl
prefix_nothing (x ∷ xs) ys p e = absurd (let q : x ∷ (xs ++ p.0) ≡ [] = p.1 ∙ e in cc)

pub tasker_told : (t : Terms) (a : Aim) (w : Ending) (h : Past) → Locals t a w h → (s k : ℕ) → k < t.tasker_num → told_of s (h.log (Tasker k)) ≡ []
tasker_told t a w h l s k lt =
    prefix_nothing (told_of s (h.log (Tasker k))) (collect (of_session s) (collect (heard_in (Tasker k)) (bare (h.took (Tasker k)))))
    (prefix_collect (of_session s) (events_of (h.log (Tasker k))) (collect (heard_in (Tasker k)) (bare (h.took (Tasker k)))) (l.hand (Tasker k) (inr (k, (lt, refl)))).told)
    (no_heard k s (bare (h.took (Tasker k))))

-- what is left out at the end of a part stands behind the Done that ends the log's last event of s
back_late : (t : Terms) (a : Aim) (w : Ending) (h : Past) → Locals t a w h → Joint t h → (s ip : ℕ) (l : LinkRecord) (e : Ended) (early mid later : Mail) → h.took (Reactor (reactor_of t s)) ≡ early ++ (Door, FreshMsg ip s) ∷ (mid ++ later) → IsEnded t s l e (h.took (Reactor (reactor_of t s))) mid (h.pushed (Reactor (reactor_of t s))) → IsSoft e.cause → (y : ActorId) → IsHand t y → (k : Talks t s y (h.log y) early mid later) → ¬ (told_of s (h.log y) ≡ []) → StandsLate (h.log y) s (collect (sends_in s) (behind t s y (h.log y) early mid later k))
back_late t a w h l j s ip link e early mid later split i soft y (inr (m, c)) k told = absurd (told (ap (λ (z : ActorId). told_of s (h.log z)) c.1 ∙ tasker_told t a w h l s m c.0))
back_late t a w h l j s ip link e early mid later split i soft y (inl (m, c)) k told =
    let x : ActorId = Reactor (reactor_of t s) in
    let q : List Message = behind t s y (h.log y) early mid later k in
    let p : List Message = collect (talk_in s) (of y early) ++ collect (talk_in s) (of y mid) in
    let all : told_of s (h.log y) ≡ streams s (h.pushed x) m = ap (λ (z : ActorId). told_of s (h.log z)) c.1 ∙ told_all t a w h l j s link e mid i m c.0 in
    let enough : length (collect (due t s) (told_of s (h.log y))) ≤ length (collect (byes_in s) (of y mid)) = subst (λ (z : ActorId). length (collect (due t s) (told_of s (h.log z))) ≤ length (collect (byes_in s) (of z mid))) (sym c.1) (byes_mid t a w h l j s ip early mid later split (i.soft soft).0 m c.0) in
    let cut : collect (byes_in s) p ≡ collect (byes_in s) (of y early) ++ collect (byes_in s) (of y mid) =
    collect-append (byes_in s) (collect (talk_in s) (of y early)) (collect (talk_in s) (of y mid)) ∙ ap (λ (zs : List ℕ). zs ++ collect (byes_in s) (collect (talk_in s) (of y mid))) (talk_byes_is s (of y early)) ∙ ap (λ (zs : List ℕ). collect (byes_in s) (of y early) ++ zs) (talk_byes_is s (of y mid)) in
    stands_late t s (h.log y) p q (l.hand y (inl (m, c))).dialogue
    (append_assoc (collect (talk_in s) (of y early)) (collect (talk_in s) (of y mid)) q ∙ k.joined)
    (omega (arith, ap (λ zs. length zs) cut, length_append (collect (byes_in s) (of y early)) (collect (byes_in s) (of y mid))))
    (subst (LastDue t s) (sym all) (i.last m))
    told

-- a soft end isn't that of a run that could not start
soft_own : (t : Terms) (e : Ended) → IsSoft e.cause → IsOwnEnd t e
soft_own t e soft q = subst IsSoft q.1 soft

written_kept : (t : Terms) (a : Aim) (w : Ending) (h : Past) (r : Record) (l : Locals t a w h) (j : Joint t h) (i : IsShown t h r) (s : ℕ) (k : LinkRecord) (m : IsKept t a w s k (h.took (Reactor (reactor_of t s))) (h.pushed (Reactor (reactor_of t s)))) (e : Ended) → k.state ≡ Over e → IsSoft e.cause → IsWrittenWhole r s k (owned_kept t a w h r l j i s k m)
written_kept t a w h r l j i s k m e state soft =
    let n : IsEnded t s k e (h.took (Reactor (reactor_of t s))) m.mid (h.pushed (Reactor (reactor_of t s))) = m.ended e state (soft_own t e soft) in
    record {
      all = (n.soft soft).1;
      parts = λ at log part there got told.
          (let o : IsLogOf t h at log = log_of t h r i at log there in
          subst (λ (x : Log). StandsLate x s (collect (sends_in s) (behind t s o.who (h.log o.who) m.early m.mid m.later (part_of t a w h r l j i s k.ip m.early m.mid m.later m.split at log there o)))) o.log_is
          (back_late t a w h l j s k.ip k e m.early m.mid m.later m.split n soft o.who o.hand (part_of t a w h r l j i s k.ip m.early m.mid m.later m.split at log there o) (λ none. told (ap (told_of s) (sym o.log_is) ∙ none))));
    }

written_by : (t : Terms) (a : Aim) (w : Ending) (h : Past) (r : Record) (l : Locals t a w h) (j : Joint t h) (i : IsShown t h r) (s : ℕ) (k : LinkRecord) (f : session_of k.state ≡ Some s) (d : ((reactor_of t s < t.reactor_num) × Has k (h.kept (reactor_of t s))) ⊎ IsComing t h s k) (e : Ended) → k.state ≡ Over e → IsSoft e.cause → IsWrittenWhole r s k (owned_by t a w h r l j i s k f d)
written_by t a w h r l j i s k f (inl q) e state soft = written_kept t a w h r l j i s k ((shows t a w h l j (reactor_of t s) q.0).keeps s k q.1 f) e state soft
written_by t a w h r l j i s k f (inr c) e state soft = absurd ((c.lives e state).2 soft)

length-numbered : (n : ℕ) (bs : List (List ℕ)) → length (numbered n bs) ≡ length bs
length-numbered n [] = refl
length-numbered n (b ∷ bs) = ap (λ k. suc k) (length-numbered (n + 1) bs)

-- Whole (a) and (c), every mode
pub whole : (t : Terms) (a : Aim) (w : Ending) (h : Past) (r : Record) (l : Locals t a w h) (j : Joint t h) (i : IsShown t h r) → Whole t r (own t a w h r l j i)
whole t a w h r l j i =
    record {
      few = λ s k e has state. few_by s k e has.session state (i.link s k has);
      all = λ s k e has state cut. all_by s k e has.session state cut (i.link s k has);
      written = λ s k e has state soft. written_by t a w h r l j i s k has.session (i.link s k has) e state soft;
    }
  where
    few_by : (s : ℕ) (k : LinkRecord) (e : Ended) → session_of k.state ≡ Some s → k.state ≡ Over e → ((reactor_of t s < t.reactor_num) × Has k (h.kept (reactor_of t s))) ⊎ IsComing t h s k → e.dispatched ≤ length (packets_on t k)
    few_by s k e f state (inl q) = let b : e.dispatched ≤ length (packets_cut t k.pieces) = ((shows t a w h l j (reactor_of t s) q.0).keeps s k q.1 f).few e state in omega (arith, length-numbered 0 (packets_cut t k.pieces))
    few_by s k e f state (inr c) = let z : e.dispatched ≡ 0 = (c.lives e state).1 in omega arith

    all_by : (s : ℕ) (k : LinkRecord) (e : Ended) → session_of k.state ≡ Some s → k.state ≡ Over e → IsAllCut e.cause → ((reactor_of t s < t.reactor_num) × Has k (h.kept (reactor_of t s))) ⊎ IsComing t h s k → e.dispatched ≡ length (packets_on t k)
    all_by s k e f state cut (inl q) = let b : e.dispatched ≡ length (packets_cut t k.pieces) = ((shows t a w h l j (reactor_of t s) q.0).keeps s k q.1 f).all e state cut in omega (arith, length-numbered 0 (packets_cut t k.pieces))
    all_by s k e f state cut (inr c) = absurd ((c.lives e state).3 cut)

-- Whole (b), modes 2 and 4
pub numbered_take_is : (n k : ℕ) (bs : List (List ℕ)) → numbered n (take k bs) ≡ take k (numbered n bs)
numbered_take_is n zero bs = refl
numbered_take_is n (suc k) [] = refl
numbered_take_is n (suc k) (b ∷ bs) = ap (λ ps. (n, b) ∷ ps) (numbered_take_is (n + 1) k bs)

last_get : (xs : List Event) (y : Event) → slice_get (xs ++ y ∷ []) (length xs) ≡ Some y
last_get [] y = refl
last_get (x ∷ xs) y = last_get xs y

told_whole : (t : Terms) (s : ℕ) (k : LinkRecord) (e : Ended) (es : List Event) → es ≡ story s (take e.dispatched (packets_cut t k.pieces)) → IsToldWhole t s k e es
told_whole t s k e es q =
    let bs : List (List ℕ) = take e.dispatched (packets_cut t k.pieces) in
    record {
      connect = (0, rw q refl);
      closed = (length (Connect s ∷ packets_from s 0 bs), rw q (last_get (Connect s ∷ packets_from s 0 bs) (Closed s)));
      packets = ap packets_in q ∙ story_packets s bs ∙ numbered_take_is 0 e.dispatched (packets_cut t k.pieces);
    }

pub whole_kept : (t : Terms) (h : Past) (r : Record) (l : Locals t (KeptAim t) (KeptEnd t) h) (j : Joint t h) (i : IsShown t h r) → WholeKept t r
whole_kept t h r l j i =
    record {
      told = λ s k e has state mine log there.
          (let b = shown_worker t h r i (target t s k.ip) log there in
          told_by s k e has.session state mine log b (i.link s k has));
      once = λ s k e has state mine n log there closed. once_by s k e has.session state mine n log (shown_worker t h r i n log there) closed (i.link s k has);
    }
  where
    told_by : (s : ℕ) (k : LinkRecord) (e : Ended) → session_of k.state ≡ Some s → k.state ≡ Over e → IsOwnEnd t e → (log : Log) → (target t s k.ip < t.worker_num) × (h.log (Worker (target t s k.ip)) ≡ log) → ((reactor_of t s < t.reactor_num) × Has k (h.kept (reactor_of t s))) ⊎ IsComing t h s k → IsToldWhole t s k e (told_of s log)
    told_by s k e f state mine log b (inr c) = absurd ((c.lives e state).0 mine)
    told_by s k e f state mine log b (inl q) =
        (let m = (shows t (KeptAim t) (KeptEnd t) h l j (reactor_of t s) q.0).keeps s k q.1 f in
        told_whole t s k e (told_of s log)
        (ap (told_of s) (sym b.1) ∙ told_all t (KeptAim t) (KeptEnd t) h l j s k e m.mid (m.ended e state mine) (target t s k.ip) b.0 ∙ m.whole_then e state mine))

    once_by : (s : ℕ) (k : LinkRecord) (e : Ended) → session_of k.state ≡ Some s → k.state ≡ Over e → IsOwnEnd t e → (n : ℕ) (log : Log) → (n < t.worker_num) × (h.log (Worker n) ≡ log) → Has (Closed s) (told_of s log) → ((reactor_of t s < t.reactor_num) × Has k (h.kept (reactor_of t s))) ⊎ IsComing t h s k → n ≡ target t s k.ip
    once_by s k e f state mine n log b closed (inr c) = absurd ((c.lives e state).0 mine)
    once_by s k e f state mine n log b closed (inl q) =
        (let m = (shows t (KeptAim t) (KeptEnd t) h l j (reactor_of t s) q.0).keeps s k q.1 f in
        elim (eq_cases n (target t s k.ip)) [
          | inl same ↦ same
          | inr other ↦ absurd (
              let none : told_of s log ≡ [] = ap (told_of s) (sym b.1) ∙ prefix_nothing (told_of s (h.log (Worker n))) (streams s (h.pushed (Reactor (reactor_of t s))) n) (told_prefix t (KeptAim t) (KeptEnd t) h l j n s b.0) (m.aims.elsewhere n other) in
              let g : slice_get [] closed.0 ≡ Some (Closed s) = subst (λ (zs : List Event). slice_get zs closed.0 ≡ Some (Closed s)) none closed.1 in cc)
        ])
