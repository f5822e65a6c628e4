-- Mode 5: each side of a binding in order.
use Rattle.std.proofs.Common.{◌≡◌, ◌⊎◌, ℕ, ◌<◌, ◌≤◌, List, [], length, take, drop, refl, ap, ◌∙◌, arith, Some, slice_get, inl, inr, zero, suc}
use Rattle.sw_lists.proofs.Lists.{collect-collect, each_more, prefix_collect, prefix_length, prefix_none, prefix_trans}
use Rattle.sw_lists.proofs.Sums.{sum_le}
use Rattle.sw_lists.specs.Lists.{collect, IsPrefix}
use Rattle.sw_lists.specs.Numbers.{sum_below}
use Rattle.sw_step.specs.declared.actor.ActorId.{ActorId}
use Rattle.sw_step.specs.declared.actor.ActorId.TheVariants.{Reactor, Worker}
use Rattle.sw_record.specs.Logs.{told_of, packet_in, packets_in, connect_in, closed_in, connects_of, closeds_of}
use Rattle.sw_record.specs.Order.{side, InOrderUid}
use Rattle.sw_record.specs.Terms.{Terms, packets_on, reactor_of}
use Rattle.sw_record.specs.Whole.{IsOwnEnd, WholeUid}
use Rattle.sw_record.specs.Words.{Event, Connect, Packet, Closed, Finish, Task, Ended, Log}
use Rattle.sw_record.specs.declared.record.LinkRecord.{LinkRecord}
use Rattle.sw_record.specs.declared.record.LinkState.TheVariants.{Over}
use Rattle.sw_record.specs.declared.record.Record.{Record}
use Rattle.sw_past.specs.Messages.{Message, FreshMsg, SendMsg, CloseMsg, ResetMsg, Bye, EventMsg, OverMsg, NoMore}
use Rattle.sw_past.specs.Past.{Mail, Past, bare, of}
use Rattle.sw_past.specs.Routes.{IsWorker, MayPush}
use Rattle.sw_past.specs.Views.{story_in, connect_of, closed_of}
use Rattle.sw_join.proofs.Counts.{count_of, counts_least, counts_most}
use Rattle.sw_join.proofs.Streams.{IsServed, IsSilent, begins, ends_whole, not_silent, pushes, served, silent_log, workers_sum}
use Rattle.sw_join.proofs.Told.{all_routed, told_prefix}
use Rattle.sw_join.proofs.Whole.{told_all}
use Rattle.sw_join.specs.Aims.{UidAim, UidEnd}
use Rattle.sw_join.specs.Laws.{streams, Joint, Locals}
use Rattle.sw_join.specs.Shown.{IsShown}

nothing : {A : Type 0} (xs ys : List A) → xs ≡ [] → IsPrefix xs ys
nothing xs ys e = rw e (ys, refl)

-- what is counted in the logs of all workers is at most what was pushed
told_counts : (t : Terms) (h : Past) (r : Record) → Locals t (UidAim t) (UidEnd t) h → Joint t h → IsShown t h r → (f : Event → List Event) (s : ℕ) → length (collect (λ log. collect f (told_of s log)) r.workers) ≤ length (collect (λ m. collect f (story_in s m)) (bare (pushes t h s)))
told_counts t h r l j i f s =
    let g : Message → List Event = λ m. collect f (story_in s m) in
    let a : length (collect (λ log. collect f (told_of s log)) r.workers) ≡ sum_below (λ m. length (collect f (told_of s (h.log (Worker m))))) t.worker_num = workers_sum t h r i (λ log. collect f (told_of s log)) in
    let b : sum_below (λ m. length (collect f (told_of s (h.log (Worker m))))) t.worker_num ≤ sum_below (count_of g (pushes t h s)) t.worker_num =
    sum_le (λ m. length (collect f (told_of s (h.log (Worker m))))) (count_of g (pushes t h s)) t.worker_num
    (λ k lt. (let p : length (collect f (told_of s (h.log (Worker k)))) ≤ length (collect f (streams s (pushes t h s) k)) = prefix_length (collect f (told_of s (h.log (Worker k)))) (collect f (streams s (pushes t h s) k)) (prefix_collect f (told_of s (h.log (Worker k))) (streams s (pushes t h s) k) (told_prefix t (UidAim t) (UidEnd t) h l j k s lt)) in
    omega (arith, ap (λ zs. length zs) (collect-collect f (story_in s) (of (Worker k) (pushes t h s)))))) in
    let c : sum_below (count_of g (pushes t h s)) t.worker_num ≤ length (collect g (bare (pushes t h s))) = counts_most g (pushes t h s) t.worker_num in
    omega arith

pub in_order_uid : (t : Terms) (h : Past) (r : Record) → Locals t (UidAim t) (UidEnd t) h → Joint t h → IsShown t h r → InOrderUid t r
in_order_uid t h r l j i =
    record {
      one = λ s k e has is sided log there. elim (served t (UidAim t) (UidEnd t) h r l j i s k has) [
        | inl v ↦ prefix_trans (packets_in (told_of s log)) (packets_in (streams s (pushes t h s) (side t s 0))) (packets_on t k) (packets s (side t s 0) log there) (v.kept.aims.one e is sided)
        | inr c ↦ nothing (packets_in (told_of s log)) (packets_on t k) (ap packets_in (silent_log t (UidAim t) (UidEnd t) h r l j i s k c (side t s 0) log there))
      ];
      before = λ s k e has is sided log there. elim (served t (UidAim t) (UidEnd t) h r l j i s k has) [
        | inl v ↦ prefix_trans (packets_in (told_of s log)) (packets_in (streams s (pushes t h s) (side t s 0))) (take e.split (packets_on t k)) (packets s (side t s 0) log there) (v.kept.aims.before e is sided)
        | inr c ↦ nothing (packets_in (told_of s log)) (take e.split (packets_on t k)) (ap packets_in (silent_log t (UidAim t) (UidEnd t) h r l j i s k c (side t s 0) log there))
      ];
      behind = λ s k e has is sided log there. elim (served t (UidAim t) (UidEnd t) h r l j i s k has) [
        | inl v ↦ prefix_trans (packets_in (told_of s log)) (packets_in (streams s (pushes t h s) (side t s e.uid))) (drop e.split (packets_on t k)) (packets s (side t s e.uid) log there) (v.kept.aims.behind e is sided)
        | inr c ↦ nothing (packets_in (told_of s log)) (drop e.split (packets_on t k)) (ap packets_in (silent_log t (UidAim t) (UidEnd t) h r l j i s k c (side t s e.uid) log there))
      ];
      elsewhere = λ s k e has is m log there n o. elim (served t (UidAim t) (UidEnd t) h r l j i s k has) [
        | inl v ↦ prefix_none (packets_in (told_of s log)) (packets_in (streams s (pushes t h s) m)) (packets s m log there) (v.kept.aims.elsewhere e is m n o)
        | inr c ↦ ap packets_in (silent_log t (UidAim t) (UidEnd t) h r l j i s k c m log there)
      ];
      connects = λ s k has. elim (served t (UidAim t) (UidEnd t) h r l j i s k has) [
        | inl v ↦ (let a : length (collect (connects_of s) r.workers) ≤ length (collect (connect_of s) (bare (pushes t h s))) = told_counts t h r l j i connect_in s in let b : length (collect (connect_of s) (bare (pushes t h s))) ≤ 1 = v.kept.aims.connects in omega arith)
        | inr c ↦ none connect_in s k c
      ];
      closeds = λ s k has. elim (served t (UidAim t) (UidEnd t) h r l j i s k has) [
        | inl v ↦ (let a : length (collect (closeds_of s) r.workers) ≤ length (collect (closed_of s) (bare (pushes t h s))) = told_counts t h r l j i closed_in s in let b : length (collect (closed_of s) (bare (pushes t h s))) ≤ 1 = v.kept.aims.closeds in omega arith)
        | inr c ↦ none closed_in s k c
      ];
    }
  where
    packets : (s k : ℕ) (log : Log) → slice_get r.workers k ≡ Some log → IsPrefix (packets_in (told_of s log)) (packets_in (streams s (pushes t h s) k))
    packets s k log there = prefix_collect packet_in (told_of s log) (streams s (pushes t h s) k) (begins t (UidAim t) (UidEnd t) h r l j i s k log there)

    zeros : (f g : ℕ → ℕ) (n : ℕ) → ((m : ℕ) → m < n → f m ≡ 0) → sum_below f n ≤ 1
    zeros f g n z = let a : sum_below f n ≤ sum_below (λ m. 0) n = sum_le f (λ m. 0) n (λ m lt. let b : f m ≡ 0 = z m lt in omega arith) in let b : sum_below (λ m. 0) n ≡ 0 = none_sum n in omega arith
      where
        none_sum : (m : ℕ) → sum_below (λ x. 0) m ≡ 0
        none_sum zero = refl
        none_sum (suc m) = omega (arith, none_sum m)

    none : (f : Event → List Event) (s : ℕ) (k : LinkRecord) → IsSilent t h s k → length (collect (λ log. collect f (told_of s log)) r.workers) ≤ 1
    none f s k c =
        let g : ℕ → ℕ = λ m. length (collect f (told_of s (h.log (Worker m)))) in
        let a : length (collect (λ log. collect f (told_of s log)) r.workers) ≡ sum_below g t.worker_num = workers_sum t h r i (λ log. collect f (told_of s log)) in
        let b : sum_below g t.worker_num ≤ 1 = zeros g g t.worker_num (λ m lt. ap (λ (es : List Event). length (collect f es)) (prefix_none (told_of s (h.log (Worker m))) (streams s (pushes t h s) m) (told_prefix t (UidAim t) (UidEnd t) h l j m s lt) (c.none m))) in
        omega arith

-- events of a session go to workers
pub to_worker : (t : Terms) (s : ℕ) (f : Event → List Event) (from to : ActorId) (m : Message) → MayPush t from to m → (collect f (story_in s m) ≡ []) ⊎ IsWorker t to
to_worker t s f from to (EventMsg (Connect u)) h = inr h.1
to_worker t s f from to (EventMsg (Packet u i b)) h = inr h.1
to_worker t s f from to (EventMsg (Closed u)) h = inr h.1
to_worker t s f from to (EventMsg (Finish i b)) h = inl refl
to_worker t s f from to (EventMsg (Task w i b)) h = inl refl
to_worker t s f from to (FreshMsg ip u) h = inl refl
to_worker t s f from to (SendMsg u b) h = inl refl
to_worker t s f from to (CloseMsg u) h = inl refl
to_worker t s f from to (ResetMsg u) h = inl refl
to_worker t s f from to (Bye u) h = inl refl
to_worker t s f from to (OverMsg id) h = inl refl
to_worker t s f from to NoMore h = inl refl

pub whole_uid : (t : Terms) (h : Past) (r : Record) → Locals t (UidAim t) (UidEnd t) h → Joint t h → IsShown t h r → WholeUid t r
whole_uid t h r l j i =
    record {
      connect = λ s k e has state mine. one_by connect_in s k e state mine (λ v. (v.kept.whole_then e state mine).connect) (served t (UidAim t) (UidEnd t) h r l j i s k has);
      closed = λ s k e has state mine. one_by closed_in s k e state mine (λ v. (v.kept.whole_then e state mine).closed) (served t (UidAim t) (UidEnd t) h r l j i s k has);
      one = λ s k e has state mine sided log there. elim (served t (UidAim t) (UidEnd t) h r l j i s k has) [
        | inl v ↦ ap packets_in (ends_whole t (UidAim t) (UidEnd t) h r l j i s k e v state mine (side t s 0) log there) ∙ (v.kept.whole_then e state mine).one sided
        | inr c ↦ absurd (not_silent t h s k e c state mine)
      ];
      before = λ s k e has state mine sided log there. elim (served t (UidAim t) (UidEnd t) h r l j i s k has) [
        | inl v ↦ ap packets_in (ends_whole t (UidAim t) (UidEnd t) h r l j i s k e v state mine (side t s 0) log there) ∙ (v.kept.whole_then e state mine).before sided
        | inr c ↦ absurd (not_silent t h s k e c state mine)
      ];
      behind = λ s k e has state mine sided log there. elim (served t (UidAim t) (UidEnd t) h r l j i s k has) [
        | inl v ↦ ap packets_in (ends_whole t (UidAim t) (UidEnd t) h r l j i s k e v state mine (side t s e.uid) log there) ∙ (v.kept.whole_then e state mine).behind sided
        | inr c ↦ absurd (not_silent t h s k e c state mine)
      ];
    }
  where
    one_by : (f : Event → List Event) (s : ℕ) (k : LinkRecord) (e : Ended) → k.state ≡ Over e → IsOwnEnd t e → (IsServed t (UidAim t) (UidEnd t) h s k → length (collect (λ m. collect f (story_in s m)) (bare (pushes t h s))) ≡ 1) → IsServed t (UidAim t) (UidEnd t) h s k ⊎ IsSilent t h s k → length (collect (λ log. collect f (told_of s log)) r.workers) ≡ 1
    one_by f s k e state mine one (inr c) = absurd (not_silent t h s k e c state mine)
    one_by f s k e state mine one (inl v) =
        let g : ℕ → ℕ = λ m. length (collect f (told_of s (h.log (Worker m)))) in
        let of_f : Message → List Event = λ m. collect f (story_in s m) in
        let a : length (collect (λ log. collect f (told_of s log)) r.workers) ≡ sum_below g t.worker_num = workers_sum t h r i (λ log. collect f (told_of s log)) in
        let p : Mail = pushes t h s in
        let b : sum_below (count_of of_f p) t.worker_num ≤ sum_below g t.worker_num =
        sum_le (count_of of_f p) g t.worker_num (λ m lt. (let q : told_of s (h.log (Worker m)) ≡ streams s p m = told_all t (UidAim t) (UidEnd t) h l j s k e v.kept.mid (v.kept.ended e state mine) m lt in
        omega (arith, ap (λ (es : List Event). length (collect f es)) q, ap (λ zs. length zs) (collect-collect f (story_in s) (of (Worker m) p))))) in
        let c : length (collect of_f (bare p)) ≤ sum_below (count_of of_f p) t.worker_num = counts_least of_f t p (each_more (λ (x : ActorId × Message). MayPush t (Reactor (reactor_of t s)) x.0 x.1) (λ (x : ActorId × Message). (of_f x.1 ≡ []) ⊎ IsWorker t x.0) p (λ x q. to_worker t s f (Reactor (reactor_of t s)) x.0 x.1 q) (all_routed t (UidAim t) (UidEnd t) h l j (Reactor (reactor_of t s)))) in
        let d : length (collect of_f (bare p)) ≡ 1 = one v in
        let m : length (collect (λ log. collect f (told_of s log)) r.workers) ≤ length (collect of_f (bare p)) = told_counts t h r l j i f s in
        omega arith
