-- Causes and refusals rest on what actors did.
use Rattle.std.proofs.Common.{◌≡◌, ◌⊎◌, ℕ, ◌+◌, ◌<◌, ◌≤◌, ◌%◌, ◌==◌, Bool, true, List, [], ◌∷◌, ◌++◌, length, refl, ap, ◌∙◌, sym, subst, arith, Some, slice_get, inl, inr, zero, suc}
use Rattle.sw_lists.proofs.Lists.{bool_cases, each_more, each_right, eq_is, eq_same, equal_or_not, length_append}
use Rattle.sw_lists.specs.Lists.{collect, Each, Has, when}
use Rattle.sw_step.specs.declared.actor.ActorId.{ActorId}
use Rattle.sw_step.specs.declared.actor.ActorId.TheVariants.{Door, Reactor, Worker, Tasker}
use Rattle.sw_record.specs.Answers.{answers_of}
use Rattle.sw_record.specs.Causes.{IsAsked, SomeAsked, granted, refused, task_full, IsOther, IsOverflow, CausesRight, LinksShow}
use Rattle.sw_record.specs.Logs.{told_of}
use Rattle.sw_record.specs.Tasks.{posts}
use Rattle.sw_record.specs.Terms.{Terms, logs, session_of, HasLink, reactor_of, Outside}
use Rattle.sw_record.specs.Whole.{IsOwnEnd}
use Rattle.sw_record.specs.Words.{Act, Close, Reset, Shutdown, ServerClose, ResetCause, Overflow, Stop, Ended, Log}
use Rattle.sw_record.specs.declared.record.LinkRecord.{LinkRecord}
use Rattle.sw_record.specs.declared.record.LinkState.TheVariants.{Over}
use Rattle.sw_record.specs.declared.record.Record.{Record}
use Rattle.sw_past.specs.Messages.{Message, FreshMsg, SendMsg, CloseMsg, ResetMsg, Bye, EventMsg, OverMsg, NoMore}
use Rattle.sw_past.specs.Past.{Mail, Past, drawn, bare, of}
use Rattle.sw_past.specs.Routes.{IsHand, MayPush, crew, hands}
use Rattle.sw_past.specs.Views.{sends_in, talk_in, close_of, reset_of}
use Rattle.sw_join.proofs.Merged.{get_share, hands_have}
use Rattle.sw_join.proofs.Own.{IsLogOf, Talks, behind, log_of, own, owned_by, owned_kept, part_of}
use Rattle.sw_join.proofs.Routes.{of_own, took_may}
use Rattle.sw_join.proofs.Shown.{shown_drawn, shown_logs}
use Rattle.sw_join.proofs.Told.{AsDoor, AsHand, AsNone, AsReactor, Kind, all_routed, kind, shows, stranger_none, took_all}
use Rattle.sw_join.proofs.Whole.{tasker_told}
use Rattle.sw_join.specs.Causes.{AskLaw, Looks, workers_to, CauseLaws}
use Rattle.sw_join.specs.Laws.{Aim, Ending, IsTooMuch, IsKept, Joint, Locals}
use Rattle.sw_join.specs.Shown.{IsComing, log_at, IsShown}

-- where a hand's log stands in the record
pub record IsIn (t : Terms) (h : Past) (r : Record) (y : ActorId) : Type 0 where
  pub k : ℕ
  pub at : slice_get (hands t) k ≡ Some y
  pub there : slice_get (logs r) k ≡ Some (h.log y)

hand_log : (h : Past) (ys : List ActorId) (k : ℕ) (y : ActorId) → slice_get ys k ≡ Some y → slice_get (collect (log_at h) ys) k ≡ Some (h.log y)
hand_log h [] k y e = absurd (cc)
hand_log h (x ∷ ys) zero y e = ap (λ z. Some (h.log z)) (let q : x ≡ y = cc in q)
hand_log h (x ∷ ys) (suc k) y e = hand_log h ys k y e

pub log_in : (t : Terms) (h : Past) (r : Record) → IsShown t h r → (y : ActorId) → IsHand t y → IsIn t h r y
log_in t h r i y hand =
    let a = hands_have t y hand in
    record { k = a.0; at = a.1; there = ap (λ (xs : List Log). slice_get xs a.0) (shown_logs t h r i) ∙ hand_log h (hands t) a.0 y a.1 }

some_asked : (t : Terms) (h : Past) (r : Record) → IsShown t h r → (y : ActorId) → IsHand t y → (act : Act) → IsAsked (h.log y) act → SomeAsked r act
some_asked t h r i y hand act asked = let a = log_in t h r i y hand in record { k = a.k; log = h.log y; there = a.there; asked = asked }

-- what came was asked for by a hand
abbrev From : Terms → Past → ActorId → Message → Type 0
From t h y (CloseMsg s) = IsHand t y × IsAsked (h.log y) (Close s)
From t h y (ResetMsg s) = IsHand t y × IsAsked (h.log y) (Reset s)
From t h y _ = Unit {0}

from_hand : (t : Terms) (h : Past) (y to : ActorId) (m : Message) → IsHand t y → AskLaw (h.log y) m → From t h y m
from_hand t h y to (CloseMsg s) hand a = (hand, a)
from_hand t h y to (ResetMsg s) hand a = (hand, a)
from_hand t h y to (FreshMsg ip s) hand a = tt
from_hand t h y to (SendMsg s b) hand a = tt
from_hand t h y to (Bye s) hand a = tt
from_hand t h y to (EventMsg e) hand a = tt
from_hand t h y to (OverMsg id) hand a = tt
from_hand t h y to NoMore hand a = tt

from_other : (t : Terms) (h : Past) (y to : ActorId) (m : Message) → (IsHand t y → ⊥) → MayPush t y to m → From t h y m
from_other t h y to (CloseMsg s) n r = absurd (n r.0)
from_other t h y to (ResetMsg s) n r = absurd (n r.0)
from_other t h y to (FreshMsg ip s) n r = tt
from_other t h y to (SendMsg s b) n r = tt
from_other t h y to (Bye s) n r = tt
from_other t h y to (EventMsg e) n r = tt
from_other t h y to (OverMsg id) n r = tt
from_other t h y to NoMore n r = tt

door_no : (t : Terms) → IsHand t Door → ⊥
door_no t (inl w) = absurd (let q : Door ≡ Worker w.0 = w.1.1 in cc)
door_no t (inr w) = absurd (let q : Door ≡ Tasker w.0 = w.1.1 in cc)

reactor_no : (t : Terms) (n : ℕ) → IsHand t (Reactor n) → ⊥
reactor_no t n (inl w) = absurd (let q : Reactor n ≡ Worker w.0 = w.1.1 in cc)
reactor_no t n (inr w) = absurd (let q : Reactor n ≡ Tasker w.0 = w.1.1 in cc)

pushed_from : (t : Terms) (a : Aim) (w : Ending) (h : Past) → Locals t a w h → Joint t h → (k : Looks) → CauseLaws t h k → (y : ActorId) → Each (λ (e : ActorId × Message). From t h y e.1) (h.pushed y)
pushed_from t a w h l j k c y = by (kind t y)
  where
    other : (IsHand t y → ⊥) → Each (λ (e : ActorId × Message). From t h y e.1) (h.pushed y)
    other n = each_more (λ (e : ActorId × Message). MayPush t y e.0 e.1) (λ (e : ActorId × Message). From t h y e.1) (h.pushed y) (λ e r. from_other t h y e.0 e.1 n r) (all_routed t a w h l j y)

    by : Kind t y → Each (λ (e : ActorId × Message). From t h y e.1) (h.pushed y)
    by (AsDoor q) = other (λ x. door_no t (subst (IsHand t) q x))
    by (AsReactor n lt q) = other (λ x. reactor_no t n (subst (IsHand t) q x))
    by (AsHand hand) = each_more (λ (e : ActorId × Message). AskLaw (h.log y) e.1) (λ (e : ActorId × Message). From t h y e.1) (h.pushed y) (λ e r. from_hand t h y e.0 e.1 hand r) (c.asks y hand)
    by (AsNone d r n) = other n

took_from : (t : Terms) (a : Aim) (w : Ending) (h : Past) → Locals t a w h → Joint t h → (k : Looks) → CauseLaws t h k → (n : ℕ) → Each (λ (e : ActorId × Message). From t h e.0 e.1) (h.took (Reactor n))
took_from t a w h l j k c n = took_may (From t h) h j.pipes (Reactor n) (λ y. each_more (λ (e : ActorId × Message). From t h y e.1) (λ (e : ActorId × Message). e.0 ≡ Reactor n → From t h y e.1) (h.pushed y) (λ e r q. r) (pushed_from t a w h l j k c y))

-- the first message of a kind among these
find_close : (t : Terms) (h : Past) (s : ℕ) (ms : Mail) → Each (λ (e : ActorId × Message). From t h e.0 e.1) ms → ¬ (collect (close_of s) (bare ms) ≡ []) → (y : ActorId) × (IsHand t y × IsAsked (h.log y) (Close s))
find_close t h s [] f k = absurd (k refl)
find_close t h s ((y, CloseMsg u) ∷ ms) f k = elim (bool_cases (u == s)) [
  | inl e ↦ (y, (f.0.0, subst (λ z. IsAsked (h.log y) (Close z)) (eq_is u s e) f.0.1))
  | inr e ↦ find_close t h s ms f.1 (λ none. k (rw e none))
]
find_close t h s ((y, ResetMsg u) ∷ ms) f k = find_close t h s ms f.1 k
find_close t h s ((y, FreshMsg ip u) ∷ ms) f k = find_close t h s ms f.1 k
find_close t h s ((y, SendMsg u b) ∷ ms) f k = find_close t h s ms f.1 k
find_close t h s ((y, Bye u) ∷ ms) f k = find_close t h s ms f.1 k
find_close t h s ((y, EventMsg e) ∷ ms) f k = find_close t h s ms f.1 k
find_close t h s ((y, OverMsg id) ∷ ms) f k = find_close t h s ms f.1 k
find_close t h s ((y, NoMore) ∷ ms) f k = find_close t h s ms f.1 k

find_reset : (t : Terms) (h : Past) (s : ℕ) (ms : Mail) → Each (λ (e : ActorId × Message). From t h e.0 e.1) ms → ¬ (collect (reset_of s) (bare ms) ≡ []) → (y : ActorId) × (IsHand t y × IsAsked (h.log y) (Reset s))
find_reset t h s [] f k = absurd (k refl)
find_reset t h s ((y, ResetMsg u) ∷ ms) f k = elim (bool_cases (u == s)) [
  | inl e ↦ (y, (f.0.0, subst (λ z. IsAsked (h.log y) (Reset z)) (eq_is u s e) f.0.1))
  | inr e ↦ find_reset t h s ms f.1 (λ none. k (rw e none))
]
find_reset t h s ((y, CloseMsg u) ∷ ms) f k = find_reset t h s ms f.1 k
find_reset t h s ((y, FreshMsg ip u) ∷ ms) f k = find_reset t h s ms f.1 k
find_reset t h s ((y, SendMsg u b) ∷ ms) f k = find_reset t h s ms f.1 k
find_reset t h s ((y, Bye u) ∷ ms) f k = find_reset t h s ms f.1 k
find_reset t h s ((y, EventMsg e) ∷ ms) f k = find_reset t h s ms f.1 k
find_reset t h s ((y, OverMsg id) ∷ ms) f k = find_reset t h s ms f.1 k
find_reset t h s ((y, NoMore) ∷ ms) f k = find_reset t h s ms f.1 k

-- the send that was too much is the next of its log
too_much_by : (t : Terms) (a : Aim) (w : Ending) (h : Past) (r : Record) (l : Locals t a w h) (j : Joint t h) (i : IsShown t h r) (s : ℕ) (k : LinkRecord) (m : IsKept t a w s k (h.took (Reactor (reactor_of t s))) (h.pushed (Reactor (reactor_of t s)))) (n : ℕ) (x : IsTooMuch t s k m.mid m.later n) → IsHand t x.who → IsOverflow r s k (owned_kept t a w h r l j i s k m) t.buffer_size n
too_much_by t a w h r l j i s k m n x hand =
    let g = log_in t h r i x.who hand in
    record {
      above = x.above;
      k = g.k;
      log = h.log x.who;
      part = collect (sends_in s) (of x.who m.mid);
      there = g.there;
      is = get_share (sends_in s) m.mid (hands t) g.k x.who g.at;
      next = x.bytes;
      rest = collect (sends_in s) (rest_of (log_of t h r i g.k (h.log x.who) g.there) (part_of t a w h r l j i s k.ip m.early m.mid m.later m.split g.k (h.log x.who) g.there (log_of t h r i g.k (h.log x.who) g.there)));
      back = back_of (log_of t h r i g.k (h.log x.who) g.there) (part_of t a w h r l j i s k.ip m.early m.mid m.later m.split g.k (h.log x.who) g.there (log_of t h r i g.k (h.log x.who) g.there)) (same_who g.at (log_of t h r i g.k (h.log x.who) g.there));
      sum = x.sum;
    }
  where
    rest_of : {q : ℕ} (o : IsLogOf t h q (h.log x.who)) → Talks t s o.who (h.log o.who) m.early m.mid m.later → List Message
    rest_of o b = collect (talk_in s) (of o.who x.rest) ++ b.left

    same_who : {q : ℕ} → slice_get (hands t) q ≡ Some x.who → (o : IsLogOf t h q (h.log x.who)) → x.who ≡ o.who
    same_who e o = let f : slice_get (hands t) _ ≡ Some o.who = o.at in cc

    back_of : {q : ℕ} (o : IsLogOf t h q (h.log x.who)) (b : Talks t s o.who (h.log o.who) m.early m.mid m.later) → x.who ≡ o.who → collect (sends_in s) (behind t s o.who (h.log o.who) m.early m.mid m.later b) ≡ x.bytes ∷ collect (sends_in s) (rest_of o b)
    back_of o b q =
        ap (λ (ms : Mail). collect (sends_in s) (collect (talk_in s) (of o.who ms) ++ b.left)) x.next
        ∙ ap (λ (ms : List Message). collect (sends_in s) (collect (talk_in s) ms ++ b.left)) (of_own o.who (x.who, SendMsg s x.bytes) x.rest q)
        ∙ head (s == s) (eq_same s s refl)
      where
        head : (v : Bool) → s == s ≡ true → collect (sends_in s) ((when (s == s) (SendMsg s x.bytes) ++ collect (talk_in s) (of o.who x.rest)) ++ b.left) ≡ x.bytes ∷ collect (sends_in s) (rest_of o b)
        head v e = rw (e, e) refl

-- membership is decided
has_or_not : (x : ℕ) (xs : List ℕ) → Has x xs ⊎ (¬ Has x xs)
has_or_not x [] = inr (λ h. absurd (let q : slice_get [] h.0 ≡ Some x = h.1 in cc))
has_or_not x (y ∷ ys) = elim (equal_or_not y x) [
  | inl e ↦ inl (0, ap (λ z. Some z) e)
  | inr n ↦ elim (has_or_not x ys) [ inl h ↦ inl (suc h.0, h.1) | inr o ↦ inr (not_here n o) ]
]
  where
    not_here : ¬ (y ≡ x) → ¬ Has x ys → Has x (y ∷ ys) → ⊥
    not_here n o (zero, e) = n (let q : y ≡ x = cc in q)
    not_here n o (suc k, e) = o (k, e)

told_drawn : (t : Terms) (a : Aim) (w : Ending) (h : Past) → Locals t a w h → Joint t h → (s : ℕ) (y : ActorId) → IsHand t y → ¬ (told_of s (h.log y) ≡ []) → Has s (drawn h)
told_drawn t a w h l j s y (inr c) told = absurd (told (ap (λ (z : ActorId). told_of s (h.log z)) c.1.1 ∙ tasker_told t a w h l s c.0 c.1.0))
told_drawn t a w h l j s y (inl c) told = elim (has_or_not s (drawn h)) [
  | inl k ↦ k
  | inr n ↦ absurd (told (ap (λ (z : ActorId). told_of s (h.log z)) c.1.1 ∙ stranger_none t a w h l j s c.0 n c.1.0))
]

room_all : (t : Terms) (h : Past) (n a b : ℕ) → ((w : ℕ) → a ≤ w → w < a + b → length (of (Tasker n) (h.pushed (Worker w))) ≤ length (posts (h.log (Worker w))) + 1) → length (collect (workers_to h n) (crew Worker a b)) ≤ length (collect posts (collect (log_at h) (crew Worker a b))) + b
room_all t h n a zero f = omega arith
room_all t h n a (suc b) f =
    let r : length (collect (workers_to h n) (crew Worker (a + 1) b)) ≤ length (collect posts (collect (log_at h) (crew Worker (a + 1) b))) + b = room_all t h n (a + 1) b (λ w le lt. f w (omega arith) (omega arith)) in
    let c : length (of (Tasker n) (h.pushed (Worker a))) ≤ length (posts (h.log (Worker a))) + 1 = f a (omega arith) (omega arith) in
    omega (arith, length_append (workers_to h n (Worker a)) (collect (workers_to h n) (crew Worker (a + 1) b)), length_append (posts (h.log (Worker a))) (collect posts (collect (log_at h) (crew Worker (a + 1) b))))

overflow_by : (t : Terms) (a : Aim) (w : Ending) (h : Past) (r : Record) (l : Locals t a w h) (j : Joint t h) (i : IsShown t h r) (s : ℕ) (k : LinkRecord) (f : session_of k.state ≡ Some s) (d : ((reactor_of t s < t.reactor_num) × Has k (h.kept (reactor_of t s))) ⊎ IsComing t h s k) (e : Ended) (n : ℕ) → k.state ≡ Over e → e.cause ≡ Overflow n → IsOverflow r s k (owned_by t a w h r l j i s k f d) t.buffer_size n
overflow_by t a w h r l j i s k f (inl q) e n state cause =
    (let m = (shows t a w h l j (reactor_of t s) q.0).keeps s k q.1 f in
    too_much_by t a w h r l j i s k m n (m.overflow e n state cause) (who_is m (m.overflow e n state cause)))
  where
    P : ActorId × Message → Type 0
    P e = MayPush t e.0 (Reactor (reactor_of t s)) e.1

    who_is : (m : IsKept t a w s k (h.took (Reactor (reactor_of t s))) (h.pushed (Reactor (reactor_of t s)))) (x : IsTooMuch t s k m.mid m.later n) → IsHand t x.who
    who_is m x =
        (let all = subst (Each (λ (e : ActorId × Message). MayPush t e.0 (Reactor (reactor_of t s)) e.1)) m.split (took_all t a w h l j (Reactor (reactor_of t s))) in
        let b = each_right (λ (e : ActorId × Message). MayPush t e.0 (Reactor (reactor_of t s)) e.1) m.mid m.later (each_right (λ (e : ActorId × Message). MayPush t e.0 (Reactor (reactor_of t s)) e.1) m.early ((Door, FreshMsg k.ip s) ∷ (m.mid ++ m.later)) all).1 in
        (subst (Each (λ (e : ActorId × Message). MayPush t e.0 (Reactor (reactor_of t s)) e.1)) x.next b).0.0)
overflow_by t a w h r l j i s k f (inr c) e n state cause = absurd ((c.lives e state).0 (λ z. absurd (let q : Overflow n ≡ Stop = sym cause ∙ z.1 in cc)))

pub causes_right : (t : Terms) (a : Aim) (w : Ending) (h : Past) (r : Record) (l : Locals t a w h) (j : Joint t h) (i : IsShown t h r) (k : Looks) → CauseLaws t h k → (out : Outside) → LinksShow t r out → CausesRight t r out (own t a w h r l j i)
causes_right t a w h r l j i k c out shows =
    record {
      shows = shows;
      server_close = λ s o e has state cause. kept_asked s o e has state (λ z. absurd (let q : ServerClose ≡ Stop = sym cause ∙ z.1 in cc)) (Close s)
          (λ g q. find_close t h s (h.took (Reactor (reactor_of t s))) (took_from t a w h l j k c (reactor_of t s)) (c.closed (reactor_of t s) g s o e q has.session state cause)) (i.link s o has);
      reset = λ s o e has state cause. kept_asked s o e has state (λ z. absurd (let q : ResetCause ≡ Stop = sym cause ∙ z.1 in cc)) (Reset s)
          (λ g q. find_reset t h s (h.took (Reactor (reactor_of t s))) (took_from t a w h l j k c (reactor_of t s)) (c.resets (reactor_of t s) g s o e q has.session state cause)) (i.link s o has);
      overflow = λ s o e n has state cause. overflow_by t a w h r l j i s o has.session (i.link s o has) e n state cause;
      stop = λ s o e has state cause mine. elim (i.link s o has) [
        | inl q ↦ elim (c.stopped (reactor_of t s) (c.stops (reactor_of t s) q.0 o e q.1 state cause mine)) [ inl z ↦ inl z | inr y ↦ inr (some_asked t h r i y.0 y.1.0 Shutdown y.1.1) ]
        | inr x ↦ absurd ((x.lives e state).0 mine)
      ];
      grants = λ n log there. (let o = log_of t h r i n log there in
          subst (λ (x : Log). Each (λ s. (m : LinkRecord) × HasLink r.links s m) (collect granted (answers_of x))) o.log_is
          (each_more (λ s. Has s (k.lives o.who) ⊎ (¬ (told_of s (h.log o.who) ≡ []))) (λ s. (m : LinkRecord) × HasLink r.links s m) (collect granted (answers_of (h.log o.who)))
          (λ s x. shown_drawn t h r i s (elim x [ inl q ↦ has_each (λ z. Has z (drawn h)) s (k.lives o.who) (c.lives o.who) q | inr q ↦ told_drawn t a w h l j s o.who o.hand q ])) (c.grants o.who o.hand)));
      refusals = λ n log there. (let o = log_of t h r i n log there in
          subst (λ (x : Log). Each (IsOther t r) (collect refused (answers_of x))) o.log_is
          (each_more (λ (p : ℕ × ℕ). Has p (k.others o.who)) (IsOther t r) (collect refused (answers_of (h.log o.who)))
          (λ p q. other p (pair_each (λ (p : ℕ × ℕ). (¬ (p.1 ≡ p.0)) × ((p.1 ≡ 0) ⊎ (Has p.1 (drawn h) × (p.1 % t.max_conn ≡ p.0 % t.max_conn)))) p (k.others o.who) (c.others o.who) q)) (c.refusals o.who o.hand)));
      task_full = λ n log there some. (let o = log_of t h r i n log there in
          let f = c.task_full o.who o.hand (λ none. some (ap (λ (x : Log). collect task_full (answers_of x)) (sym o.log_is) ∙ none)) in
          let x : t.pipe_capacity ≤ length (collect (workers_to h f.0) (crew Worker 0 t.worker_num)) = c.full f.0 f.1 in
          let y : length (collect (workers_to h f.0) (crew Worker 0 t.worker_num)) ≤ length (collect posts (collect (log_at h) (crew Worker 0 t.worker_num))) + t.worker_num = room_all t h f.0 0 t.worker_num (λ v le lt. c.room v f.0 (omega arith)) in
          omega (arith, ap (λ (xs : List Log). length (collect posts xs)) i.workers));
    }
  where
    has_each : (P : ℕ → Type 0) (x : ℕ) (xs : List ℕ) → Each P xs → Has x xs → P x
    has_each P x [] q h1 = absurd (let z : slice_get [] h1.0 ≡ Some x = h1.1 in cc)
    has_each P x (y ∷ ys) q (zero, e) = subst P (let z : y ≡ x = cc in z) q.0
    has_each P x (y ∷ ys) q (suc n, e) = has_each P x ys q.1 (n, e)

    pair_each : (P : ℕ × ℕ → Type 0) (x : ℕ × ℕ) (xs : List (ℕ × ℕ)) → Each P xs → Has x xs → P x
    pair_each P x [] q h1 = absurd (let z : slice_get [] h1.0 ≡ Some x = h1.1 in cc)
    pair_each P x (y ∷ ys) q (zero, e) = subst P (let z : y ≡ x = cc in z) q.0
    pair_each P x (y ∷ ys) q (suc n, e) = pair_each P x ys q.1 (n, e)

    other : (p : ℕ × ℕ) → (¬ (p.1 ≡ p.0)) × ((p.1 ≡ 0) ⊎ (Has p.1 (drawn h) × (p.1 % t.max_conn ≡ p.0 % t.max_conn))) → IsOther t r p
    other p q = (q.0, elim q.1 [ inl z ↦ inl z | inr z ↦ inr (let m = shown_drawn t h r i p.1 z.0 in (m.0, (m.1, z.1))) ])

    kept_asked : (s : ℕ) (o : LinkRecord) (e : Ended) → HasLink r.links s o → o.state ≡ Over e → IsOwnEnd t e → (act : Act) → ((reactor_of t s < t.reactor_num) → Has o (h.kept (reactor_of t s)) → (y : ActorId) × (IsHand t y × IsAsked (h.log y) act)) → ((reactor_of t s < t.reactor_num) × Has o (h.kept (reactor_of t s))) ⊎ IsComing t h s o → SomeAsked r act
    kept_asked s o e has state mine act f (inl q) = let y = f q.0 q.1 in some_asked t h r i y.0 y.1.0 act y.1.1
    kept_asked s o e has state mine act f (inr x) = absurd ((x.lives e state).0 mine)
