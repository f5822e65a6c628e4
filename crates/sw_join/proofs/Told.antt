-- What each worker was given of a session, by what the session's reactor pushed.
use Rattle.std.proofs.Common.{◌≡◌, ◌⊎◌, ℕ, ◌<◌, Bool, true, false, List, [], ◌∷◌, ◌++◌, refl, ap, ◌∙◌, sym, subst, arith, Some, inl, inr}
use Rattle.std.proofs.lemmas.Bool.{cases_lt}
use Rattle.sw_lists.proofs.Lists.{append_none, collect-collect, collect-same, each_append, each_at, each_left, each_more, each_prefix, each_right, eq_other, eq_same, prefix_collect, prefix_none, prefix_trans, rises_prefix, rises_right, rises_swap}
use Rattle.sw_lists.specs.Lists.{collect, IsPrefix, Each, Has, when}
use Rattle.sw_lists.specs.Numbers.{Rises}
use Rattle.sw_step.specs.Actors.{is}
use Rattle.sw_step.specs.declared.actor.ActorId.{ActorId}
use Rattle.sw_step.specs.declared.actor.ActorId.TheVariants.{Door, Reactor, Worker, Tasker}
use Rattle.sw_record.specs.Logs.{of_session, events_of, told_of}
use Rattle.sw_record.specs.Terms.{Terms, session_of, reactor_of}
use Rattle.sw_record.specs.Words.{Connect, Packet, Closed, Finish, Task}
use Rattle.sw_record.specs.declared.record.LinkRecord.{LinkRecord}
use Rattle.sw_past.specs.Messages.{Message, FreshMsg, SendMsg, CloseMsg, ResetMsg, Bye, EventMsg, OverMsg, NoMore}
use Rattle.sw_past.specs.Past.{Mail, Past, drawn, bare, of}
use Rattle.sw_past.specs.Routes.{IsHand, MayPush, ToWorker, IsFair}
use Rattle.sw_past.specs.Views.{story_in, heard_in, fresh_in, fresh_of}
use Rattle.sw_join.proofs.Claims.{claims_rise}
use Rattle.sw_join.proofs.Routes.{one_sender, story_sender, took_may, took_routed}
use Rattle.sw_join.specs.Laws.{Ending, Aim, streams, ReactorShows, Joint, Locals}

-- the settings' actors, and those that aren't there
pub data Kind (t : Terms) (y : ActorId) : Type 0 where
  AsDoor : y ≡ Door → Kind t y
  AsReactor : (n : ℕ) → n < t.reactor_num → y ≡ Reactor n → Kind t y
  AsHand : IsHand t y → Kind t y
  AsNone : (y ≡ Door → ⊥) → ((n : ℕ) → n < t.reactor_num → y ≡ Reactor n → ⊥) → (IsHand t y → ⊥) → Kind t y

not_tasker : (t : Terms) (k : ℕ) → ¬ (k < t.worker_num) → IsHand t (Worker k) → ⊥
not_tasker t k n (inl w) = n (let e : k ≡ w.0 = (let q : Worker k ≡ Worker w.0 = w.1.1 in cc) in let f : w.0 < t.worker_num = w.1.0 in omega arith)
not_tasker t k n (inr w) = absurd (let q : Worker k ≡ Tasker w.0 = w.1.1 in cc)

not_worker : (t : Terms) (k : ℕ) → ¬ (k < t.tasker_num) → IsHand t (Tasker k) → ⊥
not_worker t k n (inl w) = absurd (let q : Tasker k ≡ Worker w.0 = w.1.1 in cc)
not_worker t k n (inr w) = n (let e : k ≡ w.0 = (let q : Tasker k ≡ Tasker w.0 = w.1.1 in cc) in let f : w.0 < t.tasker_num = w.1.0 in omega arith)

door_hand : (t : Terms) (n : ℕ) → IsHand t (Reactor n) → ⊥
door_hand t n (inl w) = absurd (let q : Reactor n ≡ Worker w.0 = w.1.1 in cc)
door_hand t n (inr w) = absurd (let q : Reactor n ≡ Tasker w.0 = w.1.1 in cc)

pub kind : (t : Terms) (y : ActorId) → Kind t y
kind t Door = AsDoor refl
kind t (Reactor n) = elim (cases_lt n t.reactor_num) [
  | inl lt ↦ AsReactor n lt refl
  | inr ge ↦ AsNone (λ q. absurd (cc)) (λ m lt q. let e : n ≡ m = cc in absurd (omega arith)) (door_hand t n)
]
kind t (Worker k) = elim (cases_lt k t.worker_num) [
  | inl lt ↦ AsHand (inl (k, (lt, refl)))
  | inr ge ↦ AsNone (λ q. absurd (cc)) (λ m lt q. absurd (cc)) (not_tasker t k (λ lt. absurd (omega arith)))
]
kind t (Tasker k) = elim (cases_lt k t.tasker_num) [
  | inl lt ↦ AsHand (inr (k, (lt, refl)))
  | inr ge ↦ AsNone (λ q. absurd (cc)) (λ m lt q. absurd (cc)) (not_worker t k (λ lt. absurd (omega arith)))
]

-- what everyone pushed to a reactor may be pushed there
abbrev pub ToReactor : Terms → ℕ → ActorId → ActorId × Message → Type 0
ToReactor t n y e = e.0 ≡ Reactor n → MayPush t y e.0 e.1

pub no_reactor : (t : Terms) (n m : ℕ) (y : ActorId) (e : ActorId × Message) → ToWorker t e → ToReactor t n y e
no_reactor t n m y (to, EventMsg e) h q = absurd (let k : Worker h.0 ≡ Reactor n = sym h.1.1 ∙ q in cc)
no_reactor t n m y (to, NoMore) h q = absurd (let k : Worker h.0 ≡ Reactor n = sym h.1.1 ∙ q in cc)
no_reactor t n m y (to, FreshMsg ip s) h q = absurd h
no_reactor t n m y (to, SendMsg s b) h q = absurd h
no_reactor t n m y (to, CloseMsg s) h q = absurd h
no_reactor t n m y (to, ResetMsg s) h q = absurd h
no_reactor t n m y (to, Bye s) h q = absurd h
no_reactor t n m y (to, OverMsg id) h q = absurd h

pub all_to_reactor : (t : Terms) (a : Aim) (w : Ending) (h : Past) → Locals t a w h → (n : ℕ) (y : ActorId) → Each (ToReactor t n y) (h.pushed y)
all_to_reactor t a w h l n y = by (kind t y)
  where
    by : Kind t y → Each (ToReactor t n y) (h.pushed y)
    by (AsDoor q) = rw q (each_more (λ (e : ActorId × Message). MayPush t Door e.0 e.1) (ToReactor t n Door) (h.pushed Door) (λ e k i. k) l.door.routed)
    by (AsReactor m lt q) = rw q (each_more (ToWorker t) (ToReactor t n (Reactor m)) (h.pushed (Reactor m)) (λ e k. no_reactor t n m (Reactor m) e k) (l.reactor m lt).to_workers)
    by (AsHand k) = each_more (λ (e : ActorId × Message). MayPush t y e.0 e.1) (ToReactor t n y) (h.pushed y) (λ e k i. k) (l.hand y k).routed
    by (AsNone d r k) = rw (l.absent y d r k) tt

-- links come from the door alone
pub fresh_sender : (t : Terms) (from to : ActorId) (m : Message) → MayPush t from to m → (fresh_in m ≡ []) ⊎ (from ≡ Door)
fresh_sender t from to (FreshMsg ip u) h = inr h.0
fresh_sender t from to (SendMsg u b) h = inl refl
fresh_sender t from to (CloseMsg u) h = inl refl
fresh_sender t from to (ResetMsg u) h = inl refl
fresh_sender t from to (Bye u) h = inl refl
fresh_sender t from to (OverMsg id) h = inl refl
fresh_sender t from to NoMore h = inl refl
fresh_sender t from to (EventMsg e) h = inl refl

pub each_share : {B : Type 0} (P : B → Type 0) (f : Message → List B) (y : ActorId) (ms : Mail) → Each P (collect f (bare ms)) → Each P (collect f (of y ms))
each_share P f y [] h = tt
each_share {B} P f y (e ∷ ms) h = pick (is e.0 y) (each_share P f y ms (each_right P (f e.1) (collect f (bare ms)) h))
  where
    pick : (b : Bool) → Each P (collect f (of y ms)) → Each P (collect f (when b e.1 ++ of y ms))
    pick true k = each_append P (f e.1) (collect f (of y ms)) (each_left P (f e.1) (collect f (bare ms)) h) k
    pick false k = k

pub rises_share : (f : Message → List ℕ) (y : ActorId) (ms : Mail) → Rises (collect f (bare ms)) → Rises (collect f (of y ms))
rises_share f y [] h = tt
rises_share f y (e ∷ ms) h = pick (is e.0 y) (rises_share f y ms (rises_right (f e.1) (collect f (bare ms)) h))
  where
    pick : (b : Bool) → Rises (collect f (of y ms)) → Rises (collect f (when b e.1 ++ of y ms))
    pick true k = rises_swap (f e.1) (collect f (bare ms)) (collect f (of y ms)) (λ P g. each_share P f y ms g) k h
    pick false k = k

-- what a reactor took of links is a share of what was drawn
took_fresh : (t : Terms) (a : Aim) (w : Ending) (h : Past) → Locals t a w h → Joint t h → (n : ℕ) → Each (λ (e : ActorId × Message). MayPush t e.0 (Reactor n) e.1) (h.took (Reactor n))
took_fresh t a w h l j n = took_may (λ y m. MayPush t y (Reactor n) m) h j.pipes (Reactor n) (λ y. each_more (ToReactor t n y) (λ (e : ActorId × Message). e.0 ≡ Reactor n → MayPush t y (Reactor n) e.1) (h.pushed y) (λ e k q. subst (λ (x : ActorId). MayPush t y x e.1) q (k q)) (all_to_reactor t a w h l n y))

fresh_is : (t : Terms) (n : ℕ) (ms : Mail) → Each (λ (e : ActorId × Message). MayPush t e.0 (Reactor n) e.1) ms → collect fresh_in (of Door ms) ≡ collect fresh_in (bare ms)
fresh_is t n ms r = one_sender fresh_in Door ms (each_more (λ (e : ActorId × Message). MayPush t e.0 (Reactor n) e.1) (λ (e : ActorId × Message). (fresh_in e.1 ≡ []) ⊎ (e.0 ≡ Door)) ms (λ e k. fresh_sender t e.0 (Reactor n) e.1 k) r)

pub drawn_fresh : (t : Terms) (a : Aim) (w : Ending) (h : Past) → Locals t a w h → Joint t h → (n : ℕ) (P : ℕ → Type 0) → Each P (drawn h) → Each P (collect fresh_in (bare (h.took (Reactor n))))
drawn_fresh t a w h l j n P k =
    subst (Each P) (fresh_is t n (h.took (Reactor n)) (took_fresh t a w h l j n))
    (each_prefix P (collect fresh_in (of Door (h.took (Reactor n)))) (collect fresh_in (of (Reactor n) (h.pushed Door))) (prefix_collect fresh_in (of Door (h.took (Reactor n))) (of (Reactor n) (h.pushed Door)) (j.pipes (Reactor n) Door))
    (each_share P fresh_in (Reactor n) (h.pushed Door) (each_prefix P (collect fresh_in (bare (h.pushed Door))) (drawn h) l.door.fresh k)))

-- so it is fair
pub fair : (t : Terms) (a : Aim) (w : Ending) (h : Past) → Locals t a w h → Joint t h → (n : ℕ) → IsFair t n (h.took (Reactor n))
fair t a w h l j n =
    record {
      routed = took_fresh t a w h l j n;
      once = subst Rises (fresh_is t n (h.took (Reactor n)) (took_fresh t a w h l j n))
          (rises_prefix (collect fresh_in (of Door (h.took (Reactor n)))) (collect fresh_in (of (Reactor n) (h.pushed Door))) (prefix_collect fresh_in (of Door (h.took (Reactor n))) (of (Reactor n) (h.pushed Door)) (j.pipes (Reactor n) Door))
          (rises_share fresh_in (Reactor n) (h.pushed Door) (rises_prefix (collect fresh_in (bare (h.pushed Door))) (drawn h) l.door.fresh (claims_rise t.max_conn t.session_last [] h.accepts l.door.claims).1)));
    }

pub shows : (t : Terms) (a : Aim) (w : Ending) (h : Past) → Locals t a w h → Joint t h → (n : ℕ) → n < t.reactor_num → ReactorShows t a w n (h.took (Reactor n)) (h.pushed (Reactor n)) (h.kept n)
shows t a w h l j n lt = (l.reactor n lt).shows (fair t a w h l j n)

-- everything goes where it may
pub all_routed : (t : Terms) (a : Aim) (w : Ending) (h : Past) → Locals t a w h → Joint t h → (y : ActorId) → Each (λ (e : ActorId × Message). MayPush t y e.0 e.1) (h.pushed y)
all_routed t a w h l j y = by (kind t y)
  where
    by : Kind t y → Each (λ (e : ActorId × Message). MayPush t y e.0 e.1) (h.pushed y)
    by (AsDoor q) = rw q l.door.routed
    by (AsReactor m lt q) = rw q (shows t a w h l j m lt).routed
    by (AsHand k) = (l.hand y k).routed
    by (AsNone d r k) = rw (l.absent y d r k) tt

pub took_all : (t : Terms) (a : Aim) (w : Ending) (h : Past) → Locals t a w h → Joint t h → (x : ActorId) → Each (λ (e : ActorId × Message). MayPush t e.0 x e.1) (h.took x)
took_all t a w h l j x = took_routed t h j x (λ y. all_routed t a w h l j y)

-- the events of s that a worker's handler may be given
heard_story : (k s : ℕ) (m : Message) → collect (of_session s) (heard_in (Worker k) m) ≡ story_in s m
heard_story k s (EventMsg (Connect u)) = refl
heard_story k s (EventMsg (Packet u i b)) = refl
heard_story k s (EventMsg (Closed u)) = refl
heard_story k s (EventMsg (Finish id b)) = refl
heard_story k s (EventMsg (Task w id b)) = refl
heard_story k s (FreshMsg ip u) = refl
heard_story k s (SendMsg u b) = refl
heard_story k s (CloseMsg u) = refl
heard_story k s (ResetMsg u) = refl
heard_story k s (Bye u) = refl
heard_story k s (OverMsg id) = refl
heard_story k s NoMore = refl

-- THE STREAMS. What a worker's handler was given of s begins what the reactor of s pushed to it
pub told_prefix : (t : Terms) (a : Aim) (w : Ending) (h : Past) → Locals t a w h → Joint t h → (k s : ℕ) → k < t.worker_num → IsPrefix (told_of s (h.log (Worker k))) (streams s (h.pushed (Reactor (reactor_of t s))) k)
told_prefix t a w h l j k s lt =
    let y : ActorId = Worker k in
    let x : ActorId = Reactor (reactor_of t s) in
    let given : IsPrefix (told_of s (h.log y)) (collect (of_session s) (collect (heard_in y) (bare (h.took y)))) =
    prefix_collect (of_session s) (events_of (h.log y)) (collect (heard_in y) (bare (h.took y))) (l.hand y (inl (k, (lt, refl)))).told in
    let same : collect (of_session s) (collect (heard_in y) (bare (h.took y))) ≡ collect (story_in s) (bare (h.took y)) =
    collect-collect (of_session s) (heard_in y) (bare (h.took y)) ∙ collect-same (λ m. collect (of_session s) (heard_in y m)) (story_in s) (heard_story k s) (bare (h.took y)) in
    let mine : collect (story_in s) (of x (h.took y)) ≡ collect (story_in s) (bare (h.took y)) =
    one_sender (story_in s) x (h.took y) (each_more (λ (e : ActorId × Message). MayPush t e.0 y e.1) (λ (e : ActorId × Message). (story_in s e.1 ≡ []) ⊎ (e.0 ≡ x)) (h.took y) (λ e r. story_sender t s e.0 y e.1 r) (took_all t a w h l j y)) in
    prefix_trans (told_of s (h.log y)) (collect (story_in s) (of x (h.took y))) (streams s (h.pushed x) k)
    (subst (IsPrefix (told_of s (h.log y))) (same ∙ sym mine) given)
    (prefix_collect (story_in s) (of x (h.took y)) (of y (h.pushed x)) (j.pipes y x))

-- a number that was never drawn: nothing was pushed of it
never_fresh : (s : ℕ) (ms : List Message) → Each (λ u. ¬ (u ≡ s)) (collect fresh_in ms) → collect (fresh_of s) ms ≡ []
never_fresh s [] h = refl
never_fresh s (FreshMsg ip u ∷ ms) h = rw (eq_other u s h.0) (never_fresh s ms h.1)
never_fresh s (SendMsg u b ∷ ms) h = never_fresh s ms h
never_fresh s (CloseMsg u ∷ ms) h = never_fresh s ms h
never_fresh s (ResetMsg u ∷ ms) h = never_fresh s ms h
never_fresh s (Bye u ∷ ms) h = never_fresh s ms h
never_fresh s (EventMsg e ∷ ms) h = never_fresh s ms h
never_fresh s (OverMsg id ∷ ms) h = never_fresh s ms h
never_fresh s (NoMore ∷ ms) h = never_fresh s ms h

pub none_share : {B : Type 0} (f : Message → List B) (y : ActorId) (ms : Mail) → collect f (bare ms) ≡ [] → collect f (of y ms) ≡ []
none_share f y [] h = refl
none_share {B} f y (e ∷ ms) h = pick (is e.0 y) (none_share f y ms (append_none (f e.1) (collect f (bare ms)) h).1)
  where
    pick : (b : Bool) → collect f (of y ms) ≡ [] → collect f (when b e.1 ++ of y ms) ≡ []
    pick true k = ap (λ (zs : List B). zs ++ collect f (of y ms)) (append_none (f e.1) (collect f (bare ms)) h).0 ∙ k
    pick false k = k

-- a link that is kept came
pub fresh_there : (s ip : ℕ) (early rest : Mail) → collect (fresh_of s) (bare (early ++ (Door, FreshMsg ip s) ∷ rest)) ≡ [] → ⊥
fresh_there s ip [] rest h = absurd (let q : s ∷ collect (fresh_of s) (bare rest) ≡ [] = subst (λ (b : Bool). when b s ++ collect (fresh_of s) (bare rest) ≡ []) (eq_same s s refl) h in cc)
fresh_there s ip (e ∷ early) rest h = fresh_there s ip early rest (append_none (fresh_of s e.1) (collect (fresh_of s) (bare (early ++ (Door, FreshMsg ip s) ∷ rest))) h).1

-- nothing was pushed of a session that its reactor doesn't keep
pub unkept_none : (t : Terms) (a : Aim) (w : Ending) (h : Past) → Locals t a w h → Joint t h → (s k : ℕ) → ((l : LinkRecord) → Has l (h.kept (reactor_of t s)) → session_of l.state ≡ Some s → ⊥) → streams s (h.pushed (Reactor (reactor_of t s))) k ≡ []
unkept_none t a w h l j s k none = by (kind t (Reactor (reactor_of t s)))
  where
    by : Kind t (Reactor (reactor_of t s)) → streams s (h.pushed (Reactor (reactor_of t s))) k ≡ []
    by (AsDoor q) = absurd (cc)
    by (AsReactor m lt q) =
        let e : reactor_of t s ≡ m = cc in
        none_share (story_in s) (Worker k) (h.pushed (Reactor (reactor_of t s))) ((shows t a w h l j (reactor_of t s) (rw e lt)).stranger s none)
    by (AsHand q) = absurd (door_hand t (reactor_of t s) q)
    by (AsNone d r q) = rw (l.absent (Reactor (reactor_of t s)) d r q) refl

-- nothing was pushed of a session whose link its reactor didn't take
pub untaken_none : (t : Terms) (a : Aim) (w : Ending) (h : Past) → Locals t a w h → Joint t h → (s k : ℕ) → collect (fresh_of s) (bare (h.took (Reactor (reactor_of t s)))) ≡ [] → streams s (h.pushed (Reactor (reactor_of t s))) k ≡ []
untaken_none t a w h l j s k none = by (kind t (Reactor (reactor_of t s)))
  where
    came : ReactorShows t a w (reactor_of t s) (h.took (Reactor (reactor_of t s))) (h.pushed (Reactor (reactor_of t s))) (h.kept (reactor_of t s)) → (o : LinkRecord) → Has o (h.kept (reactor_of t s)) → session_of o.state ≡ Some s → ⊥
    came r o has is = (let m = r.keeps s o has is in fresh_there s o.ip m.early (m.mid ++ m.later) (subst (λ (ms : Mail). collect (fresh_of s) (bare ms) ≡ []) m.split none))

    by : Kind t (Reactor (reactor_of t s)) → streams s (h.pushed (Reactor (reactor_of t s))) k ≡ []
    by (AsDoor q) = absurd (cc)
    by (AsReactor m lt q) =
        let e : reactor_of t s ≡ m = cc in
        none_share (story_in s) (Worker k) (h.pushed (Reactor (reactor_of t s))) ((shows t a w h l j (reactor_of t s) (rw e lt)).stranger s (came (shows t a w h l j (reactor_of t s) (rw e lt))))
    by (AsHand q) = absurd (door_hand t (reactor_of t s) q)
    by (AsNone d r q) = rw (l.absent (Reactor (reactor_of t s)) d r q) refl

pub stranger_none : (t : Terms) (a : Aim) (w : Ending) (h : Past) → Locals t a w h → Joint t h → (s k : ℕ) → ¬ Has s (drawn h) → k < t.worker_num → told_of s (h.log (Worker k)) ≡ []
stranger_none t a w h l j s k n lt =
    prefix_none (told_of s (h.log (Worker k))) (streams s (h.pushed (Reactor (reactor_of t s))) k) (told_prefix t a w h l j k s lt)
    (untaken_none t a w h l j s k (never_fresh s (bare (h.took (Reactor (reactor_of t s)))) (drawn_fresh t a w h l j (reactor_of t s) (λ u. ¬ (u ≡ s)) (each_at (λ u. ¬ (u ≡ s)) (drawn h) (λ u has e. n (subst (λ v. Has v (drawn h)) e has))))))
