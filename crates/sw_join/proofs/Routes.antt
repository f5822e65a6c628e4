-- What came from whom: messages of a kind that one actor alone may push are, in a pipe, that actor's, in its order.
use Rattle.std.proofs.Common.{◌≡◌, ◌⊎◌, ℕ, ◌==◌, Bool, true, false, List, [], ◌∷◌, ◌++◌, refl, ap, ◌∙◌, sym, subst, inl, inr}
use Rattle.sw_lists.proofs.Lists.{bool_cases, each_more, each_prefix, each_right, eq_is, eq_same}
use Rattle.sw_lists.specs.Lists.{collect, IsPrefix, Each, when}
use Rattle.sw_step.specs.Actors.{is}
use Rattle.sw_step.specs.declared.actor.ActorId.{ActorId}
use Rattle.sw_step.specs.declared.actor.ActorId.TheVariants.{Door, Reactor, Worker, Tasker}
use Rattle.sw_record.specs.Terms.{Terms, reactor_of}
use Rattle.sw_record.specs.Words.{Connect, Packet, Closed, Finish, Task}
use Rattle.sw_past.specs.Messages.{Message, FreshMsg, SendMsg, CloseMsg, ResetMsg, Bye, EventMsg, OverMsg, NoMore}
use Rattle.sw_past.specs.Past.{Mail, Past, bare, of}
use Rattle.sw_past.specs.Routes.{MayPush}
use Rattle.sw_past.specs.Views.{story_in}
use Rattle.sw_join.specs.Laws.{Joint}

pub is_refl : (x : ActorId) → is x x ≡ true
is_refl Door = refl
is_refl (Reactor n) = eq_same n n refl
is_refl (Worker n) = eq_same n n refl
is_refl (Tasker n) = eq_same n n refl

pub is_same : (x y : ActorId) → is x y ≡ true → x ≡ y
is_same Door Door e = refl
is_same (Reactor m) (Reactor n) e = ap Reactor (eq_is m n e)
is_same (Worker m) (Worker n) e = ap Worker (eq_is m n e)
is_same (Tasker m) (Tasker n) e = ap Tasker (eq_is m n e)
is_same Door (Reactor n) e = absurd (cc)
is_same Door (Worker n) e = absurd (cc)
is_same Door (Tasker n) e = absurd (cc)
is_same (Reactor m) Door e = absurd (cc)
is_same (Reactor m) (Worker n) e = absurd (cc)
is_same (Reactor m) (Tasker n) e = absurd (cc)
is_same (Worker m) Door e = absurd (cc)
is_same (Worker m) (Reactor n) e = absurd (cc)
is_same (Worker m) (Tasker n) e = absurd (cc)
is_same (Tasker m) Door e = absurd (cc)
is_same (Tasker m) (Reactor n) e = absurd (cc)
is_same (Tasker m) (Worker n) e = absurd (cc)

pub is_other : (x y : ActorId) → ¬ (x ≡ y) → is x y ≡ false
is_other x y n = elim (bool_cases (is x y)) [ inl e ↦ absurd (n (is_same x y e)) | inr e ↦ e ]

-- what this actor's share of a mail is at its head
pub of_own : (y : ActorId) (e : ActorId × Message) (ms : Mail) → e.0 ≡ y → of y (e ∷ ms) ≡ e.1 ∷ of y ms
of_own y e ms q = rw (q, is_refl y) refl

-- what one actor alone may push
pub one_sender : {B : Type 0} (f : Message → List B) (y : ActorId) (ms : Mail) → Each (λ (e : ActorId × Message). (f e.1 ≡ []) ⊎ (e.0 ≡ y)) ms → collect f (of y ms) ≡ collect f (bare ms)
one_sender f y [] h = refl
one_sender {B} f y (e ∷ ms) h = let rest = one_sender f y ms h.1 in elim h.0 [ inl none ↦ silent (is e.0 y) none rest | inr own ↦ spoken own rest ]
  where
    silent : (b : Bool) → f e.1 ≡ [] → collect f (of y ms) ≡ collect f (bare ms) → collect f (when b e.1 ++ of y ms) ≡ f e.1 ++ collect f (bare ms)
    silent true none rest = ap (λ zs. f e.1 ++ zs) rest
    silent false none rest = rest ∙ ap (λ (zs : List B). zs ++ collect f (bare ms)) (sym none)

    spoken : e.0 ≡ y → collect f (of y ms) ≡ collect f (bare ms) → collect f (of y (e ∷ ms)) ≡ f e.1 ++ collect f (bare ms)
    spoken own rest = ap (collect f) (of_own y e ms own) ∙ ap (λ zs. f e.1 ++ zs) rest

pub other_sender : {B : Type 0} (f : Message → List B) (y z : ActorId) (ms : Mail) → ¬ (z ≡ y) → Each (λ (e : ActorId × Message). (f e.1 ≡ []) ⊎ (e.0 ≡ y)) ms → collect f (of z ms) ≡ []
other_sender f y z [] n h = refl
other_sender {B} f y z (e ∷ ms) n h = let rest = other_sender f y z ms n h.1 in elim h.0 [ inl none ↦ silent (is e.0 z) none rest | inr own ↦ spoken own rest ]
  where
    silent : (b : Bool) → f e.1 ≡ [] → collect f (of z ms) ≡ [] → collect f (when b e.1 ++ of z ms) ≡ []
    silent true none rest = ap (λ (zs : List B). zs ++ collect f (of z ms)) none ∙ rest
    silent false none rest = rest

    spoken : e.0 ≡ y → collect f (of z ms) ≡ [] → collect f (of z (e ∷ ms)) ≡ []
    spoken own rest = let q : is e.0 z ≡ false = is_other e.0 z (λ k. n (sym k ∙ own)) in ap (λ b. collect f (when b e.1 ++ of z ms)) q ∙ rest

-- who pushed what an actor took may push it there
of_routed : (P : Message → Type 0) (x : ActorId) (ms : Mail) → Each (λ (e : ActorId × Message). e.0 ≡ x → P e.1) ms → Each P (of x ms)
of_routed P x [] h = tt
of_routed P x (e ∷ ms) h = pick (is e.0 x) refl (of_routed P x ms h.1)
  where
    pick : (b : Bool) → is e.0 x ≡ b → Each P (of x ms) → Each P (when b e.1 ++ of x ms)
    pick true q rest = (h.0 (is_same e.0 x q), rest)
    pick false q rest = rest

pub from_each : (P : ActorId → Message → Type 0) (ms : Mail) → ((y : ActorId) → Each (P y) (of y ms)) → Each (λ (e : ActorId × Message). P e.0 e.1) ms
from_each P [] f = tt
from_each P (e ∷ ms) f =
    ((subst (Each (P e.0)) (of_own e.0 e ms refl) (f e.0)).0, from_each P ms (λ y. each_right (P y) (when (is e.0 y) e.1) (of y ms) (f y)))

pub took_may : (P : ActorId → Message → Type 0) (h : Past) → ((x y : ActorId) → IsPrefix (of y (h.took x)) (of x (h.pushed y))) → (x : ActorId) → ((y : ActorId) → Each (λ (e : ActorId × Message). e.0 ≡ x → P y e.1) (h.pushed y)) → Each (λ (e : ActorId × Message). P e.0 e.1) (h.took x)
took_may P h j x r = from_each P (h.took x) (λ y. each_prefix (P y) (of y (h.took x)) (of x (h.pushed y)) (j x y) (of_routed (P y) x (h.pushed y) (r y)))

-- everything that was pushed may be pushed, so everything that was taken may be
pub took_routed : (t : Terms) (h : Past) → Joint t h → (x : ActorId) → ((y : ActorId) → Each (λ (e : ActorId × Message). MayPush t y e.0 e.1) (h.pushed y)) → Each (λ (e : ActorId × Message). MayPush t e.0 x e.1) (h.took x)
took_routed t h j x r = took_may (λ y m. MayPush t y x m) h j.pipes x (λ y. each_more (λ (e : ActorId × Message). MayPush t y e.0 e.1) (λ (e : ActorId × Message). e.0 ≡ x → MayPush t y x e.1) (h.pushed y) (λ e k q. subst (λ (z : ActorId). MayPush t y z e.1) q k) (r y))

-- the events of s come from its reactor alone
when_none : {A : Type 0} (u s : ℕ) (x : A) → u == s ≡ false → when (u == s) x ≡ []
when_none u s x e = rw e refl

pub story_sender : (t : Terms) (s : ℕ) (from to : ActorId) (m : Message) → MayPush t from to m → (story_in s m ≡ []) ⊎ (from ≡ Reactor (reactor_of t s))
story_sender t s from to (FreshMsg ip u) h = inl refl
story_sender t s from to (SendMsg u b) h = inl refl
story_sender t s from to (CloseMsg u) h = inl refl
story_sender t s from to (ResetMsg u) h = inl refl
story_sender t s from to (Bye u) h = inl refl
story_sender t s from to (OverMsg id) h = inl refl
story_sender t s from to NoMore h = inl refl
story_sender t s from to (EventMsg (Finish id b)) h = inl refl
story_sender t s from to (EventMsg (Task w id b)) h = inl refl
story_sender t s from to (EventMsg (Connect u)) h = elim (bool_cases (u == s)) [ inl e ↦ inr (h.0 ∙ ap (λ v. Reactor (reactor_of t v)) (eq_is u s e)) | inr e ↦ inl (rw e refl) ]
story_sender t s from to (EventMsg (Packet u i b)) h = elim (bool_cases (u == s)) [ inl e ↦ inr (h.0 ∙ ap (λ v. Reactor (reactor_of t v)) (eq_is u s e)) | inr e ↦ inl (rw e refl) ]
story_sender t s from to (EventMsg (Closed u)) h = elim (bool_cases (u == s)) [ inl e ↦ inr (h.0 ∙ ap (λ v. Reactor (reactor_of t v)) (eq_is u s e)) | inr e ↦ inl (rw e refl) ]
