-- The laws of the join that each actor's own law shows, and what they say of all that was ever pushed to a reactor.
use Rattle.std.proofs.Common.{◌≡◌, ◌⊎◌, ℕ, ◌<◌, nat_lt, Bool, true, false, List, [], ◌∷◌, refl, ap, ◌∙◌, sym, subst, arith, inl, inr}
use Rattle.std.proofs.lemmas.Bool.Decides.{nat_tests}
use Rattle.sw_lists.specs.Lists.{collect, IsPrefix, Each}
use Rattle.sw_lists.specs.Numbers.{Rises}
use Rattle.sw_lists.proofs.Lists.{prefix_collect, prefix_refl, rises_prefix, collect-collect, collect-same, each_more, each_at}
use Rattle.sw_step.specs.declared.actor.ActorId.{ActorId}
use Rattle.sw_step.specs.declared.actor.ActorId.TheVariants.{Door, Reactor, Worker, Tasker}
use Rattle.sw_record.specs.Terms.{Terms}
use Rattle.sw_past.specs.Messages.{Message, FreshMsg, SendMsg, CloseMsg, ResetMsg, Bye, EventMsg, OverMsg, NoMore}
use Rattle.sw_past.specs.Claims.{Claim, Drew, Full, Spent, drew_in}
use Rattle.sw_past.specs.Past.{Past, bare, of, drawn}
use Rattle.sw_past.specs.Views.{fresh_in}
use Rattle.sw_past.specs.Routes.{IsHand, IsFair, MayPush}
use Rattle.sw_join.specs.Laws.{Joint, Locals, ReactorLaw, HandLaw}
use Rattle.sw_join.specs.Tasks.{TaskLocals}
use Rattle.sw_join.proofs.Routes.{one_sender, took_may}
use Rattle.sw_join.proofs.Claims.{claims_rise}
use Rattle.sw_join.proofs.Told.{ToReactor, all_to_reactor, fresh_sender, rises_share}
use Rattle.sw_join.proofs.Steps.{pipes}
use Rattle.sw_record.specs.Places.{Ran}
use Rattle.sw_join.specs.Modes.{AimOf, EndOf}
use Rattle.sw_record.specs.Uids.{the_uid}
use Rattle.sw_world_ports.specs.Made.{accept_in, pass_in, found_in, free_in}
use Rattle.sw_world_ports.specs.Law.{OneBind, all_in}
use Rattle.sw_world_ports.proofs.Uids.{all_binds, uid_found, uid_is}
use Rattle.sw_world_laws.specs.Turns.{Diary}
use Rattle.sw_world_laws.specs.Shows.{Shows, fresh_pair, drew_pair, LostShows, DoorShows, HasWord, ReactorMore}
use Rattle.sw_world_laws.specs.Actors.{Actors}
use Rattle.sw_world_laws.specs.World.{Pending, Waits, Gave, Core, there, Lost}
use Rattle.sw_world_laws.specs.History.{History, diary_of, past_of, LocalBy}
use Rattle.sw_world_laws.specs.Law.{Holds, IsSound}

-- a hand is no door and no reactor
pub no_hand_door : (t : Terms) → IsHand t Door → ⊥
no_hand_door t (inl k) = absurd (let q : Door ≡ Worker k.0 = k.1.1 in cc)
no_hand_door t (inr k) = absurd (let q : Door ≡ Tasker k.0 = k.1.1 in cc)

pub no_hand_reactor : (t : Terms) (n : ℕ) → IsHand t (Reactor n) → ⊥
no_hand_reactor t n (inl k) = absurd (let q : Reactor n ≡ Worker k.0 = k.1.1 in cc)
no_hand_reactor t n (inr k) = absurd (let q : Reactor n ≡ Tasker k.0 = k.1.1 in cc)

pub lt_test : (m n : ℕ) → m < n → nat_lt m n ≡ true
lt_test m n e = grind (arith, nat_tests)

pub test_lt : (m n : ℕ) → nat_lt m n ≡ true → m < n
test_lt m n e = grind (arith, nat_tests)

pub there_hand : (t : Terms) (y : ActorId) → IsHand t y → there t y ≡ true
there_hand t y (inl k) = rw k.1.1 (lt_test k.0 t.worker_num k.1.0)
there_hand t y (inr k) = rw k.1.1 (lt_test k.0 t.tasker_num k.1.0)

-- who isn't there
pub not_there : (t : Terms) (y : ActorId) → (y ≡ Door → ⊥) → ((n : ℕ) → n < t.reactor_num → y ≡ Reactor n → ⊥) → (IsHand t y → ⊥) → there t y ≡ false
not_there t Door d r k = absurd (d refl)
not_there t (Reactor n) d r k = pick (nat_lt n t.reactor_num) refl
  where
    pick : (b : Bool) → nat_lt n t.reactor_num ≡ b → b ≡ false
    pick true e = absurd (r n (test_lt n t.reactor_num e) refl)
    pick false e = refl
not_there t (Worker n) d r k = pick (nat_lt n t.worker_num) refl
  where
    pick : (b : Bool) → nat_lt n t.worker_num ≡ b → b ≡ false
    pick true e = absurd (k (inl (n, (test_lt n t.worker_num e, refl))))
    pick false e = refl
not_there t (Tasker n) d r k = pick (nat_lt n t.tasker_num) refl
  where
    pick : (b : Bool) → nat_lt n t.tasker_num ≡ b → b ≡ false
    pick true e = absurd (k (inr (n, (test_lt n t.tasker_num e, refl))))
    pick false e = refl

-- what an actor's law shows, or one's that found no memory
shows_by : (t : Terms) (p : Actors t) (y : ActorId) (s : p.State) (n : Pending) (d : Diary) → LocalBy t p y s n d → Shows t y (p.log s) (p.kept s) (p.told s) d ⊎ LostShows t y (p.log s) d
shows_by t p y s (Gave got) d h = inl (p.shows y s got d h)
shows_by t p y s (Waits ask) d h = inl (p.shows_after y s ask d h)
shows_by t p y s Lost d h = inr (p.lost_shows y s d h)

shown_or : (t : Terms) (legal : List Ran → Type 0) (p : Actors t) (c : Core p.State) (h : History) → Holds t legal p c h → (y : ActorId) → there t y ≡ true → Shows t y (p.log (c.states y)) (p.kept (c.states y)) (p.told (c.states y)) (diary_of h y) ⊎ LostShows t y (p.log (c.states y)) (diary_of h y)
shown_or t legal p c h l y th = shows_by t p y (c.states y) (c.nexts y) (diary_of h y) (l.local y th)

-- where no step wanted memory each actor's law shows all
pub shown : (t : Terms) (legal : List Ran → Type 0) (p : Actors t) (c : Core p.State) (h : History) → Holds t legal p c h → c.lost ≡ false → (y : ActorId) → there t y ≡ true → Shows t y (p.log (c.states y)) (p.kept (c.states y)) (p.told (c.states y)) (diary_of h y)
shown t legal p c h l ok y th = by (c.nexts y) (l.sound ok y) (l.local y th)
  where
    by : (n : Pending) → IsSound n → LocalBy t p y (c.states y) n (diary_of h y) → Shows t y (p.log (c.states y)) (p.kept (c.states y)) (p.told (c.states y)) (diary_of h y)
    by (Gave got) s q = p.shows y (c.states y) got (diary_of h y) q
    by (Waits ask) s q = p.shows_after y (c.states y) ask (diary_of h y) q
    by Lost s q = absurd s

-- the door's and the reactors' show all in any case, and a hand's its HandLaw
pub door_shown : (t : Terms) (legal : List Ran → Type 0) (p : Actors t) (c : Core p.State) (h : History) → Holds t legal p c h → DoorShows t (diary_of h Door)
door_shown t legal p c h l = elim (shown_or t legal p c h l Door refl) [ inl q ↦ q.door refl | inr q ↦ absurd (no_hand_door t q.hand) ]

-- the uid of a session, by all binds so far
abbrev pub uid_of : Terms → History → ℕ → ℕ
uid_of t h s = the_uid (all_binds t (all_in pass_in h.dids) s)

-- what a reactor found and released agrees with it
pub found_agree : (t : Terms) (legal : List Ran → Type 0) (p : Actors t) (c : Core p.State) (h : History) → Holds t legal p c h → (n : ℕ) → Each (λ (q : ℕ × ℕ). (q.1 ≡ 0) ⊎ (q.1 ≡ uid_of t h q.0)) (collect found_in (h.dids (Reactor n)))
found_agree t legal p c h l n =
    each_more (λ (q : ℕ × ℕ). (q.1 ≡ 0) ⊎ OneBind t (all_in pass_in h.dids) q.0 q.1) (λ (q : ℕ × ℕ). (q.1 ≡ 0) ⊎ (q.1 ≡ uid_of t h q.0)) (collect found_in (h.dids (Reactor n)))
    (λ q k. elim k [ inl z ↦ inl z | inr z ↦ inr (uid_found t (all_in pass_in h.dids) q.0 q.1 z) ]) (l.ports.words.found (Reactor n)).found

pub freed_agree : (t : Terms) (legal : List Ran → Type 0) (p : Actors t) (c : Core p.State) (h : History) → Holds t legal p c h → (n : ℕ) → n < t.reactor_num → Each (λ (q : ℕ × ℕ). q.1 ≡ uid_of t h q.0) (collect free_in (h.dids (Reactor n)))
freed_agree t legal p c h l n lt = each_at (λ (q : ℕ × ℕ). q.1 ≡ uid_of t h q.0) (collect free_in (h.dids (Reactor n))) (λ q has. uid_is t (all_in pass_in h.dids) q.0 q.1 (l.ports.words.book.frees n lt q.0 q.1 has))

pub words_found : (t : Terms) (legal : List Ran → Type 0) (p : Actors t) (c : Core p.State) (h : History) → Holds t legal p c h → (n : ℕ) → n < t.reactor_num → HasWord (h.dids (Reactor n))
words_found t legal p c h l n lt = record { word = uid_of t h; found = found_agree t legal p c h l n; freed = freed_agree t legal p c h l n lt }

pub reactor_shown : (t : Terms) (legal : List Ran → Type 0) (p : Actors t) (c : Core p.State) (h : History) → Holds t legal p c h → (n : ℕ) → n < t.reactor_num →
    ReactorLaw t (AimOf t) (EndOf t) n (h.took (Reactor n)) (h.pushed (Reactor n)) (p.kept (c.states (Reactor n))) × (IsFair t n (h.took (Reactor n)) → ReactorMore t (p.kept (c.states (Reactor n))) (p.told (c.states (Reactor n))) (diary_of h (Reactor n)))
reactor_shown t legal p c h l n lt = elim (shown_or t legal p c h l (Reactor n) (lt_test n t.reactor_num lt)) [ inl q ↦ q.reactor n lt refl (words_found t legal p c h l n lt) | inr q ↦ absurd (no_hand_reactor t n q.hand) ]

pub hand_law : (t : Terms) (legal : List Ran → Type 0) (p : Actors t) (c : Core p.State) (h : History) → Holds t legal p c h → (y : ActorId) → IsHand t y → HandLaw t y (h.took y) (h.pushed y) (p.log (c.states y))
hand_law t legal p c h l y k = elim (shown_or t legal p c h l y (there_hand t y k)) [ inl q ↦ (q.hand k).law | inr q ↦ q.law ]

-- the sessions of pushed links are those of the pairs
pub pair_fresh : (m : Message) → collect (λ (q : ℕ × ℕ). q.1 ∷ []) (fresh_pair m) ≡ fresh_in m
pair_fresh (FreshMsg ip s) = refl
pair_fresh (SendMsg s b) = refl
pair_fresh (CloseMsg s) = refl
pair_fresh (ResetMsg s) = refl
pair_fresh (Bye s) = refl
pair_fresh (EventMsg e) = refl
pair_fresh (OverMsg id) = refl
pair_fresh NoMore = refl

pub pair_drew : (x : ℕ × Claim) → collect (λ (q : ℕ × ℕ). q.1 ∷ []) (drew_pair x) ≡ drew_in x
pair_drew (ip, Drew s) = refl
pair_drew (ip, Full) = refl
pair_drew (ip, Spent) = refl

pairs : (ms : List Message) (xs : List (ℕ × Claim)) → IsPrefix (collect fresh_pair ms) (collect drew_pair xs) → IsPrefix (collect fresh_in ms) (collect drew_in xs)
pairs ms xs h =
    let f : ℕ × ℕ → List ℕ = λ (q : ℕ × ℕ). q.1 ∷ [] in
    let e : collect f (collect fresh_pair ms) ≡ collect fresh_in ms = collect-collect f fresh_pair ms ∙ collect-same (λ m. collect f (fresh_pair m)) fresh_in pair_fresh ms in
    let g : collect f (collect drew_pair xs) ≡ collect drew_in xs = collect-collect f drew_pair xs ∙ collect-same (λ x. collect f (drew_pair x)) drew_in pair_drew xs in
    subst (λ (zs : List ℕ). IsPrefix zs (collect drew_in xs)) e (subst (λ (zs : List ℕ). IsPrefix (collect f (collect fresh_pair ms)) zs) g (prefix_collect f (collect fresh_pair ms) (collect drew_pair xs) h))

pub locals : (t : Terms) (legal : List Ran → Type 0) (p : Actors t) (c : Core p.State) (h : History) → Holds t legal p c h → Locals t (AimOf t) (EndOf t) (past_of t p c h)
locals t legal p c h l =
    let door = door_shown t legal p c h l in
    record {
      door = record { routed = door.routed; fresh = pairs (bare (h.pushed Door)) (collect accept_in (h.dids Door)) door.fresh; claims = l.ports.words.book.claims };
      hand = hand_law t legal p c h l;
      reactor = λ n lt. (reactor_shown t legal p c h l n lt).0;
      absent = λ y d r k. l.absent y (not_there t y d r k);
    }

pub task_locals : (t : Terms) (legal : List Ran → Type 0) (p : Actors t) (c : Core p.State) (h : History) → Holds t legal p c h → c.lost ≡ false → TaskLocals t (past_of t p c h)
task_locals t legal p c h l ok =
    record {
      worker = λ w lt. (shown t legal p c h l ok (Worker w) (lt_test w t.worker_num lt)).worker w lt refl;
      tasker = λ k lt. (shown t legal p c h l ok (Tasker k) (lt_test k t.tasker_num lt)).tasker k lt refl;
    }

pub joint : (t : Terms) (legal : List Ran → Type 0) (p : Actors t) (c : Core p.State) (h : History) → Holds t legal p c h → Joint t (past_of t p c h)
joint t legal p c h l = record { pipes = pipes h.took h.pushed h.sent l.pipes; notes = l.notes }

-- all that was ever pushed to a reactor came from those who may push it, and each link once
pub fair_sent : (t : Terms) (legal : List Ran → Type 0) (p : Actors t) (c : Core p.State) (h : History) → Holds t legal p c h → (n : ℕ) → IsFair t n (h.sent (Reactor n))
fair_sent t legal p c h l n =
    let k = locals t legal p c h l in
    let past : Past = past_of t p c h in
    let routed : Each (λ (e : ActorId × Message). MayPush t e.0 (Reactor n) e.1) (h.sent (Reactor n)) =
    took_may (λ y m. MayPush t y (Reactor n) m) (record past { took = h.sent }) (λ x y. subst (IsPrefix (of y (h.sent x))) (sym (l.pipes.same x y)) (prefix_refl (of y (h.sent x)))) (Reactor n)
    (λ y. each_more (ToReactor t n y) (λ (e : ActorId × Message). e.0 ≡ Reactor n → MayPush t y (Reactor n) e.1) (h.pushed y) (λ e q i. subst (λ (x : ActorId). MayPush t y x e.1) i (q i)) (all_to_reactor t (AimOf t) (EndOf t) past k n y)) in
    let same : collect fresh_in (of Door (h.sent (Reactor n))) ≡ collect fresh_in (bare (h.sent (Reactor n))) =
    one_sender fresh_in Door (h.sent (Reactor n)) (each_more (λ (e : ActorId × Message). MayPush t e.0 (Reactor n) e.1) (λ (e : ActorId × Message). (fresh_in e.1 ≡ []) ⊎ (e.0 ≡ Door)) (h.sent (Reactor n)) (λ e q. fresh_sender t e.0 (Reactor n) e.1 q) routed) in
    record {
      routed = routed;
      once = subst Rises (ap (collect fresh_in) (l.pipes.same (Reactor n) Door) ∙ same)
          (rises_share fresh_in (Reactor n) (h.pushed Door) (rises_prefix (collect fresh_in (bare (h.pushed Door))) (drawn past) k.door.fresh (claims_rise t.max_conn t.session_last [] past.accepts k.door.claims).1));
    }
