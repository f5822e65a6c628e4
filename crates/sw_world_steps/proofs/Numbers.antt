-- What a hand takes is of sessions that were drawn, so none is of number 0.
use Rattle.std.proofs.Common.{◌≡◌, ◌⊎◌, ℕ, zero, suc, ◌<◌, ◌≤◌, Bool, List, [], ◌∷◌, ◌++◌, refl, ap, ◌∙◌, sym, subst, arith, inl, inr}
use Rattle.sw_lists.specs.Lists.{collect, when, Each, Has, IsPrefix}
use Rattle.sw_lists.proofs.Lists.{append_none, collect-append, each_more, eq_other, eq_same, prefix_collect, prefix_none}
use Rattle.sw_step.specs.declared.actor.ActorId.{ActorId}
use Rattle.sw_step.specs.declared.actor.ActorId.TheVariants.{Door, Reactor, Worker, Tasker}
use Rattle.sw_record.specs.Terms.{Terms, reactor_of}
use Rattle.sw_record.specs.Places.{Ran}
use Rattle.sw_record.specs.Words.{Event, Connect, Packet, Closed, Finish, Task}
use Rattle.sw_past.specs.Messages.{Message, FreshMsg, SendMsg, CloseMsg, ResetMsg, Bye, EventMsg, OverMsg, NoMore}
use Rattle.sw_past.specs.Past.{Mail, bare, msg_of, of}
use Rattle.sw_past.specs.Views.{event_in, story_in, fresh_in, fresh_of}
use Rattle.sw_past.specs.Routes.{IsHand as IsHandOf, MayPush}
use Rattle.sw_join.specs.Laws.{streams}
use Rattle.sw_join.specs.Modes.{AimOf, EndOf}
use Rattle.sw_join.proofs.Routes.{one_sender, story_sender}
use Rattle.sw_join.proofs.Told.{drawn_fresh, took_all, untaken_none}
use Rattle.sw_world_ports.specs.Law.{drawn_by}
use Rattle.sw_world_ports.proofs.Haves.{has_right}
use Rattle.sw_world_laws.specs.Turns.{Got, GotStart, GotTook, GotEmpty, GotPushed, GotFull, GotNothing}
use Rattle.sw_world_laws.specs.Actors.{Actors}
use Rattle.sw_world_laws.specs.World.{Core}
use Rattle.sw_world_laws.specs.History.{History, diary_of, past_of}
use Rattle.sw_world_laws.specs.Law.{Holds}
use Rattle.sw_world_laws.proofs.Locals.{locals, joint}
use Rattle.sw_hand_fits.specs.Matches.{IsNumberedEvent, IsNumberedGot}
use Rattle.sw_world_hands.specs.Hands.{HandState, HandHolds, hand_got}

-- what isn't in what is collected
none_has : {A B : Type 0} (f : A → List B) (xs : List A) (x : A) → collect f xs ≡ [] → Has x xs → f x ≡ []
none_has f [] x e (k, q) = absurd (cc)
none_has {A} {B} f (y ∷ xs) x e (zero, q) = subst (λ (z : A). f z ≡ []) (let i : y ≡ x = cc in i) (append_none (f y) (collect f xs) e).0
none_has f (y ∷ xs) x e (suc k, q) = none_has f xs x (append_none (f y) (collect f xs) e).1 (k, q)

-- who pushed a message
routed_has : (t : Terms) (x : ActorId) (ms : Mail) → Each (λ (e : ActorId × Message). MayPush t e.0 x e.1) ms → (m : Message) → Has m (bare ms) → (who : ActorId) × MayPush t who x m
routed_has t x [] h m (k, q) = absurd (cc)
routed_has t x (e ∷ ms) h m (zero, q) = (e.0, subst (MayPush t e.0 x) (let i : e.1 ≡ m = cc in i) h.0)
routed_has t x (e ∷ ms) h m (suc k, q) = routed_has t x ms h.1 m (k, q)

-- a number that never came
never : (s : ℕ) (ms : List Message) → Each (λ u. ¬ (u ≡ s)) (collect fresh_in ms) → collect (fresh_of s) ms ≡ []
never s [] h = refl
never s (FreshMsg ip u ∷ ms) h = rw (eq_other u s h.0) (never s ms h.1)
never s (SendMsg u b ∷ ms) h = never s ms h
never s (CloseMsg u ∷ ms) h = never s ms h
never s (ResetMsg u ∷ ms) h = never s ms h
never s (Bye u ∷ ms) h = never s ms h
never s (EventMsg e ∷ ms) h = never s ms h
never s (OverMsg id ∷ ms) h = never s ms h
never s (NoMore ∷ ms) h = never s ms h

-- an event of a session is in its story
connect_told : (s : ℕ) → story_in s (EventMsg (Connect s)) ≡ [] → ⊥
connect_told s h = absurd (let q : Connect s ∷ [] ≡ [] = subst (λ (b : Bool). (when b (Connect s) ++ []) ≡ []) (eq_same s s refl) h in cc)

packet_told : (s i : ℕ) (b : List ℕ) → story_in s (EventMsg (Packet s i b)) ≡ [] → ⊥
packet_told s i b h = absurd (let q : Packet s i b ∷ [] ≡ [] = subst (λ (v : Bool). (when v (Packet s i b) ++ []) ≡ []) (eq_same s s refl) h in cc)

closed_told : (s : ℕ) → story_in s (EventMsg (Closed s)) ≡ [] → ⊥
closed_told s h = absurd (let q : Closed s ∷ [] ≡ [] = subst (λ (b : Bool). (when b (Closed s) ++ []) ≡ []) (eq_same s s refl) h in cc)

module _ (t : Terms) (legal : List Ran → Type 0) (p : Actors t) (c : Core p.State) (h : History) (l : Holds t legal p c h) where
  -- what a worker took of a session begins what its reactor pushed
  story_begins : (k s : ℕ) → IsPrefix (collect (story_in s) (bare (h.took (Worker k)))) (streams s (h.pushed (Reactor (reactor_of t s))) k)
  story_begins k s =
      let x : ActorId = Reactor (reactor_of t s) in
      let j = joint t legal p c h l in
      let mine : collect (story_in s) (of x (h.took (Worker k))) ≡ collect (story_in s) (bare (h.took (Worker k))) =
      one_sender (story_in s) x (h.took (Worker k)) (each_more (λ (e : ActorId × Message). MayPush t e.0 (Worker k) e.1) (λ (e : ActorId × Message). (story_in s e.1 ≡ []) ⊎ (e.0 ≡ x)) (h.took (Worker k)) (λ e r. story_sender t s e.0 (Worker k) e.1 r) (took_all t (AimOf t) (EndOf t) (past_of t p c h) (locals t legal p c h l) j (Worker k))) in
      subst (λ (es : List Event). IsPrefix es (streams s (h.pushed x) k)) mine (prefix_collect (story_in s) (of x (h.took (Worker k))) (of (Worker k) (h.pushed x)) (j.pipes (Worker k) x))

  -- nothing is told of number 0
  zero_untold : (k : ℕ) → collect (story_in 0) (bare (h.took (Worker k))) ≡ []
  zero_untold k =
      prefix_none (collect (story_in 0) (bare (h.took (Worker k)))) (streams 0 (h.pushed (Reactor (reactor_of t 0))) k) (story_begins k 0)
      (untaken_none t (AimOf t) (EndOf t) (past_of t p c h) (locals t legal p c h l) (joint t legal p c h l) 0 k
      (never 0 (bare (h.took (Reactor (reactor_of t 0))))
      (drawn_fresh t (AimOf t) (EndOf t) (past_of t p c h) (locals t legal p c h l) (joint t legal p c h l) (reactor_of t 0) (λ u. ¬ (u ≡ 0))
      (each_more (λ u. (¬ (u ≡ 0)) × (u ≤ c.ports.last)) (λ u. ¬ (u ≡ 0)) (drawn_by h.dids) (λ u q. q.0) l.ports.words.book.low))))

  above : (k s : ℕ) (m : Message) → Has m (bare (h.took (Worker k))) → (story_in s m ≡ [] → ⊥) → 0 < s
  above k zero m has told = absurd (told (none_has (story_in 0) (bare (h.took (Worker k))) m (zero_untold k) has))
  above k (suc n) m has told = omega arith

  worker_heard : (k : ℕ) (m : Message) → Has m (bare (h.took (Worker k))) → Each IsNumberedEvent (event_in m)
  worker_heard k (EventMsg (Connect s)) has = (above k s (EventMsg (Connect s)) has (connect_told s), tt)
  worker_heard k (EventMsg (Packet s i b)) has = (above k s (EventMsg (Packet s i b)) has (packet_told s i b), tt)
  worker_heard k (EventMsg (Closed s)) has = (above k s (EventMsg (Closed s)) has (closed_told s), tt)
  worker_heard k (EventMsg (Finish id b)) has = (tt, tt)
  worker_heard k (EventMsg (Task w id b)) has = (tt, tt)
  worker_heard k (FreshMsg ip s) has = tt
  worker_heard k (SendMsg s b) has = tt
  worker_heard k (CloseMsg s) has = tt
  worker_heard k (ResetMsg s) has = tt
  worker_heard k (Bye s) has = tt
  worker_heard k (OverMsg id) has = tt
  worker_heard k NoMore has = tt

  -- a task worker is told of no session
  tasker_may : (k : ℕ) (who : ActorId) (m : Message) → MayPush t who (Tasker k) m → Each IsNumberedEvent (event_in m)
  tasker_may k who (EventMsg (Connect s)) may = absurd (let q = may.1.1.1 in cc)
  tasker_may k who (EventMsg (Packet s i b)) may = absurd (let q = may.1.1.1 in cc)
  tasker_may k who (EventMsg (Closed s)) may = absurd (let q = may.1.1.1 in cc)
  tasker_may k who (EventMsg (Finish id b)) may = (tt, tt)
  tasker_may k who (EventMsg (Task w id b)) may = (tt, tt)
  tasker_may k who (FreshMsg ip s) may = tt
  tasker_may k who (SendMsg s b) may = tt
  tasker_may k who (CloseMsg s) may = tt
  tasker_may k who (ResetMsg s) may = tt
  tasker_may k who (Bye s) may = tt
  tasker_may k who (OverMsg id) may = tt
  tasker_may k who NoMore may = tt

  tasker_heard : (k : ℕ) (m : Message) → Has m (bare (h.took (Tasker k))) → Each IsNumberedEvent (event_in m)
  tasker_heard k m has =
      let r = routed_has t (Tasker k) (h.took (Tasker k)) (took_all t (AimOf t) (EndOf t) (past_of t p c h) (locals t legal p c h l) (joint t legal p c h l) (Tasker k)) m has in
      tasker_may k r.0 m r.1

  heard : (y : ActorId) → IsHandOf t y → (m : Message) → Has m (bare (h.took y)) → Each IsNumberedEvent (event_in m)
  heard y (inl (k, (lt, e))) m has = worker_heard k m (subst (λ (z : ActorId). Has m (bare (h.took z))) e has)
  heard y (inr (k, (lt, e))) m has = tasker_heard k m (subst (λ (z : ActorId). Has m (bare (h.took z))) e has)

  -- WHAT A HAND TAKES
  pub numbered_got : (limit left : ℕ) (y : ActorId) (s : HandState) (got : Got) → IsHandOf t y → HandHolds t limit left y s got (diary_of h y) → IsNumberedGot (hand_got got)
  numbered_got limit left y s (GotTook m) hand q =
      heard y hand m (subst (Has m) (sym (collect-append msg_of s.hand.took ((Door, m) ∷ [])) ∙ q.took) (has_right m (bare s.hand.took) (m ∷ []) (0, refl)))
  numbered_got limit left y s GotStart hand q = tt
  numbered_got limit left y s GotEmpty hand q = tt
  numbered_got limit left y s GotPushed hand q = tt
  numbered_got limit left y s (GotFull m) hand q = tt
  numbered_got limit left y s GotNothing hand q = tt
