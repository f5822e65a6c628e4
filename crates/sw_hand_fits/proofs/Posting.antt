-- Tasks and finishes come to what the tables say.
use Rattle.std.proofs.Common.{◌≡◌, ℕ, ◌<◌, ◌+◌, ◌-◌, ◌%◌, ◌^◌, ◌==◌, ltb, Bool, true, false, if◌then◌else◌, List, [], ◌∷◌, refl, ap, ◌∙◌, sym, subst, Option, Some, None, arith}
use Rattle.std.proofs.lemmas.Nat.{mod_below}
use Rattle.sw_lists.proofs.Lists.{eq_same}
use Rattle.sw_step.specs.declared.actor.ActorId.{ActorId}
use Rattle.sw_step.specs.declared.actor.ActorId.TheVariants as actors
use Rattle.sw_data.specs.declared.events.Event.TheVariants as events
use Rattle.sw_data.specs.declared.messages.Msg.{Msg}
use Rattle.sw_data.specs.declared.messages.Msg.TheVariants as msgs
use Rattle.sw_data.specs.declared.messages.Target.TheVariants as targets
use Rattle.sw_data.specs.declared.messages.Ask.{Ask as CodeAsk}
use Rattle.sw_port_board.specs.Board.{FindsIdle}
use Rattle.sw_port_board.specs.declared.crew.Crew.TheVariants.{Taskers}
use Rattle.sw_port_board.specs.declared.crew.Sizes.{Sizes}
use Rattle.sw_record.specs.Words.{Event, Connect, Packet, Closed, Finish, Task, TaskAct, FinishAct, Done, Dst, Any, At, Answer, Posted, Finished, NotHere, NoTaskWorkers, BadTarget, IdsSpent}
use Rattle.sw_record.specs.Terms.{Terms}
use Rattle.sw_past.specs.Messages.{EventMsg}
use Rattle.sw_world_ports.specs.Calls.{Did, Idles}
use Rattle.sw_hand.specs.Ports.{Going}
use Rattle.sw_hand_calls.specs.Calls.{Idled, Rules, posts_calls, finishes_calls}
use Rattle.sw_world_hands.specs.Calls.{posts_fit, posts_to, posts_some, posts}
use Rattle.sw_hand.specs.Stage.{current_of}
use Rattle.sw_hand.specs.House.{number_of}
use Rattle.sw_hand.specs.Hand.{IsCrew}
use Rattle.sw_hand.specs.Posting.{is_there as code_is_there, worker_refusal, post_refusal, idle_or, PostsAs, Posts, poster_of, FinishesAs, Finishes}
use Rattle.sw_hand.specs.Asking.{Asks}
use Rattle.sw_hand.specs.declared.hand.Hand.{Hand as CodeHand}
use Rattle.sw_hand.specs.declared.house.House.{House}
use Rattle.sw_hand.specs.declared.house.Kind.{Kind}
use Rattle.sw_hand.specs.declared.house.Kind.TheVariants as kinds
use Rattle.sw_hand.specs.declared.stage.Current.{Current}
use Rattle.sw_hand.specs.declared.stage.Current.TheVariants as currents
use Rattle.sw_hand.specs.declared.stage.Errand.TheVariants as errands
use Rattle.sw_hand_laws.specs.Hand.{Ports, Acting, Hand, Turned, tasker_at, is_there, post_fit, post_to, post_some, post, finish}
use Rattle.sw_hand_laws.specs.Moved.{IdleFits}
use Rattle.sw_hand_fits.specs.Matches.{actor_of, HouseFits, Matches, ForPost, ForFinish, Came, Outcome, Went}
use Rattle.sw_hand_fits.proofs.Basics.{plain, answers, behind, alone, asked_came}

-- an idle task worker is there
idle_there : {C : Type 0} (goes : Going C) (sizes : C → Sizes) (h : House) (t : Terms) (n : ℕ) (b d : C) (idle : Option ℕ) → HouseFits t h → IsCrew h (sizes b) → ¬ (t.tasker_num ≡ 0) → FindsIdle goes (sizes b) Taskers n b idle d → IdleFits t idle
idle_there goes sizes h t n b d None f crew some x = tt
idle_there goes sizes h t n b d (Some m) f crew some x = subst (λ k. m < k) (crew.1 ∙ f.taskers) (subst (λ j. j < (sizes b).taskers) (sym x.2) (mod_below (n + x.0) (sizes b).taskers (let same : (sizes b).taskers ≡ t.tasker_num = crew.1 ∙ f.taskers in omega (arith, same, some))))

-- a task is asked for
asked_task : {H L K : Type 0} (t : Terms) (w : ℕ) (number : K → ℕ) (g : Hand) (e : Event) (dst : Dst) (bytes : List ℕ) (idle : Option ℕ) (place : ℕ) (h : CodeHand H) (c : Current) (k : CodeHand H) (ask : CodeAsk (Msg L K)) → Matches t (actors.Worker w) g.own g.next g.out g.ended h → c ≡ current_of e → number_of h.kind ≡ w → place ≡ tasker_at t h.next dst idle → Asks h c (targets.Tasker place) errands.Post (msgs.Event (events.Task (number_of h.kind) h.next bytes)) k ask → Came t (actors.Worker w) number k ask (post_fit t w g e dst bytes (record (plain Done) { idle = idle }) false)
asked_task t w number g e dst bytes idle place h c k ask match ce num at y = asked_came t (actors.Worker w) number g e (TaskAct dst bytes) (actors.Tasker (tasker_at t g.next dst idle)) (EventMsg (Task w g.next bytes)) (Posted g.next) h c (targets.Tasker place) errands.Post (msgs.Event (events.Task (number_of h.kind) h.next bytes)) k ask match ce (ForPost dst bytes) (sym (ap actors.Tasker (at ∙ ap (λ n. tasker_at t n dst idle) match.next_is))) (sym (ap (λ n. EventMsg (Task n h.next bytes)) num ∙ ap (λ n. EventMsg (Task w n bytes)) match.next_is)) refl y

-- the tables' task and its calls, by all tests at once
abbrev post_by_tests : Terms → ℕ → Hand → Event → Dst → List ℕ → Ports → Bool → Bool → Bool → Turned
post_by_tests t w g e dst bytes p true v x = post_some t w g e dst bytes p true
post_by_tests t w g e dst bytes p false false x = post_to t w g e dst bytes p false
post_by_tests t w g e dst bytes p false true x = post_fit t w g e dst bytes p x

abbrev posts_by : Terms → ℕ → Dst → Option ℕ → Bool → Bool → Bool → List Did
posts_by t next dst idle true v x = []
posts_by t next dst idle false false x = []
posts_by t next dst idle false true x = posts_fit t next dst idle x

there_same : (t : Terms) (h : House) (dst : Dst) → HouseFits t h → code_is_there h dst ≡ is_there t dst
there_same t h Any f = refl
there_same t h (At n) f = ap (λ k. ltb n k) f.taskers

zero_not : (n : ℕ) → (n == 0) ≡ false → ¬ (n ≡ 0)
zero_not n q e = absurd (let r : (n == 0) ≡ true = eq_same n 0 e in cc)

-- the refusals in their order
abbrev refusal_by : Bool → Bool → Bool → Option Answer
refusal_by u v w = if u then Some NoTaskWorkers else if v then (if w then Some IdsSpent else None) else Some BadTarget

post_by : {H B S C L K : Type 0} (t : Terms) (w : ℕ) (number : K → ℕ) (ru : Rules H B S C) (g : Hand) (e : Event) (u v x : Bool) (h : CodeHand H) (b : C) (c : Current) (dst : Dst) (bytes : List ℕ) (k : CodeHand H) (d : C) (ask : CodeAsk (Msg L K)) → Matches t (actors.Worker w) g.own g.next g.out g.ended h → c ≡ current_of e → IsCrew h.house (ru.sizes b) → number_of h.kind ≡ w → (t.tasker_num == 0) ≡ u → is_there t dst ≡ v → (g.next == 2 ^ 64 - 1) ≡ x → (z : PostsAs (refusal_by u v x) ru.does ru.goes ru.sizes h b c dst bytes k d ask) → Went t (actors.Worker w) number (Acting e (TaskAct dst bytes)) g k ask (posts_calls ru (refusal_by u v x) h b c dst bytes k d ask z) (λ p. posts_by t g.next dst p.idle u v x) (λ p. post_by_tests t w g e dst bytes p u v x)
post_by t w number ru g e true v x h b c dst bytes k d ask match ce crew num qu qv qx y = let z = answers t (actors.Worker w) number ru g e h b c NoTaskWorkers k d ask match ce y in (plain z.0, (tt, z.1))
post_by t w number ru g e false false x h b c dst bytes k d ask match ce crew num qu qv qx y = let z = answers t (actors.Worker w) number ru g e h b c BadTarget k d ask match ce y in (plain z.0, (tt, z.1))
post_by t w number ru g e false true true h b c dst bytes k d ask match ce crew num qu qv qx y = let z = answers t (actors.Worker w) number ru g e h b c IdsSpent k d ask match ce y in (plain z.0, (tt, z.1))
post_by t w number ru g e false true false h b c (At n) bytes k d ask match ce crew num qu qv qx (place, ((e0, e2), (e1, q))) =
    (plain Done, (tt, alone t (actors.Worker w) number g.log k ask (post_fit t w g e (At n) bytes (plain Done) false) refl (asked_task t w number g e (At n) bytes None place h c k ask match ce num e0 (e1, q))))
post_by t w number ru g e false true false h b c Any bytes k d ask match ce crew num qu qv qx (place, ((idle, (l, e0)), (e1, q))) =
    let p : Ports = record (plain Done) { idle = idle } in (
      p,
      (
        idle_there ru.goes ru.sizes h.house t (h.next % h.house.taskers) b d idle match.house crew (zero_not t.tasker_num qu) l,
        behind t (actors.Worker w) number g.log k ask (Idled (h.next % h.house.taskers) idle) (Idles true (g.next % t.tasker_num) idle) [] [] (post_fit t w g e Any bytes p false)
            (ap (λ n. Idles true (n % h.house.taskers) idle ∷ []) match.next_is ∙ ap (λ n. Idles true (g.next % n) idle ∷ []) match.house.taskers) refl refl
            (alone t (actors.Worker w) number g.log k ask (post_fit t w g e Any bytes p false) refl (asked_task t w number g e Any bytes idle place h c k ask match ce num (e0 ∙ any_place idle) (e1, q))),
      ),
    )
  where
    any_place : (o : Option ℕ) → idle_or o (h.next % h.house.taskers) ≡ tasker_at t h.next Any o
    any_place None = ap (λ n. h.next % n) match.house.taskers
    any_place (Some m) = refl

refusal_same : {H : Type 0} (t : Terms) (y : ActorId) (g : Hand) (h : CodeHand H) (dst : Dst) → Matches t y g.own g.next g.out g.ended h → worker_refusal h.house h.next dst ≡ refusal_by (t.tasker_num == 0) (is_there t dst) (g.next == 2 ^ 64 - 1)
refusal_same t y g h dst match = ap (λ n. refusal_by (n == 0) (code_is_there h.house dst) (h.next == 2 ^ 64 - 1)) match.house.taskers ∙ ap (λ v. refusal_by (t.tasker_num == 0) v (h.next == 2 ^ 64 - 1)) (there_same t h.house dst match.house) ∙ ap (λ n. refusal_by (t.tasker_num == 0) (is_there t dst) (n == 2 ^ 64 - 1)) match.next_is

-- the tests of the tables
tests_are : (t : Terms) (w : ℕ) (g : Hand) (e : Event) (dst : Dst) (bytes : List ℕ) (p : Ports) (u v x : Bool) → is_there t dst ≡ v → (g.next == 2 ^ 64 - 1) ≡ x → post_by_tests t w g e dst bytes p u v x ≡ post_some t w g e dst bytes p u
tests_are t w g e dst bytes p true v x qv qx = refl
tests_are t w g e dst bytes p false false x qv qx = ap (post_to t w g e dst bytes p) (sym qv)
tests_are t w g e dst bytes p false true x qv qx = ap (post_fit t w g e dst bytes p) (sym qx) ∙ ap (post_to t w g e dst bytes p) (sym qv)

posts_are : (t : Terms) (next : ℕ) (dst : Dst) (idle : Option ℕ) (u v x : Bool) → is_there t dst ≡ v → (next == 2 ^ 64 - 1) ≡ x → posts_by t next dst idle u v x ≡ posts_some t next dst idle u
posts_are t next dst idle true v x qv qx = refl
posts_are t next dst idle false false x qv qx = ap (posts_to t next dst idle) (sym qv)
posts_are t next dst idle false true x qv qx = ap (posts_fit t next dst idle) (sym qx) ∙ ap (posts_to t next dst idle) (sym qv)

post_kind : {H B S C L K : Type 0} (t : Terms) (number : K → ℕ) (ru : Rules H B S C) (g : Hand) (e : Event) (kind : Kind) (h : CodeHand H) (b : C) (c : Current) (dst : Dst) (bytes : List ℕ) (k : CodeHand H) (d : C) (ask : CodeAsk (Msg L K)) → h.kind ≡ kind → Matches t (actor_of kind) g.own g.next g.out g.ended h → c ≡ current_of e → IsCrew h.house (ru.sizes b) → (w : PostsAs (post_refusal kind h.house h.next dst) ru.does ru.goes ru.sizes h b c dst bytes k d ask) → Went t (actor_of kind) number (Acting e (TaskAct dst bytes)) g k ask (posts_calls ru (post_refusal kind h.house h.next dst) h b c dst bytes k d ask w) (λ p. posts t (actor_of kind) g.next dst p.idle) (λ p. post t (actor_of kind) g e dst bytes p)
post_kind {H} {B} {S} {C} t number ru g e (kinds.Worker w) h b c dst bytes k d ask q match ce crew x =
    subst (λ (o : Option Answer). (z : PostsAs o ru.does ru.goes ru.sizes h b c dst bytes k d ask) → Went t (actors.Worker w) number (Acting e (TaskAct dst bytes)) g k ask (posts_calls ru o h b c dst bytes k d ask z) (λ p. posts t (actors.Worker w) g.next dst p.idle) (λ p. post t (actors.Worker w) g e dst bytes p)) (sym (refusal_same t (actors.Worker w) g h dst match)) by_tests x
  where
    by_tests : (z : PostsAs (refusal_by (t.tasker_num == 0) (is_there t dst) (g.next == 2 ^ 64 - 1)) ru.does ru.goes ru.sizes h b c dst bytes k d ask) → Went t (actors.Worker w) number (Acting e (TaskAct dst bytes)) g k ask (posts_calls ru (refusal_by (t.tasker_num == 0) (is_there t dst) (g.next == 2 ^ 64 - 1)) h b c dst bytes k d ask z) (λ p. posts t (actors.Worker w) g.next dst p.idle) (λ p. post t (actors.Worker w) g e dst bytes p)
    by_tests z =
        let r = post_by t w number ru g e (t.tasker_num == 0) (is_there t dst) (g.next == 2 ^ 64 - 1) h b c dst bytes k d ask match ce crew (ap number_of q) refl refl refl z in (
          r.0,
          (
            r.1.0,
            subst (λ (ds : List Did). Outcome t (actors.Worker w) number g.log k ask (posts_calls ru (refusal_by (t.tasker_num == 0) (is_there t dst) (g.next == 2 ^ 64 - 1)) h b c dst bytes k d ask z) ds (post_some t w g e dst bytes r.0 (t.tasker_num == 0))) (posts_are t g.next dst r.0.idle (t.tasker_num == 0) (is_there t dst) (g.next == 2 ^ 64 - 1) refl refl)
                (subst (λ (o : Turned). Outcome t (actors.Worker w) number g.log k ask (posts_calls ru (refusal_by (t.tasker_num == 0) (is_there t dst) (g.next == 2 ^ 64 - 1)) h b c dst bytes k d ask z) (posts_by t g.next dst r.0.idle (t.tasker_num == 0) (is_there t dst) (g.next == 2 ^ 64 - 1)) o) (tests_are t w g e dst bytes r.0 (t.tasker_num == 0) (is_there t dst) (g.next == 2 ^ 64 - 1) refl refl) r.1.1),
          ),
        )
post_kind t number ru g e (kinds.Tasker j) h b c dst bytes k d ask q match ce crew x = let z = answers t (actors.Tasker j) number ru g e h b c NotHere k d ask match ce x in (plain z.0, (tt, z.1))

pub post_fits : {H B S C L K : Type 0} (t : Terms) (y : ActorId) (number : K → ℕ) (ru : Rules H B S C) (g : Hand) (e : Event) (h : CodeHand H) (b : C) (c : Current) (dst : Dst) (bytes : List ℕ) (k : CodeHand H) (d : C) (ask : CodeAsk (Msg L K)) → Matches t y g.own g.next g.out g.ended h → c ≡ current_of e → IsCrew h.house (ru.sizes b) → (w : Posts ru.does ru.goes ru.sizes h b c dst bytes k d ask) → Went t y number (Acting e (TaskAct dst bytes)) g k ask (posts_calls ru (post_refusal h.kind h.house h.next dst) h b c dst bytes k d ask w) (λ p. posts t y g.next dst p.idle) (λ p. post t y g e dst bytes p)
post_fits t y number ru g e h b c dst bytes k d ask match ce crew w = subst (λ (z : ActorId). Went t z number (Acting e (TaskAct dst bytes)) g k ask (posts_calls ru (post_refusal h.kind h.house h.next dst) h b c dst bytes k d ask w) (λ p. posts t z g.next dst p.idle) (λ p. post t z g e dst bytes p)) (sym match.kind) (post_kind t number ru g e h.kind h b c dst bytes k d ask refl (subst (λ (z : ActorId). Matches t z g.own g.next g.out g.ended h) match.kind match) ce crew w)

-- a finish
finish_by : {H B S C L K : Type 0} (t : Terms) (y : ActorId) (number : K → ℕ) (ru : Rules H B S C) (g : Hand) (e : Event) (h : CodeHand H) (b : C) (bytes : List ℕ) (k : CodeHand H) (d : C) (ask : CodeAsk (Msg L K)) → Matches t y g.own g.next g.out g.ended h → (w : FinishesAs (poster_of (current_of e)) ru.does ru.goes h b (current_of e) bytes k d ask) → Went t y number (Acting e (FinishAct bytes)) g k ask (finishes_calls ru (poster_of (current_of e)) h b (current_of e) bytes k d ask w) (λ p. []) (λ p. finish g e bytes p)
finish_by t y number ru g (Task w id x) h b bytes k d ask match ((q, i), e2) = (plain Done, (tt, alone t y number g.log k ask (finish g (Task w id x) bytes (plain Done)) refl (asked_came t y number g (Task w id x) (FinishAct bytes) (actors.Worker w) (EventMsg (Finish id bytes)) Finished h (currents.Task w id) (targets.Worker w) errands.Finish (msgs.Event (events.Finish id bytes)) k ask match refl (ForFinish bytes) refl refl refl (q, i))))
finish_by t y number ru g (Connect s) h b bytes k d ask match w = let z = answers t y number ru g (Connect s) h b (currents.Connect s) NotHere k d ask match refl w in (plain z.0, (tt, z.1))
finish_by t y number ru g (Packet s i x) h b bytes k d ask match w = let z = answers t y number ru g (Packet s i x) h b (currents.Packet s) NotHere k d ask match refl w in (plain z.0, (tt, z.1))
finish_by t y number ru g (Closed s) h b bytes k d ask match w = let z = answers t y number ru g (Closed s) h b (currents.Closed s) NotHere k d ask match refl w in (plain z.0, (tt, z.1))
finish_by t y number ru g (Finish id x) h b bytes k d ask match w = let z = answers t y number ru g (Finish id x) h b currents.Finish NotHere k d ask match refl w in (plain z.0, (tt, z.1))

pub finish_fits : {H B S C L K : Type 0} (t : Terms) (y : ActorId) (number : K → ℕ) (ru : Rules H B S C) (g : Hand) (e : Event) (h : CodeHand H) (b : C) (bytes : List ℕ) (k : CodeHand H) (d : C) (ask : CodeAsk (Msg L K)) → Matches t y g.own g.next g.out g.ended h → (w : Finishes ru.does ru.goes h b (current_of e) bytes k d ask) → Went t y number (Acting e (FinishAct bytes)) g k ask (finishes_calls ru (poster_of (current_of e)) h b (current_of e) bytes k d ask w) (λ p. []) (λ p. finish g e bytes p)
finish_fits t y number ru g e h b bytes k d ask match w = finish_by t y number ru g e h b bytes k d ask match w
