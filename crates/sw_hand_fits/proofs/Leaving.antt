-- The end of an event and of a hand come to what the tables say.
use Rattle.std.proofs.Common.{◌≡◌, ℕ, ◌+◌, ◌-◌, ◌==◌, ltb, leb, min, Bool, true, false, if◌then◌else◌, List, [], ◌∷◌, refl, ap, ◌∙◌, sym, subst, Option, Some, None, inl, inr, arith}
use Rattle.std.proofs.lemmas.Bool.{cases_lt, le-leb}
use Rattle.sw_step.specs.declared.actor.ActorId.{ActorId}
use Rattle.sw_step.specs.declared.actor.ActorId.TheVariants as actors
use Rattle.sw_data.specs.declared.messages.Msg.{Msg}
use Rattle.sw_data.specs.declared.messages.Target.{Target}
use Rattle.sw_data.specs.declared.messages.Target.TheVariants as targets
use Rattle.sw_data.specs.declared.messages.Ask.{Ask as CodeAsk}
use Rattle.sw_record.specs.Words.{Event, Connect, Packet, Closed, Finish, Task}
use Rattle.sw_record.specs.Terms.{Terms, keeps}
use Rattle.sw_past.specs.Messages.{Message, NoMore, message_of}
use Rattle.sw_hand.specs.Stage.{current_of}
use Rattle.sw_hand.specs.House.{enders as code_enders, farewells, farewell}
use Rattle.sw_hand.specs.Leaving.{bye_of as code_bye_of, last_words as code_last_words, EndsAs, Ends, StopsAs, StopsAt, may_stop as code_may_stop, GoesAs, GoesOn}
use Rattle.sw_hand.specs.declared.hand.Hand.{Hand as CodeHand}
use Rattle.sw_hand.specs.declared.house.House.{House}
use Rattle.sw_hand.specs.declared.house.Kind.{Kind}
use Rattle.sw_hand.specs.declared.house.Kind.TheVariants as kinds
use Rattle.sw_hand.specs.declared.stage.Current.{Current}
use Rattle.sw_hand.specs.declared.stage.Stage.{Stage as CodeStage}
use Rattle.sw_hand.specs.declared.stage.Stage.TheVariants as stages
use Rattle.sw_hand_laws.specs.Hand.{Push, Idle, Leaving, Stopping, Stopped, Hand, bye_to, last_words, goodbye, goodbyes, enders, done, stop_if, stop_at, go_if, may_stop, go_on}
use Rattle.sw_hand_fits.specs.Matches.{actor_of, receiver_of, HouseFits, Matches, StageFits, BothIdle, BothLeaving, BothStopping, BothOver, ask_of, Came}
use Rattle.sw_hand_fits.proofs.Basics.{min_low, min_high, stays, keeps_same, reactor_same}

-- the same last words
abbrev pub SameWords : {L K : Type 0} → (K → ℕ) → Option (Target × Msg L K) → List (ActorId × Message) → Type 0
SameWords number None [] = Unit {0}
SameWords number (Some p) ((x, n) ∷ []) = (x ≡ receiver_of p.0) × (n ≡ message_of number p.1)
SameWords number _ _ = ⊥

bye_words : (L K : Type 0) (number : K → ℕ) (t : Terms) (h : House) (s : ℕ) (v : Bool) → HouseFits t h → SameWords {L = L} {K = K} number (if v then None else code_bye_of h s) (if v then [] else bye_to t s)
bye_words L K number t h s true f = tt
bye_words L K number t h s false f = (ap actors.Reactor (sym (reactor_same t h s f)), refl)

words_same : (L K : Type 0) (number : K → ℕ) (t : Terms) (h : House) (kind : Kind) (e : Event) → HouseFits t h → SameWords {L = L} {K = K} number (code_last_words h kind (current_of e)) (last_words t (actor_of kind) e)
words_same L K number t h (kinds.Worker w) (Connect s) f = subst (λ v. SameWords {L = L} {K = K} number (if v then None else code_bye_of h s) (if keeps t.mode then [] else bye_to t s)) (sym (keeps_same t h f)) (bye_words L K number t h s (keeps t.mode) f)
words_same L K number t h (kinds.Worker w) (Packet s i b) f = subst (λ v. SameWords {L = L} {K = K} number (if v then None else code_bye_of h s) (if keeps t.mode then [] else bye_to t s)) (sym (keeps_same t h f)) (bye_words L K number t h s (keeps t.mode) f)
words_same L K number t h (kinds.Worker w) (Closed s) f = (ap actors.Reactor (sym (reactor_same t h s f)), refl)
words_same L K number t h (kinds.Worker w) (Finish id b) f = tt
words_same L K number t h (kinds.Worker w) (Task v id b) f = tt
words_same L K number t h (kinds.Tasker k) (Connect s) f = tt
words_same L K number t h (kinds.Tasker k) (Packet s i b) f = tt
words_same L K number t h (kinds.Tasker k) (Closed s) f = tt
words_same L K number t h (kinds.Tasker k) (Finish id b) f = tt
words_same L K number t h (kinds.Tasker k) (Task v id b) f = (refl, refl)

pub leaving_fits : (next : ℕ) (c : Current) (to : Target) (e : Event) (x : ActorId) (n : Message) (s : CodeStage) → s ≡ stages.Leaving c to → c ≡ current_of e → x ≡ receiver_of to → StageFits next s (Leaving e x n)
leaving_fits next c to e x n s q ce rx = subst (λ (z : CodeStage). StageFits next z (Leaving e x n)) (sym (q ∙ ap (λ (w : Current). stages.Leaving w to) ce)) (subst (λ (z : ActorId). StageFits next (stages.Leaving (current_of e) to) (Leaving e z n)) (sym rx) (BothLeaving e to n))

pub idle_fits : (next : ℕ) (s : CodeStage) → s ≡ stages.Idle → StageFits next s Idle
idle_fits next s q = subst (λ (z : CodeStage). StageFits next z Idle) (sym q) BothIdle

ends_by : {H L K : Type 0} (t : Terms) (y : ActorId) (number : K → ℕ) (g : Hand) (e : Event) (o : Option (Target × Msg L K)) (ws : List (ActorId × Message)) (h : CodeHand H) (c : Current) (k : CodeHand H) (ask : CodeAsk (Msg L K)) → Matches t y g.own g.next g.out g.ended h → c ≡ current_of e → SameWords number o ws → EndsAs o h c k ask → Came t y number k ask (done g e ws)
ends_by {H} t y number g e None [] h c k ask m ce w z = record { hand = stays t y g.own g.next g.out g.ended h k h.handler h.row stages.Idle z.0 m; stage = idle_fits g.next k.stage (ap (λ (w : CodeHand H). w.stage) z.0); ask_is = ap (ask_of number) z.1 }
ends_by {H} t y number g e (Some (to, msg)) ((x, n) ∷ []) h c k ask m ce w z = record { hand = stays t y g.own g.next g.out g.ended h k h.handler h.row (stages.Leaving c to) z.0 m; stage = leaving_fits g.next c to e x n k.stage (ap (λ (w : CodeHand H). w.stage) z.0) ce w.0; ask_is = ap (ask_of number) z.1 ∙ ap (λ (a : ActorId). Push a (message_of number msg)) (sym w.0) ∙ ap (λ (a : Message). Push x a) (sym w.1) }
ends_by t y number g e None (p ∷ ps) h c k ask m ce w z = absurd w
ends_by t y number g e (Some q) [] h c k ask m ce w z = absurd w
ends_by t y number g e (Some q) (p ∷ r ∷ ps) h c k ask m ce w z = absurd w

pub ends_fit : {H L K : Type 0} (t : Terms) (y : ActorId) (number : K → ℕ) (g : Hand) (e : Event) (h : CodeHand H) (c : Current) (k : CodeHand H) (ask : CodeAsk (Msg L K)) → Matches t y g.own g.next g.out g.ended h → c ≡ current_of e → Ends h c k ask → Came t y number k ask (done g e (last_words t y e))
ends_fit {H} {L} {K} t y number g e h c k ask m ce z = ends_by t y number g e (code_last_words h.house h.kind c) (last_words t y e) h c k ask m ce (subst (λ (w : Current). SameWords {L = L} {K = K} number (code_last_words h.house h.kind w) (last_words t y e)) (sym ce) (subst (λ (x : ActorId). SameWords {L = L} {K = K} number (code_last_words h.house h.kind (current_of e)) (last_words t x e)) (sym m.kind) (words_same L K number t h.house h.kind e m.house))) z

-- NoMore
farewells_same : (t : Terms) (h : House) (kind : Kind) → HouseFits t h → farewells h kind ≡ goodbyes t (actor_of kind)
farewells_same t h (kinds.Worker w) f = ap (λ n. n + h.taskers) f.reactors ∙ ap (λ n. t.reactor_num + n) f.taskers
farewells_same t h (kinds.Tasker k) f = f.reactors

enders_same : (t : Terms) (h : House) (kind : Kind) → HouseFits t h → code_enders h kind ≡ enders t (actor_of kind)
enders_same t h (kinds.Worker w) f = f.reactors
enders_same t h (kinds.Tasker k) f = f.workers

pub goodbyes_same : {H : Type 0} (t : Terms) (y : ActorId) (own : ℕ → Option ℕ) (next out ended : ℕ) (h : CodeHand H) → Matches t y own next out ended h → farewells h.house h.kind ≡ goodbyes t y
goodbyes_same t y own next out ended h m = farewells_same t h.house h.kind m.house ∙ ap (goodbyes t) (sym m.kind)

pub all_same : {H : Type 0} (t : Terms) (y : ActorId) (own : ℕ → Option ℕ) (next out ended : ℕ) (h : CodeHand H) → Matches t y own next out ended h → code_enders h.house h.kind ≡ enders t y
all_same t y own next out ended h m = enders_same t h.house h.kind m.house ∙ ap (enders t) (sym m.kind)

farewell_if : (v : Bool) (n k : ℕ) → receiver_of (if v then targets.Reactor n else targets.Tasker k) ≡ (if v then actors.Reactor n else actors.Tasker k)
farewell_if true n k = refl
farewell_if false n k = refl

pub farewell_same : (t : Terms) (h : House) (n : ℕ) → HouseFits t h → receiver_of (farewell h n) ≡ goodbye t n
farewell_same t h n f = farewell_if (ltb n h.reactors) n (n - h.reactors) ∙ ap (λ k. if ltb n k then actors.Reactor n else actors.Tasker (n - k)) f.reactors

pub stops_by : {H L K : Type 0} (t : Terms) (y : ActorId) (number : K → ℕ) (g : Hand) (n : ℕ) (v : Bool) (h k : CodeHand H) (ask : CodeAsk (Msg L K)) → Matches t y g.own g.next g.out g.ended h → StopsAs v h n k ask → Came t y number k ask (stop_if t g n v)
stops_by {H} t y number g n true h k ask m z = record { hand = stays t y g.own g.next g.out g.ended h k h.handler h.row (stages.Stopping n) z.0 m; stage = subst (λ (s : CodeStage). StageFits g.next s (Stopping n)) (sym (ap (λ (w : CodeHand H). w.stage) z.0)) (BothStopping n); ask_is = ap (ask_of number) z.1 ∙ ap (λ (a : ActorId). Push a NoMore) (farewell_same t h.house n m.house) }
stops_by {H} t y number g n false h k ask m z = record { hand = stays t y g.own g.next g.out g.ended h k h.handler h.row stages.Finished z.0 m; stage = subst (λ (s : CodeStage). StageFits g.next s Stopped) (sym (ap (λ (w : CodeHand H). w.stage) z.0)) BothOver; ask_is = ap (ask_of number) z.1 }

pub stops_at : {H L K : Type 0} (t : Terms) (y : ActorId) (number : K → ℕ) (g : Hand) (n : ℕ) (h k : CodeHand H) (ask : CodeAsk (Msg L K)) → Matches t y g.own g.next g.out g.ended h → StopsAt h n k ask → Came t y number k ask (stop_at t y g n)
stops_at t y number g n h k ask m z = stops_by t y number g n (ltb n (goodbyes t y)) h k ask m (subst (λ j. StopsAs (ltb n j) h n k ask) (goodbyes_same t y g.own g.next g.out g.ended h m) z)

-- without an event
leb_min : (a n : ℕ) → leb a (min n a) ≡ leb a n
leb_min a n = elim (cases_lt n a) [
  | inl lt ↦ ap (leb a) (min_low n a (omega (arith, lt)))
  | inr ge ↦ ap (leb a) (min_high n a ge) ∙ le-leb a a (omega arith) ∙ sym (le-leb a n ge)
]

may_same : {H : Type 0} (t : Terms) (y : ActorId) (g : Hand) (h : CodeHand H) → Matches t y g.own g.next g.out g.ended h → code_may_stop h ≡ may_stop t y g
may_same t y g h m = ap (λ n. if leb (code_enders h.house h.kind) n then h.out == 0 else false) m.ended_is ∙ ap (λ v. if v then h.out == 0 else false) (leb_min (code_enders h.house h.kind) g.ended) ∙ ap (λ n. if leb n g.ended then h.out == 0 else false) (all_same t y g.own g.next g.out g.ended h m) ∙ ap (λ n. if leb (enders t y) g.ended then n == 0 else false) m.out_is

goes_by : {H L K : Type 0} (t : Terms) (y : ActorId) (number : K → ℕ) (g : Hand) (v : Bool) (h k : CodeHand H) (ask : CodeAsk (Msg L K)) → Matches t y g.own g.next g.out g.ended h → GoesAs v h k ask → Came t y number k ask (go_if t y g v)
goes_by t y number g true h k ask m z = stops_at t y number g 0 h k ask m z
goes_by {H} t y number g false h k ask m z = record { hand = stays t y g.own g.next g.out g.ended h k h.handler h.row stages.Idle z.0 m; stage = idle_fits g.next k.stage (ap (λ (w : CodeHand H). w.stage) z.0); ask_is = ap (ask_of number) z.1 }

pub goes_on : {H L K : Type 0} (t : Terms) (y : ActorId) (number : K → ℕ) (g : Hand) (h k : CodeHand H) (ask : CodeAsk (Msg L K)) → Matches t y g.own g.next g.out g.ended h → GoesOn h k ask → Came t y number k ask (go_on t y g)
goes_on t y number g h k ask m z = goes_by t y number g (may_stop t y g) h k ask m (subst (λ v. GoesAs v h k ask) (may_same t y g h m) z)
