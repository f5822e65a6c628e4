-- The calls that a turn has by its table were made, in their order.
use Rattle.std.proofs.Common.{◌≡◌, ◌⊎◌, ℕ, ◌-◌, ◌%◌, ◌==◌, Bool, true, false, List, [], ◌∷◌, Option, Some, None, Result, Ok, Err, inl, inr, refl, ap, subst, sym}
use Rattle.sw_base.specs.declared.counter.Counter.{Counter}
use Rattle.sw_base.specs.declared.table.Call.{Call}
use Rattle.sw_base.specs.declared.table.CallFault.{CallFault}
use Rattle.sw_data.specs.declared.acts.Act.{Act}
use Rattle.sw_data.specs.declared.acts.Act.TheVariants as acts
use Rattle.sw_data.specs.declared.acts.Dst.{Dst}
use Rattle.sw_data.specs.declared.acts.Dst.TheVariants.{Any, At}
use Rattle.sw_data.specs.declared.answers.Answer.{Answer}
use Rattle.sw_data.specs.declared.answers.Answer.TheVariants.{Exists, Info, NoSession, WrongMode, TaskFull, NotHere, Table as TableAnswer, TableRefused, NoTable, Count, Asked}
use Rattle.sw_data.specs.declared.events.Event.{Event}
use Rattle.sw_data.specs.declared.given.Given.{Given}
use Rattle.sw_data.specs.declared.given.Given.TheVariants.{Event as EventGiven, Answer as AnswerGiven}
use Rattle.sw_data.specs.declared.messages.Msg.{Msg}
use Rattle.sw_data.specs.declared.messages.Msg.TheVariants as msgs
use Rattle.sw_data.specs.declared.messages.Target.{Target}
use Rattle.sw_data.specs.declared.messages.Ask.{Ask}
use Rattle.sw_data.specs.declared.messages.Got.{Got}
use Rattle.sw_data.specs.declared.messages.Got.TheVariants as gots
use Rattle.sw_port_book.specs.declared.answers.Look.{Look}
use Rattle.sw_port_book.specs.declared.answers.Look.TheVariants.{Live, Other}
use Rattle.sw_port_shelf.specs.declared.shelf.Placed.{Placed}
use Rattle.sw_hand.specs.Ports.{Acting}
use Rattle.sw_hand.specs.House.{fd_of, enders}
use Rattle.sw_hand.specs.Stage.{current_of, is_for, answer_of, counter_of}
use Rattle.sw_hand.specs.Hand.{is_own, own_with, unstaged}
use Rattle.sw_hand.specs.Hearing.{HearsAs, AtOnce, Counts}
use Rattle.sw_hand.specs.Asking.{Answers}
use Rattle.sw_hand.specs.Reaching.{ReachSeen, ReachesAs, TellsAs, BindsAs, told_by, bound_by, info_known}
use Rattle.sw_hand.specs.Posting.{PostsAs, FinishesAs, post_refusal, poster_of}
use Rattle.sw_hand.specs.Calling.{CallsRefused, CallsPlaced, CallsSeen, CallsAs, Sums, Shuts, is_busy, cells_of}
use Rattle.sw_hand.specs.Leaving.{EndsAs, Leaves, StopsAs, Stops, GoesAs, GoesOn, may_stop, last_words}
use Rattle.sw_hand.specs.Taking.{Settles, Returns, Sends, Gives, TakesEvent, Takes, Idles, noted, ended_more}
use Rattle.sw_hand.specs.Turn.{Makes, TurnsAs, Turns}
use Rattle.sw_hand.specs.declared.hand.Hand.{Hand}
use Rattle.sw_hand.specs.declared.stage.Current.{Current}
use Rattle.sw_hand.specs.declared.stage.Errand.{Errand}
use Rattle.sw_hand.specs.declared.stage.Errand.TheVariants as errands
use Rattle.sw_hand.specs.declared.stage.Stage.{Stage}
use Rattle.sw_hand.specs.declared.stage.Stage.TheVariants as stages
use Rattle.sw_hand_calls.specs.Calls.{PortCall, Rules, Around, moment, around, AreMade, TurnsBy, hears_calls, once_calls, answers_calls, counts_calls, reach_seen_calls, reaches_calls, tells_calls, binds_calls, posts_calls, finishes_calls, refused_calls, placed_calls, seen_calls, table_calls, sums_calls, shuts_calls, settles_calls, returns_calls, sends_calls, gives_calls, takes_event_calls, takes_calls, idles_calls, makes_calls, turn_calls}

around_is : {H B S C : Type 0} {x y : H} {b b2 : B} {s s2 : S} {d d2 : C} → y ≡ x → b2 ≡ b → s2 ≡ s → d2 ≡ d → moment y b2 s2 d2 ≡ moment x b s d
around_is e1 e2 e3 e4 = cc

ends : {H B S C : Type 0} → (r : Rules H B S C) (xs : List PortCall) (p : Around H B S C) (y x : H) (b2 b : B) (s2 s : S) (d2 d : C) → AreMade r xs p (moment x b s d) → y ≡ x → b2 ≡ b → s2 ≡ s → d2 ≡ d → AreMade r xs p (moment y b2 s2 d2)
ends r xs p y x b2 b s2 s d2 d w e1 e2 e3 e4 = subst (AreMade r xs p) (sym (around_is e1 e2 e3 e4)) w

stop_same : {H L K : Type 0} (v : Bool) (h : Hand H) (n : ℕ) (k : Hand H) (ask : Ask (Msg L K)) → StopsAs v h n k ask → k.handler ≡ h.handler
stop_same true h n k ask (e, q) = ap (λ z. z.handler) e
stop_same false h n k ask (e, q) = ap (λ z. z.handler) e

goes_if : {H L K : Type 0} (v : Bool) (h k : Hand H) (ask : Ask (Msg L K)) → GoesAs v h k ask → k.handler ≡ h.handler
goes_if true h k ask w = stop_same _ h 0 k ask w
goes_if false h k ask (e, q) = ap (λ z. z.handler) e

goes_same : {H L K : Type 0} (h k : Hand H) (ask : Ask (Msg L K)) → GoesOn h k ask → k.handler ≡ h.handler
goes_same h k ask w = goes_if (may_stop h) h k ask w

ends_same : {H L K : Type 0} (o : Option (Target × Msg L K)) (h : Hand H) (c : Current) (k : Hand H) (ask : Ask (Msg L K)) → EndsAs o h c k ask → k.handler ≡ h.handler
ends_same None h c k ask (e, q) = ap (λ z. z.handler) e
ends_same (Some (to, m)) h c k ask (e, q) = ap (λ z. z.handler) e

leaves_same : {H L K : Type 0} (got : Got (Msg L K)) (h : Hand H) (c : Current) (to : Target) (k : Hand H) (ask : Ask (Msg L K)) → Leaves h c to got k ask → k.handler ≡ h.handler
leaves_same gots.Pushed h c to k ask (e, q) = ap (λ z. z.handler) e
leaves_same (gots.Full m) h c to k ask (e, q) = ap (λ z. z.handler) e
leaves_same gots.Start h c to k ask (e, q) = ap (λ z. z.handler) e
leaves_same (gots.Took m) h c to k ask (e, q) = ap (λ z. z.handler) e
leaves_same gots.Empty h c to k ask (e, q) = ap (λ z. z.handler) e
leaves_same gots.Nothing h c to k ask (e, q) = ap (λ z. z.handler) e

stops_same : {H L K : Type 0} (got : Got (Msg L K)) (h : Hand H) (n : ℕ) (k : Hand H) (ask : Ask (Msg L K)) → Stops h n got k ask → k.handler ≡ h.handler
stops_same gots.Pushed h n k ask w = stop_same _ h _ k ask w
stops_same (gots.Full m) h n k ask w = stop_same _ h _ k ask w
stops_same gots.Start h n k ask w = stop_same _ h _ k ask w
stops_same (gots.Took m) h n k ask w = stop_same _ h _ k ask w
stops_same gots.Empty h n k ask w = stop_same _ h _ k ask w
stops_same gots.Nothing h n k ask w = stop_same _ h _ k ask w

made_hears : {H B S C : Type 0} → (r : Rules H B S C) (v : Bool) (h : Hand H) (bd : C) (g : Given) (act : Act) (k : Hand H) (bd2 : C) (bk : B) (sh : S) (w : HearsAs r.does r.goes v h bd g act k bd2) → AreMade r (hears_calls r v h bd g act k bd2 w) (around h bk sh bd) (around k bk sh bd2)
made_hears r true h bd g act k bd2 bk sh (e0, e1, e2) = around_is (ap (λ z. z.handler) e1) refl refl e2
made_hears r false h bd g act k bd2 bk sh (inl (w, e1, e2)) = (around k bk sh bd, ((w, refl), around_is refl refl refl e2))
made_hears r false h bd g act k bd2 bk sh (inr (e0, (e1, w))) = (around k bk sh bd, (refl, (around k bk sh bd2, ((w, refl), refl))))

made_once : {H B S C : Type 0} → (r : Rules H B S C) (h : Hand H) (bd : C) (c : Current) (a : Answer) (k : Hand H) (bd2 : C) (bk : B) (sh : S) (w : AtOnce r.does r.goes h bd c a k bd2) → AreMade r (once_calls r h bd c a k bd2 w) (around h bk sh bd) (around k bk sh bd2)
made_once r h bd c a k bd2 bk sh (act, (mid, (w, e))) = ends r (hears_calls r h.lost h bd (AnswerGiven a) act mid bd2 w) (around h bk sh bd) k.handler mid.handler bk bk sh sh bd2 bd2 (made_hears r h.lost h bd (AnswerGiven a) act mid bd2 bk sh w) (ap (λ z. z.handler) e) refl refl refl

made_answers : {H B S C L K : Type 0} → (r : Rules H B S C) (h : Hand H) (bd : C) (c : Current) (a : Answer) (k : Hand H) (bd2 : C) (ask : Ask (Msg L K)) (bk : B) (sh : S) (w : Answers r.does r.goes h bd c a k bd2 ask) → AreMade r (answers_calls r h bd c a k bd2 ask w) (around h bk sh bd) (around k bk sh bd2)
made_answers r h bd c a k bd2 ask bk sh (w, e) = made_once r h bd c a k bd2 bk sh w

made_counts : {H B S C : Type 0} → (r : Rules H B S C) (oc : Option Counter) (h : Hand H) (bd : C) (c : Current) (a : Answer) (k : Hand H) (bd2 : C) (bk : B) (sh : S) (w : Counts r.does r.goes oc h bd c a k bd2) → AreMade r (counts_calls r oc h bd c a k bd2 w) (around h bk sh bd) (around k bk sh bd2)
made_counts r None h bd c a k bd2 bk sh w = made_once r h bd c a k bd2 bk sh w
made_counts r (Some counter) h bd c a k bd2 bk sh (mid, (v, w)) = (around h bk sh mid, ((v, refl), made_once r h mid c a k bd2 bk sh w))

made_reach_seen : {H B S C L K : Type 0} → (r : Rules H B S C) (look : Look) (h : Hand H) (bd : C) (c : Current) (u : ℕ) (errand : Errand) (m : Msg L K) (k : Hand H) (bd2 : C) (ask : Ask (Msg L K)) (bk : B) (sh : S) (w : ReachSeen r.does r.goes h bd c u errand m look k bd2 ask) → AreMade r (reach_seen_calls r look h bd c u errand m k bd2 ask w) (around h bk sh bd) (around k bk sh bd2)
made_reach_seen r (Live uid) h bd c u errand m k bd2 ask bk sh ((e, q), e2) = around_is (ap (λ z. z.handler) e) refl refl e2
made_reach_seen r (Other n) h bd c u errand m k bd2 ask bk sh w = made_answers r h bd c (NoSession n) k bd2 ask bk sh w

made_reaches : {H B S C L K : Type 0} → (r : Rules H B S C) (v : Bool) (h : Hand H) (bk : B) (bd : C) (c : Current) (u : ℕ) (errand : Errand) (m : Msg L K) (k : Hand H) (bk2 : B) (bd2 : C) (ask : Ask (Msg L K)) (sh : S) (w : ReachesAs v r.looks r.does r.goes h bk bd c u errand m k bk2 bd2 ask) → AreMade r (reaches_calls r v h bk bd c u errand m k bk2 bd2 ask w) (around h bk sh bd) (around k bk2 sh bd2)
made_reaches r true h bk bd c u errand m k bk2 bd2 ask sh ((e, q), e1, e2) = around_is (ap (λ z. z.handler) e) e1 refl e2
made_reaches r false h bk bd c u errand m k bk2 bd2 ask sh (look, (l, w)) = (around h bk2 sh bd, ((l, refl), made_reach_seen r look h bd c u errand m k bd2 ask bk2 sh w))

made_tells : {H B S C L K : Type 0} → (r : Rules H B S C) (v : Bool) (h : Hand H) (bk : B) (bd : C) (c : Current) (u : ℕ) (there : ℕ → Answer) (k : Hand H) (bk2 : B) (bd2 : C) (ask : Ask (Msg L K)) (sh : S) (w : TellsAs v r.looks r.does r.goes h bk bd c u there k bk2 bd2 ask) → AreMade r (tells_calls r v h bk bd c u there k bk2 bd2 ask w) (around h bk sh bd) (around k bk2 sh bd2)
made_tells r true h bk bd c u there k bk2 bd2 ask sh (w, e1) = ends r (answers_calls r h bd c (there 0) k bd2 ask w) (around h bk sh bd) k.handler k.handler bk2 bk sh sh bd2 bd2 (made_answers r h bd c (there 0) k bd2 ask bk sh w) refl e1 refl refl
made_tells r false h bk bd c u there k bk2 bd2 ask sh (look, (l, w)) = (around h bk2 sh bd, ((l, refl), made_answers r h bd c (told_by there look) k bd2 ask bk2 sh w))

made_binds : {H B S C L K : Type 0} → (r : Rules H B S C) (v : Bool) (h : Hand H) (bk : B) (bd : C) (c : Current) (u : ℕ) (uid : ℕ) (k : Hand H) (bk2 : B) (bd2 : C) (ask : Ask (Msg L K)) (sh : S) (w : BindsAs v r.binds r.does r.goes h bk bd c u uid k bk2 bd2 ask) → AreMade r (binds_calls r v h bk bd c u uid k bk2 bd2 ask w) (around h bk sh bd) (around k bk2 sh bd2)
made_binds r true h bk bd c u uid k bk2 bd2 ask sh (res, (l, w)) = (around h bk2 sh bd, ((l, refl), made_answers r h bd c (bound_by res) k bd2 ask bk2 sh w))
made_binds r false h bk bd c u uid k bk2 bd2 ask sh (w, e1) = ends r (answers_calls r h bd c WrongMode k bd2 ask w) (around h bk sh bd) k.handler k.handler bk2 bk sh sh bd2 bd2 (made_answers r h bd c WrongMode k bd2 ask bk sh w) refl e1 refl refl

made_posts : {H B S C L K : Type 0} → (r : Rules H B S C) (oa : Option Answer) (h : Hand H) (bd : C) (c : Current) (dst : Dst) (x : List ℕ) (k : Hand H) (bd2 : C) (ask : Ask (Msg L K)) (bk : B) (sh : S) (w : PostsAs oa r.does r.goes r.sizes h bd c dst x k bd2 ask) → AreMade r (posts_calls r oa h bd c dst x k bd2 ask w) (around h bk sh bd) (around k bk sh bd2)
made_posts r (Some a) h bd c dst x k bd2 ask bk sh w = made_answers r h bd c a k bd2 ask bk sh w
made_posts r None h bd c (At n) x k bd2 ask bk sh (place, ((e0, e2), (e, q))) = around_is (ap (λ z. z.handler) e) refl refl e2
made_posts r None h bd c Any x k bd2 ask bk sh (place, ((idle, (l, e0)), (e, q))) = (around h bk sh bd2, ((l, refl), around_is (ap (λ z. z.handler) e) refl refl refl))

made_finishes : {H B S C L K : Type 0} → (r : Rules H B S C) (op : Option (ℕ × ℕ)) (h : Hand H) (bd : C) (c : Current) (x : List ℕ) (k : Hand H) (bd2 : C) (ask : Ask (Msg L K)) (bk : B) (sh : S) (w : FinishesAs op r.does r.goes h bd c x k bd2 ask) → AreMade r (finishes_calls r op h bd c x k bd2 ask w) (around h bk sh bd) (around k bk sh bd2)
made_finishes r None h bd c x k bd2 ask bk sh w = made_answers r h bd c NotHere k bd2 ask bk sh w
made_finishes r (Some (n, uid)) h bd c x k bd2 ask bk sh ((e, q), e2) = around_is (ap (λ z. z.handler) e) refl refl e2

made_refused : {H B S C L K : Type 0} → (r : Rules H B S C) (v : Bool) (fault : CallFault) (h : Hand H) (bd : C) (c : Current) (call : Call) (k : Hand H) (bd2 : C) (ask : Ask (Msg L K)) (bk : B) (sh : S) (w : CallsRefused v r.does r.goes fault h bd c call k bd2 ask) → AreMade r (refused_calls r v fault h bd c call k bd2 ask w) (around h bk sh bd) (around k bk sh bd2)
made_refused r true fault h bd c call k bd2 ask bk sh (e, e2, q) = around_is (ap (λ z. z.handler) e) refl refl e2
made_refused r false fault h bd c call k bd2 ask bk sh w = made_answers r h bd c (TableRefused fault) k bd2 ask bk sh w

made_placed : {H B S C L K : Type 0} → (r : Rules H B S C) (p : Placed) (h : Hand H) (bd : C) (c : Current) (k : Hand H) (bd2 : C) (ask : Ask (Msg L K)) (bk : B) (sh : S) (w : CallsPlaced r.does r.goes p h bd c k bd2 ask) → AreMade r (placed_calls r p h bd c k bd2 ask w) (around h bk sh bd) (around k bk sh bd2)
made_placed r p h bd c k bd2 ask bk sh (inl w) = made_answers r h bd c (TableAnswer p.at p.reply (cells_of p.reply h.row)) k bd2 ask bk sh w
made_placed r p h bd c k bd2 ask bk sh (inr (e0, (e, w, q))) = (around h bk sh bd2, ((w, refl), around_is (ap (λ z. z.handler) e) refl refl refl))

made_seen : {H B S C L K : Type 0} → (r : Rules H B S C) (res : Result Placed CallFault) (h : Hand H) (bd : C) (c : Current) (call : Call) (k : Hand H) (bd2 : C) (ask : Ask (Msg L K)) (bk : B) (sh : S) (w : CallsSeen r.does r.goes res h bd c call k bd2 ask) → AreMade r (seen_calls r res h bd c call k bd2 ask w) (around h bk sh bd) (around k bk sh bd2)
made_seen r (Ok p) h bd c call k bd2 ask bk sh w = made_placed r p h bd c k bd2 ask bk sh w
made_seen r (Err fault) h bd c call k bd2 ask bk sh w = made_refused r (is_busy fault) fault h bd c call k bd2 ask bk sh w

made_table : {H B S C L K : Type 0} → (r : Rules H B S C) (v : Bool) (h : Hand H) (sh : S) (bd : C) (c : Current) (call : Call) (k : Hand H) (sh2 : S) (bd2 : C) (ask : Ask (Msg L K)) (bk : B) (w : CallsAs v r.gives r.does r.goes h sh bd c call k sh2 bd2 ask) → AreMade r (table_calls r v h sh bd c call k sh2 bd2 ask w) (around h bk sh bd) (around k bk sh2 bd2)
made_table r true h sh bd c call k sh2 bd2 ask bk (res, (row, (l, w))) = (around h bk sh2 bd, ((l, refl), made_seen r res (record h { row = row }) bd c call k bd2 ask bk sh2 w))
made_table r false h sh bd c call k sh2 bd2 ask bk (w, e1) = ends r (answers_calls r h bd c NoTable k bd2 ask w) (around h bk sh bd) k.handler k.handler bk bk sh2 sh bd2 bd2 (made_answers r h bd c NoTable k bd2 ask bk sh w) refl refl e1 refl

made_sums : {H B S C L K : Type 0} → (r : Rules H B S C) (h : Hand H) (bd : C) (c : Current) (counter : Counter) (k : Hand H) (bd2 : C) (ask : Ask (Msg L K)) (bk : B) (sh : S) (w : Sums r.does r.goes r.sizes h bd c counter k bd2 ask) → AreMade r (sums_calls r h bd c counter k bd2 ask w) (around h bk sh bd) (around k bk sh bd2)
made_sums r h bd c counter k bd2 ask bk sh (n, (mid, (l, w))) = (around h bk sh mid, ((l, refl), made_answers r h mid c (Count n) k bd2 ask bk sh w))

made_shuts : {H B S C L K : Type 0} → (r : Rules H B S C) (h : Hand H) (bd : C) (c : Current) (k : Hand H) (bd2 : C) (ask : Ask (Msg L K)) (bk : B) (sh : S) (w : Shuts r.does r.goes h bd c k bd2 ask) → AreMade r (shuts_calls r h bd c k bd2 ask w) (around h bk sh bd) (around k bk sh bd2)
made_shuts r h bd c k bd2 ask bk sh (mid, (l, w)) = (around h bk sh mid, ((l, refl), made_answers r h mid c Asked k bd2 ask bk sh w))

made_settles : {H B S C L K : Type 0} → (r : Rules H B S C) (errand : Errand) (h : Hand H) (bd : C) (c : Current) (k : Hand H) (bd2 : C) (ask : Ask (Msg L K)) (bk : B) (sh : S) (w : Settles r.does r.goes h bd c errand k bd2 ask) → AreMade r (settles_calls r errand h bd c k bd2 ask w) (around h bk sh bd) (around k bk sh bd2)
made_settles r errands.Send h bd c k bd2 ask bk sh (w, e) = made_counts r (counter_of errands.Send) (noted errands.Send h) bd c (answer_of h.next errands.Send) k bd2 bk sh w
made_settles r errands.Ask h bd c k bd2 ask bk sh (w, e) = made_counts r (counter_of errands.Ask) (noted errands.Ask h) bd c (answer_of h.next errands.Ask) k bd2 bk sh w
made_settles r errands.Post h bd c k bd2 ask bk sh (w, e) = made_counts r (counter_of errands.Post) (noted errands.Post h) bd c (answer_of h.next errands.Post) k bd2 bk sh w
made_settles r errands.Finish h bd c k bd2 ask bk sh (w, e) = made_counts r (counter_of errands.Finish) (noted errands.Finish h) bd c (answer_of h.next errands.Finish) k bd2 bk sh w

made_returns : {H B S C L K : Type 0} → (r : Rules H B S C) (errand : Errand) (h : Hand H) (bd : C) (c : Current) (to : Target) (m : Msg L K) (k : Hand H) (bd2 : C) (ask : Ask (Msg L K)) (bk : B) (sh : S) (w : Returns r.does r.goes h bd c to errand m k bd2 ask) → AreMade r (returns_calls r errand h bd c to m k bd2 ask w) (around h bk sh bd) (around k bk sh bd2)
made_returns r errands.Send h bd c to m k bd2 ask bk sh ((e, q), e2) = around_is (ap (λ z. z.handler) e) refl refl e2
made_returns r errands.Ask h bd c to m k bd2 ask bk sh ((e, q), e2) = around_is (ap (λ z. z.handler) e) refl refl e2
made_returns r errands.Post h bd c to m k bd2 ask bk sh w = made_answers r h bd c TaskFull k bd2 ask bk sh w
made_returns r errands.Finish h bd c to m k bd2 ask bk sh ((e, q), e2) = around_is (ap (λ z. z.handler) e) refl refl e2

made_sends : {H B S C L K : Type 0} → (r : Rules H B S C) (got : Got (Msg L K)) (h : Hand H) (bd : C) (c : Current) (to : Target) (errand : Errand) (k : Hand H) (bd2 : C) (ask : Ask (Msg L K)) (bk : B) (sh : S) (w : Sends r.does r.goes h bd c to errand got k bd2 ask) → AreMade r (sends_calls r got h bd c to errand k bd2 ask w) (around h bk sh bd) (around k bk sh bd2)
made_sends r gots.Pushed h bd c to errand k bd2 ask bk sh w = made_settles r errand h bd c k bd2 ask bk sh w
made_sends r (gots.Full m) h bd c to errand k bd2 ask bk sh w = made_returns r errand h bd c to m k bd2 ask bk sh w
made_sends r gots.Start h bd c to errand k bd2 ask bk sh ((e, q), e2) = around_is (ap (λ z. z.handler) e) refl refl e2
made_sends r (gots.Took m) h bd c to errand k bd2 ask bk sh ((e, q), e2) = around_is (ap (λ z. z.handler) e) refl refl e2
made_sends r gots.Empty h bd c to errand k bd2 ask bk sh ((e, q), e2) = around_is (ap (λ z. z.handler) e) refl refl e2
made_sends r gots.Nothing h bd c to errand k bd2 ask bk sh ((e, q), e2) = around_is (ap (λ z. z.handler) e) refl refl e2

made_gives : {H B S C L K : Type 0} → (r : Rules H B S C) (h : Hand H) (bd : C) (c : Current) (ev : Event) (k : Hand H) (bd2 : C) (ask : Ask (Msg L K)) (bk : B) (sh : S) (w : Gives r.does r.goes h bd c ev k bd2 ask) → AreMade r (gives_calls r h bd c ev k bd2 ask w) (around h bk sh bd) (around k bk sh bd2)
made_gives r h bd c ev k bd2 ask bk sh (mid, (act, (l, (x, w, e, q)))) = (around h bk sh mid, ((x, refl), ends r (hears_calls r h.lost (record h { own = own_with h.house h.own c }) mid (EventGiven ev) act l bd2 w) (around h bk sh mid) k.handler l.handler bk bk sh sh bd2 bd2 (made_hears r h.lost (record h { own = own_with h.house h.own c }) mid (EventGiven ev) act l bd2 bk sh w) (ap (λ z. z.handler) e) refl refl refl))

made_takes_event : {H B S C L K : Type 0} → (r : Rules H B S C) (v : Bool) (h : Hand H) (bd : C) (ev : Event) (k : Hand H) (bd2 : C) (ask : Ask (Msg L K)) (bk : B) (sh : S) (w : TakesEvent v r.does r.goes h bd ev k bd2 ask) → AreMade r (takes_event_calls r v h bd ev k bd2 ask w) (around h bk sh bd) (around k bk sh bd2)
made_takes_event r true h bd ev k bd2 ask bk sh w = made_gives r h bd (current_of ev) ev k bd2 ask bk sh w
made_takes_event r false h bd ev k bd2 ask bk sh (w, e) = around_is (goes_same h k ask w) refl refl e

made_takes : {H B S C L K : Type 0} → (r : Rules H B S C) (m : Msg L K) (h : Hand H) (bd : C) (k : Hand H) (bd2 : C) (ask : Ask (Msg L K)) (bk : B) (sh : S) (w : Takes r.does r.goes h bd m k bd2 ask) → AreMade r (takes_calls r m h bd k bd2 ask w) (around h bk sh bd) (around k bk sh bd2)
made_takes r (msgs.Event ev) h bd k bd2 ask bk sh w = made_takes_event r (is_for h.kind (current_of ev)) h bd ev k bd2 ask bk sh w
made_takes r (msgs.Over id) h bd k bd2 ask bk sh (w, e) = around_is (goes_same (record h { out = h.out - 1 }) k ask w) refl refl e
made_takes r msgs.NoMore h bd k bd2 ask bk sh (w, e) = around_is (goes_same (record h { ended = ended_more (enders h.house h.kind) h.ended }) k ask w) refl refl e
made_takes r (msgs.Fresh link ip ticket) h bd k bd2 ask bk sh (w, e) = around_is (goes_same h k ask w) refl refl e
made_takes r (msgs.Send u x) h bd k bd2 ask bk sh (w, e) = around_is (goes_same h k ask w) refl refl e
made_takes r (msgs.Close u) h bd k bd2 ask bk sh (w, e) = around_is (goes_same h k ask w) refl refl e
made_takes r (msgs.Reset u) h bd k bd2 ask bk sh (w, e) = around_is (goes_same h k ask w) refl refl e
made_takes r (msgs.Bye u) h bd k bd2 ask bk sh (w, e) = around_is (goes_same h k ask w) refl refl e

made_idles : {H B S C L K : Type 0} → (r : Rules H B S C) (got : Got (Msg L K)) (h : Hand H) (bd : C) (k : Hand H) (bd2 : C) (ask : Ask (Msg L K)) (bk : B) (sh : S) (w : Idles r.does r.goes h bd got k bd2 ask) → AreMade r (idles_calls r got h bd k bd2 ask w) (around h bk sh bd) (around k bk sh bd2)
made_idles r (gots.Took m) h bd k bd2 ask bk sh w = made_takes r m h bd k bd2 ask bk sh w
made_idles r gots.Empty h bd k bd2 ask bk sh (e, w, q) = (around h bk sh bd2, ((w, refl), around_is (ap (λ z. z.handler) e) refl refl refl))
made_idles r gots.Start h bd k bd2 ask bk sh (w, e) = around_is (goes_same h k ask w) refl refl e
made_idles r gots.Pushed h bd k bd2 ask bk sh (w, e) = around_is (goes_same h k ask w) refl refl e
made_idles r (gots.Full m) h bd k bd2 ask bk sh (w, e) = around_is (goes_same h k ask w) refl refl e
made_idles r gots.Nothing h bd k bd2 ask bk sh (w, e) = around_is (goes_same h k ask w) refl refl e

made_makes : {H B S C L K : Type 0} → (r : Rules H B S C) (act : Act) (h : Hand H) (bk : B) (sh : S) (bd : C) (c : Current) (k : Hand H) (bk2 : B) (sh2 : S) (bd2 : C) (ask : Ask (Msg L K)) (w : Makes r.looks r.binds r.gives r.does r.goes r.sizes h bk sh bd c act k bk2 sh2 bd2 ask) → AreMade r (makes_calls r act h bk sh bd c k bk2 sh2 bd2 ask w) (around h bk sh bd) (around k bk2 sh2 bd2)
made_makes r (acts.Send u x) h bk sh bd c k bk2 sh2 bd2 ask (w, e1) = ends r (reaches_calls r (is_own h c u) h bk bd c u errands.Send (msgs.Send u x) k bk2 bd2 ask w) (around h bk sh bd) k.handler k.handler bk2 bk2 sh2 sh bd2 bd2 (made_reaches r (is_own h c u) h bk bd c u errands.Send (msgs.Send u x) k bk2 bd2 ask sh w) refl refl e1 refl
made_makes r (acts.Close u) h bk sh bd c k bk2 sh2 bd2 ask (w, e1) = ends r (reaches_calls r (is_own h c u) h bk bd c u errands.Ask (msgs.Close u) k bk2 bd2 ask w) (around h bk sh bd) k.handler k.handler bk2 bk2 sh2 sh bd2 bd2 (made_reaches r (is_own h c u) h bk bd c u errands.Ask (msgs.Close u) k bk2 bd2 ask sh w) refl refl e1 refl
made_makes r (acts.Reset u) h bk sh bd c k bk2 sh2 bd2 ask (w, e1) = ends r (reaches_calls r (is_own h c u) h bk bd c u errands.Ask (msgs.Reset u) k bk2 bd2 ask w) (around h bk sh bd) k.handler k.handler bk2 bk2 sh2 sh bd2 bd2 (made_reaches r (is_own h c u) h bk bd c u errands.Ask (msgs.Reset u) k bk2 bd2 ask sh w) refl refl e1 refl
made_makes r (acts.Bind u uid) h bk sh bd c k bk2 sh2 bd2 ask (w, e1) = ends r (binds_calls r (h.house.mode == 5) h bk bd c u uid k bk2 bd2 ask w) (around h bk sh bd) k.handler k.handler bk2 bk2 sh2 sh bd2 bd2 (made_binds r (h.house.mode == 5) h bk bd c u uid k bk2 bd2 ask sh w) refl refl e1 refl
made_makes r (acts.Exist u) h bk sh bd c k bk2 sh2 bd2 ask (w, e1) = ends r (tells_calls r (is_own h c u) h bk bd c u (λ z. Exists) k bk2 bd2 ask w) (around h bk sh bd) k.handler k.handler bk2 bk2 sh2 sh bd2 bd2 (made_tells r (is_own h c u) h bk bd c u (λ z. Exists) k bk2 bd2 ask sh w) refl refl e1 refl
made_makes r (acts.Info u) h bk sh bd c k bk2 sh2 bd2 ask (w, e1) = ends r (tells_calls r (info_known h c u) h bk bd c u (Info (fd_of h.house u)) k bk2 bd2 ask w) (around h bk sh bd) k.handler k.handler bk2 bk2 sh2 sh bd2 bd2 (made_tells r (info_known h c u) h bk bd c u (Info (fd_of h.house u)) k bk2 bd2 ask sh w) refl refl e1 refl
made_makes r (acts.Task dst x) h bk sh bd c k bk2 sh2 bd2 ask (w, e1, e2) = ends r (posts_calls r (post_refusal h.kind h.house h.next dst) h bd c dst x k bd2 ask w) (around h bk sh bd) k.handler k.handler bk2 bk sh2 sh bd2 bd2 (made_posts r (post_refusal h.kind h.house h.next dst) h bd c dst x k bd2 ask bk sh w) refl e1 e2 refl
made_makes r (acts.Finish x) h bk sh bd c k bk2 sh2 bd2 ask (w, e1, e2) = ends r (finishes_calls r (poster_of c) h bd c x k bd2 ask w) (around h bk sh bd) k.handler k.handler bk2 bk sh2 sh bd2 bd2 (made_finishes r (poster_of c) h bd c x k bd2 ask bk sh w) refl e1 e2 refl
made_makes r (acts.Table call) h bk sh bd c k bk2 sh2 bd2 ask (w, e1) = ends r (table_calls r h.house.table h sh bd c call k sh2 bd2 ask w) (around h bk sh bd) k.handler k.handler bk2 bk sh2 sh2 bd2 bd2 (made_table r h.house.table h sh bd c call k sh2 bd2 ask bk w) refl e1 refl refl
made_makes r (acts.Stats counter) h bk sh bd c k bk2 sh2 bd2 ask (w, e1, e2) = ends r (sums_calls r h bd c counter k bd2 ask w) (around h bk sh bd) k.handler k.handler bk2 bk sh2 sh bd2 bd2 (made_sums r h bd c counter k bd2 ask bk sh w) refl e1 e2 refl
made_makes r acts.Shutdown h bk sh bd c k bk2 sh2 bd2 ask (w, e1, e2) = ends r (shuts_calls r h bd c k bd2 ask w) (around h bk sh bd) k.handler k.handler bk2 bk sh2 sh bd2 bd2 (made_shuts r h bd c k bd2 ask bk sh w) refl e1 e2 refl
made_makes r acts.Done h bk sh bd c k bk2 sh2 bd2 ask (w, e1, e2, e3) = around_is (ends_same (last_words h.house h.kind c) h c k ask w) e1 e2 e3

made_turn : {H B S C L K : Type 0} → (r : Rules H B S C) (stage : Stage) (h : Hand H) (bk : B) (sh : S) (bd : C) (got : Got (Msg L K)) (k : Hand H) (bk2 : B) (sh2 : S) (bd2 : C) (ask : Ask (Msg L K)) (w : TurnsAs r.looks r.binds r.gives r.does r.goes r.sizes stage h bk sh bd got k bk2 sh2 bd2 ask) → AreMade r (turn_calls r stage h bk sh bd got k bk2 sh2 bd2 ask w) (around h bk sh bd) (around k bk2 sh2 bd2)
made_turn r stages.Idle h bk sh bd got k bk2 sh2 bd2 ask (w, e1, e2) = ends r (idles_calls r got h bd k bd2 ask w) (around h bk sh bd) k.handler k.handler bk2 bk sh2 sh bd2 bd2 (made_idles r got h bd k bd2 ask bk sh w) refl e1 e2 refl
made_turn r (stages.Acting c act) h bk sh bd got k bk2 sh2 bd2 ask w = made_makes r act h bk sh bd c k bk2 sh2 bd2 ask w
made_turn r (stages.Sending c to errand) h bk sh bd got k bk2 sh2 bd2 ask (w, e1, e2) = ends r (sends_calls r got h bd c to errand k bd2 ask w) (around h bk sh bd) k.handler k.handler bk2 bk sh2 sh bd2 bd2 (made_sends r got h bd c to errand k bd2 ask bk sh w) refl e1 e2 refl
made_turn r (stages.Leaving c to) h bk sh bd got k bk2 sh2 bd2 ask (w, e1, e2, e3) = around_is (leaves_same got h c to k ask w) e1 e2 e3
made_turn r (stages.Stopping n) h bk sh bd got k bk2 sh2 bd2 ask (w, e1, e2, e3) = around_is (stops_same got h n k ask w) e1 e2 e3
made_turn r stages.Finished h bk sh bd got k bk2 sh2 bd2 ask (e, q, e1, e2, e3) = around_is (ap (λ z. z.handler) e) e1 e2 e3

pub turns_by : {H B S C L K : Type 0} → (r : Rules H B S C) (h : Hand H) (bk : B) (sh : S) (bd : C) (got : Got (Msg L K)) (k : Hand H) (bk2 : B) (sh2 : S) (bd2 : C) (ask : Ask (Msg L K)) → Turns r.looks r.binds r.gives r.does r.goes r.sizes h bk sh bd got k bk2 sh2 bd2 ask → TurnsBy r h bk sh bd got k bk2 sh2 bd2 ask
turns_by r h bk sh bd got k bk2 sh2 bd2 ask w = (w, made_turn r h.stage (unstaged h) bk sh bd got k bk2 sh2 bd2 ask w)
