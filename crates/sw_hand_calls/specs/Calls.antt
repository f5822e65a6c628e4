-- The calls that a turn makes on its handler and its ports, with their answers, as one list in order.
use Rattle.std.specs.Prelude.{◌≡◌, ◌⊎◌, ℕ, ◌-◌, ◌%◌, ◌==◌, Bool, true, false, List, [], ◌∷◌, Option, Some, None, Result, Ok, Err}
use Rattle.std.proofs.Common.{inl, inr}
use Rattle.sw_base.specs.declared.counter.Counter.{Counter}
use Rattle.sw_base.specs.declared.table.Value.{Value}
use Rattle.sw_base.specs.declared.table.Call.{Call}
use Rattle.sw_base.specs.declared.table.CallFault.{CallFault}
use Rattle.sw_data.specs.declared.acts.Act.{Act}
use Rattle.sw_data.specs.declared.acts.Act.TheVariants as acts
use Rattle.sw_data.specs.declared.acts.Dst.{Dst}
use Rattle.sw_data.specs.declared.acts.Dst.TheVariants.{Any, At}
use Rattle.sw_data.specs.declared.answers.Answer.{Answer}
use Rattle.sw_data.specs.declared.answers.Answer.TheVariants.{Exists, Info, NoSession, WrongMode, TaskFull, NotHere, Table as TableAnswer, TableRefused, NoTable, Count, Asked}
use Rattle.sw_data.specs.declared.events.Event.{Event}
use Rattle.sw_data.specs.declared.given.Given.{Given}
use Rattle.sw_data.specs.declared.given.Given.TheVariants.{Event as EventGiven, Answer as AnswerGiven}
use Rattle.sw_data.specs.declared.messages.Msg.{Msg}
use Rattle.sw_data.specs.declared.messages.Msg.TheVariants as msgs
use Rattle.sw_data.specs.declared.messages.Target.{Target}
use Rattle.sw_data.specs.declared.messages.Ask.{Ask}
use Rattle.sw_data.specs.declared.messages.Got.{Got}
use Rattle.sw_data.specs.declared.messages.Got.TheVariants as gots
use Rattle.sw_port_board.specs.declared.board.BoardStep.{BoardStep}
use Rattle.sw_port_board.specs.declared.board.BoardStep.TheVariants.{Marked, Stopped, Added}
use Rattle.sw_port_board.specs.declared.crew.Crew.TheVariants.{Taskers}
use Rattle.sw_port_board.specs.declared.crew.Sizes.{Sizes}
use Rattle.sw_port_board.specs.Board.{FindsIdle, SumsUp}
use Rattle.sw_port_book.specs.Answers.{Looks, Binds}
use Rattle.sw_port_book.specs.declared.answers.Look.{Look}
use Rattle.sw_port_book.specs.declared.answers.Look.TheVariants.{Live, Other}
use Rattle.sw_port_book.specs.declared.answers.BindFault.{BindFault}
use Rattle.sw_port_shelf.specs.declared.shelf.Placed.{Placed}
use Rattle.sw_hand.specs.Ports.{Acting, Going, Looking, Binding, Calling}
use Rattle.sw_hand.specs.House.{fd_of}
use Rattle.sw_hand.specs.Stage.{current_of, is_for, answer_of, counter_of}
use Rattle.sw_hand.specs.Hand.{is_own, own_with, unstaged}
use Rattle.sw_hand.specs.Hearing.{HearsAs, AtOnce, Counts}
use Rattle.sw_hand.specs.Asking.{Answers}
use Rattle.sw_hand.specs.Reaching.{ReachSeen, ReachesAs, TellsAs, BindsAs, told_by, bound_by, info_known}
use Rattle.sw_hand.specs.Posting.{PostsAs, FinishesAs, post_refusal, poster_of}
use Rattle.sw_hand.specs.Calling.{CallsRefused, CallsPlaced, CallsSeen, CallsAs, Sums, Shuts, is_busy, cells_of}
use Rattle.sw_hand.specs.Taking.{Settles, Returns, Sends, Gives, TakesEvent, Takes, Idles, noted}
use Rattle.sw_hand.specs.Turn.{Makes, TurnsAs, Turns}
use Rattle.sw_hand.specs.declared.hand.Hand.{Hand}
use Rattle.sw_hand.specs.declared.stage.Current.{Current}
use Rattle.sw_hand.specs.declared.stage.Errand.{Errand}
use Rattle.sw_hand.specs.declared.stage.Errand.TheVariants as errands
use Rattle.sw_hand.specs.declared.stage.Stage.{Stage}
use Rattle.sw_hand.specs.declared.stage.Stage.TheVariants as stages

-- a call with its answer
pub data PortCall : Type 0 where
  -- the handler was given this, and acted so or found no memory
  Gave : Given → Act → PortCall
  Starved : Given → PortCall
  -- a look at a session, and a bind of one to a uid
  Looked : ℕ → Look → PortCall
  Bound : ℕ → ℕ → Result (Unit {0}) BindFault → PortCall
  -- a call of the Table, with the row's buffer before and behind it
  Called : Call → List Value → List Value → Result Placed CallFault → PortCall
  -- the first idle task worker from this one on, and the sum of a counter
  Idled : ℕ → Option ℕ → PortCall
  Summed : Counter → ℕ → PortCall
  -- a mark of the own idle word, a stop, or one more of a counter
  Stepped : BoardStep → PortCall

-- how a handler and the ports may answer
pub record Rules (H B S C : Type 0) : Type 1 where
  pub looks : Looking B
  pub binds : Binding B
  pub gives : Calling S
  pub does : Acting H
  pub goes : Going C
  pub sizes : C → Sizes

abbrev pub rules_of : {H B S C : Type 0} → Looking B → Binding B → Calling S → Acting H → Going C → (C → Sizes) → Rules H B S C
rules_of looks binds gives does goes sizes = record { looks = looks; binds = binds; gives = gives; does = does; goes = goes; sizes = sizes }

-- a handler and the ports, at one moment
pub record Around (H B S C : Type 0) : Type 0 where
  pub handler : H
  pub book : B
  pub shelf : S
  pub board : C

abbrev pub moment : {H B S C : Type 0} → H → B → S → C → Around H B S C
moment x b s d = record { handler = x; book = b; shelf = s; board = d }

-- the handler of a hand, and the ports
abbrev pub around : {H B S C : Type 0} → Hand H → B → S → C → Around H B S C
around h b s d = moment h.handler b s d

-- a call was made at one moment, answered so, and left the other
abbrev pub IsMade : {H B S C : Type 0} → Rules H B S C → PortCall → Around H B S C → Around H B S C → Type 0
IsMade r (Gave g act) p q = r.does p.handler g act q.handler × (q ≡ record p { handler = q.handler })
IsMade r (Starved g) p q = q ≡ record p { handler = q.handler }
IsMade r (Looked u look) p q = Looks r.looks p.book u look q.book × (q ≡ record p { book = q.book })
IsMade r (Bound u uid a) p q = Binds r.binds p.book u uid a q.book × (q ≡ record p { book = q.book })
IsMade r (Called call row found a) p q = r.gives p.shelf call q.shelf row found a × (q ≡ record p { shelf = q.shelf })
IsMade r (Idled from idle) p q = FindsIdle r.goes (r.sizes p.board) Taskers from p.board idle q.board × (q ≡ record p { board = q.board })
IsMade r (Summed c n) p q = SumsUp r.goes (r.sizes p.board) c p.board n q.board × (q ≡ record p { board = q.board })
IsMade r (Stepped x) p q = r.goes p.board (x ∷ []) q.board × (q ≡ record p { board = q.board })

-- all of these in order, and none else
abbrev pub AreMade : {H B S C : Type 0} → Rules H B S C → List PortCall → Around H B S C → Around H B S C → Type 0
AreMade r [] p q = q ≡ p
AreMade {H} {B} {S} {C} r (x ∷ xs) p q = (m : Around H B S C) × (IsMade r x p m × AreMade r xs m q)

-- a handler that was given something, and the stop word where it found no memory
abbrev pub hears_calls : {H B S C : Type 0} → (r : Rules H B S C) (v : Bool) (h : Hand H) (bd : C) (g : Given) (act : Act) (k : Hand H) (bd2 : C) → HearsAs r.does r.goes v h bd g act k bd2 → List PortCall
hears_calls r true h bd g act k bd2 (e0, e1, e2) = []
hears_calls r false h bd g act k bd2 (inl (w, e1, e2)) = Gave g act ∷ []
hears_calls r false h bd g act k bd2 (inr (e0, (e1, w))) = Starved g ∷ Stepped Stopped ∷ []

abbrev pub once_calls : {H B S C : Type 0} → (r : Rules H B S C) (h : Hand H) (bd : C) (c : Current) (a : Answer) (k : Hand H) (bd2 : C) → AtOnce r.does r.goes h bd c a k bd2 → List PortCall
once_calls r h bd c a k bd2 (act, (mid, (w, e))) = hears_calls r h.lost h bd (AnswerGiven a) act mid bd2 w

abbrev pub answers_calls : {H B S C L K : Type 0} → (r : Rules H B S C) (h : Hand H) (bd : C) (c : Current) (a : Answer) (k : Hand H) (bd2 : C) (ask : Ask (Msg L K)) → Answers r.does r.goes h bd c a k bd2 ask → List PortCall
answers_calls r h bd c a k bd2 ask (w, e) = once_calls r h bd c a k bd2 w

abbrev pub counts_calls : {H B S C : Type 0} → (r : Rules H B S C) (oc : Option Counter) (h : Hand H) (bd : C) (c : Current) (a : Answer) (k : Hand H) (bd2 : C) → Counts r.does r.goes oc h bd c a k bd2 → List PortCall
counts_calls r None h bd c a k bd2 w = once_calls r h bd c a k bd2 w
counts_calls r (Some counter) h bd c a k bd2 (mid, (v, w)) = Stepped (Added counter) ∷ once_calls r h mid c a k bd2 w

abbrev pub reach_seen_calls : {H B S C L K : Type 0} → (r : Rules H B S C) (look : Look) (h : Hand H) (bd : C) (c : Current) (u : ℕ) (errand : Errand) (m : Msg L K) (k : Hand H) (bd2 : C) (ask : Ask (Msg L K)) → ReachSeen r.does r.goes h bd c u errand m look k bd2 ask → List PortCall
reach_seen_calls r (Live uid) h bd c u errand m k bd2 ask ((e, q), e2) = []
reach_seen_calls r (Other n) h bd c u errand m k bd2 ask w = answers_calls r h bd c (NoSession n) k bd2 ask w

-- an act on a session
abbrev pub reaches_calls : {H B S C L K : Type 0} → (r : Rules H B S C) (v : Bool) (h : Hand H) (bk : B) (bd : C) (c : Current) (u : ℕ) (errand : Errand) (m : Msg L K) (k : Hand H) (bk2 : B) (bd2 : C) (ask : Ask (Msg L K)) → ReachesAs v r.looks r.does r.goes h bk bd c u errand m k bk2 bd2 ask → List PortCall
reaches_calls r true h bk bd c u errand m k bk2 bd2 ask ((e, q), e1, e2) = []
reaches_calls r false h bk bd c u errand m k bk2 bd2 ask (look, (l, w)) = Looked u look ∷ reach_seen_calls r look h bd c u errand m k bd2 ask w

abbrev pub tells_calls : {H B S C L K : Type 0} → (r : Rules H B S C) (v : Bool) (h : Hand H) (bk : B) (bd : C) (c : Current) (u : ℕ) (there : ℕ → Answer) (k : Hand H) (bk2 : B) (bd2 : C) (ask : Ask (Msg L K)) → TellsAs v r.looks r.does r.goes h bk bd c u there k bk2 bd2 ask → List PortCall
tells_calls r true h bk bd c u there k bk2 bd2 ask (w, e1) = answers_calls r h bd c (there 0) k bd2 ask w
tells_calls r false h bk bd c u there k bk2 bd2 ask (look, (l, w)) = Looked u look ∷ answers_calls r h bd c (told_by there look) k bd2 ask w

abbrev pub binds_calls : {H B S C L K : Type 0} → (r : Rules H B S C) (v : Bool) (h : Hand H) (bk : B) (bd : C) (c : Current) (u : ℕ) (uid : ℕ) (k : Hand H) (bk2 : B) (bd2 : C) (ask : Ask (Msg L K)) → BindsAs v r.binds r.does r.goes h bk bd c u uid k bk2 bd2 ask → List PortCall
binds_calls r true h bk bd c u uid k bk2 bd2 ask (res, (l, w)) = Bound u uid res ∷ answers_calls r h bd c (bound_by res) k bd2 ask w
binds_calls r false h bk bd c u uid k bk2 bd2 ask (w, e1) = answers_calls r h bd c WrongMode k bd2 ask w

-- a task, and what comes back of it
abbrev pub posts_calls : {H B S C L K : Type 0} → (r : Rules H B S C) (oa : Option Answer) (h : Hand H) (bd : C) (c : Current) (dst : Dst) (x : List ℕ) (k : Hand H) (bd2 : C) (ask : Ask (Msg L K)) → PostsAs oa r.does r.goes r.sizes h bd c dst x k bd2 ask → List PortCall
posts_calls r (Some a) h bd c dst x k bd2 ask w = answers_calls r h bd c a k bd2 ask w
posts_calls r None h bd c (At n) x k bd2 ask (place, ((e0, e2), (e, q))) = []
posts_calls r None h bd c Any x k bd2 ask (place, ((idle, (l, e0)), (e, q))) = Idled (h.next % h.house.taskers) idle ∷ []

abbrev pub finishes_calls : {H B S C L K : Type 0} → (r : Rules H B S C) (op : Option (ℕ × ℕ)) (h : Hand H) (bd : C) (c : Current) (x : List ℕ) (k : Hand H) (bd2 : C) (ask : Ask (Msg L K)) → FinishesAs op r.does r.goes h bd c x k bd2 ask → List PortCall
finishes_calls r None h bd c x k bd2 ask w = answers_calls r h bd c NotHere k bd2 ask w
finishes_calls r (Some (n, uid)) h bd c x k bd2 ask ((e, q), e2) = []

-- a call of the Table
abbrev pub refused_calls : {H B S C L K : Type 0} → (r : Rules H B S C) (v : Bool) (fault : CallFault) (h : Hand H) (bd : C) (c : Current) (call : Call) (k : Hand H) (bd2 : C) (ask : Ask (Msg L K)) → CallsRefused v r.does r.goes fault h bd c call k bd2 ask → List PortCall
refused_calls r true fault h bd c call k bd2 ask (e, e2, q) = []
refused_calls r false fault h bd c call k bd2 ask w = answers_calls r h bd c (TableRefused fault) k bd2 ask w

abbrev pub placed_calls : {H B S C L K : Type 0} → (r : Rules H B S C) (p : Placed) (h : Hand H) (bd : C) (c : Current) (k : Hand H) (bd2 : C) (ask : Ask (Msg L K)) → CallsPlaced r.does r.goes p h bd c k bd2 ask → List PortCall
placed_calls r p h bd c k bd2 ask (inl w) = answers_calls r h bd c (TableAnswer p.at p.reply (cells_of p.reply h.row)) k bd2 ask w
placed_calls r p h bd c k bd2 ask (inr (e0, (e, w, q))) = Stepped Stopped ∷ []

abbrev pub seen_calls : {H B S C L K : Type 0} → (r : Rules H B S C) (res : Result Placed CallFault) (h : Hand H) (bd : C) (c : Current) (call : Call) (k : Hand H) (bd2 : C) (ask : Ask (Msg L K)) → CallsSeen r.does r.goes res h bd c call k bd2 ask → List PortCall
seen_calls r (Ok p) h bd c call k bd2 ask w = placed_calls r p h bd c k bd2 ask w
seen_calls r (Err fault) h bd c call k bd2 ask w = refused_calls r (is_busy fault) fault h bd c call k bd2 ask w

abbrev pub table_calls : {H B S C L K : Type 0} → (r : Rules H B S C) (v : Bool) (h : Hand H) (sh : S) (bd : C) (c : Current) (call : Call) (k : Hand H) (sh2 : S) (bd2 : C) (ask : Ask (Msg L K)) → CallsAs v r.gives r.does r.goes h sh bd c call k sh2 bd2 ask → List PortCall
table_calls r true h sh bd c call k sh2 bd2 ask (res, (row, (l, w))) = Called call h.row row res ∷ seen_calls r res (record h { row = row }) bd c call k bd2 ask w
table_calls r false h sh bd c call k sh2 bd2 ask (w, e1) = answers_calls r h bd c NoTable k bd2 ask w

abbrev pub sums_calls : {H B S C L K : Type 0} → (r : Rules H B S C) (h : Hand H) (bd : C) (c : Current) (counter : Counter) (k : Hand H) (bd2 : C) (ask : Ask (Msg L K)) → Sums r.does r.goes r.sizes h bd c counter k bd2 ask → List PortCall
sums_calls r h bd c counter k bd2 ask (n, (mid, (l, w))) = Summed counter n ∷ answers_calls r h mid c (Count n) k bd2 ask w

abbrev pub shuts_calls : {H B S C L K : Type 0} → (r : Rules H B S C) (h : Hand H) (bd : C) (c : Current) (k : Hand H) (bd2 : C) (ask : Ask (Msg L K)) → Shuts r.does r.goes h bd c k bd2 ask → List PortCall
shuts_calls r h bd c k bd2 ask (mid, (l, w)) = Stepped Stopped ∷ answers_calls r h mid c Asked k bd2 ask w

-- what a push came to
abbrev pub settles_calls : {H B S C L K : Type 0} → (r : Rules H B S C) (errand : Errand) (h : Hand H) (bd : C) (c : Current) (k : Hand H) (bd2 : C) (ask : Ask (Msg L K)) → Settles r.does r.goes h bd c errand k bd2 ask → List PortCall
settles_calls r errands.Send h bd c k bd2 ask (w, e) = counts_calls r (counter_of errands.Send) (noted errands.Send h) bd c (answer_of h.next errands.Send) k bd2 w
settles_calls r errands.Ask h bd c k bd2 ask (w, e) = counts_calls r (counter_of errands.Ask) (noted errands.Ask h) bd c (answer_of h.next errands.Ask) k bd2 w
settles_calls r errands.Post h bd c k bd2 ask (w, e) = counts_calls r (counter_of errands.Post) (noted errands.Post h) bd c (answer_of h.next errands.Post) k bd2 w
settles_calls r errands.Finish h bd c k bd2 ask (w, e) = counts_calls r (counter_of errands.Finish) (noted errands.Finish h) bd c (answer_of h.next errands.Finish) k bd2 w

abbrev pub returns_calls : {H B S C L K : Type 0} → (r : Rules H B S C) (errand : Errand) (h : Hand H) (bd : C) (c : Current) (to : Target) (m : Msg L K) (k : Hand H) (bd2 : C) (ask : Ask (Msg L K)) → Returns r.does r.goes h bd c to errand m k bd2 ask → List PortCall
returns_calls r errands.Send h bd c to m k bd2 ask ((e, q), e2) = []
returns_calls r errands.Ask h bd c to m k bd2 ask ((e, q), e2) = []
returns_calls r errands.Post h bd c to m k bd2 ask w = answers_calls r h bd c TaskFull k bd2 ask w
returns_calls r errands.Finish h bd c to m k bd2 ask ((e, q), e2) = []

abbrev pub sends_calls : {H B S C L K : Type 0} → (r : Rules H B S C) (got : Got (Msg L K)) (h : Hand H) (bd : C) (c : Current) (to : Target) (errand : Errand) (k : Hand H) (bd2 : C) (ask : Ask (Msg L K)) → Sends r.does r.goes h bd c to errand got k bd2 ask → List PortCall
sends_calls r gots.Pushed h bd c to errand k bd2 ask w = settles_calls r errand h bd c k bd2 ask w
sends_calls r (gots.Full m) h bd c to errand k bd2 ask w = returns_calls r errand h bd c to m k bd2 ask w
sends_calls r gots.Start h bd c to errand k bd2 ask ((e, q), e2) = []
sends_calls r (gots.Took m) h bd c to errand k bd2 ask ((e, q), e2) = []
sends_calls r gots.Empty h bd c to errand k bd2 ask ((e, q), e2) = []
sends_calls r gots.Nothing h bd c to errand k bd2 ask ((e, q), e2) = []

-- what a message came to
abbrev pub gives_calls : {H B S C L K : Type 0} → (r : Rules H B S C) (h : Hand H) (bd : C) (c : Current) (ev : Event) (k : Hand H) (bd2 : C) (ask : Ask (Msg L K)) → Gives r.does r.goes h bd c ev k bd2 ask → List PortCall
gives_calls r h bd c ev k bd2 ask (mid, (act, (l, (x, w, e, q)))) = Stepped (Marked false) ∷ hears_calls r h.lost (record h { own = own_with h.house h.own c }) mid (EventGiven ev) act l bd2 w

abbrev pub takes_event_calls : {H B S C L K : Type 0} → (r : Rules H B S C) (v : Bool) (h : Hand H) (bd : C) (ev : Event) (k : Hand H) (bd2 : C) (ask : Ask (Msg L K)) → TakesEvent v r.does r.goes h bd ev k bd2 ask → List PortCall
takes_event_calls r true h bd ev k bd2 ask w = gives_calls r h bd (current_of ev) ev k bd2 ask w
takes_event_calls r false h bd ev k bd2 ask (w, e) = []

abbrev pub takes_calls : {H B S C L K : Type 0} → (r : Rules H B S C) (m : Msg L K) (h : Hand H) (bd : C) (k : Hand H) (bd2 : C) (ask : Ask (Msg L K)) → Takes r.does r.goes h bd m k bd2 ask → List PortCall
takes_calls r (msgs.Event ev) h bd k bd2 ask w = takes_event_calls r (is_for h.kind (current_of ev)) h bd ev k bd2 ask w
takes_calls r (msgs.Over id) h bd k bd2 ask (w, e) = []
takes_calls r msgs.NoMore h bd k bd2 ask (w, e) = []
takes_calls r (msgs.Fresh link ip ticket) h bd k bd2 ask (w, e) = []
takes_calls r (msgs.Send u x) h bd k bd2 ask (w, e) = []
takes_calls r (msgs.Close u) h bd k bd2 ask (w, e) = []
takes_calls r (msgs.Reset u) h bd k bd2 ask (w, e) = []
takes_calls r (msgs.Bye u) h bd k bd2 ask (w, e) = []

abbrev pub idles_calls : {H B S C L K : Type 0} → (r : Rules H B S C) (got : Got (Msg L K)) (h : Hand H) (bd : C) (k : Hand H) (bd2 : C) (ask : Ask (Msg L K)) → Idles r.does r.goes h bd got k bd2 ask → List PortCall
idles_calls r (gots.Took m) h bd k bd2 ask w = takes_calls r m h bd k bd2 ask w
idles_calls r gots.Empty h bd k bd2 ask (e, w, q) = Stepped (Marked true) ∷ []
idles_calls r gots.Start h bd k bd2 ask (w, e) = []
idles_calls r gots.Pushed h bd k bd2 ask (w, e) = []
idles_calls r (gots.Full m) h bd k bd2 ask (w, e) = []
idles_calls r gots.Nothing h bd k bd2 ask (w, e) = []

-- the act at hand
abbrev pub makes_calls : {H B S C L K : Type 0} → (r : Rules H B S C) (act : Act) (h : Hand H) (bk : B) (sh : S) (bd : C) (c : Current) (k : Hand H) (bk2 : B) (sh2 : S) (bd2 : C) (ask : Ask (Msg L K)) → Makes r.looks r.binds r.gives r.does r.goes r.sizes h bk sh bd c act k bk2 sh2 bd2 ask → List PortCall
makes_calls r (acts.Send u x) h bk sh bd c k bk2 sh2 bd2 ask (w, e1) = reaches_calls r (is_own h c u) h bk bd c u errands.Send (msgs.Send u x) k bk2 bd2 ask w
makes_calls r (acts.Close u) h bk sh bd c k bk2 sh2 bd2 ask (w, e1) = reaches_calls r (is_own h c u) h bk bd c u errands.Ask (msgs.Close u) k bk2 bd2 ask w
makes_calls r (acts.Reset u) h bk sh bd c k bk2 sh2 bd2 ask (w, e1) = reaches_calls r (is_own h c u) h bk bd c u errands.Ask (msgs.Reset u) k bk2 bd2 ask w
makes_calls r (acts.Bind u uid) h bk sh bd c k bk2 sh2 bd2 ask (w, e1) = binds_calls r (h.house.mode == 5) h bk bd c u uid k bk2 bd2 ask w
makes_calls r (acts.Exist u) h bk sh bd c k bk2 sh2 bd2 ask (w, e1) = tells_calls r (is_own h c u) h bk bd c u (λ z. Exists) k bk2 bd2 ask w
makes_calls r (acts.Info u) h bk sh bd c k bk2 sh2 bd2 ask (w, e1) = tells_calls r (info_known h c u) h bk bd c u (Info (fd_of h.house u)) k bk2 bd2 ask w
makes_calls r (acts.Task dst x) h bk sh bd c k bk2 sh2 bd2 ask (w, e1, e2) = posts_calls r (post_refusal h.kind h.house h.next dst) h bd c dst x k bd2 ask w
makes_calls r (acts.Finish x) h bk sh bd c k bk2 sh2 bd2 ask (w, e1, e2) = finishes_calls r (poster_of c) h bd c x k bd2 ask w
makes_calls r (acts.Table call) h bk sh bd c k bk2 sh2 bd2 ask (w, e1) = table_calls r h.house.table h sh bd c call k sh2 bd2 ask w
makes_calls r (acts.Stats counter) h bk sh bd c k bk2 sh2 bd2 ask (w, e1, e2) = sums_calls r h bd c counter k bd2 ask w
makes_calls r acts.Shutdown h bk sh bd c k bk2 sh2 bd2 ask (w, e1, e2) = shuts_calls r h bd c k bd2 ask w
makes_calls r acts.Done h bk sh bd c k bk2 sh2 bd2 ask (w, e1, e2, e3) = []

-- a whole turn
abbrev pub turn_calls : {H B S C L K : Type 0} → (r : Rules H B S C) (stage : Stage) (h : Hand H) (bk : B) (sh : S) (bd : C) (got : Got (Msg L K)) (k : Hand H) (bk2 : B) (sh2 : S) (bd2 : C) (ask : Ask (Msg L K)) → TurnsAs r.looks r.binds r.gives r.does r.goes r.sizes stage h bk sh bd got k bk2 sh2 bd2 ask → List PortCall
turn_calls r stages.Idle h bk sh bd got k bk2 sh2 bd2 ask (w, e1, e2) = idles_calls r got h bd k bd2 ask w
turn_calls r (stages.Acting c act) h bk sh bd got k bk2 sh2 bd2 ask w = makes_calls r act h bk sh bd c k bk2 sh2 bd2 ask w
turn_calls r (stages.Sending c to errand) h bk sh bd got k bk2 sh2 bd2 ask (w, e1, e2) = sends_calls r got h bd c to errand k bd2 ask w
turn_calls r (stages.Leaving c to) h bk sh bd got k bk2 sh2 bd2 ask (w, e1, e2, e3) = []
turn_calls r (stages.Stopping n) h bk sh bd got k bk2 sh2 bd2 ask (w, e1, e2, e3) = []
turn_calls r stages.Finished h bk sh bd got k bk2 sh2 bd2 ask (e, q, e1, e2, e3) = []

abbrev pub turn_calls_of : {H B S C L K : Type 0} → (r : Rules H B S C) (h : Hand H) (bk : B) (sh : S) (bd : C) (got : Got (Msg L K)) (k : Hand H) (bk2 : B) (sh2 : S) (bd2 : C) (ask : Ask (Msg L K)) → Turns r.looks r.binds r.gives r.does r.goes r.sizes h bk sh bd got k bk2 sh2 bd2 ask → List PortCall
turn_calls_of r h bk sh bd got k bk2 sh2 bd2 ask w = turn_calls r h.stage (unstaged h) bk sh bd got k bk2 sh2 bd2 ask w

-- a turn by the table, all of whose calls were made in their order, and no other
abbrev pub TurnsBy : {H B S C L K : Type 0} → Rules H B S C → Hand H → B → S → C → Got (Msg L K) → Hand H → B → S → C → Ask (Msg L K) → Type 0
TurnsBy r h bk sh bd got k bk2 sh2 bd2 ask =
    (w : Turns r.looks r.binds r.gives r.does r.goes r.sizes h bk sh bd got k bk2 sh2 bd2 ask)
    × AreMade r (turn_calls_of r h bk sh bd got k bk2 sh2 bd2 ask w) (around h bk sh bd) (around k bk2 sh2 bd2)
