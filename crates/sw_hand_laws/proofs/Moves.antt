-- Every turn is one move.
use Rattle.std.proofs.Common.{◌≡◌, ℕ, ◌-◌, ◌%◌, ◌^◌, ltb, ◌==◌, Bool, true, false, if◌then◌else◌, List, [], ◌∷◌, ◌++◌, refl, ◌∙◌, sym, subst, append-nil, arith, Option, Some, None, suc, ◌⊎◌, Err, Ok, Result, ap, inl, inr, ◌<◌}
use Rattle.std.proofs.lemmas.Bool.Decides.{nat_tests}
use Rattle.std.proofs.lemmas.Nat.{mod_below}
use Rattle.sw_lists.proofs.Lists.{eq_is, eq_other, eq_same}
use Rattle.sw_step.specs.declared.actor.ActorId.{ActorId}
use Rattle.sw_step.specs.declared.actor.ActorId.TheVariants.{Door, Reactor, Worker, Tasker}
use Rattle.sw_base.specs.declared.table.CallFault.TheVariants.{Busy, BadKey, BadValue, NoColumn, NotInt, Range, Spent}
use Rattle.sw_column.specs.declared.column.Column.{Column}
use Rattle.sw_column.specs.Fit.{call_fault}
use Rattle.sw_port_book.specs.declared.answers.Look.{Look}
use Rattle.sw_port_book.specs.declared.answers.Look.TheVariants.{Live, Other}
use Rattle.sw_port_book.specs.declared.answers.BindFault.{BindFault}
use Rattle.sw_port_shelf.specs.Shelf.{AnswersFit, is_of_place}
use Rattle.sw_port_shelf.specs.declared.shelf.Placed.{Placed}
use Rattle.sw_record.specs.Words.{Event, Connect, Packet, Closed, Finish, Task, Act, Send, Close, Reset, Bind, Exist, Info, TaskAct, FinishAct, Table, Stats, Shutdown, Done, Answer, Sent, Asked, BindOk, Exists, InfoIs, Posted, Finished, TableIs, TableRefused, Count, NoSession, Bound, BadUid, WrongMode, BadTarget, NoTaskWorkers, IdsSpent, NotHere, NoTable, AnswerGiven, Any, At, Call, CallFault, Dst}
use Rattle.sw_record.specs.Terms.{Terms, reactor_of}
use Rattle.sw_record.specs.Dialogue.{MayFollow}
use Rattle.sw_record.specs.Tasks.{FitsDst}
use Rattle.sw_record.specs.Fits.{is_own, Fits, IsThere}
use Rattle.sw_past.specs.Messages.{Message, FreshMsg, SendMsg, CloseMsg, ResetMsg, Bye, EventMsg, OverMsg, NoMore}
use Rattle.sw_past.specs.Views.{for_hand, heard_in}
use Rattle.sw_past.specs.Routes.{is_worker}
use Rattle.sw_hand_laws.specs.Hand.{Got, Start, Took, Empty, Pushed, Full, Nothing, Ports, Stage, Idle, Acting, Sending, Leaving, Stopping, Stopped, Hand, Turned, last_words, goodbye, goodbyes, skip, settle, reach_seen, reach, exist_seen, exist, info_seen, info, bind_seen, bind, tasker_at, is_there, post_fit, post_to, post_some, post, finish, call_seen, call, done, make, full, sending, leaving, stop_if, stopping, go_if, may_stop, took_event, took_turn, idle_turn, turn, call_refused, go_on}
use Rattle.sw_hand_laws.specs.Keeps.{Carried, CSend, CClose, CReset, CPost, CGive}
use Rattle.sw_hand_laws.specs.Kept.{PushFits, GotFits}
use Rattle.sw_hand_laws.specs.Moved.{Moved, Waits, Answers, Aims, Sends, Fulls, Hears, Skips, Overs, Leaves, Lefts, Stops, Nones, SkipStops, SkipNones, Nexts, Lasts, PortsFit, BindFits, AimFits, IdleFits}
use Rattle.sw_hand_laws.proofs.Ends.{one_word, for_one}
use Rattle.sw_hand_laws.proofs.Faults.{OfArguments, call_faults}
use Rattle.sw_port_book.specs.declared.answers.BindFault.TheVariants as fault

abbrev Goes : Terms → ActorId → ℕ → Stage → Hand → Turned → Type 0
Goes t y c st h r = Moved t y c st h r.stage r.hand

goes_reach : (t : Terms) (y : ActorId) (c : ℕ) (h : Hand) (e : Event) (act : Act) (s : ℕ) (m : Message) (a : Answer) (p : Ports) (v : Bool) → Carried t y h.next e act (Reactor (reactor_of t s)) m a → Fits t (is_worker y) h.own h.next e act a → ((n : ℕ) → MayFollow act (AnswerGiven (NoSession n))) → ((n : ℕ) → v ≡ false → Fits t (is_worker y) h.own h.next e act (NoSession n)) → AimFits t act (Reactor (reactor_of t s)) → Goes t y c (Acting e act) h (reach t h e act s m a p v)
goes_reach t y c h e act s m a p true k f may refuse aim = Aims h e act h.seen (Reactor (reactor_of t s)) m a k f aim
goes_reach t y c h e act s m a p false k f may refuse aim = looked p.look
  where
    looked : (l : Look) → Goes t y c (Acting e act) h (reach_seen t h e act s m a p.act l)
    looked (Live u) = Aims h e act (record h.seen { lives = h.seen.lives ++ s ∷ [] }) (Reactor (reactor_of t s)) m a k f aim
    looked (Other n) = Answers h e act (record h.seen { others = h.seen.others ++ (s, n) ∷ [] }) (NoSession n) p.act (may n) refl (refuse n refl)

goes_exist : (t : Terms) (y : ActorId) (c : ℕ) (h : Hand) (e : Event) (s : ℕ) (p : Ports) (v : Bool) → is_own t h.own e s ≡ v → Goes t y c (Acting e (Exist s)) h (exist h e s p v)
goes_exist t y c h e s p true o = Answers h e (Exist s) (h.seen) Exists p.act tt refl tt
goes_exist t y c h e s p false o = looked p.look
  where
    looked : (l : Look) → Goes t y c (Acting e (Exist s)) h (exist_seen h e s p.act l)
    looked (Live u) = Answers h e (Exist s) (record h.seen { lives = h.seen.lives ++ s ∷ [] }) Exists p.act tt refl tt
    looked (Other n) = Answers h e (Exist s) (record h.seen { others = h.seen.others ++ (s, n) ∷ [] }) (NoSession n) p.act tt refl o

apart : (m n : ℕ) → (m == n) ≡ false → ¬ (m ≡ n)
apart m n q e = absurd (let r : (m == n) ≡ true = eq_same m n e in cc)

goes_info : (t : Terms) (y : ActorId) (c : ℕ) (h : Hand) (e : Event) (s : ℕ) (p : Ports) (v : Bool) → (if t.mode == 5 then false else is_own t h.own e s) ≡ v → Goes t y c (Acting e (Info s)) h (info t h e s p v)
goes_info t y c h e s p true o = Answers h e (Info s) (h.seen) (InfoIs (s % t.max_conn) 0) p.act tt refl (refl, (λ i j. refl))
goes_info t y c h e s p false o = looked p.look
  where
    not_own : (v w : Bool) → v ≡ false → w ≡ true → (if v then false else w) ≡ false → ⊥
    not_own true w i j r = absurd (cc)
    not_own false true i j r = absurd (cc)
    not_own false false i j r = absurd (cc)

    other : (v w : Bool) → (t.mode == 5) ≡ v → (if v then false else w) ≡ false → (t.mode ≡ 5) ⊎ (w ≡ false)
    other true w i r = inl (eq_is t.mode 5 i)
    other false w i r = inr r

    looked : (l : Look) → Goes t y c (Acting e (Info s)) h (info_seen t h e s p.act l)
    looked (Live u) = Answers h e (Info s) (record h.seen { lives = h.seen.lives ++ s ∷ []; infos = h.seen.infos ++ (s, u) ∷ [] }) (InfoIs (s % t.max_conn) u) p.act tt refl (refl, (λ i j. absurd (not_own (t.mode == 5) (is_own t h.own e s) (eq_other t.mode 5 i) j o)))
    looked (Other n) = Answers h e (Info s) (record h.seen { others = h.seen.others ++ (s, n) ∷ [] }) (NoSession n) p.act tt refl (other (t.mode == 5) (is_own t h.own e s) refl o)

goes_bind : (t : Terms) (y : ActorId) (c : ℕ) (h : Hand) (e : Event) (s u : ℕ) (p : Ports) (v : Bool) → (t.mode == 5) ≡ v → BindFits u p.binding → Goes t y c (Acting e (Bind s u)) h (bind h e s u p v)
goes_bind t y c h e s u p true q f = found p.binding f
  where
    found : (b : Result (Unit {0}) BindFault) → BindFits u b → Goes t y c (Acting e (Bind s u)) h (bind_seen h e s u p.act b)
    found (Ok v) g = Answers h e (Bind s u) (record h.seen { lives = h.seen.lives ++ s ∷ []; passes = h.seen.passes ++ (s, u) ∷ [] }) BindOk p.act tt refl (eq_is t.mode 5 q, g)
    found (Err fault.BadUid) g = Answers h e (Bind s u) (h.seen) BadUid p.act tt refl (eq_is t.mode 5 q, g)
    found (Err (fault.Other n)) g = Answers h e (Bind s u) (record h.seen { others = h.seen.others ++ (s, n) ∷ [] }) (NoSession n) p.act tt refl (eq_is t.mode 5 q, g)
    found (Err (fault.Bound v)) g = Answers h e (Bind s u) (record h.seen { lives = h.seen.lives ++ s ∷ []; bounds = h.seen.bounds ++ (s, v) ∷ [] }) (Bound v) p.act tt refl (eq_is t.mode 5 q, g)
goes_bind t y c h e s u p false q f = Answers h e (Bind s u) (h.seen) WrongMode p.act tt refl (apart t.mode 5 q)

pub fits_place : (t : Terms) (next : ℕ) (d : Dst) (idle : Option ℕ) → FitsDst d (Tasker (tasker_at t next d idle))
fits_place t next (At k) idle = refl
fits_place t next Any (Some k) = tt
fits_place t next Any None = tt

there_is : (t : Terms) (d : Dst) → is_there t d ≡ true → IsThere t d
there_is t Any q = tt
there_is t (At k) q = grind (arith, nat_tests)

there_not : (t : Terms) (d : Dst) → is_there t d ≡ false → ¬ IsThere t d
there_not t Any q i = absurd (cc)
there_not t (At k) q i = absurd (grind (arith, nat_tests))

tasker_there : (t : Terms) (next : ℕ) (d : Dst) (idle : Option ℕ) → ¬ (t.tasker_num ≡ 0) → IsThere t d → IdleFits t idle → tasker_at t next d idle < t.tasker_num
tasker_there t next (At k) idle n i f = i
tasker_there t next Any (Some k) n i f = f
tasker_there t next Any None n i f = mod_below next t.tasker_num (omega (arith, n))

goes_fit : (t : Terms) (w : ℕ) (c : ℕ) (h : Hand) (e : Event) (d : Dst) (b : List ℕ) (p : Ports) (v : Bool) → ¬ (t.tasker_num ≡ 0) → IsThere t d → IdleFits t p.idle → (h.next == 2 ^ 64 - 1) ≡ v → Goes t (Worker w) c (Acting e (TaskAct d b)) h (post_fit t w h e d b p v)
goes_fit t w c h e d b p true n i f q = Answers h e (TaskAct d b) (h.seen) IdsSpent p.act tt refl (refl, n, i, eq_is h.next (2 ^ 64 - 1) q)
goes_fit t w c h e d b p false n i f q = Aims h e (TaskAct d b) h.seen (Tasker (tasker_at t h.next d p.idle)) (EventMsg (Task w h.next b)) (Posted h.next) (CPost w (tasker_at t h.next d p.idle) d b refl (fits_place t h.next d p.idle) (apart h.next (2 ^ 64 - 1) q)) (record { here = refl; some = n; there = i; unspent = apart h.next (2 ^ 64 - 1) q }, refl) (tasker_there t h.next d p.idle n i f)

goes_to : (t : Terms) (w : ℕ) (c : ℕ) (h : Hand) (e : Event) (d : Dst) (b : List ℕ) (p : Ports) (v : Bool) → ¬ (t.tasker_num ≡ 0) → IdleFits t p.idle → is_there t d ≡ v → Goes t (Worker w) c (Acting e (TaskAct d b)) h (post_to t w h e d b p v)
goes_to t w c h e d b p true n f i = goes_fit t w c h e d b p (h.next == 2 ^ 64 - 1) n (there_is t d i) f refl
goes_to t w c h e d b p false n f i = Answers h e (TaskAct d b) (h.seen) BadTarget p.act tt refl (refl, n, there_not t d i)

goes_some : (t : Terms) (w : ℕ) (c : ℕ) (h : Hand) (e : Event) (d : Dst) (b : List ℕ) (p : Ports) (v : Bool) → IdleFits t p.idle → (t.tasker_num == 0) ≡ v → Goes t (Worker w) c (Acting e (TaskAct d b)) h (post_some t w h e d b p v)
goes_some t w c h e d b p true f n = Answers h e (TaskAct d b) (h.seen) NoTaskWorkers p.act tt refl (refl, eq_is t.tasker_num 0 n)
goes_some t w c h e d b p false f n = goes_to t w c h e d b p (is_there t d) (apart t.tasker_num 0 n) f refl

goes_post : (t : Terms) (y : ActorId) (c : ℕ) (h : Hand) (e : Event) (d : Dst) (b : List ℕ) (p : Ports) → IdleFits t p.idle → Goes t y c (Acting e (TaskAct d b)) h (post t y h e d b p)
goes_post t (Worker w) c h e d b p f = goes_some t w c h e d b p (t.tasker_num == 0) f refl
goes_post t Door c h e d b p f = Answers h e (TaskAct d b) (h.seen) NotHere p.act tt refl refl
goes_post t (Reactor n) c h e d b p f = Answers h e (TaskAct d b) (h.seen) NotHere p.act tt refl refl
goes_post t (Tasker n) c h e d b p f = Answers h e (TaskAct d b) (h.seen) NotHere p.act tt refl refl

goes_finish : (t : Terms) (y : ActorId) (c : ℕ) (h : Hand) (e : Event) (b : List ℕ) (p : Ports) → Goes t y c (Acting e (FinishAct b)) h (finish h e b p)
goes_finish t y c h (Task w id x) b p = Aims h (Task w id x) (FinishAct b) h.seen (Worker w) (EventMsg (Finish id b)) Finished (CGive w id x b refl) refl tt
goes_finish t y c h (Connect s) b p = Answers h (Connect s) (FinishAct b) (h.seen) NotHere p.act tt refl refl
goes_finish t y c h (Packet s i x) b p = Answers h (Packet s i x) (FinishAct b) (h.seen) NotHere p.act tt refl refl
goes_finish t y c h (Closed s) b p = Answers h (Closed s) (FinishAct b) (h.seen) NotHere p.act tt refl refl
goes_finish t y c h (Finish id x) b p = Answers h (Finish id x) (FinishAct b) (h.seen) NotHere p.act tt refl refl

-- what the Table answers by whether the call fits
placed_fits : (o : Option CallFault) (q : Placed) → AnswersFit o (Ok q) → o ≡ None
placed_fits None q g = refl
placed_fits (Some f) q g = absurd (cc)

argument_fault : (o : Option CallFault) (f : CallFault) → is_of_place f ≡ false → AnswersFit o (Err f) → o ≡ Some f
argument_fault None f q g = absurd (cc)
argument_fault (Some x) f q g = (let same : f ≡ x = cc in ap Some (sym same))

place_fault : (o : Option CallFault) (f : CallFault) → OfArguments o → is_of_place f ≡ true → AnswersFit o (Err f) → o ≡ None
place_fault None f a q g = refl
place_fault (Some x) f a q g = absurd (let same : f ≡ x = cc in let r : is_of_place f ≡ false = ap is_of_place same ∙ a in cc)

goes_call : (t : Terms) (y : ActorId) (c : ℕ) (h : Hand) (e : Event) (n : Call) (p : Ports) (cs : List Column) → t.columns ≡ cs → AnswersFit (call_fault t.columns n) p.called → Goes t y c (Acting e (Table n)) h (call h e n p cs)
goes_call t y c h e n p [] q f = Answers h e (Table n) (h.seen) NoTable p.act tt refl q
goes_call t y c h e n p (x ∷ xs) q f = called p.called f
  where
    some : t.columns ≡ x ∷ xs → ¬ (t.columns ≡ [])
    some r z = absurd (cc)

    refused : (b : CallFault) → AnswersFit (call_fault t.columns n) (Err b) → Goes t y c (Acting e (Table n)) h (call_refused h e n p.act b)
    refused (Busy word seen) g = Waits (Acting e (Table n)) h
    refused (Spent k) g = Answers h e (Table n) (record h.seen { spents = h.seen.spents ++ k ∷ [] }) (TableRefused (Spent k)) p.act tt refl (some q, place_fault (call_fault t.columns n) (Spent k) (call_faults t.columns n) refl g)
    refused BadKey g = Answers h e (Table n) (h.seen) (TableRefused BadKey) p.act tt refl (some q, argument_fault (call_fault t.columns n) BadKey refl g)
    refused NoColumn g = Answers h e (Table n) (h.seen) (TableRefused NoColumn) p.act tt refl (some q, argument_fault (call_fault t.columns n) NoColumn refl g)
    refused NotInt g = Answers h e (Table n) (h.seen) (TableRefused NotInt) p.act tt refl (some q, argument_fault (call_fault t.columns n) NotInt refl g)
    refused BadValue g = Answers h e (Table n) (h.seen) (TableRefused BadValue) p.act tt refl (some q, argument_fault (call_fault t.columns n) BadValue refl g)
    refused Range g = Answers h e (Table n) (h.seen) (TableRefused Range) p.act tt refl (some q, argument_fault (call_fault t.columns n) Range refl g)

    called : (r : Result Placed CallFault) → AnswersFit (call_fault t.columns n) r → Goes t y c (Acting e (Table n)) h (call_seen h e n p.cells p.act r)
    called (Ok k) g = Answers h e (Table n) (record h.seen { seat = h.seen.seat ++ (k.at, (n, (k.reply, p.cells))) ∷ [] }) (TableIs k.at k.reply p.cells) p.act tt refl (some q, placed_fits (call_fault t.columns n) k g)
    called (Err b) g = refused b g

goes_done : (t : Terms) (y : ActorId) (c : ℕ) (h : Hand) (e : Event) (ms : List (ActorId × Message)) → last_words t y e ≡ ms → Goes t y c (Acting e Done) h (done h e ms)
goes_done t y c h e [] q = Overs h e q
goes_done t y c h e ((to, m) ∷ ms) q = Leaves h e to m (one_word t y e to m ms q)

goes_make : (t : Terms) (y : ActorId) (c : ℕ) (h : Hand) (e : Event) (p : Ports) (act : Act) → PortsFit t (Acting e act) h p → Goes t y c (Acting e act) h (make t y h e p act)
goes_make t y c h e p (Send s b) f = goes_reach t y c h e (Send s b) s (SendMsg s b) Sent p (is_own t h.own e s) (CSend s b) tt (λ n. tt) (λ n q. q) tt
goes_make t y c h e p (Close s) f = goes_reach t y c h e (Close s) s (CloseMsg s) Asked p (is_own t h.own e s) (CClose s) tt (λ n. tt) (λ n q. q) tt
goes_make t y c h e p (Reset s) f = goes_reach t y c h e (Reset s) s (ResetMsg s) Asked p (is_own t h.own e s) (CReset s) tt (λ n. tt) (λ n q. q) tt
goes_make t y c h e p (Bind s u) f = goes_bind t y c h e s u p (t.mode == 5) refl f
goes_make t y c h e p (Exist s) f = goes_exist t y c h e s p (is_own t h.own e s) refl
goes_make t y c h e p (Info s) f = goes_info t y c h e s p (if t.mode == 5 then false else is_own t h.own e s) refl
goes_make t y c h e p (TaskAct d b) f = goes_post t y c h e d b p f
goes_make t y c h e p (FinishAct b) f = goes_finish t y c h e b p
goes_make t y c h e p (Table n) f = goes_call t y c h e n p t.columns refl f
goes_make t y c h e p (Stats n) f = Answers h e (Stats n) (record h.seen { sums = h.seen.sums ++ (n, p.sum) ∷ [] }) (Count p.sum) p.act tt refl tt
goes_make t y c h e p Shutdown f = Answers h e Shutdown (record h.seen { stops = h.seen.stops ++ 0 ∷ [] }) Asked p.act tt refl tt
goes_make t y c h e p Done f = goes_done t y c h e (last_words t y e) refl

goes_full : (t : Terms) (y : ActorId) (c : ℕ) (h : Hand) (e : Event) (act : Act) (to : ActorId) (m : Message) (a : Answer) (next : Act) → Goes t y c (Sending e act to m a) h (full h e act to m a next)
goes_full t y c h e (TaskAct d b) to m a next = Fulls h e d b to m a (record h.seen { fulls = h.seen.fulls ++ 0 ∷ [] }) next
goes_full t y c h e (Send s b) to m a next = Waits (Sending e (Send s b) to m a) h
goes_full t y c h e (Close s) to m a next = Waits (Sending e (Close s) to m a) h
goes_full t y c h e (Reset s) to m a next = Waits (Sending e (Reset s) to m a) h
goes_full t y c h e (Bind s u) to m a next = Waits (Sending e (Bind s u) to m a) h
goes_full t y c h e (Exist s) to m a next = Waits (Sending e (Exist s) to m a) h
goes_full t y c h e (Info s) to m a next = Waits (Sending e (Info s) to m a) h
goes_full t y c h e (FinishAct b) to m a next = Waits (Sending e (FinishAct b) to m a) h
goes_full t y c h e (Table n) to m a next = Waits (Sending e (Table n) to m a) h
goes_full t y c h e (Stats n) to m a next = Waits (Sending e (Stats n) to m a) h
goes_full t y c h e Shutdown to m a next = Waits (Sending e Shutdown to m a) h
goes_full t y c h e Done to m a next = Waits (Sending e Done to m a) h

goes_sending : (t : Terms) (y : ActorId) (c : ℕ) (h : Hand) (e : Event) (act : Act) (to : ActorId) (m : Message) (a : Answer) (p : Ports) (got : Got) → PushFits t to m got → Goes t y c (Sending e act to m a) h (sending h e act to m a p got)
goes_sending t y c h e act to m a p Pushed f = Sends h e act to m a p.act
goes_sending t y c h e act to m a p (Full n) f = subst (λ (x : Message). Goes t y c (Sending e act to m a) h (full h e act to x a p.act)) (sym f) (goes_full t y c h e act to m a p.act)
goes_sending t y c h e act to m a p Start f = absurd f
goes_sending t y c h e act to m a p (Took x n) f = absurd f
goes_sending t y c h e act to m a p Empty f = absurd f
goes_sending t y c h e act to m a p Nothing f = absurd f

goes_leaving : (t : Terms) (y : ActorId) (c : ℕ) (h : Hand) (e : Event) (to : ActorId) (m : Message) (got : Got) → PushFits t to m got → Goes t y c (Leaving e to m) h (leaving t h e to m got)
goes_leaving t y c h e to m Pushed f = Lefts h e to m
goes_leaving t y c h e to m (Full n) f = subst (λ (x : Message). Moved t y c (Leaving e to m) h (Leaving e to x) h) (sym f) (Waits (Leaving e to m) h)
goes_leaving t y c h e to m Start f = absurd f
goes_leaving t y c h e to m (Took x n) f = absurd f
goes_leaving t y c h e to m Empty f = absurd f
goes_leaving t y c h e to m Nothing f = absurd f

goes_next : (t : Terms) (y : ActorId) (c : ℕ) (h : Hand) (j : ℕ) (v : Bool) → Goes t y c (Stopping j) h (stop_if t (settle h (goodbye t j) NoMore) (suc j) v)
goes_next t y c h j true = Nexts h j
goes_next t y c h j false = Lasts h j

goes_stopping : (t : Terms) (y : ActorId) (c : ℕ) (h : Hand) (j : ℕ) (got : Got) → Goes t y c (Stopping j) h (stopping t y h j got)
goes_stopping t y c h j Pushed = goes_next t y c h j (ltb (suc j) (goodbyes t y))
goes_stopping t y c h j (Full n) = Waits (Stopping j) h
goes_stopping t y c h j Start = Waits (Stopping j) h
goes_stopping t y c h j (Took x n) = Waits (Stopping j) h
goes_stopping t y c h j Empty = Waits (Stopping j) h
goes_stopping t y c h j Nothing = Waits (Stopping j) h

goes_first : (t : Terms) (y : ActorId) (c : ℕ) (h : Hand) (v : Bool) → Goes t y c Idle h (stop_if t h 0 v)
goes_first t y c h true = Stops h
goes_first t y c h false = Nones h

goes_go : (t : Terms) (y : ActorId) (c : ℕ) (h : Hand) (v : Bool) → Goes t y c Idle h (go_if t y h v)
goes_go t y c h true = goes_first t y c h (ltb 0 (goodbyes t y))
goes_go t y c h false = Waits Idle h

-- the same behind a message that is counted alone
skips_first : (t : Terms) (y : ActorId) (c : ℕ) (h : Hand) (from : ActorId) (m : Message) (v : Bool) → heard_in y m ≡ [] → Goes t y c Idle h (stop_if t (skip h from m) 0 v)
skips_first t y c h from m true q = SkipStops h from m q
skips_first t y c h from m false q = SkipNones h from m q

skips_go : (t : Terms) (y : ActorId) (c : ℕ) (h : Hand) (from : ActorId) (m : Message) (v : Bool) → heard_in y m ≡ [] → Goes t y c Idle h (go_if t y (skip h from m) v)
skips_go t y c h from m true q = skips_first t y c h from m (ltb 0 (goodbyes t y)) q
skips_go t y c h from m false q = Skips h from m q

goes_skip : (t : Terms) (y : ActorId) (c : ℕ) (h : Hand) (from : ActorId) (m : Message) → heard_in y m ≡ [] → Goes t y c Idle h (go_on t y (skip h from m))
goes_skip t y c h from m q = skips_go t y c h from m (may_stop t y (skip h from m)) q

goes_event : (t : Terms) (y : ActorId) (c : ℕ) (h : Hand) (from : ActorId) (e : Event) (act : Act) (es : List Event) → for_hand y e ≡ es → Goes t y c Idle h (took_event t y c h from e act es)
goes_event t y c h from e act [] q = goes_skip t y c h from (EventMsg e) (append-nil (for_hand y e) ∙ q)
goes_event t y c h from e act (f ∷ fs) q = Hears h from e act (for_one y e f fs q)

goes_took : (t : Terms) (y : ActorId) (c : ℕ) (h : Hand) (from : ActorId) (act : Act) (m : Message) → Goes t y c Idle h (took_turn t y c h from act m)
goes_took t y c h from act (EventMsg e) = goes_event t y c h from e act (for_hand y e) refl
goes_took t y c h from act (FreshMsg ip s) = goes_skip t y c h from (FreshMsg ip s) refl
goes_took t y c h from act (SendMsg s b) = goes_skip t y c h from (SendMsg s b) refl
goes_took t y c h from act (CloseMsg s) = goes_skip t y c h from (CloseMsg s) refl
goes_took t y c h from act (ResetMsg s) = goes_skip t y c h from (ResetMsg s) refl
goes_took t y c h from act (Bye s) = goes_skip t y c h from (Bye s) refl
goes_took t y c h from act (OverMsg id) = goes_skip t y c h from (OverMsg id) refl
goes_took t y c h from act NoMore = goes_skip t y c h from NoMore refl

goes_idle : (t : Terms) (y : ActorId) (c : ℕ) (h : Hand) (p : Ports) (got : Got) → GotFits t Idle got → Goes t y c Idle h (idle_turn t y c h p got)
goes_idle t y c h p (Took from m) f = goes_took t y c h from p.act m
goes_idle t y c h p Empty f = Waits Idle h
goes_idle t y c h p Start f = goes_go t y c h (may_stop t y h)
goes_idle t y c h p Nothing f = goes_go t y c h (may_stop t y h)
goes_idle t y c h p Pushed f = absurd f
goes_idle t y c h p (Full m) f = absurd f

pub turn_moves : (t : Terms) (y : ActorId) (c : ℕ) (p : Ports) (st : Stage) (h : Hand) (got : Got) → PortsFit t st h p → GotFits t st got → Moved t y c st h (turn t y c p st h got).stage (turn t y c p st h got).hand
turn_moves t y c p Idle h got u f = goes_idle t y c h p got f
turn_moves t y c p (Acting e act) h got u f = goes_make t y c h e p act u
turn_moves t y c p (Sending e act to m a) h got u f = goes_sending t y c h e act to m a p got f
turn_moves t y c p (Leaving e to m) h got u f = goes_leaving t y c h e to m got f
turn_moves t y c p (Stopping j) h got u f = goes_stopping t y c h j got
turn_moves t y c p Stopped h got u f = absurd f
