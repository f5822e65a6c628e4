-- Every turn keeps all that a hand keeps, whatever the pipe, the ports and the handler answer.
use Rattle.std.proofs.Common.{◌≡◌, ℕ, ◌-◌, ◌%◌, ◌^◌, ltb, leb, ◌<◌, ◌==◌, Bool, true, false, if◌then◌else◌, List, [], ◌∷◌, ◌++◌, length, refl, ◌∙◌, sym, subst, append-nil, arith, Option, inl, inr, suc, Err, Ok, Result}
use Rattle.std.proofs.lemmas.Bool.Decides.{nat_tests}
use Rattle.sw_lists.specs.Lists.{Each, IsPrefix}
use Rattle.sw_lists.proofs.Lists.{prefix_refl, prefix_front}
use Rattle.sw_step.specs.declared.actor.ActorId.{ActorId}
use Rattle.sw_step.specs.declared.actor.ActorId.TheVariants.{Door, Reactor, Worker, Tasker}
use Rattle.sw_base.specs.declared.table.CallFault.TheVariants.{Busy, BadKey, BadValue, NoColumn, NotInt, Range, Spent}
use Rattle.sw_column.specs.declared.column.Column.{Column}
use Rattle.sw_port_book.specs.declared.answers.Look.{Look}
use Rattle.sw_port_book.specs.declared.answers.Look.TheVariants.{Live, Other}
use Rattle.sw_port_book.specs.declared.answers.BindFault.{BindFault}
use Rattle.sw_port_shelf.specs.declared.shelf.Placed.{Placed}
use Rattle.sw_record.specs.Words.{Event, Connect, Packet, Closed, Finish, Task, Act, Send, Close, Reset, Bind, Exist, Info, TaskAct, FinishAct, Table, Stats, Shutdown, Done, Answer, Sent, Asked, BindOk, Exists, InfoIs, Posted, Finished, TableIs, TableRefused, Count, NoSession, Bound, BadUid, WrongMode, TaskFull, BadTarget, NoTaskWorkers, IdsSpent, NotHere, NoTable, AnswerGiven, Call, CallFault, Dst}
use Rattle.sw_record.specs.Terms.{Terms, reactor_of}
use Rattle.sw_record.specs.Dialogue.{MayFollow}
use Rattle.sw_record.specs.Causes.{granted}
use Rattle.sw_record.specs.Fits.{is_own}
use Rattle.sw_past.specs.Messages.{Message, FreshMsg, SendMsg, CloseMsg, ResetMsg, Bye, EventMsg, OverMsg, NoMore}
use Rattle.sw_past.specs.Views.{for_hand, heard_in, task_in, no_more}
use Rattle.sw_past.specs.Routes.{IsHand}
use Rattle.sw_join.proofs.Own.{own}
use Rattle.sw_hand_laws.specs.Hand.{Got, Start, Took, Empty, Pushed, Full, Nothing, Push, Ports, Seen, Stage, Idle, Acting, Sending, Leaving, Stopping, Stopped, Hand, last_words, goodbye, goodbyes, enders, say, hear, skip, settle, answered, left_event, at_once, reach_seen, reach, exist_seen, exist, info_seen, info, bind_seen, bind, tasker_at, is_there, post_fit, post_to, post_some, post, finish, call_seen, call, done, make, full, sending, leaving, stop_if, stopping, go_if, may_stop, go_on, took_event, took_turn, idle_turn, turn, call_refused}
use Rattle.sw_hand_laws.specs.Keeps.{IsPresent, Carried, CSend, CClose, CReset, CPost, CGive, silent}
use Rattle.sw_hand_laws.specs.Tasks.{Posting}
use Rattle.sw_hand_laws.specs.Shows.{Granted, Asks, Noted}
use Rattle.sw_hand_laws.specs.Ending.{MayStop}
use Rattle.sw_hand_laws.specs.Kept.{Kept, PushFits, GotFits, Went}
use Rattle.sw_hand_laws.proofs.Ends.{words_are, one_word, for_one, at_end}
use Rattle.sw_hand_laws.proofs.Speaks.{speaks_at_once, speaks_asked, speaks_answered, speaks_hear, speaks_skip, speaks_over, speaks_leave, speaks_left, speaks_stop, speaks_stopped, speaks_ended}
use Rattle.sw_hand_laws.proofs.Posting.{posting_at_once, posting_seen, posting_answered, posting_hear, posting_skip, posting_settle}
use Rattle.sw_hand_laws.proofs.Making.{making_at_once, making_stage, making_answered, making_hear, making_skip, making_over, making_left, making_ended}
use Rattle.sw_hand_laws.proofs.Showing.{showing_at_once, showing_asked, showing_answered, showing_hear, showing_stage, showing_over, showing_skip, showing_settle, showing_left, own_granted}
use Rattle.sw_hand_laws.proofs.Ending.{ending_stage, ending_say, ending_seen, carried_not, ending_answered, ending_left, ending_hear, ending_skip, ending_stop, ending_none, ending_next, ending_last}
use Rattle.sw_port_book.specs.declared.answers.BindFault.TheVariants as fault
use Rattle.sw_hand_laws.proofs.Moves.{fits_place}

-- the steps
kept_at_once : (t : Terms) (y : ActorId) (h : Hand) (e : Event) (act : Act) (after : Seen) (a : Answer) (next : Act) → MayFollow act (AnswerGiven a) → silent a ≡ true → Noted t h.log h.seen act a after → Kept t y (Acting e act) h → Kept t y (Acting e next) (say (record h { seen = after }) (AnswerGiven a) next)
kept_at_once t y h e act after a next may q n k = record {
  speaks = speaks_at_once t y h e act after a next k.speaks may q;
  posting = λ w r. posting_at_once w h after a next q (k.posting w r);
  making = making_at_once h e act after a next q k.making;
  showing = showing_at_once t h e act after a next k.speaks.last n k.showing;
  ending = ending_stage t y (Acting e act) (Acting e next) (say (record h { seen = after }) (AnswerGiven a) next) refl tt (ending_say t y (Acting e act) h after (AnswerGiven a) next k.ending);
}

kept_asked : (t : Terms) (y : ActorId) (h : Hand) (e : Event) (act : Act) (lives : List ℕ) (to : ActorId) (m : Message) (a : Answer) → Carried t y h.next e act to m a → IsPrefix h.seen.lives lives → Each (Granted h.log (record h.seen { lives = lives })) (granted (act, a)) → Kept t y (Acting e act) h → Kept t y (Sending e act to m a) (record h { seen = record h.seen { lives = lives } })
kept_asked t y h e act lives to m a c p g k = record {
  speaks = speaks_asked t y h e act (record h.seen { lives = lives }) to m a k.speaks c;
  posting = λ w r. posting_seen w h (record h.seen { lives = lives }) (k.posting w r);
  making = making_stage (Acting e act) (Sending e act to m a) h (record h.seen { lives = lives }) refl k.making;
  showing = showing_asked t h e act lives to m a p g k.showing;
  ending = ending_stage t y (Acting e act) (Sending e act to m a) (record h { seen = record h.seen { lives = lives } }) refl tt (ending_seen t y e act h (record h.seen { lives = lives }) k.ending);
}

kept_answered : (t : Terms) (y : ActorId) (h : Hand) (e : Event) (act : Act) (to : ActorId) (m : Message) (a : Answer) (next : Act) → IsHand t y → IsPresent t to → Kept t y (Sending e act to m a) h → Kept t y (Acting e next) (answered h to m a next)
kept_answered t y h e act to m a next hand there k = record {
  speaks = speaks_answered t y h e act to m a next hand there k.speaks;
  posting = λ w r. posting_answered t w h e act to m a next k.speaks.last (subst (λ (z : ActorId). Carried t z h.next e act to m a) r k.speaks.carries) (k.posting w r);
  making = making_answered t y h e act to m a next k.speaks.last k.speaks.carries k.making;
  showing = showing_answered t y h e act to m a next k.speaks.last k.speaks.carries k.showing;
  ending = ending_answered t y h e act to m a next (carried_not t y h.next e act to m a k.speaks.carries) k.ending;
}

kept_again : (t : Terms) (y : ActorId) (h : Hand) (e : Event) (act : Act) (to : ActorId) (m : Message) (a : Answer) → Kept t y (Sending e act to m a) h → Kept t y (Acting e act) h
kept_again t y h e act to m a k = record {
  speaks = record { dialogue = k.speaks.dialogue; last = k.speaks.last; mine = k.speaks.mine; owing = k.speaks.owing; carries = tt; told = k.speaks.told; talk = k.speaks.talk; routed = k.speaks.routed };
  posting = k.posting;
  making = making_stage (Sending e act to m a) (Acting e act) h h.seen refl k.making;
  showing = showing_stage t (Sending e act to m a) (Acting e act) h refl tt k.showing;
  ending = ending_stage t y (Sending e act to m a) (Acting e act) h refl tt k.ending;
}

kept_hear : (t : Terms) (y : ActorId) (c : ℕ) (h : Hand) (from : ActorId) (e : Event) (act : Act) → for_hand y e ≡ e ∷ [] → Kept t y Idle h → Kept t y (Acting e act) (hear t c h from e act)
kept_hear t y c h from e act mine k = record {
  speaks = speaks_hear t y c h from e act mine k.speaks;
  posting = λ w r. posting_hear t w c h from e act (k.posting w r);
  making = making_hear t c h from e act k.making;
  showing = showing_hear t c h from e act k.showing;
  ending = ending_hear t y c h from e act k.ending;
}

kept_skip : (t : Terms) (y : ActorId) (h : Hand) (from : ActorId) (m : Message) → heard_in y m ≡ [] → Kept t y Idle h → Kept t y Idle (skip h from m)
kept_skip t y h from m none k = record {
  speaks = speaks_skip t y h from m none k.speaks;
  posting = λ w r. posting_skip w h from m (k.posting w r);
  making = making_skip Idle h from m k.making;
  showing = showing_skip t Idle h from m k.showing;
  ending = ending_skip t y h from m k.ending;
}

kept_over : (t : Terms) (y : ActorId) (h : Hand) (e : Event) → last_words t y e ≡ [] → Kept t y (Acting e Done) h → Kept t y Idle h
kept_over t y h e none k = record {
  speaks = speaks_over t y h e none k.speaks;
  posting = k.posting;
  making = making_over t y h e Done k.speaks.mine.0 none k.making;
  showing = showing_over t (Acting e Done) h k.showing;
  ending = ending_stage t y (Acting e Done) Idle h refl tt k.ending;
}

kept_leave : (t : Terms) (y : ActorId) (h : Hand) (e : Event) (to : ActorId) (m : Message) → last_words t y e ≡ (to, m) ∷ [] → Kept t y (Acting e Done) h → Kept t y (Leaving e to m) h
kept_leave t y h e to m q k = record {
  speaks = speaks_leave t y h e to m q k.speaks;
  posting = k.posting;
  making = making_stage (Acting e Done) (Leaving e to m) h h.seen refl k.making;
  showing = showing_stage t (Acting e Done) (Leaving e to m) h refl tt k.showing;
  ending = ending_stage t y (Acting e Done) (Leaving e to m) h refl tt k.ending;
}

words_quiet : (t : Terms) (y : ActorId) (h : Hand) (w : ℕ) (e : Event) (to : ActorId) (m : Message) → last_words t y e ≡ (to, m) ∷ [] → (task_in w m ≡ []) × ((no_more m ≡ []) × Asks h.log m)
words_quiet t y h w e to m q = words_are (λ (p : ActorId × Message). (task_in w p.1 ≡ []) × ((no_more p.1 ≡ []) × Asks h.log p.1)) (λ n s. (refl, (refl, tt))) (λ v id. (refl, (refl, tt))) t y e to m q

kept_left : (t : Terms) (y : ActorId) (h : Hand) (e : Event) (to : ActorId) (m : Message) → IsHand t y → IsPresent t to → Kept t y (Leaving e to m) h → Kept t y Idle (left_event t h e to m)
kept_left t y h e to m hand there k = record {
  speaks = speaks_left t y h e to m hand there k.speaks;
  posting = λ w r. posting_own w h to m (own_of h) (posting_settle w h to m (words_quiet t y h w e to m k.speaks.carries).0 (k.posting w r));
  making = making_left t y h e to m k.speaks.mine.0 k.speaks.carries k.making;
  showing = showing_left t h e to m (words_quiet t y h 0 e to m k.speaks.carries).1.1 k.showing;
  ending = ending_left t y h e to m (words_quiet t y h 0 e to m k.speaks.carries).1.0 k.ending;
}
  where
    own_of : Hand → ℕ → Option ℕ
    own_of x = (left_event t x e to m).own

    posting_own : (w : ℕ) (x : Hand) (v : ActorId) (n : Message) (own : ℕ → Option ℕ) → Posting w (settle x v n) → Posting w (record (settle x v n) { own = own })
    posting_own w x v n own p = record { logged = p.logged; mail = p.mail; overs = p.overs }

kept_stop : (t : Terms) (y : ActorId) (h : Hand) → 0 < goodbyes t y → MayStop t y h → Kept t y Idle h → Kept t y (Stopping 0) h
kept_stop t y h lt s k = record {
  speaks = speaks_stop t y h 0 lt k.speaks;
  posting = k.posting;
  making = making_stage Idle (Stopping 0) h h.seen refl k.making;
  showing = showing_stage t Idle (Stopping 0) h refl tt k.showing;
  ending = ending_stop t y h s k.ending;
}

kept_none : (t : Terms) (y : ActorId) (h : Hand) → goodbyes t y ≡ 0 → MayStop t y h → Kept t y Idle h → Kept t y Stopped h
kept_none t y h q s k = record {
  speaks = speaks_stopped t y h k.speaks;
  posting = k.posting;
  making = making_stage Idle Stopped h h.seen refl k.making;
  showing = showing_stage t Idle Stopped h refl tt k.showing;
  ending = ending_none t y h q s k.ending;
}

kept_next : (t : Terms) (y : ActorId) (h : Hand) (j : ℕ) → IsHand t y → IsPresent t (goodbye t j) → suc j < goodbyes t y → Kept t y (Stopping j) h → Kept t y (Stopping (suc j)) (settle h (goodbye t j) NoMore)
kept_next t y h j hand there lt k = record {
  speaks = speaks_stop t y (settle h (goodbye t j) NoMore) (suc j) lt (speaks_ended t y h j hand there k.speaks);
  posting = λ w r. posting_settle w h (goodbye t j) NoMore refl (k.posting w r);
  making = making_stage (Stopping j) (Stopping (suc j)) (settle h (goodbye t j) NoMore) h.seen refl (making_ended (Stopping j) t h j k.making);
  showing = showing_stage t (Stopping j) (Stopping (suc j)) (settle h (goodbye t j) NoMore) refl tt (showing_settle t (Stopping j) h (goodbye t j) NoMore tt k.showing);
  ending = ending_next t y h j k.ending;
}

kept_last : (t : Terms) (y : ActorId) (h : Hand) (j : ℕ) → IsHand t y → IsPresent t (goodbye t j) → suc j ≡ goodbyes t y → Kept t y (Stopping j) h → Kept t y Stopped (settle h (goodbye t j) NoMore)
kept_last t y h j hand there q k = record {
  speaks = speaks_stopped t y (settle h (goodbye t j) NoMore) (speaks_ended t y h j hand there k.speaks);
  posting = λ w r. posting_settle w h (goodbye t j) NoMore refl (k.posting w r);
  making = making_stage (Stopping j) Stopped (settle h (goodbye t j) NoMore) h.seen refl (making_ended (Stopping j) t h j k.making);
  showing = showing_stage t (Stopping j) Stopped (settle h (goodbye t j) NoMore) refl tt (showing_settle t (Stopping j) h (goodbye t j) NoMore tt k.showing);
  ending = ending_last t y h j q k.ending;
}

-- an answer at once
went_once : (t : Terms) (y : ActorId) (h : Hand) (e : Event) (act : Act) (after : Seen) (a : Answer) (next : Act) → MayFollow act (AnswerGiven a) → silent a ≡ true → Noted t h.log h.seen act a after → Kept t y (Acting e act) h → Went t y (at_once (record h { seen = after }) e a next)
went_once t y h e act after a next may q n k = record { kept = kept_at_once t y h e act after a next may q n k; fits = refl }

-- Send, Close and Reset
went_reach : (t : Terms) (y : ActorId) (h : Hand) (e : Event) (act : Act) (s : ℕ) (m : Message) (a : Answer) (p : Ports) (v : Bool) → is_own t h.own e s ≡ v → Carried t y h.next e act (Reactor (reactor_of t s)) m a → granted (act, a) ≡ s ∷ [] → ((n : ℕ) → MayFollow act (AnswerGiven (NoSession n))) → ((n : ℕ) → Noted t h.log h.seen act (NoSession n) (record h.seen { others = h.seen.others ++ (s, n) ∷ [] })) → Kept t y (Acting e act) h → Went t y (reach t h e act s m a p v)
went_reach t y h e act s m a p true o c g may n k = record { kept = kept_asked t y h e act h.seen.lives (Reactor (reactor_of t s)) m a c (prefix_refl h.seen.lives) (subst (Each (Granted h.log h.seen)) (sym g) (inr (own_granted t (Acting e act) h e s refl k.showing o), tt)) k; fits = refl }
went_reach t y h e act s m a p false o c g may n k = looked p.look
  where
    looked : (l : Look) → Went t y (reach_seen t h e act s m a p.act l)
    looked (Live u) = record { kept = kept_asked t y h e act (h.seen.lives ++ s ∷ []) (Reactor (reactor_of t s)) m a c (prefix_front h.seen.lives (s ∷ [])) (subst (Each (Granted h.log (record h.seen { lives = h.seen.lives ++ s ∷ [] }))) (sym g) (inl (length h.seen.lives, at_end h.seen.lives s (length h.seen.lives) refl), tt)) k; fits = refl }
    looked (Other j) = went_once t y h e act (record h.seen { others = h.seen.others ++ (s, j) ∷ [] }) (NoSession j) p.act (may j) refl (n j) k

went_exist : (t : Terms) (y : ActorId) (h : Hand) (e : Event) (s : ℕ) (p : Ports) (v : Bool) → is_own t h.own e s ≡ v → Kept t y (Acting e (Exist s)) h → Went t y (exist h e s p v)
went_exist t y h e s p true o k = went_once t y h e (Exist s) h.seen Exists p.act tt refl (record { passes = refl; bounds = refl; others = refl; seat = refl; sums = refl; fulls = refl; stops = refl; busy = refl; spents = refl; lives = prefix_refl h.seen.lives; infos = prefix_refl h.seen.infos; finds = tt; grants = (inr (own_granted t (Acting e (Exist s)) h e s refl k.showing o), tt) }) k
went_exist t y h e s p false o k = looked p.look
  where
    looked : (l : Look) → Went t y (exist_seen h e s p.act l)
    looked (Live u) = went_once t y h e (Exist s) (record h.seen { lives = h.seen.lives ++ s ∷ [] }) Exists p.act tt refl (record { passes = refl; bounds = refl; others = refl; seat = refl; sums = refl; fulls = refl; stops = refl; busy = refl; spents = refl; lives = prefix_front h.seen.lives (s ∷ []); infos = prefix_refl h.seen.infos; finds = tt; grants = (inl (length h.seen.lives, at_end h.seen.lives s (length h.seen.lives) refl), tt) }) k
    looked (Other n) = went_once t y h e (Exist s) (record h.seen { others = h.seen.others ++ (s, n) ∷ [] }) (NoSession n) p.act tt refl (record { passes = refl; bounds = refl; others = refl; seat = refl; sums = refl; fulls = refl; stops = refl; busy = refl; spents = refl; lives = prefix_refl h.seen.lives; infos = prefix_refl h.seen.infos; finds = tt; grants = tt }) k

went_info : (t : Terms) (y : ActorId) (h : Hand) (e : Event) (s : ℕ) (p : Ports) (v : Bool) → (if t.mode == 5 then false else is_own t h.own e s) ≡ v → Kept t y (Acting e (Info s)) h → Went t y (info t h e s p v)
went_info t y h e s p true o k = went_once t y h e (Info s) h.seen (InfoIs (s % t.max_conn) 0) p.act tt refl (record { passes = refl; bounds = refl; others = refl; seat = refl; sums = refl; fulls = refl; stops = refl; busy = refl; spents = refl; lives = prefix_refl h.seen.lives; infos = prefix_refl h.seen.infos; finds = ((refl, inl refl), tt); grants = (inr (own_granted t (Acting e (Info s)) h e s refl k.showing (is_it (t.mode == 5) o)), tt) }) k
  where
    is_it : (w : Bool) → (if w then false else is_own t h.own e s) ≡ true → is_own t h.own e s ≡ true
    is_it true q = absurd (cc)
    is_it false q = q
went_info t y h e s p false o k = looked p.look
  where
    looked : (l : Look) → Went t y (info_seen t h e s p.act l)
    looked (Live u) = went_once t y h e (Info s) (record h.seen { lives = h.seen.lives ++ s ∷ []; infos = h.seen.infos ++ (s, u) ∷ [] }) (InfoIs (s % t.max_conn) u) p.act tt refl (record { passes = refl; bounds = refl; others = refl; seat = refl; sums = refl; fulls = refl; stops = refl; busy = refl; spents = refl; lives = prefix_front h.seen.lives (s ∷ []); infos = prefix_front h.seen.infos ((s, u) ∷ []); finds = ((refl, inr (length h.seen.infos, at_end h.seen.infos (s, u) (length h.seen.infos) refl)), tt); grants = (inl (length h.seen.lives, at_end h.seen.lives s (length h.seen.lives) refl), tt) }) k
    looked (Other n) = went_once t y h e (Info s) (record h.seen { others = h.seen.others ++ (s, n) ∷ [] }) (NoSession n) p.act tt refl (record { passes = refl; bounds = refl; others = refl; seat = refl; sums = refl; fulls = refl; stops = refl; busy = refl; spents = refl; lives = prefix_refl h.seen.lives; infos = prefix_refl h.seen.infos; finds = tt; grants = tt }) k

went_bind : (t : Terms) (y : ActorId) (h : Hand) (e : Event) (s u : ℕ) (p : Ports) (v : Bool) → Kept t y (Acting e (Bind s u)) h → Went t y (bind h e s u p v)
went_bind t y h e s u p true k = found p.binding
  where
    found : (b : Result (Unit {0}) BindFault) → Went t y (bind_seen h e s u p.act b)
    found (Ok v) = went_once t y h e (Bind s u) (record h.seen { lives = h.seen.lives ++ s ∷ []; passes = h.seen.passes ++ (s, u) ∷ [] }) BindOk p.act tt refl (record { passes = refl; bounds = refl; others = refl; seat = refl; sums = refl; fulls = refl; stops = refl; busy = refl; spents = refl; lives = prefix_front h.seen.lives (s ∷ []); infos = prefix_refl h.seen.infos; finds = tt; grants = (inl (length h.seen.lives, at_end h.seen.lives s (length h.seen.lives) refl), tt) }) k
    found (Err fault.BadUid) = went_once t y h e (Bind s u) h.seen BadUid p.act tt refl (record { passes = refl; bounds = refl; others = refl; seat = refl; sums = refl; fulls = refl; stops = refl; busy = refl; spents = refl; lives = prefix_refl h.seen.lives; infos = prefix_refl h.seen.infos; finds = tt; grants = tt }) k
    found (Err (fault.Other n)) = went_once t y h e (Bind s u) (record h.seen { others = h.seen.others ++ (s, n) ∷ [] }) (NoSession n) p.act tt refl (record { passes = refl; bounds = refl; others = refl; seat = refl; sums = refl; fulls = refl; stops = refl; busy = refl; spents = refl; lives = prefix_refl h.seen.lives; infos = prefix_refl h.seen.infos; finds = tt; grants = tt }) k
    found (Err (fault.Bound v)) = went_once t y h e (Bind s u) (record h.seen { lives = h.seen.lives ++ s ∷ []; bounds = h.seen.bounds ++ (s, v) ∷ [] }) (Bound v) p.act tt refl (record { passes = refl; bounds = refl; others = refl; seat = refl; sums = refl; fulls = refl; stops = refl; busy = refl; spents = refl; lives = prefix_front h.seen.lives (s ∷ []); infos = prefix_refl h.seen.infos; finds = tt; grants = tt }) k
went_bind t y h e s u p false k = went_once t y h e (Bind s u) h.seen WrongMode p.act tt refl (record { passes = refl; bounds = refl; others = refl; seat = refl; sums = refl; fulls = refl; stops = refl; busy = refl; spents = refl; lives = prefix_refl h.seen.lives; infos = prefix_refl h.seen.infos; finds = tt; grants = tt }) k

-- a task
went_post_fit : (t : Terms) (w : ℕ) (h : Hand) (e : Event) (d : Dst) (b : List ℕ) (p : Ports) (v : Bool) → (h.next == 2 ^ 64 - 1) ≡ v → Kept t (Worker w) (Acting e (TaskAct d b)) h → Went t (Worker w) (post_fit t w h e d b p v)
went_post_fit t w h e d b p true q k = went_once t (Worker w) h e (TaskAct d b) h.seen IdsSpent p.act tt refl (record { passes = refl; bounds = refl; others = refl; seat = refl; sums = refl; fulls = refl; stops = refl; busy = refl; spents = refl; lives = prefix_refl h.seen.lives; infos = prefix_refl h.seen.infos; finds = tt; grants = tt }) k
went_post_fit t w h e d b p false q k = record { kept = kept_asked t (Worker w) h e (TaskAct d b) h.seen.lives (Tasker (tasker_at t h.next d p.idle)) (EventMsg (Task w h.next b)) (Posted h.next) (CPost w (tasker_at t h.next d p.idle) d b refl (fits_place t h.next d p.idle) (λ r. absurd (grind (arith, nat_tests)))) (prefix_refl h.seen.lives) tt k; fits = refl }

went_post_to : (t : Terms) (w : ℕ) (h : Hand) (e : Event) (d : Dst) (b : List ℕ) (p : Ports) (v : Bool) → Kept t (Worker w) (Acting e (TaskAct d b)) h → Went t (Worker w) (post_to t w h e d b p v)
went_post_to t w h e d b p true k = went_post_fit t w h e d b p (h.next == 2 ^ 64 - 1) refl k
went_post_to t w h e d b p false k = went_once t (Worker w) h e (TaskAct d b) h.seen BadTarget p.act tt refl (record { passes = refl; bounds = refl; others = refl; seat = refl; sums = refl; fulls = refl; stops = refl; busy = refl; spents = refl; lives = prefix_refl h.seen.lives; infos = prefix_refl h.seen.infos; finds = tt; grants = tt }) k

went_post_some : (t : Terms) (w : ℕ) (h : Hand) (e : Event) (d : Dst) (b : List ℕ) (p : Ports) (v : Bool) → Kept t (Worker w) (Acting e (TaskAct d b)) h → Went t (Worker w) (post_some t w h e d b p v)
went_post_some t w h e d b p true k = went_once t (Worker w) h e (TaskAct d b) h.seen NoTaskWorkers p.act tt refl (record { passes = refl; bounds = refl; others = refl; seat = refl; sums = refl; fulls = refl; stops = refl; busy = refl; spents = refl; lives = prefix_refl h.seen.lives; infos = prefix_refl h.seen.infos; finds = tt; grants = tt }) k
went_post_some t w h e d b p false k = went_post_to t w h e d b p (is_there t d) k

went_post : (t : Terms) (y : ActorId) (h : Hand) (e : Event) (d : Dst) (b : List ℕ) (p : Ports) → Kept t y (Acting e (TaskAct d b)) h → Went t y (post t y h e d b p)
went_post t (Worker w) h e d b p k = went_post_some t w h e d b p (t.tasker_num == 0) k
went_post t Door h e d b p k = went_once t Door h e (TaskAct d b) h.seen NotHere p.act tt refl (record { passes = refl; bounds = refl; others = refl; seat = refl; sums = refl; fulls = refl; stops = refl; busy = refl; spents = refl; lives = prefix_refl h.seen.lives; infos = prefix_refl h.seen.infos; finds = tt; grants = tt }) k
went_post t (Reactor n) h e d b p k = went_once t (Reactor n) h e (TaskAct d b) h.seen NotHere p.act tt refl (record { passes = refl; bounds = refl; others = refl; seat = refl; sums = refl; fulls = refl; stops = refl; busy = refl; spents = refl; lives = prefix_refl h.seen.lives; infos = prefix_refl h.seen.infos; finds = tt; grants = tt }) k
went_post t (Tasker n) h e d b p k = went_once t (Tasker n) h e (TaskAct d b) h.seen NotHere p.act tt refl (record { passes = refl; bounds = refl; others = refl; seat = refl; sums = refl; fulls = refl; stops = refl; busy = refl; spents = refl; lives = prefix_refl h.seen.lives; infos = prefix_refl h.seen.infos; finds = tt; grants = tt }) k

went_finish : (t : Terms) (y : ActorId) (h : Hand) (e : Event) (b : List ℕ) (p : Ports) → Kept t y (Acting e (FinishAct b)) h → Went t y (finish h e b p)
went_finish t y h (Task w id c) b p k = record { kept = kept_asked t y h (Task w id c) (FinishAct b) h.seen.lives (Worker w) (EventMsg (Finish id b)) Finished (CGive w id c b refl) (prefix_refl h.seen.lives) tt k; fits = refl }
went_finish t y h (Connect s) b p k = went_once t y h (Connect s) (FinishAct b) h.seen NotHere p.act tt refl (record { passes = refl; bounds = refl; others = refl; seat = refl; sums = refl; fulls = refl; stops = refl; busy = refl; spents = refl; lives = prefix_refl h.seen.lives; infos = prefix_refl h.seen.infos; finds = tt; grants = tt }) k
went_finish t y h (Packet s i c) b p k = went_once t y h (Packet s i c) (FinishAct b) h.seen NotHere p.act tt refl (record { passes = refl; bounds = refl; others = refl; seat = refl; sums = refl; fulls = refl; stops = refl; busy = refl; spents = refl; lives = prefix_refl h.seen.lives; infos = prefix_refl h.seen.infos; finds = tt; grants = tt }) k
went_finish t y h (Closed s) b p k = went_once t y h (Closed s) (FinishAct b) h.seen NotHere p.act tt refl (record { passes = refl; bounds = refl; others = refl; seat = refl; sums = refl; fulls = refl; stops = refl; busy = refl; spents = refl; lives = prefix_refl h.seen.lives; infos = prefix_refl h.seen.infos; finds = tt; grants = tt }) k
went_finish t y h (Finish id c) b p k = went_once t y h (Finish id c) (FinishAct b) h.seen NotHere p.act tt refl (record { passes = refl; bounds = refl; others = refl; seat = refl; sums = refl; fulls = refl; stops = refl; busy = refl; spents = refl; lives = prefix_refl h.seen.lives; infos = prefix_refl h.seen.infos; finds = tt; grants = tt }) k

went_call : (t : Terms) (y : ActorId) (h : Hand) (e : Event) (c : Call) (p : Ports) (cs : List Column) → Kept t y (Acting e (Table c)) h → Went t y (call h e c p cs)
went_call t y h e c p [] k = went_once t y h e (Table c) h.seen NoTable p.act tt refl (record { passes = refl; bounds = refl; others = refl; seat = refl; sums = refl; fulls = refl; stops = refl; busy = refl; spents = refl; lives = prefix_refl h.seen.lives; infos = prefix_refl h.seen.infos; finds = tt; grants = tt }) k
went_call t y h e c p (x ∷ xs) k = called p.called
  where
    refused : (f : CallFault) → Went t y (call_refused h e c p.act f)
    refused (Busy word seen) = record { kept = k; fits = refl }
    refused (Spent n) = went_once t y h e (Table c) (record h.seen { spents = h.seen.spents ++ n ∷ [] }) (TableRefused (Spent n)) p.act tt refl (record { passes = refl; bounds = refl; others = refl; seat = refl; sums = refl; fulls = refl; stops = refl; busy = refl; spents = refl; lives = prefix_refl h.seen.lives; infos = prefix_refl h.seen.infos; finds = tt; grants = tt }) k
    refused BadKey = went_once t y h e (Table c) h.seen (TableRefused BadKey) p.act tt refl (record { passes = refl; bounds = refl; others = refl; seat = refl; sums = refl; fulls = refl; stops = refl; busy = refl; spents = refl; lives = prefix_refl h.seen.lives; infos = prefix_refl h.seen.infos; finds = tt; grants = tt }) k
    refused NoColumn = went_once t y h e (Table c) h.seen (TableRefused NoColumn) p.act tt refl (record { passes = refl; bounds = refl; others = refl; seat = refl; sums = refl; fulls = refl; stops = refl; busy = refl; spents = refl; lives = prefix_refl h.seen.lives; infos = prefix_refl h.seen.infos; finds = tt; grants = tt }) k
    refused NotInt = went_once t y h e (Table c) h.seen (TableRefused NotInt) p.act tt refl (record { passes = refl; bounds = refl; others = refl; seat = refl; sums = refl; fulls = refl; stops = refl; busy = refl; spents = refl; lives = prefix_refl h.seen.lives; infos = prefix_refl h.seen.infos; finds = tt; grants = tt }) k
    refused BadValue = went_once t y h e (Table c) h.seen (TableRefused BadValue) p.act tt refl (record { passes = refl; bounds = refl; others = refl; seat = refl; sums = refl; fulls = refl; stops = refl; busy = refl; spents = refl; lives = prefix_refl h.seen.lives; infos = prefix_refl h.seen.infos; finds = tt; grants = tt }) k
    refused Range = went_once t y h e (Table c) h.seen (TableRefused Range) p.act tt refl (record { passes = refl; bounds = refl; others = refl; seat = refl; sums = refl; fulls = refl; stops = refl; busy = refl; spents = refl; lives = prefix_refl h.seen.lives; infos = prefix_refl h.seen.infos; finds = tt; grants = tt }) k

    called : (r : Result Placed CallFault) → Went t y (call_seen h e c p.cells p.act r)
    called (Ok q) = went_once t y h e (Table c) (record h.seen { seat = h.seen.seat ++ (q.at, (c, (q.reply, p.cells))) ∷ [] }) (TableIs q.at q.reply p.cells) p.act tt refl (record { passes = refl; bounds = refl; others = refl; seat = refl; sums = refl; fulls = refl; stops = refl; busy = refl; spents = refl; lives = prefix_refl h.seen.lives; infos = prefix_refl h.seen.infos; finds = tt; grants = tt }) k
    called (Err f) = refused f

went_done : (t : Terms) (y : ActorId) (h : Hand) (e : Event) (ms : List (ActorId × Message)) → last_words t y e ≡ ms → Kept t y (Acting e Done) h → Went t y (done h e ms)
went_done t y h e [] q k = record { kept = kept_over t y h e q k; fits = inr (inr refl) }
went_done t y h e ((to, m) ∷ ms) q k = record { kept = kept_leave t y h e to m (one_word t y e to m ms q) k; fits = refl }

went_make : (t : Terms) (y : ActorId) (h : Hand) (e : Event) (p : Ports) (act : Act) → Kept t y (Acting e act) h → Went t y (make t y h e p act)
went_make t y h e p (Send s b) k = went_reach t y h e (Send s b) s (SendMsg s b) Sent p (is_own t h.own e s) refl (CSend s b) refl (λ n. tt) (λ n. record { passes = refl; bounds = refl; others = refl; seat = refl; sums = refl; fulls = refl; stops = refl; busy = refl; spents = refl; lives = prefix_refl h.seen.lives; infos = prefix_refl h.seen.infos; finds = tt; grants = tt }) k
went_make t y h e p (Close s) k = went_reach t y h e (Close s) s (CloseMsg s) Asked p (is_own t h.own e s) refl (CClose s) refl (λ n. tt) (λ n. record { passes = refl; bounds = refl; others = refl; seat = refl; sums = refl; fulls = refl; stops = refl; busy = refl; spents = refl; lives = prefix_refl h.seen.lives; infos = prefix_refl h.seen.infos; finds = tt; grants = tt }) k
went_make t y h e p (Reset s) k = went_reach t y h e (Reset s) s (ResetMsg s) Asked p (is_own t h.own e s) refl (CReset s) refl (λ n. tt) (λ n. record { passes = refl; bounds = refl; others = refl; seat = refl; sums = refl; fulls = refl; stops = refl; busy = refl; spents = refl; lives = prefix_refl h.seen.lives; infos = prefix_refl h.seen.infos; finds = tt; grants = tt }) k
went_make t y h e p (Bind s u) k = went_bind t y h e s u p (t.mode == 5) k
went_make t y h e p (Exist s) k = went_exist t y h e s p (is_own t h.own e s) refl k
went_make t y h e p (Info s) k = went_info t y h e s p (if t.mode == 5 then false else is_own t h.own e s) refl k
went_make t y h e p (TaskAct d b) k = went_post t y h e d b p k
went_make t y h e p (FinishAct b) k = went_finish t y h e b p k
went_make t y h e p (Table n) k = went_call t y h e n p t.columns k
went_make t y h e p (Stats n) k = went_once t y h e (Stats n) (record h.seen { sums = h.seen.sums ++ (n, p.sum) ∷ [] }) (Count p.sum) p.act tt refl (record { passes = refl; bounds = refl; others = refl; seat = refl; sums = refl; fulls = refl; stops = refl; busy = refl; spents = refl; lives = prefix_refl h.seen.lives; infos = prefix_refl h.seen.infos; finds = tt; grants = tt }) k
went_make t y h e p Shutdown k = went_once t y h e Shutdown (record h.seen { stops = h.seen.stops ++ 0 ∷ [] }) Asked p.act tt refl (record { passes = refl; bounds = refl; others = refl; seat = refl; sums = refl; fulls = refl; stops = refl; busy = refl; spents = refl; lives = prefix_refl h.seen.lives; infos = prefix_refl h.seen.infos; finds = tt; grants = tt }) k
went_make t y h e p Done k = went_done t y h e (last_words t y e) refl k

-- with the act's message on its way
full_noted : (t : Terms) (h : Hand) (d : Dst) (b : List ℕ) → Noted t h.log h.seen (TaskAct d b) TaskFull (record h.seen { fulls = h.seen.fulls ++ 0 ∷ [] })
full_noted t h d b = record { passes = refl; bounds = refl; others = refl; seat = refl; sums = refl; fulls = refl; stops = refl; busy = refl; spents = refl; lives = prefix_refl h.seen.lives; infos = prefix_refl h.seen.infos; finds = tt; grants = tt }

went_full : (t : Terms) (y : ActorId) (h : Hand) (e : Event) (act : Act) (to : ActorId) (m : Message) (a : Answer) (next : Act) → Kept t y (Sending e act to m a) h → Went t y (full h e act to m a next)
went_full t y h e (TaskAct d b) to m a next k = went_once t y h e (TaskAct d b) (record h.seen { fulls = h.seen.fulls ++ 0 ∷ [] }) TaskFull next tt refl (full_noted t h d b) (kept_again t y h e (TaskAct d b) to m a k)
went_full t y h e (Send s b) to m a next k = record { kept = k; fits = refl }
went_full t y h e (Close s) to m a next k = record { kept = k; fits = refl }
went_full t y h e (Reset s) to m a next k = record { kept = k; fits = refl }
went_full t y h e (Bind s u) to m a next k = record { kept = k; fits = refl }
went_full t y h e (Exist s) to m a next k = record { kept = k; fits = refl }
went_full t y h e (Info s) to m a next k = record { kept = k; fits = refl }
went_full t y h e (FinishAct b) to m a next k = record { kept = k; fits = refl }
went_full t y h e (Table n) to m a next k = record { kept = k; fits = refl }
went_full t y h e (Stats n) to m a next k = record { kept = k; fits = refl }
went_full t y h e Shutdown to m a next k = record { kept = k; fits = refl }
went_full t y h e Done to m a next k = record { kept = k; fits = refl }

went_sending : (t : Terms) (y : ActorId) (h : Hand) (e : Event) (act : Act) (to : ActorId) (m : Message) (a : Answer) (p : Ports) (got : Got) → IsHand t y → PushFits t to m got → Kept t y (Sending e act to m a) h → Went t y (sending h e act to m a p got)
went_sending t y h e act to m a p Pushed hand f k = record { kept = kept_answered t y h e act to m a p.act hand f k; fits = refl }
went_sending t y h e act to m a p (Full n) hand f k = subst (λ (x : Message). Went t y (full h e act to x a p.act)) (sym f) (went_full t y h e act to m a p.act k)
went_sending t y h e act to m a p Start hand f k = absurd f
went_sending t y h e act to m a p (Took x n) hand f k = absurd f
went_sending t y h e act to m a p Empty hand f k = absurd f
went_sending t y h e act to m a p Nothing hand f k = absurd f

went_leaving : (t : Terms) (y : ActorId) (h : Hand) (e : Event) (to : ActorId) (m : Message) (got : Got) → IsHand t y → PushFits t to m got → Kept t y (Leaving e to m) h → Went t y (leaving t h e to m got)
went_leaving t y h e to m Pushed hand f k = record { kept = kept_left t y h e to m hand f k; fits = inr (inr refl) }
went_leaving t y h e to m (Full n) hand f k = subst (λ (x : Message). Went t y (record { stage = Leaving e to x; hand = h; ask = Push to x })) (sym f) (record { kept = k; fits = refl })
went_leaving t y h e to m Start hand f k = absurd f
went_leaving t y h e to m (Took x n) hand f k = absurd f
went_leaving t y h e to m Empty hand f k = absurd f
went_leaving t y h e to m Nothing hand f k = absurd f

-- NoMore
went_next : (t : Terms) (y : ActorId) (h : Hand) (j : ℕ) (v : Bool) → IsHand t y → IsPresent t (goodbye t j) → ltb (suc j) (goodbyes t y) ≡ v → Kept t y (Stopping j) h → Went t y (stop_if t (settle h (goodbye t j) NoMore) (suc j) v)
went_next t y h j true hand there q k = record { kept = kept_next t y h j hand there (grind (arith, nat_tests)) k; fits = refl }
went_next t y h j false hand there q k = record { kept = kept_last t y h j hand there (let lt : j < goodbyes t y = k.speaks.carries in grind (arith, nat_tests)) k; fits = refl }

went_stopping : (t : Terms) (y : ActorId) (h : Hand) (j : ℕ) (got : Got) → IsHand t y → PushFits t (goodbye t j) NoMore got → Kept t y (Stopping j) h → Went t y (stopping t y h j got)
went_stopping t y h j Pushed hand f k = went_next t y h j (ltb (suc j) (goodbyes t y)) hand f refl k
went_stopping t y h j (Full n) hand f k = record { kept = k; fits = refl }
went_stopping t y h j Start hand f k = absurd f
went_stopping t y h j (Took x n) hand f k = absurd f
went_stopping t y h j Empty hand f k = absurd f
went_stopping t y h j Nothing hand f k = absurd f

-- without an event
went_first : (t : Terms) (y : ActorId) (h : Hand) (v : Bool) → ltb 0 (goodbyes t y) ≡ v → MayStop t y h → Kept t y Idle h → Went t y (stop_if t h 0 v)
went_first t y h true q s k = record { kept = kept_stop t y h (grind (arith, nat_tests)) s k; fits = refl }
went_first t y h false q s k = record { kept = kept_none t y h (grind (arith, nat_tests)) s k; fits = refl }

stop_known : (t : Terms) (y : ActorId) (h : Hand) (u v : Bool) → leb (enders t y) h.ended ≡ u → (h.out == 0) ≡ v → (if u then v else false) ≡ true → MayStop t y h
stop_known t y h true true p q r = (grind (arith, nat_tests), grind (arith, nat_tests))
stop_known t y h true false p q r = absurd (cc)
stop_known t y h false v p q r = absurd (cc)

went_go : (t : Terms) (y : ActorId) (h : Hand) (v : Bool) → may_stop t y h ≡ v → Kept t y Idle h → Went t y (go_if t y h v)
went_go t y h true q k = went_first t y h (ltb 0 (goodbyes t y)) refl (stop_known t y h (leb (enders t y) h.ended) (h.out == 0) refl refl q) k
went_go t y h false q k = record { kept = k; fits = inl refl }

went_on : (t : Terms) (y : ActorId) (h : Hand) → Kept t y Idle h → Went t y (go_on t y h)
went_on t y h k = went_go t y h (may_stop t y h) refl k

went_event : (t : Terms) (y : ActorId) (c : ℕ) (h : Hand) (from : ActorId) (e : Event) (act : Act) (es : List Event) → for_hand y e ≡ es → Kept t y Idle h → Went t y (took_event t y c h from e act es)
went_event t y c h from e act [] q k = went_on t y (skip h from (EventMsg e)) (kept_skip t y h from (EventMsg e) (append-nil (for_hand y e) ∙ q) k)
went_event t y c h from e act (f ∷ fs) q k = record { kept = kept_hear t y c h from e act (for_one y e f fs q) k; fits = refl }

went_took : (t : Terms) (y : ActorId) (c : ℕ) (h : Hand) (from : ActorId) (act : Act) (m : Message) → Kept t y Idle h → Went t y (took_turn t y c h from act m)
went_took t y c h from act (EventMsg e) k = went_event t y c h from e act (for_hand y e) refl k
went_took t y c h from act (FreshMsg ip s) k = went_on t y (skip h from (FreshMsg ip s)) (kept_skip t y h from (FreshMsg ip s) refl k)
went_took t y c h from act (SendMsg s b) k = went_on t y (skip h from (SendMsg s b)) (kept_skip t y h from (SendMsg s b) refl k)
went_took t y c h from act (CloseMsg s) k = went_on t y (skip h from (CloseMsg s)) (kept_skip t y h from (CloseMsg s) refl k)
went_took t y c h from act (ResetMsg s) k = went_on t y (skip h from (ResetMsg s)) (kept_skip t y h from (ResetMsg s) refl k)
went_took t y c h from act (Bye s) k = went_on t y (skip h from (Bye s)) (kept_skip t y h from (Bye s) refl k)
went_took t y c h from act (OverMsg id) k = went_on t y (skip h from (OverMsg id)) (kept_skip t y h from (OverMsg id) refl k)
went_took t y c h from act NoMore k = went_on t y (skip h from NoMore) (kept_skip t y h from NoMore refl k)

went_idle : (t : Terms) (y : ActorId) (c : ℕ) (h : Hand) (p : Ports) (got : Got) → GotFits t Idle got → Kept t y Idle h → Went t y (idle_turn t y c h p got)
went_idle t y c h p (Took from m) f k = went_took t y c h from p.act m k
went_idle t y c h p Empty f k = record { kept = k; fits = inr (inl refl) }
went_idle t y c h p Start f k = went_on t y h k
went_idle t y c h p Nothing f k = went_on t y h k
went_idle t y c h p Pushed f k = absurd f
went_idle t y c h p (Full m) f k = absurd f

-- every turn keeps all
pub turn_keeps : (t : Terms) (y : ActorId) (c : ℕ) (p : Ports) (st : Stage) (h : Hand) (got : Got) → IsHand t y → GotFits t st got → Kept t y st h → Went t y (turn t y c p st h got)
turn_keeps t y c p Idle h got hand f k = went_idle t y c h p got f k
turn_keeps t y c p (Acting e act) h got hand f k = went_make t y h e p act k
turn_keeps t y c p (Sending e act to m a) h got hand f k = went_sending t y h e act to m a p got hand f k
turn_keeps t y c p (Leaving e to m) h got hand f k = went_leaving t y h e to m got hand f k
turn_keeps t y c p (Stopping j) h got hand f k = went_stopping t y h j got hand f k
turn_keeps t y c p Stopped h got hand f k = absurd f
