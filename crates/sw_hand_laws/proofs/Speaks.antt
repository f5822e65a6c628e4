-- Each step of a hand keeps what it says: dialogue, what it was told, its talk, and where its messages go.
use Rattle.std.proofs.Common.{◌≡◌, ℕ, ◌-◌, ltb, ◌<◌, Bool, true, false, if◌then◌else◌, List, [], ◌∷◌, ◌++◌, refl, ap, ◌∙◌, sym, subst, append-nil, arith, inl, inr}
use Rattle.std.proofs.lemmas.Bool.Decides.{nat_tests}
use Rattle.sw_lists.specs.Lists.{collect, Each}
use Rattle.sw_lists.proofs.Lists.{each_append}
use Rattle.sw_step.specs.declared.actor.ActorId.{ActorId}
use Rattle.sw_step.specs.declared.actor.ActorId.TheVariants.{Door, Reactor, Worker, Tasker}
use Rattle.sw_step.specs.Actors.{is}
use Rattle.sw_record.specs.Words.{Event, Connect, Packet, Closed, Finish, Task, Act, TaskAct, Done, Answer, TaskFull, Given, EventGiven, AnswerGiven, Log, Dst}
use Rattle.sw_record.specs.Terms.{Terms, keeps, reactor_of}
use Rattle.sw_record.specs.Logs.{event_of}
use Rattle.sw_record.specs.Dialogue.{Dialogue, MayFollow}
use Rattle.sw_past.specs.Messages.{Message, CloseMsg, ResetMsg, EventMsg, NoMore}
use Rattle.sw_past.specs.Past.{bare, of}
use Rattle.sw_past.specs.Views.{heard_in, talk_in, for_hand}
use Rattle.sw_past.specs.Said.{said_by, said_last, said, owes, last_after, owed_after, settled}
use Rattle.sw_past.specs.Routes.{MayPush, IsHand, IsWorker, IsTasker}
use Rattle.sw_join.proofs.Talking.{said_settled, settled_more}
use Rattle.sw_hand_laws.specs.Hand.{Hand, Seen, Idle, Acting, Sending, Leaving, Stopping, Stopped, say, hear, skip, settle, answered, left_event, last_words, bye_of, bye_to, over_of, goodbye, goodbyes}
use Rattle.sw_hand_laws.specs.Keeps.{silent, Speaks, IsPresent, Carried, CSend, CClose, CReset, CPost, CGive}
use Rattle.sw_hand_laws.proofs.Ends.{told_same, one_more, bare_collect, of_collect, none_here, last_is, owed_is, follows, silent_said, heard_by, hears_send, last_hears, last_none}

-- what is settled once the last act and what is owed are known
settled_by : (t : Terms) (s : ℕ) (log : Log) (g : Given) (a : Act) (owed : List Message) (act : Act) → owed_after t s [] log ≡ owed → last_after Done log ≡ act → settled t s (log ++ (g, a) ∷ []) ≡ settled t s log ++ said_by s owed act g
settled_by t s log g a owed act p q = settled_more t s log g a ∙ ap (λ ms. settled t s log ++ said_by s ms (last_after Done log) g) p ∙ ap (λ (x : Act). settled t s log ++ said_by s owed x g) q

said_by_done : (t : Terms) (s : ℕ) (log : Log) (owed : List Message) → owed_after t s [] log ≡ owed → last_after Done log ≡ Done → said t s log ≡ settled t s log ++ owed
said_by_done t s log owed p q = said_settled t s log ∙ ap (λ ms. settled t s log ++ said_last s ms (last_after Done log)) p ∙ ap (λ (x : Act). settled t s log ++ said_last s owed x) q

follows_last : (log : Log) (act : Act) (g : Given) (a : Act) → Dialogue log → last_after Done log ≡ act → MayFollow act g → Dialogue (log ++ (g, a) ∷ [])
follows_last log act g a d q m = follows Done log g a d (subst (λ (x : Act). MayFollow x g) (sym q) m)

-- an answer at once
pub speaks_at_once : (t : Terms) (y : ActorId) (h : Hand) (e : Event) (act : Act) (seen : Seen) (a : Answer) (next : Act) → Speaks t y (Acting e act) h → MayFollow act (AnswerGiven a) → silent a ≡ true → Speaks t y (Acting e next) (say (record h { seen = seen }) (AnswerGiven a) next)
speaks_at_once t y h e act seen a next k may q = record {
  dialogue = follows_last h.log act (AnswerGiven a) next k.dialogue k.last may;
  last = last_is Done h.log (AnswerGiven a) next;
  mine = k.mine;
  owing = λ s. (owed_is t s [] h.log (AnswerGiven a) next ∙ (k.owing s).0, tt);
  carries = tt;
  told = told_same h.log a next ∙ k.told;
  talk = λ s. k.talk s ∙ sym (append-nil (settled t s h.log)) ∙ ap (λ ms. settled t s h.log ++ ms) (sym (silent_said s (owes t s e) act a q)) ∙ sym (settled_by t s h.log (AnswerGiven a) next (owes t s e) act (k.owing s).0 k.last);
  routed = k.routed;
}

-- a push for the act
pub speaks_asked : (t : Terms) (y : ActorId) (h : Hand) (e : Event) (act : Act) (seen : Seen) (to : ActorId) (m : Message) (a : Answer) → Speaks t y (Acting e act) h → Carried t y h.next e act to m a → Speaks t y (Sending e act to m a) (record h { seen = seen })
speaks_asked t y h e act seen to m a k c = record { dialogue = k.dialogue; last = k.last; mine = k.mine; owing = k.owing; carries = c; told = k.told; talk = k.talk; routed = k.routed }

-- what is carried answers its act, tells its reactor what the act says, and may be pushed
pub may_carried : (t : Terms) (y : ActorId) (next : ℕ) (e : Event) (act : Act) (to : ActorId) (m : Message) (a : Answer) → Carried t y next e act to m a → MayFollow act (AnswerGiven a)
may_carried t y next e act to m a (CSend s b) = tt
may_carried t y next e act to m a (CClose s) = tt
may_carried t y next e act to m a (CReset s) = tt
may_carried t y next e act to m a (CPost w k d b q f r) = tt
may_carried t y next e act to m a (CGive w id c b q) = tt

says_carried : (t : Terms) (y : ActorId) (next : ℕ) (e : Event) (act : Act) (to : ActorId) (m : Message) (a : Answer) (s : ℕ) (owed : List Message) → Carried t y next e act to m a → heard_by t s to m ≡ said_by s owed act (AnswerGiven a)
says_carried t y next e act to m a s owed (CSend u b) = hears_send t s u b
says_carried t y next e act to m a s owed (CClose u) = none_here (talk_in s) (is (Reactor (reactor_of t u)) (Reactor (reactor_of t s))) (CloseMsg u) refl
says_carried t y next e act to m a s owed (CReset u) = none_here (talk_in s) (is (Reactor (reactor_of t u)) (Reactor (reactor_of t s))) (ResetMsg u) refl
says_carried t y next e act to m a s owed (CPost w k d b q f r) = refl
says_carried t y next e act to m a s owed (CGive w id c b q) = refl

pub last_carried : (t : Terms) (y : ActorId) (next : ℕ) (e : Event) (act : Act) (to : ActorId) (m : Message) (a : Answer) (s : ℕ) (owed : List Message) → Carried t y next e act to m a → heard_by t s to m ≡ said_last s owed act
last_carried t y next e act to m a s owed (CSend u b) = hears_send t s u b
last_carried t y next e act to m a s owed (CClose u) = none_here (talk_in s) (is (Reactor (reactor_of t u)) (Reactor (reactor_of t s))) (CloseMsg u) refl
last_carried t y next e act to m a s owed (CReset u) = none_here (talk_in s) (is (Reactor (reactor_of t u)) (Reactor (reactor_of t s))) (ResetMsg u) refl
last_carried t y next e act to m a s owed (CPost w k d b q f r) = refl
last_carried t y next e act to m a s owed (CGive w id c b q) = refl

finish_from : (t : Terms) (y : ActorId) (w id : ℕ) (c : List ℕ) → IsHand t y → for_hand y (Task w id c) ≡ Task w id c ∷ [] → IsTasker t y
finish_from t y w id c (inr h) m = h
finish_from t y w id c (inl (k, (lt, q))) m = absurd (let r : for_hand (Worker k) (Task w id c) ≡ Task w id c ∷ [] = subst (λ (z : ActorId). for_hand z (Task w id c) ≡ Task w id c ∷ []) q m in cc)

pub may_push : (t : Terms) (y : ActorId) (next : ℕ) (e : Event) (act : Act) (to : ActorId) (m : Message) (a : Answer) → IsHand t y → IsPresent t to → for_hand y e ≡ e ∷ [] → Carried t y next e act to m a → MayPush t y to m
may_push t y next e act to m a h there mine (CSend u b) = (h, refl)
may_push t y next e act to m a h there mine (CClose u) = (h, refl)
may_push t y next e act to m a h there mine (CReset u) = (h, refl)
may_push t y next e act to m a h there mine (CPost w k d b q f r) = (q, (k, (there, refl)))
may_push t y next e act to m a h there mine (CGive w id c b q) = (finish_from t y w id c h (subst (λ (x : Event). for_hand y x ≡ x ∷ []) q mine), (w, (there, refl)))

is_worker : (t : Terms) (w : ℕ) → IsHand t (Worker w) → IsWorker t (Worker w)
is_worker t w (inl h) = h
is_worker t w (inr (k, (lt, q))) = absurd (cc)

abbrev Goes : Terms → ActorId → ActorId × Message → Type 0
Goes t y p = IsPresent t p.0 → MayPush t y p.0 p.1

byes_go : (t : Terms) (w : ℕ) (e : Event) → IsWorker t (Worker w) → Each (Goes t (Worker w)) (bye_of t e)
byes_go t w (Connect s) h = pick (keeps t.mode)
  where
    pick : (v : Bool) → Each (Goes t (Worker w)) (if v then [] else bye_to t s)
    pick true = tt
    pick false = ((λ there. (h, refl)), tt)
byes_go t w (Packet s i b) h = pick (keeps t.mode)
  where
    pick : (v : Bool) → Each (Goes t (Worker w)) (if v then [] else bye_to t s)
    pick true = tt
    pick false = ((λ there. (h, refl)), tt)
byes_go t w (Closed s) h = ((λ there. (h, refl)), tt)
byes_go t w (Finish id b) h = tt
byes_go t w (Task v id b) h = tt

overs_go : (t : Terms) (k : ℕ) (e : Event) → IsTasker t (Tasker k) → Each (Goes t (Tasker k)) (over_of e)
overs_go t k (Connect s) h = tt
overs_go t k (Packet s i b) h = tt
overs_go t k (Closed s) h = tt
overs_go t k (Finish id b) h = tt
overs_go t k (Task w id b) h = ((λ there. (h, (w, (there, refl)))), tt)

words_go : (t : Terms) (y : ActorId) (e : Event) → IsHand t y → Each (Goes t y) (last_words t y e)
words_go t Door e (inl (k, (lt, q))) = absurd (cc)
words_go t Door e (inr (k, (lt, q))) = absurd (cc)
words_go t (Reactor n) e (inl (k, (lt, q))) = absurd (cc)
words_go t (Reactor n) e (inr (k, (lt, q))) = absurd (cc)
words_go t (Worker w) e h = byes_go t w e (is_worker t w h)
words_go t (Tasker k) e (inl (w, (lt, q))) = absurd (cc)
words_go t (Tasker k) e (inr h) = overs_go t k e h

first_goes : (t : Terms) (y : ActorId) (p : ActorId × Message) (ps : List (ActorId × Message)) → Each (Goes t y) (p ∷ ps) → Goes t y p
first_goes t y p ps h = h.0

last_goes : (t : Terms) (y : ActorId) (e : Event) (to : ActorId) (m : Message) → IsHand t y → last_words t y e ≡ (to, m) ∷ [] → IsPresent t to → MayPush t y to m
last_goes t y e to m h q there = first_goes t y (to, m) [] (subst (Each (Goes t y)) q (words_go t y e h)) there

-- the act's message is pushed, and its answer given
pub speaks_answered : (t : Terms) (y : ActorId) (h : Hand) (e : Event) (act : Act) (to : ActorId) (m : Message) (a : Answer) (next : Act) → IsHand t y → IsPresent t to → Speaks t y (Sending e act to m a) h → Speaks t y (Acting e next) (answered h to m a next)
speaks_answered t y h e act to m a next hand there k = record {
  dialogue = follows_last h.log act (AnswerGiven a) next k.dialogue k.last (may_carried t y h.next e act to m a k.carries);
  last = last_is Done h.log (AnswerGiven a) next;
  mine = k.mine;
  owing = λ s. (owed_is t s [] h.log (AnswerGiven a) next ∙ (k.owing s).0, tt);
  carries = tt;
  told = told_same h.log a next ∙ k.told;
  talk = λ s. of_collect (talk_in s) (Reactor (reactor_of t s)) h.pushed to m ∙ ap (λ (ms : List Message). ms ++ heard_by t s to m) (k.talk s) ∙ ap (λ (ms : List Message). settled t s h.log ++ ms) (says_carried t y h.next e act to m a s (owes t s e) k.carries) ∙ sym (settled_by t s h.log (AnswerGiven a) next (owes t s e) act (k.owing s).0 k.last);
  routed = each_append (λ (p : ActorId × Message). MayPush t y p.0 p.1) h.pushed ((to, m) ∷ []) k.routed (may_push t y h.next e act to m a hand there k.mine.0 k.carries, tt);
}

-- a task finds its pipe full
pub speaks_full : (t : Terms) (y : ActorId) (h : Hand) (e : Event) (d : Dst) (b : List ℕ) (to : ActorId) (m : Message) (a : Answer) (next : Act) → Speaks t y (Sending e (TaskAct d b) to m a) h → Speaks t y (Acting e next) (say h (AnswerGiven TaskFull) next)
speaks_full t y h e d b to m a next k = speaks_at_once t y h e (TaskAct d b) h.seen TaskFull next (record { dialogue = k.dialogue; last = k.last; mine = k.mine; owing = k.owing; carries = tt; told = k.told; talk = k.talk; routed = k.routed }) tt refl

-- an event is heard
pub speaks_hear : (t : Terms) (y : ActorId) (c : ℕ) (h : Hand) (from : ActorId) (e : Event) (act : Act) → for_hand y e ≡ e ∷ [] → Speaks t y Idle h → Speaks t y (Acting e act) (hear t c h from e act)
speaks_hear t y c h from e act mine k = record {
  dialogue = follows_last h.log Done (EventGiven e) act k.dialogue k.last tt;
  last = last_is Done h.log (EventGiven e) act;
  mine = (mine, tt);
  owing = λ s. (owed_is t s [] h.log (EventGiven e) act, tt);
  carries = tt;
  told = one_more event_of h.log (EventGiven e, act) ∙ ap (λ (es : List Event). es ++ e ∷ []) k.told ∙ ap (λ (es : List Event). collect (heard_in y) (bare h.took) ++ es) (sym (append-nil (for_hand y e) ∙ mine)) ∙ sym (bare_collect (heard_in y) h.took from (EventMsg e));
  talk = λ s. k.talk s ∙ said_by_done t s h.log (owed_after t s [] h.log) refl k.last ∙ sym (settled_by t s h.log (EventGiven e) act (owed_after t s [] h.log) Done refl k.last);
  routed = k.routed;
}

-- another message is counted
pub speaks_skip : (t : Terms) (y : ActorId) (h : Hand) (from : ActorId) (m : Message) → heard_in y m ≡ [] → Speaks t y Idle h → Speaks t y Idle (skip h from m)
speaks_skip t y h from m none k = record {
  dialogue = k.dialogue;
  last = k.last;
  mine = tt;
  owing = k.owing;
  carries = tt;
  told = k.told ∙ sym (append-nil (collect (heard_in y) (bare h.took))) ∙ ap (λ (es : List Event). collect (heard_in y) (bare h.took) ++ es) (sym none) ∙ sym (bare_collect (heard_in y) h.took from m);
  talk = k.talk;
  routed = k.routed;
}

-- an event without last words is over
pub speaks_over : (t : Terms) (y : ActorId) (h : Hand) (e : Event) → last_words t y e ≡ [] → Speaks t y (Acting e Done) h → Speaks t y Idle h
speaks_over t y h e none k = record {
  dialogue = k.dialogue;
  last = k.last;
  mine = tt;
  owing = λ s. tt;
  carries = tt;
  told = k.told;
  talk = λ s. k.talk s ∙ sym (append-nil (settled t s h.log)) ∙ ap (λ (ms : List Message). settled t s h.log ++ ms) (sym (last_none t y s e k.mine.0 none)) ∙ sym (said_by_done t s h.log (owes t s e) (k.owing s).0 k.last);
  routed = k.routed;
}

pub speaks_leave : (t : Terms) (y : ActorId) (h : Hand) (e : Event) (to : ActorId) (m : Message) → last_words t y e ≡ (to, m) ∷ [] → Speaks t y (Acting e Done) h → Speaks t y (Leaving e to m) h
speaks_leave t y h e to m q k = record { dialogue = k.dialogue; last = k.last; mine = k.mine; owing = k.owing; carries = q; told = k.told; talk = k.talk; routed = k.routed }

pub speaks_left : (t : Terms) (y : ActorId) (h : Hand) (e : Event) (to : ActorId) (m : Message) → IsHand t y → IsPresent t to → Speaks t y (Leaving e to m) h → Speaks t y Idle (left_event t h e to m)
speaks_left t y h e to m hand there k = record {
  dialogue = k.dialogue;
  last = k.last;
  mine = tt;
  owing = λ s. tt;
  carries = tt;
  told = k.told;
  talk = λ s. of_collect (talk_in s) (Reactor (reactor_of t s)) h.pushed to m ∙ ap (λ (ms : List Message). ms ++ heard_by t s to m) (k.talk s) ∙ ap (λ (ms : List Message). settled t s h.log ++ ms) (last_hears t y s e to m k.mine.0 k.carries) ∙ sym (said_by_done t s h.log (owes t s e) (k.owing s).0 k.last);
  routed = each_append (λ (p : ActorId × Message). MayPush t y p.0 p.1) h.pushed ((to, m) ∷ []) k.routed (last_goes t y e to m hand k.carries there, tt);
}

-- NoMore
ends_if : (t : Terms) (y : ActorId) (k : ℕ) (v : Bool) → ltb k t.reactor_num ≡ v → k < goodbyes t y → IsHand t y → IsPresent t (if v then Reactor k else Tasker (k - t.reactor_num)) → MayPush t y (if v then Reactor k else Tasker (k - t.reactor_num)) NoMore
ends_if t y k true q lt h there = inr h
ends_if t y k false q lt (inl h) there = h
ends_if t y k false q lt (inr (j, (jt, e))) there = absurd (let u : k < goodbyes t (Tasker j) = subst (λ (z : ActorId). k < goodbyes t z) e lt in grind (arith, nat_tests))

may_end : (t : Terms) (y : ActorId) (k : ℕ) → k < goodbyes t y → IsHand t y → IsPresent t (goodbye t k) → MayPush t y (goodbye t k) NoMore
may_end t y k lt h there = ends_if t y k (ltb k t.reactor_num) refl lt h there

pub speaks_stop : (t : Terms) (y : ActorId) (h : Hand) (k : ℕ) → k < goodbyes t y → Speaks t y Idle h → Speaks t y (Stopping k) h
speaks_stop t y h k lt s = record { dialogue = s.dialogue; last = s.last; mine = tt; owing = s.owing; carries = lt; told = s.told; talk = s.talk; routed = s.routed }

pub speaks_stopped : (t : Terms) (y : ActorId) (h : Hand) → Speaks t y Idle h → Speaks t y Stopped h
speaks_stopped t y h s = record { dialogue = s.dialogue; last = s.last; mine = tt; owing = s.owing; carries = tt; told = s.told; talk = s.talk; routed = s.routed }

pub speaks_ended : (t : Terms) (y : ActorId) (h : Hand) (k : ℕ) → IsHand t y → IsPresent t (goodbye t k) → Speaks t y (Stopping k) h → Speaks t y Idle (settle h (goodbye t k) NoMore)
speaks_ended t y h k hand there s = record {
  dialogue = s.dialogue;
  last = s.last;
  mine = tt;
  owing = s.owing;
  carries = tt;
  told = s.told;
  talk = λ u. of_collect (talk_in u) (Reactor (reactor_of t u)) h.pushed (goodbye t k) NoMore ∙ ap (λ ms. collect (talk_in u) (of (Reactor (reactor_of t u)) h.pushed) ++ ms) (none_here (talk_in u) (is (goodbye t k) (Reactor (reactor_of t u))) NoMore refl) ∙ append-nil (collect (talk_in u) (of (Reactor (reactor_of t u)) h.pushed)) ∙ s.talk u;
  routed = each_append (λ (p : ActorId × Message). MayPush t y p.0 p.1) h.pushed ((goodbye t k, NoMore) ∷ []) s.routed (may_end t y k s.carries hand there, tt);
}
