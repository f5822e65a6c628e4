-- What is said of a list or a log with one more item at its end.
use Rattle.std.proofs.Common.{◌≡◌, ◌⊎◌, ℕ, ◌==◌, Bool, true, false, if◌then◌else◌, List, [], ◌∷◌, ◌++◌, length, slice_get, Some, refl, ap, ◌∙◌, sym, append-nil, append_assoc, subst, arith, inl, inr, zero, suc}
use Rattle.sw_lists.specs.Lists.{collect, when, Each}
use Rattle.sw_lists.proofs.Lists.{collect-append, eq_is}
use Rattle.sw_step.specs.declared.actor.ActorId.{ActorId}
use Rattle.sw_step.specs.declared.actor.ActorId.TheVariants.{Door, Reactor, Worker, Tasker}
use Rattle.sw_step.specs.Actors.{is}
use Rattle.sw_record.specs.Words.{Event, Connect, Packet, Closed, Finish, Task, Act, Done, Answer, Sent, Asked, BindOk, Exists, InfoIs, Posted, Finished, TableIs, TableRefused, Count, NoSession, Bound, BadUid, WrongMode, TaskFull, BadTarget, NoTaskWorkers, IdsSpent, NotHere, NoTable, Given, AnswerGiven, Log}
use Rattle.sw_record.specs.Terms.{Terms, keeps, reactor_of}
use Rattle.sw_record.specs.Logs.{event_of, events_of, EndsDone}
use Rattle.sw_record.specs.Dialogue.{DialogueAfter, MayFollow}
use Rattle.sw_record.specs.Tasks.{posted_by, gave_by, now_then, task_of}
use Rattle.sw_record.specs.Answers.{answers_after, answers_of, answer_to}
use Rattle.sw_past.specs.Messages.{Message, SendMsg, Bye, OverMsg}
use Rattle.sw_past.specs.Past.{Mail, bare, msg_of, of, with}
use Rattle.sw_past.specs.Said.{owed_then, said_by, owes, bye_for, last_after, owed_after, now_after}
use Rattle.sw_past.specs.Views.{talk_in, for_hand}
use Rattle.sw_join.specs.Drained.{LastMarked}
use Rattle.sw_join.proofs.Routes.{is_refl}
use Rattle.sw_hand_laws.specs.Hand.{last_words, bye_of, bye_to, over_of}
use Rattle.sw_hand_laws.specs.Keeps.{silent}

pub one_more : {A B : Type 0} (f : A → List B) (xs : List A) (x : A) → collect f (xs ++ x ∷ []) ≡ collect f xs ++ f x
one_more f xs x = collect-append f xs (x ∷ []) ∙ ap (λ zs. collect f xs ++ zs) (append-nil (f x))

pub bare_more : (ms : Mail) (x : ActorId) (m : Message) → bare (ms ++ (x, m) ∷ []) ≡ bare ms ++ m ∷ []
bare_more ms x m = one_more msg_of ms (x, m)

pub of_more : (z : ActorId) (ms : Mail) (x : ActorId) (m : Message) → of z (ms ++ (x, m) ∷ []) ≡ of z ms ++ when (is x z) m
of_more z ms x m = one_more (with z) ms (x, m)

pub bare_collect : {B : Type 0} (f : Message → List B) (ms : Mail) (x : ActorId) (m : Message) → collect f (bare (ms ++ (x, m) ∷ [])) ≡ collect f (bare ms) ++ f m
bare_collect f ms x m = ap (collect f) (bare_more ms x m) ∙ one_more f (bare ms) m

pub of_collect : {B : Type 0} (f : Message → List B) (z : ActorId) (ms : Mail) (x : ActorId) (m : Message) → collect f (of z (ms ++ (x, m) ∷ [])) ≡ collect f (of z ms) ++ collect f (when (is x z) m)
of_collect f z ms x m = ap (collect f) (of_more z ms x m) ∙ collect-append f (of z ms) (when (is x z) m)

pub none_here : {B : Type 0} (f : Message → List B) (v : Bool) (m : Message) → f m ≡ [] → collect f (when v m) ≡ []
none_here f true m e = rw e refl
none_here f false m e = refl

pub last_is : (act : Act) (log : Log) (g : Given) (a : Act) → last_after act (log ++ (g, a) ∷ []) ≡ a
last_is act [] g a = refl
last_is act (x ∷ xs) g a = last_is x.1 xs g a

pub owed_is : (t : Terms) (s : ℕ) (owed : List Message) (log : Log) (g : Given) (a : Act) → owed_after t s owed (log ++ (g, a) ∷ []) ≡ owed_then t s (owed_after t s owed log) g
owed_is t s owed [] g a = refl
owed_is t s owed (x ∷ xs) g a = owed_is t s (owed_then t s owed x.0) xs g a

pub now_is : (w : ℕ) (ns : List ℕ) (log : Log) (g : Given) (a : Act) → now_after w ns (log ++ (g, a) ∷ []) ≡ now_then w (now_after w ns log) g
now_is w ns [] g a = refl
now_is w ns (x ∷ xs) g a = now_is w (now_then w ns x.0) xs g a

pub follows : (act : Act) (log : Log) (g : Given) (a : Act) → DialogueAfter act log → MayFollow (last_after act log) g → DialogueAfter act (log ++ (g, a) ∷ [])
follows act [] g a d m = (m, tt)
follows act (x ∷ xs) g a d m = (d.0, follows x.1 xs g a d.1 m)

answers_is : (act : Act) (log : Log) (g : Given) (a : Act) → answers_after act (log ++ (g, a) ∷ []) ≡ answers_after act log ++ answer_to (last_after act log) g
answers_is act [] g a = append-nil (answer_to act g)
answers_is act (x ∷ xs) g a = ap (λ zs. answer_to act x.0 ++ zs) (answers_is x.1 xs g a) ∙ sym (append_assoc (answer_to act x.0) (answers_after x.1 xs) (answer_to (last_after x.1 xs) g))

pub answers_more : (log : Log) (g : Given) (a : Act) → answers_of (log ++ (g, a) ∷ []) ≡ answers_of log ++ answer_to (last_after Done log) g
answers_more log g a = answers_is Done log g a

-- a silent answer
pub silent_said : (s : ℕ) (owed : List Message) (act : Act) (a : Answer) → silent a ≡ true → said_by s owed act (AnswerGiven a) ≡ []
silent_said s owed act Sent q = absurd (cc)
silent_said s owed act (Posted n) q = absurd (cc)
silent_said s owed act Finished q = absurd (cc)
silent_said s owed act Asked q = refl
silent_said s owed act BindOk q = refl
silent_said s owed act Exists q = refl
silent_said s owed act (InfoIs f u) q = refl
silent_said s owed act (TableIs at r cells) q = refl
silent_said s owed act (TableRefused n) q = refl
silent_said s owed act (Count n) q = refl
silent_said s owed act (NoSession n) q = refl
silent_said s owed act (Bound n) q = refl
silent_said s owed act BadUid q = refl
silent_said s owed act WrongMode q = refl
silent_said s owed act TaskFull q = refl
silent_said s owed act BadTarget q = refl
silent_said s owed act NoTaskWorkers q = refl
silent_said s owed act IdsSpent q = refl
silent_said s owed act NotHere q = refl
silent_said s owed act NoTable q = refl

pub silent_posted : (act : Act) (a : Answer) → silent a ≡ true → posted_by act (AnswerGiven a) ≡ []
silent_posted act Sent q = absurd (cc)
silent_posted act (Posted n) q = absurd (cc)
silent_posted act Finished q = absurd (cc)
silent_posted act Asked q = refl
silent_posted act BindOk q = refl
silent_posted act Exists q = refl
silent_posted act (InfoIs f u) q = refl
silent_posted act (TableIs at r cells) q = refl
silent_posted act (TableRefused n) q = refl
silent_posted act (Count n) q = refl
silent_posted act (NoSession n) q = refl
silent_posted act (Bound n) q = refl
silent_posted act BadUid q = refl
silent_posted act WrongMode q = refl
silent_posted act TaskFull q = refl
silent_posted act BadTarget q = refl
silent_posted act NoTaskWorkers q = refl
silent_posted act IdsSpent q = refl
silent_posted act NotHere q = refl
silent_posted act NoTable q = refl

pub silent_gave : (ns : List ℕ) (act : Act) (a : Answer) → silent a ≡ true → gave_by ns act (AnswerGiven a) ≡ []
silent_gave ns act Sent q = absurd (cc)
silent_gave ns act (Posted n) q = absurd (cc)
silent_gave ns act Finished q = absurd (cc)
silent_gave ns act Asked q = refl
silent_gave ns act BindOk q = refl
silent_gave ns act Exists q = refl
silent_gave ns act (InfoIs f u) q = refl
silent_gave ns act (TableIs at r cells) q = refl
silent_gave ns act (TableRefused n) q = refl
silent_gave ns act (Count n) q = refl
silent_gave ns act (NoSession n) q = refl
silent_gave ns act (Bound n) q = refl
silent_gave ns act BadUid q = refl
silent_gave ns act WrongMode q = refl
silent_gave ns act TaskFull q = refl
silent_gave ns act BadTarget q = refl
silent_gave ns act NoTaskWorkers q = refl
silent_gave ns act IdsSpent q = refl
silent_gave ns act NotHere q = refl
silent_gave ns act NoTable q = refl

-- what a message tells the reactor of s
abbrev pub heard_by : Terms → ℕ → ActorId → Message → List Message
heard_by t s to m = collect (talk_in s) (when (is to (Reactor (reactor_of t s))) m)

pub hears_send : (t : Terms) (s u : ℕ) (b : List ℕ) → heard_by t s (Reactor (reactor_of t u)) (SendMsg u b) ≡ when (u == s) (SendMsg u b)
hears_send t s u b = pick (u == s) refl
  where
    pick : (v : Bool) → u == s ≡ v → heard_by t s (Reactor (reactor_of t u)) (SendMsg u b) ≡ when v (SendMsg u b)
    pick true q = let e : u ≡ s = eq_is u s q in rw (e, is_refl (Reactor (reactor_of t s)), is_refl (Worker s)) refl
    pick false q = none_here (talk_in s) (is (Reactor (reactor_of t u)) (Reactor (reactor_of t s))) (SendMsg u b) (rw q refl)

hears_bye : (t : Terms) (s u : ℕ) → heard_by t s (Reactor (reactor_of t u)) (Bye u) ≡ when (u == s) (Bye u)
hears_bye t s u = pick (u == s) refl
  where
    pick : (v : Bool) → u == s ≡ v → heard_by t s (Reactor (reactor_of t u)) (Bye u) ≡ when v (Bye u)
    pick true q = let e : u ≡ s = eq_is u s q in rw (e, is_refl (Reactor (reactor_of t s)), is_refl (Worker s)) refl
    pick false q = none_here (talk_in s) (is (Reactor (reactor_of t u)) (Reactor (reactor_of t s))) (Bye u) (rw q refl)

abbrev pub hears_here : Terms → ℕ → ActorId × Message → List Message
hears_here t s p = heard_by t s p.0 p.1

bye_when : (f : ℕ → Event) → ((u : ℕ) → bye_for (f u) ≡ Bye u ∷ []) → (s u : ℕ) (v : Bool) → when v (Bye u) ≡ collect bye_for (when v (f u))
bye_when f h s u true = rw (h u) refl
bye_when f h s u false = refl

bye_owed : (t : Terms) (s u : ℕ) (f : ℕ → Event) → ((n : ℕ) → bye_for (f n) ≡ Bye n ∷ []) → collect (hears_here t s) (bye_to t u) ≡ collect bye_for (when (u == s) (f u))
bye_owed t s u f h = append-nil (heard_by t s (Reactor (reactor_of t u)) (Bye u)) ∙ hears_bye t s u ∙ bye_when f h s u (u == s)

early_owed : (t : Terms) (s u : ℕ) (f : ℕ → Event) → ((n : ℕ) → bye_for (f n) ≡ Bye n ∷ []) → (v : Bool) → collect (hears_here t s) (if v then [] else bye_to t u) ≡ collect bye_for (if v then [] else when (u == s) (f u))
early_owed t s u f h true = refl
early_owed t s u f h false = bye_owed t s u f h

byes_owed : (t : Terms) (s : ℕ) (e : Event) → collect (hears_here t s) (bye_of t e) ≡ owes t s e
byes_owed t s (Connect u) = early_owed t s u Connect (λ n. refl) (keeps t.mode)
byes_owed t s (Packet u i b) = early_owed t s u (λ n. Packet n i b) (λ n. refl) (keeps t.mode)
byes_owed t s (Closed u) = bye_owed t s u Closed (λ n. refl)
byes_owed t s (Finish id b) = refl
byes_owed t s (Task w id b) = refl

-- an event's last words tell the reactor of s what the event owes to s
pub words_owed : (t : Terms) (y : ActorId) (s : ℕ) (e : Event) → for_hand y e ≡ e ∷ [] → collect (hears_here t s) (last_words t y e) ≡ owes t s e
words_owed t Door s e m = byes_owed t s e
words_owed t (Reactor n) s e m = byes_owed t s e
words_owed t (Worker w) s e m = byes_owed t s e
words_owed t (Tasker k) s (Connect u) m = absurd (cc)
words_owed t (Tasker k) s (Packet u i b) m = absurd (cc)
words_owed t (Tasker k) s (Closed u) m = absurd (cc)
words_owed t (Tasker k) s (Finish id b) m = absurd (cc)
words_owed t (Tasker k) s (Task w id b) m = append-nil (heard_by t s (Worker w) (OverMsg id)) ∙ none_here (talk_in s) (is (Worker w) (Reactor (reactor_of t s))) (OverMsg id) refl

pub last_hears : (t : Terms) (y : ActorId) (s : ℕ) (e : Event) (to : ActorId) (m : Message) → for_hand y e ≡ e ∷ [] → last_words t y e ≡ (to, m) ∷ [] → heard_by t s to m ≡ owes t s e
last_hears t y s e to m mine q = sym (append-nil (heard_by t s to m)) ∙ ap (collect (hears_here t s)) (sym q) ∙ words_owed t y s e mine

pub last_none : (t : Terms) (y : ActorId) (s : ℕ) (e : Event) → for_hand y e ≡ e ∷ [] → last_words t y e ≡ [] → owes t s e ≡ []
last_none t y s e mine q = sym (words_owed t y s e mine) ∙ ap (collect (hears_here t s)) q

-- an event's last words are Byes and Overs
words_bye : (P : ActorId × Message → Type 0) → ((n s : ℕ) → P (Reactor n, Bye s)) → (t : Terms) (e : Event) → Each P (bye_of t e)
words_bye P f t (Connect s) = pick (keeps t.mode)
  where
    pick : (v : Bool) → Each P (if v then [] else bye_to t s)
    pick true = tt
    pick false = (f (reactor_of t s) s, tt)
words_bye P f t (Packet s i b) = pick (keeps t.mode)
  where
    pick : (v : Bool) → Each P (if v then [] else bye_to t s)
    pick true = tt
    pick false = (f (reactor_of t s) s, tt)
words_bye P f t (Closed s) = (f (reactor_of t s) s, tt)
words_bye P f t (Finish id b) = tt
words_bye P f t (Task w id b) = tt

words_over : (P : ActorId × Message → Type 0) → ((w id : ℕ) → P (Worker w, OverMsg id)) → (e : Event) → Each P (over_of e)
words_over P f (Connect s) = tt
words_over P f (Packet s i b) = tt
words_over P f (Closed s) = tt
words_over P f (Finish id b) = tt
words_over P f (Task w id b) = (f w id, tt)

words_all : (P : ActorId × Message → Type 0) → ((n s : ℕ) → P (Reactor n, Bye s)) → ((w id : ℕ) → P (Worker w, OverMsg id)) → (t : Terms) (y : ActorId) (e : Event) → Each P (last_words t y e)
words_all P f g t Door e = words_bye P f t e
words_all P f g t (Reactor n) e = words_bye P f t e
words_all P f g t (Worker w) e = words_bye P f t e
words_all P f g t (Tasker k) e = words_over P g e

first_of : {A : Type 0} (P : A → Type 0) (x : A) (xs : List A) → Each P (x ∷ xs) → P x
first_of P x xs h = h.0

pub words_are : (P : ActorId × Message → Type 0) → ((n s : ℕ) → P (Reactor n, Bye s)) → ((w id : ℕ) → P (Worker w, OverMsg id)) → (t : Terms) (y : ActorId) (e : Event) (to : ActorId) (m : Message) → last_words t y e ≡ (to, m) ∷ [] → P (to, m)
words_are P f g t y e to m q = first_of P (to, m) [] (subst (Each P) q (words_all P f g t y e))

-- and to a worker they are the OverMsg of its task
abbrev pub over_msg : ℕ × List ℕ → List Message
over_msg p = OverMsg p.0 ∷ []

over_when : (v : Bool) (id : ℕ) (b : List ℕ) → when v (OverMsg id) ≡ collect over_msg (when v (id, b))
over_when true id b = refl
over_when false id b = refl

bye_not : (t : Terms) (w s : ℕ) (v : Bool) → of (Worker w) (if v then [] else bye_to t s) ≡ []
bye_not t w s true = refl
bye_not t w s false = refl

byes_to : (t : Terms) (x w : ℕ) (e : Event) → for_hand (Worker x) e ≡ e ∷ [] → of (Worker w) (bye_of t e) ≡ collect over_msg (task_of w e)
byes_to t x w (Connect s) m = bye_not t w s (keeps t.mode)
byes_to t x w (Packet s i b) m = bye_not t w s (keeps t.mode)
byes_to t x w (Closed s) m = refl
byes_to t x w (Finish id b) m = refl
byes_to t x w (Task v id b) m = absurd (cc)

pub words_to : (t : Terms) (y : ActorId) (w : ℕ) (e : Event) → for_hand y e ≡ e ∷ [] → of (Worker w) (last_words t y e) ≡ collect over_msg (task_of w e)
words_to t Door w (Connect s) m = bye_not t w s (keeps t.mode)
words_to t Door w (Packet s i b) m = bye_not t w s (keeps t.mode)
words_to t Door w (Closed s) m = refl
words_to t Door w (Finish id b) m = refl
words_to t Door w (Task v id b) m = absurd (cc)
words_to t (Reactor n) w (Connect s) m = bye_not t w s (keeps t.mode)
words_to t (Reactor n) w (Packet s i b) m = bye_not t w s (keeps t.mode)
words_to t (Reactor n) w (Closed s) m = refl
words_to t (Reactor n) w (Finish id b) m = refl
words_to t (Reactor n) w (Task v id b) m = absurd (cc)
words_to t (Worker x) w e m = byes_to t x w e m
words_to t (Tasker k) w (Connect s) m = absurd (cc)
words_to t (Tasker k) w (Packet s i b) m = absurd (cc)
words_to t (Tasker k) w (Closed s) m = absurd (cc)
words_to t (Tasker k) w (Finish id b) m = absurd (cc)
words_to t (Tasker k) w (Task v id b) m = append-nil (when (v == w) (OverMsg id)) ∙ over_when (v == w) id b

pub told_same : (log : Log) (a : Answer) (act : Act) → events_of (log ++ (AnswerGiven a, act) ∷ []) ≡ events_of log
told_same log a act = one_more event_of log (AnswerGiven a, act) ∙ append-nil (events_of log)

-- whose items at the end all have a mark
pub all_marked : (f : Message → List ℕ) (xs : List Message) (m : Message) (ms : List Message) → Each (λ x. ¬ (f x ≡ [])) (m ∷ ms) → LastMarked f (xs ++ m ∷ ms)
all_marked f [] m [] h = h.0
all_marked f [] m (n ∷ ms) h = all_marked f [] n ms h.1
all_marked f (x ∷ []) m ms h = all_marked f [] m ms h
all_marked f (x ∷ y ∷ xs) m ms h = all_marked f (y ∷ xs) m ms h

pub of_append : (z : ActorId) (ms ns : Mail) → of z (ms ++ ns) ≡ of z ms ++ of z ns
of_append z ms ns = collect-append (with z) ms ns

-- an event has one last word at most, and goes to a handler as it is
early_one : (t : Terms) (s : ℕ) (p : ActorId × Message) (ms : List (ActorId × Message)) (v : Bool) → (if v then [] else bye_to t s) ≡ p ∷ ms → ms ≡ []
early_one t s p ms true q = absurd (cc)
early_one t s p ms false q = cc

bye_one : (t : Terms) (e : Event) (p : ActorId × Message) (ms : List (ActorId × Message)) → bye_of t e ≡ p ∷ ms → ms ≡ []
bye_one t (Connect s) p ms q = early_one t s p ms (keeps t.mode) q
bye_one t (Packet s i b) p ms q = early_one t s p ms (keeps t.mode) q
bye_one t (Closed s) p ms q = cc
bye_one t (Finish id b) p ms q = absurd (cc)
bye_one t (Task w id b) p ms q = absurd (cc)

over_one : (e : Event) (p : ActorId × Message) (ms : List (ActorId × Message)) → over_of e ≡ p ∷ ms → ms ≡ []
over_one (Connect s) p ms q = absurd (cc)
over_one (Packet s i b) p ms q = absurd (cc)
over_one (Closed s) p ms q = absurd (cc)
over_one (Finish id b) p ms q = absurd (cc)
over_one (Task w id b) p ms q = cc

words_one : (t : Terms) (y : ActorId) (e : Event) (p : ActorId × Message) (ms : List (ActorId × Message)) → last_words t y e ≡ p ∷ ms → ms ≡ []
words_one t Door e p ms q = bye_one t e p ms q
words_one t (Reactor n) e p ms q = bye_one t e p ms q
words_one t (Worker w) e p ms q = bye_one t e p ms q
words_one t (Tasker k) e p ms q = over_one e p ms q

pub one_word : (t : Terms) (y : ActorId) (e : Event) (to : ActorId) (m : Message) (ms : List (ActorId × Message)) → last_words t y e ≡ (to, m) ∷ ms → last_words t y e ≡ (to, m) ∷ []
one_word t y e to m ms q = q ∙ ap (λ xs. (to, m) ∷ xs) (words_one t y e (to, m) ms q)

pub for_one : (y : ActorId) (e f : Event) (fs : List Event) → for_hand y e ≡ f ∷ fs → for_hand y e ≡ e ∷ []
for_one Door (Connect s) f fs q = refl
for_one Door (Packet s i b) f fs q = refl
for_one Door (Closed s) f fs q = refl
for_one Door (Finish id b) f fs q = refl
for_one Door (Task v id b) f fs q = absurd (cc)
for_one (Reactor n) (Connect s) f fs q = refl
for_one (Reactor n) (Packet s i b) f fs q = refl
for_one (Reactor n) (Closed s) f fs q = refl
for_one (Reactor n) (Finish id b) f fs q = refl
for_one (Reactor n) (Task v id b) f fs q = absurd (cc)
for_one (Worker w) (Connect s) f fs q = refl
for_one (Worker w) (Packet s i b) f fs q = refl
for_one (Worker w) (Closed s) f fs q = refl
for_one (Worker w) (Finish id b) f fs q = refl
for_one (Worker w) (Task v id b) f fs q = absurd (cc)
for_one (Tasker k) (Connect s) f fs q = absurd (cc)
for_one (Tasker k) (Packet s i b) f fs q = absurd (cc)
for_one (Tasker k) (Closed s) f fs q = absurd (cc)
for_one (Tasker k) (Finish id b) f fs q = absurd (cc)
for_one (Tasker k) (Task v id b) f fs q = refl

-- places
pub at_end : {A : Type 0} (xs : List A) (x : A) (n : ℕ) → length xs ≡ n → slice_get (xs ++ x ∷ []) n ≡ Some x
at_end [] x zero e = refl
at_end [] x (suc n) e = absurd (omega (arith, e))
at_end (y ∷ xs) x zero e = absurd (omega (arith, e))
at_end (y ∷ xs) x (suc n) e = at_end xs x n (omega (arith, e))

pub stays : {A : Type 0} (vs ws : List A) (n : ℕ) (x : A) → slice_get vs n ≡ Some x → slice_get (vs ++ ws) n ≡ Some x
stays [] ws n x r = absurd (cc)
stays (v ∷ vs) ws zero x r = r
stays (v ∷ vs) ws (suc n) x r = stays vs ws n x r

-- a log whose last act is Done
pub ends_done : (act : Act) (log : Log) → last_after act log ≡ Done → (log ≡ []) ⊎ EndsDone log
ends_done act [] q = inl refl
ends_done act ((g, a) ∷ []) q = inr ([], (g, ap (λ (b : Act). (g, b) ∷ []) q))
ends_done act ((g, a) ∷ (f, b) ∷ log) q = elim (ends_done a ((f, b) ∷ log) q) [ inl n ↦ absurd (let r : (f, b) ∷ log ≡ [] = n in cc) | inr (front, (given, r)) ↦ inr ((g, a) ∷ front, (given, ap (λ zs. (g, a) ∷ zs) r)) ]
