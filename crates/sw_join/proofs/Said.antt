-- What a log says of a session, and what it sends to it.
use Rattle.std.proofs.Common.{◌≡◌, ℕ, ◌==◌, Bool, true, false, List, [], ◌∷◌, ◌++◌, refl, ap, ◌∙◌}
use Rattle.sw_lists.proofs.Lists.{collect-append, collect-none, each_all, each_collect}
use Rattle.sw_lists.specs.Lists.{collect, Each, when}
use Rattle.sw_record.specs.Sends.{sends_to, sent_to, sends_after, Sends}
use Rattle.sw_record.specs.Terms.{Terms}
use Rattle.sw_record.specs.Words.{Event, Connect, Packet, Closed, Finish, Task, Act, Send, Close, Reset, Bind, Exist, Info, TaskAct, FinishAct, Table, Stats, Shutdown, Done, Sent, Asked, BindOk, Exists, InfoIs, Posted, Finished, TableIs, TableRefused, Count, NoSession, Bound, BadUid, WrongMode, TaskFull, BadTarget, NoTaskWorkers, IdsSpent, NotHere, NoTable, Given, EventGiven, AnswerGiven, Log}
use Rattle.sw_past.specs.Messages.{Message, FreshMsg, SendMsg, CloseMsg, ResetMsg, Bye, EventMsg, OverMsg, NoMore}
use Rattle.sw_past.specs.Said.{send_msg, bye_for, owes, owed_then, said_by, said_last, said_after, said}
use Rattle.sw_past.specs.Views.{sends_in, byes_in, talk_in, due}

-- the sends of a talk are the sends
pub talk_sends : (s : ℕ) (m : Message) → collect (sends_in s) (talk_in s m) ≡ sends_in s m
talk_sends s (SendMsg u b) = pick (u == s) refl
  where
    pick : (v : Bool) → u == s ≡ v → collect (sends_in s) (when v (SendMsg u b)) ≡ when v b
    pick true q = rw q refl
    pick false q = refl
talk_sends s (Bye u) = pick (u == s)
  where
    pick : (v : Bool) → collect (sends_in s) (when v (Bye u)) ≡ []
    pick true = refl
    pick false = refl
talk_sends s (FreshMsg ip u) = refl
talk_sends s (CloseMsg u) = refl
talk_sends s (ResetMsg u) = refl
talk_sends s (EventMsg e) = refl
talk_sends s (OverMsg id) = refl
talk_sends s NoMore = refl

-- and the Byes of a talk are the Byes
pub talk_byes : (s : ℕ) (m : Message) → collect (byes_in s) (talk_in s m) ≡ byes_in s m
talk_byes s (Bye u) = pick (u == s) refl
  where
    pick : (v : Bool) → u == s ≡ v → collect (byes_in s) (when v (Bye u)) ≡ when v u
    pick true q = rw q refl
    pick false q = refl
talk_byes s (SendMsg u b) = pick (u == s)
  where
    pick : (v : Bool) → collect (byes_in s) (when v (SendMsg u b)) ≡ []
    pick true = refl
    pick false = refl
talk_byes s (FreshMsg ip u) = refl
talk_byes s (CloseMsg u) = refl
talk_byes s (ResetMsg u) = refl
talk_byes s (EventMsg e) = refl
talk_byes s (OverMsg id) = refl
talk_byes s NoMore = refl

-- what is owed is no send
bye_silent : (s : ℕ) (e : Event) → Each (λ (m : Message). sends_in s m ≡ []) (bye_for e)
bye_silent s (Connect u) = (refl, tt)
bye_silent s (Packet u i b) = (refl, tt)
bye_silent s (Closed u) = (refl, tt)
bye_silent s (Finish i b) = tt
bye_silent s (Task w i b) = tt

pub owes_silent : (t : Terms) (s : ℕ) (e : Event) → Each (λ (m : Message). sends_in s m ≡ []) (owes t s e)
owes_silent t s e = each_collect (λ (m : Message). sends_in s m ≡ []) bye_for (due t s e) (each_all (λ (x : Event). Each (λ (m : Message). sends_in s m ≡ []) (bye_for x)) (due t s e) (bye_silent s))

pub then_silent : (t : Terms) (s : ℕ) (owed : List Message) (g : Given) → Each (λ (m : Message). sends_in s m ≡ []) owed → Each (λ (m : Message). sends_in s m ≡ []) (owed_then t s owed g)
then_silent t s owed (EventGiven e) h = owes_silent t s e
then_silent t s owed (AnswerGiven a) h = h

act_sends : (s : ℕ) (act : Act) → collect (sends_in s) (send_msg s act) ≡ sends_to s act
act_sends s (Send u b) = pick (u == s) refl
  where
    pick : (v : Bool) → u == s ≡ v → collect (sends_in s) (when v (SendMsg u b)) ≡ when v b
    pick true q = rw q refl
    pick false q = refl
act_sends s (Close u) = refl
act_sends s (Reset u) = refl
act_sends s (Bind u i) = refl
act_sends s (Exist u) = refl
act_sends s (Info u) = refl
act_sends s (TaskAct d b) = refl
act_sends s (FinishAct b) = refl
act_sends s (Table c) = refl
act_sends s (Stats c) = refl
act_sends s Shutdown = refl
act_sends s Done = refl

last_sends : (s : ℕ) (owed : List Message) (act : Act) → Each (λ (m : Message). sends_in s m ≡ []) owed → collect (sends_in s) (said_last s owed act) ≡ sends_to s act
last_sends s owed (Send u b) h = act_sends s (Send u b)
last_sends s owed (Close u) h = refl
last_sends s owed (Reset u) h = refl
last_sends s owed (Bind u i) h = refl
last_sends s owed (Exist u) h = refl
last_sends s owed (Info u) h = refl
last_sends s owed (TaskAct d b) h = refl
last_sends s owed (FinishAct b) h = refl
last_sends s owed (Table c) h = refl
last_sends s owed (Stats c) h = refl
last_sends s owed Shutdown h = refl
last_sends s owed Done h = collect-none (sends_in s) owed h

-- an answer other than Sent says nothing
pub by_sends : (s : ℕ) (owed : List Message) (act : Act) (g : Given) → Each (λ (m : Message). sends_in s m ≡ []) owed → collect (sends_in s) (said_by s owed act g) ≡ sent_to s act g
by_sends s owed act (EventGiven e) h = collect-none (sends_in s) owed h
by_sends s owed act (AnswerGiven Sent) h = act_sends s act
by_sends s owed act (AnswerGiven Asked) h = refl
by_sends s owed act (AnswerGiven BindOk) h = refl
by_sends s owed act (AnswerGiven Exists) h = refl
by_sends s owed act (AnswerGiven (InfoIs a b)) h = refl
by_sends s owed act (AnswerGiven (Posted n)) h = refl
by_sends s owed act (AnswerGiven Finished) h = refl
by_sends s owed act (AnswerGiven (TableIs a b c)) h = refl
by_sends s owed act (AnswerGiven (TableRefused n)) h = refl
by_sends s owed act (AnswerGiven (Count n)) h = refl
by_sends s owed act (AnswerGiven (NoSession n)) h = refl
by_sends s owed act (AnswerGiven (Bound n)) h = refl
by_sends s owed act (AnswerGiven BadUid) h = refl
by_sends s owed act (AnswerGiven WrongMode) h = refl
by_sends s owed act (AnswerGiven TaskFull) h = refl
by_sends s owed act (AnswerGiven BadTarget) h = refl
by_sends s owed act (AnswerGiven NoTaskWorkers) h = refl
by_sends s owed act (AnswerGiven IdsSpent) h = refl
by_sends s owed act (AnswerGiven NotHere) h = refl
by_sends s owed act (AnswerGiven NoTable) h = refl

pub after_sends : (t : Terms) (s : ℕ) (owed : List Message) (act : Act) (log : Log) → Each (λ (m : Message). sends_in s m ≡ []) owed → collect (sends_in s) (said_after t s owed act log) ≡ sends_after s act log
after_sends t s owed act [] h = last_sends s owed act h
after_sends t s owed act (x ∷ xs) h =
    collect-append (sends_in s) (said_by s owed act x.0) (said_after t s (owed_then t s owed x.0) x.1 xs)
    ∙ ap (λ (bs : List (List ℕ)). bs ++ collect (sends_in s) (said_after t s (owed_then t s owed x.0) x.1 xs)) (by_sends s owed act x.0 h)
    ∙ ap (λ (bs : List (List ℕ)). sent_to s act x.0 ++ bs) (after_sends t s (owed_then t s owed x.0) x.1 xs (then_silent t s owed x.0 h))

-- the sends of what a log says are its sends
pub said_sends : (t : Terms) (log : Log) (s : ℕ) → collect (sends_in s) (said t s log) ≡ Sends log s
said_sends t log s = after_sends t s [] Done log tt
