-- Events that await a Bye, and the Byes that a log says.
use Rattle.std.proofs.Common.{◌≡◌, ℕ, ◌+◌, ◌≤◌, ◌==◌, Bool, true, false, if◌then◌else◌, List, [], ◌∷◌, ◌++◌, length, refl, ap, ◌∙◌, sym, subst, append-nil, arith}
use Rattle.sw_lists.proofs.Lists.{append_none, collect-append, collect-collect, collect-same, length_append, length_none}
use Rattle.sw_lists.specs.Lists.{collect, IsPrefix, when}
use Rattle.sw_record.specs.Logs.{of_session, events_of, told_of}
use Rattle.sw_record.specs.Terms.{Terms, keeps}
use Rattle.sw_record.specs.Words.{Event, Connect, Packet, Closed, Finish, Task, Act, Send, Close, Reset, Bind, Exist, Info, TaskAct, FinishAct, Table, Stats, Shutdown, Done, Answer, Sent, Asked, BindOk, Exists, InfoIs, Posted, Finished, TableIs, TableRefused, Count, NoSession, Bound, BadUid, WrongMode, TaskFull, BadTarget, NoTaskWorkers, IdsSpent, NotHere, NoTable, EventGiven, AnswerGiven, Log}
use Rattle.sw_past.specs.Messages.{Message, SendMsg, Bye}
use Rattle.sw_past.specs.Said.{send_msg, bye_for, owes, said_by, said_last, said_after, said}
use Rattle.sw_past.specs.Views.{event_in, story_in, byes_in, due, due_in}
use Rattle.sw_join.specs.Laws.{LastDue}

-- a due event is one of the session
keep_due : (t : Terms) (s u : ℕ) (e : Event) → ((v : Bool) → ◌≡◌ {A = List Event} (collect (due t s) (when v e)) (if keeps t.mode then [] else when v e)) → ◌≡◌ {A = List Event} (collect (due t s) (when (u == s) e)) (if keeps t.mode then [] else when (u == s) e)
keep_due t s u e h = h (u == s)

pub due_story : (t : Terms) (s : ℕ) (e : Event) → collect (due t s) (of_session s e) ≡ due t s e
due_story t s (Connect u) = pick (u == s) refl
  where
    pick : (v : Bool) → u == s ≡ v → ◌≡◌ {A = List Event} (collect (due t s) (when v (Connect u))) (if keeps t.mode then [] else when v (Connect u))
    pick true q = rw q (append-nil (if keeps t.mode then [] else Connect u ∷ []))
    pick false q = empty (keeps t.mode)
      where
        empty : (k : Bool) → ◌≡◌ {A = List Event} [] (if k then [] else [])
        empty true = refl
        empty false = refl
due_story t s (Packet u i b) = pick (u == s) refl
  where
    pick : (v : Bool) → u == s ≡ v → ◌≡◌ {A = List Event} (collect (due t s) (when v (Packet u i b))) (if keeps t.mode then [] else when v (Packet u i b))
    pick true q = rw q (append-nil (if keeps t.mode then [] else Packet u i b ∷ []))
    pick false q = empty (keeps t.mode)
      where
        empty : (k : Bool) → ◌≡◌ {A = List Event} [] (if k then [] else [])
        empty true = refl
        empty false = refl
due_story t s (Closed u) = pick (u == s) refl
  where
    pick : (v : Bool) → u == s ≡ v → ◌≡◌ {A = List Event} (collect (due t s) (when v (Closed u))) (when v (Closed u))
    pick true q = rw q refl
    pick false q = refl
due_story t s (Finish i b) = refl
due_story t s (Task w i b) = refl

pub due_told : (t : Terms) (s : ℕ) (es : List Event) → collect (due t s) (collect (of_session s) es) ≡ collect (due t s) es
due_told t s es = collect-collect (due t s) (of_session s) es ∙ collect-same (λ e. collect (due t s) (of_session s e)) (due t s) (due_story t s) es

pub due_streams : (t : Terms) (s : ℕ) (ms : List Message) → collect (due t s) (collect (story_in s) ms) ≡ collect (due_in t s) ms
due_streams t s ms = collect-collect (due t s) (story_in s) ms ∙ collect-same (λ m. collect (due t s) (story_in s m)) (due_in t s) (λ m. due_told t s (event_in m)) ms

-- the Bye that an event owes is one for each due event
one_bye : (t : Terms) (s u : ℕ) (e : Event) → bye_for e ≡ Bye u ∷ [] → (v : Bool) → u == s ≡ v → length (collect (byes_in s) (collect bye_for (when v e))) ≡ length (when v e)
one_bye t s u e q true r = rw (q, r) refl
one_bye t s u e q false r = refl

pub owes_count : (t : Terms) (s : ℕ) (e : Event) → length (collect (byes_in s) (owes t s e)) ≡ length (due t s e)
owes_count t s (Connect u) = pick (keeps t.mode)
  where
    pick : (k : Bool) → length (collect (byes_in s) (collect bye_for (if k then [] else when (u == s) (Connect u)))) ≡ length {A = Event} (if k then [] else when (u == s) (Connect u))
    pick true = refl
    pick false = one_bye t s u (Connect u) refl (u == s) refl
owes_count t s (Packet u i b) = pick (keeps t.mode)
  where
    pick : (k : Bool) → length (collect (byes_in s) (collect bye_for (if k then [] else when (u == s) (Packet u i b)))) ≡ length {A = Event} (if k then [] else when (u == s) (Packet u i b))
    pick true = refl
    pick false = one_bye t s u (Packet u i b) refl (u == s) refl
owes_count t s (Closed u) = one_bye t s u (Closed u) refl (u == s) refl
owes_count t s (Finish i b) = refl
owes_count t s (Task w i b) = refl

-- sends are no Byes
pub send_no_bye : (s : ℕ) (act : Act) → collect (byes_in s) (send_msg s act) ≡ []
send_no_bye s (Send u b) = pick (u == s)
  where
    pick : (v : Bool) → collect (byes_in s) (when v (SendMsg u b)) ≡ []
    pick true = refl
    pick false = refl
send_no_bye s (Close u) = refl
send_no_bye s (Reset u) = refl
send_no_bye s (Bind u i) = refl
send_no_bye s (Exist u) = refl
send_no_bye s (Info u) = refl
send_no_bye s (TaskAct d b) = refl
send_no_bye s (FinishAct b) = refl
send_no_bye s (Table c) = refl
send_no_bye s (Stats c) = refl
send_no_bye s Shutdown = refl
send_no_bye s Done = refl

pub answer_no_bye : (s : ℕ) (owed : List Message) (act : Act) (a : Answer) → collect (byes_in s) (said_by s owed act (AnswerGiven a)) ≡ []
answer_no_bye s owed act Sent = send_no_bye s act
answer_no_bye s owed act Asked = refl
answer_no_bye s owed act BindOk = refl
answer_no_bye s owed act Exists = refl
answer_no_bye s owed act (InfoIs a b) = refl
answer_no_bye s owed act (Posted n) = refl
answer_no_bye s owed act Finished = refl
answer_no_bye s owed act (TableIs a b c) = refl
answer_no_bye s owed act (TableRefused n) = refl
answer_no_bye s owed act (Count n) = refl
answer_no_bye s owed act (NoSession n) = refl
answer_no_bye s owed act (Bound n) = refl
answer_no_bye s owed act BadUid = refl
answer_no_bye s owed act WrongMode = refl
answer_no_bye s owed act TaskFull = refl
answer_no_bye s owed act BadTarget = refl
answer_no_bye s owed act NoTaskWorkers = refl
answer_no_bye s owed act IdsSpent = refl
answer_no_bye s owed act NotHere = refl
answer_no_bye s owed act NoTable = refl

last_byes : (s : ℕ) (owed : List Message) (act : Act) → length (collect (byes_in s) (said_last s owed act)) ≤ length (collect (byes_in s) owed)
last_byes s owed (Send u b) = let z : length (collect (byes_in s) (send_msg s (Send u b))) ≡ 0 = ap (λ xs. length xs) (send_no_bye s (Send u b)) in omega arith
last_byes s owed (Close u) = omega arith
last_byes s owed (Reset u) = omega arith
last_byes s owed (Bind u i) = omega arith
last_byes s owed (Exist u) = omega arith
last_byes s owed (Info u) = omega arith
last_byes s owed (TaskAct d b) = omega arith
last_byes s owed (FinishAct b) = omega arith
last_byes s owed (Table c) = omega arith
last_byes s owed (Stats c) = omega arith
last_byes s owed Shutdown = omega arith
last_byes s owed Done = omega arith

-- a log says no more Byes than it was given due events
after_byes : (t : Terms) (s : ℕ) (owed : List Message) (act : Act) (log : Log) → length (collect (byes_in s) (said_after t s owed act log)) ≤ length (collect (byes_in s) owed) + length (collect (due t s) (events_of log))
after_byes t s owed act [] = omega (arith, last_byes s owed act)
after_byes t s owed act ((EventGiven e, b) ∷ xs) =
    let r : length (collect (byes_in s) (said_after t s (owes t s e) b xs)) ≤ length (collect (byes_in s) (owes t s e)) + length (collect (due t s) (events_of xs)) = after_byes t s (owes t s e) b xs in
    let o : length (collect (byes_in s) (owes t s e)) ≡ length (due t s e) = owes_count t s e in
    let c : length (collect (byes_in s) (owed ++ said_after t s (owes t s e) b xs)) ≡ length (collect (byes_in s) owed) + length (collect (byes_in s) (said_after t s (owes t s e) b xs)) = ap (λ zs. length zs) (collect-append (byes_in s) owed (said_after t s (owes t s e) b xs)) ∙ length_append (collect (byes_in s) owed) (collect (byes_in s) (said_after t s (owes t s e) b xs)) in
    let d : length (due t s e ++ collect (due t s) (events_of xs)) ≡ length (due t s e) + length (collect (due t s) (events_of xs)) = length_append (due t s e) (collect (due t s) (events_of xs)) in
    omega arith
after_byes t s owed act ((AnswerGiven a, b) ∷ xs) =
    let r : length (collect (byes_in s) (said_after t s owed b xs)) ≤ length (collect (byes_in s) owed) + length (collect (due t s) (events_of xs)) = after_byes t s owed b xs in
    let c : length (collect (byes_in s) (said_by s owed act (AnswerGiven a) ++ said_after t s owed b xs)) ≡ length (collect (byes_in s) (said_by s owed act (AnswerGiven a))) + length (collect (byes_in s) (said_after t s owed b xs)) = ap (λ zs. length zs) (collect-append (byes_in s) (said_by s owed act (AnswerGiven a)) (said_after t s owed b xs)) ∙ length_append (collect (byes_in s) (said_by s owed act (AnswerGiven a))) (collect (byes_in s) (said_after t s owed b xs)) in
    let z : length (collect (byes_in s) (said_by s owed act (AnswerGiven a))) ≡ 0 = ap (λ zs. length zs) (answer_no_bye s owed act a) in
    omega arith

pub said_byes : (t : Terms) (s : ℕ) (log : Log) → length (collect (byes_in s) (said t s log)) ≤ length (collect (due t s) (told_of s log))
said_byes t s log = let r : length (collect (byes_in s) (said t s log)) ≤ 0 + length (collect (due t s) (events_of log)) = after_byes t s [] Done log in omega (arith, ap (λ zs. length zs) (due_told t s (events_of log)))

-- a beginning that has all due events is the whole, where the last is due
last_rest : (t : Terms) (s : ℕ) (es : List Event) → LastDue t s es → collect (due t s) es ≡ [] → es ≡ []
last_rest t s [] l d = refl
last_rest t s (e ∷ []) l d = absurd (let q : due t s e ≡ e ∷ [] = l in let r : due t s e ≡ [] = (append_none (due t s e) [] d).0 in cc)
last_rest t s (e ∷ f ∷ es) l d = absurd (let q : f ∷ es ≡ [] = last_rest t s (f ∷ es) l (append_none (due t s e) (collect (due t s) (f ∷ es)) d).1 in cc)

pub last_right : (t : Terms) (s : ℕ) (xs ys : List Event) → LastDue t s (xs ++ ys) → LastDue t s ys
last_right t s [] ys l = l
last_right t s (x ∷ []) [] l = tt
last_right t s (x ∷ []) (y ∷ ys) l = l
last_right t s (x ∷ z ∷ xs) ys l = last_right t s (z ∷ xs) ys l

pub whole_by_dues : (t : Terms) (s : ℕ) (xs ys : List Event) → IsPrefix xs ys → LastDue t s ys → length (collect (due t s) ys) ≤ length (collect (due t s) xs) → xs ≡ ys
whole_by_dues t s xs ys p l d =
    let c : collect (due t s) xs ++ collect (due t s) p.0 ≡ collect (due t s) ys = sym (collect-append (due t s) xs p.0) ∙ ap (collect (due t s)) p.1 in
    let n : length (collect (due t s) p.0) ≡ 0 = omega (arith, length_append (collect (due t s) xs) (collect (due t s) p.0), ap (λ zs. length zs) c) in
    let e : p.0 ≡ [] = last_rest t s p.0 (last_right t s xs p.0 (subst (LastDue t s) (sym p.1) l)) (length_none (collect (due t s) p.0) n) in
    sym (append-nil xs) ∙ ap (λ zs. xs ++ zs) (sym e) ∙ p.1

-- where nothing is due, nothing was told
pub last_none : (t : Terms) (s : ℕ) (es : List Event) → LastDue t s es → length (collect (due t s) es) ≡ 0 → es ≡ []
last_none t s es l d = last_rest t s es l (length_none (collect (due t s) es) d)
