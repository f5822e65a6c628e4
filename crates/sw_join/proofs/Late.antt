-- Behind a session's last Bye: what is said later was sent behind the Done that ends the log's last event of the session.
use Rattle.std.proofs.Common.{◌≡◌, ◌⊎◌, ℕ, ◌+◌, ◌<◌, ◌≤◌, ◌==◌, Bool, true, false, if◌then◌else◌, List, [], ◌∷◌, ◌++◌, length, refl, ap, ◌∙◌, sym, subst, append-nil, arith, inl, inr}
use Rattle.sw_lists.proofs.Lists.{append_none, collect-append, each_right, equal_or_not, length_append}
use Rattle.sw_lists.specs.Lists.{collect, IsSuffix, Each, when}
use Rattle.sw_record.specs.Dialogue.{MayFollow, DialogueAfter, Dialogue}
use Rattle.sw_record.specs.Logs.{of_session, events_of, told_of, EndsDone}
use Rattle.sw_record.specs.Sends.{Sends}
use Rattle.sw_record.specs.Terms.{Terms, keeps}
use Rattle.sw_record.specs.Whole.{StandsLate}
use Rattle.sw_record.specs.Words.{Event, Connect, Packet, Closed, Finish, Task, Act, Send, Close, Reset, Bind, Exist, Info, TaskAct, FinishAct, Table, Stats, Shutdown, Done, Given, EventGiven, AnswerGiven, Log}
use Rattle.sw_past.specs.Messages.{Message}
use Rattle.sw_past.specs.Said.{send_msg, bye_for, owes, said_by, said_last, said_after, said}
use Rattle.sw_past.specs.Views.{sends_in, byes_in, due}
use Rattle.sw_join.proofs.Dues.{answer_no_bye, due_told, last_none, last_right, owes_count, send_no_bye}
use Rattle.sw_join.proofs.Said.{after_sends, owes_silent}
use Rattle.sw_join.specs.Laws.{LastDue}

-- what is owed is one Bye of s each
abbrev OnlyByes : ℕ → List Message → Type 0
OnlyByes s owed = Each (λ (m : Message). (length (byes_in s m) ≡ 1) × (sends_in s m ≡ [])) owed

owes_only_when : (t : Terms) (s u : ℕ) (v : Bool) → u == s ≡ v → OnlyByes s (collect bye_for (when v (Closed u)))
owes_only_when t s u true q = ((rw q refl, refl), tt)
owes_only_when t s u false q = tt

owes_only : (t : Terms) (s : ℕ) (e : Event) → OnlyByes s (owes t s e)
owes_only t s (Connect u) = pick (keeps t.mode) (u == s) refl
  where
    pick : (k v : Bool) → u == s ≡ v → OnlyByes s (collect bye_for (if k then [] else when v (Connect u)))
    pick true v q = tt
    pick false true q = ((rw q refl, refl), tt)
    pick false false q = tt
owes_only t s (Packet u i b) = pick (keeps t.mode) (u == s) refl
  where
    pick : (k v : Bool) → u == s ≡ v → OnlyByes s (collect bye_for (if k then [] else when v (Packet u i b)))
    pick true v q = tt
    pick false true q = ((rw q refl, refl), tt)
    pick false false q = tt
owes_only t s (Closed u) = owes_only_when t s u (u == s) refl
owes_only t s (Finish i b) = tt
owes_only t s (Task w i b) = tt

-- one of two beginnings of a list begins the other
abbrev Covers : List Message → List Message → List Message → List Message → Type 0
Covers p q ss rest = (more : List Message) × ((p ≡ ss ++ more) × (more ++ q ≡ rest))

abbrev Falls : List Message → List Message → Type 0
Falls p ss = (z : Message) × ((zs : List Message) × (ss ≡ p ++ z ∷ zs))

compare : (p q ss rest : List Message) → p ++ q ≡ ss ++ rest → Covers p q ss rest ⊎ Falls p ss
compare p q [] rest e = inl (p, (refl, e))
compare [] q (x ∷ ss) rest e = inr (x, (ss, refl))
compare (y ∷ p) q (x ∷ ss) rest e =
    let h : y ≡ x = cc in
    let k : p ++ q ≡ ss ++ rest = cc in
    elim (compare p q ss rest k) [
      | inl c ↦ inl (c.0, (ap (λ z. z ∷ p) h ∙ ap (λ zs. x ∷ zs) c.1.0, c.1.1))
      | inr f ↦ inr (f.0, (f.1.0, ap (λ zs. x ∷ zs) f.1.1 ∙ ap (λ z. z ∷ (p ++ f.0 ∷ f.1.0)) (sym h)))
    ]

abbrev byes : ℕ → List Message → ℕ
byes s ms = length (collect (byes_in s) ms)

byes_append : (s : ℕ) (xs ys : List Message) → byes s (xs ++ ys) ≡ byes s xs + byes s ys
byes_append s xs ys = ap (λ zs. length zs) (collect-append (byes_in s) xs ys) ∙ length_append (collect (byes_in s) xs) (collect (byes_in s) ys)

covers_more : (s : ℕ) (p q ss rest : List Message) → p ++ q ≡ ss ++ rest → byes s ss < byes s p → Covers p q ss rest
covers_more s p q ss rest e lt =
    elim (compare p q ss rest e) [
      | inl c ↦ c
      | inr f ↦ absurd (let a : byes s ss ≡ byes s (p ++ f.0 ∷ f.1.0) = ap (byes s) f.1.1 in omega (arith, byes_append s p (f.0 ∷ f.1.0)))
    ]

covers_owed : (s : ℕ) (p q owed rest : List Message) → p ++ q ≡ owed ++ rest → OnlyByes s owed → byes s owed ≤ byes s p → Covers p q owed rest
covers_owed s p q owed rest e only le =
    elim (compare p q owed rest e) [
      | inl c ↦ c
      | inr f ↦ absurd (
          let a : byes s owed ≡ byes s (p ++ f.0 ∷ f.1.0) = ap (byes s) f.1.1 in
          let one : length (byes_in s f.0) ≡ 1 = (each_right (λ (m : Message). (length (byes_in s m) ≡ 1) × (sends_in s m ≡ [])) p (f.0 ∷ f.1.0) (subst (OnlyByes s) f.1.1 only)).0.0 in
          let b : byes s (f.0 ∷ f.1.0) ≡ length (byes_in s f.0) + byes s f.1.0 = length_append (byes_in s f.0) (collect (byes_in s) f.1.0) in
          omega (arith, byes_append s p (f.0 ∷ f.1.0)))
    ]

event_behind_done : (act : Act) (e : Event) → MayFollow act (EventGiven e) → act ≡ Done
event_behind_done Done e h = refl
event_behind_done (Send u b) e h = absurd h
event_behind_done (Close u) e h = absurd h
event_behind_done (Reset u) e h = absurd h
event_behind_done (Bind u i) e h = absurd h
event_behind_done (Exist u) e h = absurd h
event_behind_done (Info u) e h = absurd h
event_behind_done (TaskAct d b) e h = absurd h
event_behind_done (FinishAct b) e h = absurd h
event_behind_done (Table c) e h = absurd h
event_behind_done (Stats c) e h = absurd h
event_behind_done Shutdown e h = absurd h

last_done : (s : ℕ) (owed : List Message) (act : Act) → 1 ≤ byes s (said_last s owed act) → act ≡ Done
last_done s owed Done h = refl
last_done s owed (Send u b) h = absurd (let z : byes s (send_msg s (Send u b)) ≡ 0 = ap (λ xs. length xs) (send_no_bye s (Send u b)) in omega arith)
last_done s owed (Close u) h = absurd (omega arith)
last_done s owed (Reset u) h = absurd (omega arith)
last_done s owed (Bind u i) h = absurd (omega arith)
last_done s owed (Exist u) h = absurd (omega arith)
last_done s owed (Info u) h = absurd (omega arith)
last_done s owed (TaskAct d b) h = absurd (omega arith)
last_done s owed (FinishAct b) h = absurd (omega arith)
last_done s owed (Table c) h = absurd (omega arith)
last_done s owed (Stats c) h = absurd (omega arith)
last_done s owed Shutdown h = absurd (omega arith)

-- what is left of what is said stands behind the Done that ends the last event of s
record IsLate (s : ℕ) (act : Act) (log : Log) (q : List Message) : Type 0 where
  until : Log
  late : Log
  split : log ≡ until ++ late
  done : ((until ≡ []) × (act ≡ Done)) ⊎ EndsDone until
  untold : told_of s late ≡ []
  sends : IsSuffix (collect (sends_in s) q) (Sends late s)

ends_more : (x : Given × Act) (until : Log) → ((until ≡ []) × (x.1 ≡ Done)) ⊎ EndsDone until → EndsDone (x ∷ until)
ends_more x until (inl n) = ([], (x.0, ap (λ (a : Act). (x.0, a) ∷ until) n.1 ∙ ap (λ (l : Log). (x.0, Done) ∷ l) n.0))
ends_more x until (inr d) = (x ∷ d.0, (d.1.0, ap (λ (l : Log). x ∷ l) d.1.1))

late_more : (s : ℕ) (x : Given × Act) (act : Act) (xs : Log) (q : List Message) → IsLate s x.1 xs q → IsLate s act (x ∷ xs) q
late_more s x act xs q i =
    record { until = x ∷ i.until; late = i.late; split = ap (λ (l : Log). x ∷ l) i.split; done = inr (ends_more x i.until i.done); untold = i.untold; sends = i.sends }

abbrev dues : Terms → ℕ → Log → ℕ
dues t s log = length (collect (due t s) (events_of log))

-- nothing more is due: what is left is behind this Done
late_here : (t : Terms) (s : ℕ) (owed : List Message) (act : Act) (e : Event) (b : Act) (xs : Log) (p q : List Message) → act ≡ Done → OnlyByes s owed → p ++ q ≡ owed ++ said_after t s (owes t s e) b xs → byes s owed ≤ byes s p → told_of s ((EventGiven e, b) ∷ xs) ≡ [] → IsLate s act ((EventGiven e, b) ∷ xs) q
late_here t s owed act e b xs p q d only eq le none =
    let c = covers_owed s p q owed (said_after t s (owes t s e) b xs) eq only le in
    record {
      until = [];
      late = (EventGiven e, b) ∷ xs;
      split = refl;
      done = inl (refl, d);
      untold = none;
      sends = (collect (sends_in s) c.0, sym (collect-append (sends_in s) c.0 q) ∙ ap (collect (sends_in s)) c.1.1 ∙ after_sends t s (owes t s e) b xs (owes_silent t s e));
    }

late : (t : Terms) (s : ℕ) (owed : List Message) (act : Act) (log : Log) (p q : List Message) → OnlyByes s owed → DialogueAfter act log → p ++ q ≡ said_after t s owed act log → byes s owed + dues t s log ≤ byes s p → 1 ≤ byes s owed + dues t s log → LastDue t s (told_of s log) → IsLate s act log q
late t s owed act [] p q only d e enough some last =
    let a : byes s (p ++ q) ≡ byes s (said_last s owed act) = ap (byes s) e in
    let done : act ≡ Done = last_done s owed act (omega (arith, byes_append s p q)) in
    let f : p ++ q ≡ owed ++ [] = e ∙ ap (said_last s owed) done ∙ sym (append-nil owed) in
    let c = covers_owed s p q owed [] f only (omega arith) in
    let n : q ≡ [] = (append_none c.0 q c.1.1).1 in
    record { until = []; late = []; split = refl; done = inl (refl, done); untold = refl; sends = ([], ap (collect (sends_in s)) n) }
late t s owed act ((EventGiven e, b) ∷ xs) p q only d eq enough some last =
    let done : act ≡ Done = event_behind_done act e d.0 in
    let split : dues t s ((EventGiven e, b) ∷ xs) ≡ length (due t s e) + dues t s xs = length_append (due t s e) (collect (due t s) (events_of xs)) in
    elim (equal_or_not (dues t s ((EventGiven e, b) ∷ xs)) 0) [
      | inl none ↦ late_here t s owed act e b xs p q done only eq (omega arith)
          (last_none t s (told_of s ((EventGiven e, b) ∷ xs)) last (ap (λ zs. length zs) (due_told t s (events_of ((EventGiven e, b) ∷ xs))) ∙ none))
      | inr more ↦
          (let c = covers_owed s p q owed (said_after t s (owes t s e) b xs) eq only (omega arith) in
          let n : byes s p ≡ byes s (owed ++ c.0) = ap (byes s) c.1.0 in
          let o : byes s (owes t s e) ≡ length (due t s e) = owes_count t s e in
          late_more s (EventGiven e, b) act xs q
          (late t s (owes t s e) b xs c.0 q (owes_only t s e) d.1 c.1.1
          (omega (arith, byes_append s owed c.0))
          (omega (arith, more))
          (last_right t s (of_session s e) (told_of s xs) last)))
    ]
late t s owed act ((AnswerGiven a, b) ∷ xs) p q only d eq enough some last =
    let ss : List Message = said_by s owed act (AnswerGiven a) in
    let z : byes s ss ≡ 0 = ap (λ xs. length xs) (answer_no_bye s owed act a) in
    let c = covers_more s p q ss (said_after t s owed b xs) eq (omega arith) in
    let n : byes s p ≡ byes s (ss ++ c.0) = ap (byes s) c.1.0 in
    late_more s (AnswerGiven a, b) act xs q (late t s owed b xs c.0 q only d.1 c.1.1 (omega (arith, byes_append s ss c.0)) some last)

pub stands_late : (t : Terms) (s : ℕ) (log : Log) (p q : List Message) → Dialogue log → p ++ q ≡ said t s log → length (collect (due t s) (told_of s log)) ≤ length (collect (byes_in s) p) → LastDue t s (told_of s log) → ¬ (told_of s log ≡ []) → StandsLate log s (collect (sends_in s) q)
stands_late t s log p q d e enough last told =
    let n : length (collect (due t s) (told_of s log)) ≡ dues t s log = ap (λ zs. length zs) (due_told t s (events_of log)) in
    let some : ¬ (dues t s log ≡ 0) = λ z. told (last_none t s (told_of s log) last (n ∙ z)) in
    let i = late t s [] Done log p q tt d e (omega arith) (omega (arith, some)) last in
    elim i.done [
      | inl none ↦ absurd (told (ap (told_of s) (i.split ∙ ap (λ (l : Log). l ++ i.late) none.0) ∙ i.untold))
      | inr ends ↦ record { until = i.until; late = i.late; split = i.split; done = ends; untold = i.untold; sends = i.sends }
    ]
