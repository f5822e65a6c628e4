-- The places that a log was told are those of its calls of the Table.
use Rattle.std.proofs.Common.{◌≡◌, ◌⊎◌, ℕ, ◌≤◌, List, [], ◌∷◌, ◌++◌, length, refl, ap, ◌∙◌, sym, subst, arith, inl, inr}
use Rattle.sw_base.specs.declared.table.Value.{Value}
use Rattle.sw_base.specs.declared.table.Reply.{Reply}
use Rattle.sw_lists.specs.Lists.{collect, Each}
use Rattle.sw_lists.proofs.Lists.{collect-append, length_append}
use Rattle.sw_step.specs.declared.actor.ActorId.{ActorId}
use Rattle.sw_record.specs.Words.{Act, Send, Close, Reset, Bind, Exist, Info, TaskAct, FinishAct, Table, Stats, Shutdown, Done, Answer, Sent, Asked, BindOk, Exists, InfoIs, Posted, Finished, TableIs, TableRefused, Count, NoSession, Bound, BadUid, WrongMode, TaskFull, BadTarget, NoTaskWorkers, IdsSpent, NotHere, NoTable, Given, EventGiven, AnswerGiven, Log}
use Rattle.sw_record.specs.Terms.{Terms}
use Rattle.sw_record.specs.Answers.{answers_after}
use Rattle.sw_record.specs.Dialogue.{MayAnswer, MayFollow, Dialogue, DialogueAfter}
use Rattle.sw_record.specs.Places.{Ran, place_in, placed, at_of, places}
use Rattle.sw_record.specs.AfterSeen.{told_place, place_of, told_places}
use Rattle.sw_world_ports.specs.Calls.{Did, Accepts, NoLink, NetOver, Looks, Binds, Frees, Marks, Idles, Stops, SeesStop, Adds, Sums, Tables, TableRefuses}
use Rattle.sw_world_ports.specs.Made.{seat_in}
use Rattle.sw_world_ports.specs.Ports.{Ports, AllAnswer, ported, all_ported}

-- an answer tells no place, or is the Table's
tells : (a : Answer) → (told_place (AnswerGiven a) ≡ []) ⊎ ((at : ℕ) × ((reply : Reply) × ((cells : List Value) × (a ≡ TableIs at reply cells))))
tells (TableIs at reply cells) = inr (at, (reply, (cells, refl)))
tells Sent = inl refl
tells Asked = inl refl
tells BindOk = inl refl
tells Exists = inl refl
tells (InfoIs f u) = inl refl
tells (Posted n) = inl refl
tells Finished = inl refl
tells (TableRefused f) = inl refl
tells (Count n) = inl refl
tells (NoSession n) = inl refl
tells (Bound n) = inl refl
tells BadUid = inl refl
tells WrongMode = inl refl
tells TaskFull = inl refl
tells BadTarget = inl refl
tells NoTaskWorkers = inl refl
tells IdsSpent = inl refl
tells NotHere = inl refl
tells NoTable = inl refl

-- an act that the Table doesn't answer
other : (act : Act) (a : Answer) → ((at : ℕ) (reply : Reply) (cells : List Value) → MayAnswer act (TableIs at reply cells) → ⊥) → places (place_in (act, a)) ≡ [] → MayAnswer act a → told_place (AnswerGiven a) ≡ places (place_in (act, a))
other act a lacks none may = elim (tells a) [ inl e ↦ e ∙ sym none | inr r ↦ absurd (lacks r.0 r.1.0 r.1.1.0 (subst (MayAnswer act) r.1.1.1 may)) ]

told_one : (act : Act) (a : Answer) → MayFollow act (AnswerGiven a) → told_place (AnswerGiven a) ≡ places (place_in (act, a))
told_one (Send s b) a may = other (Send s b) a (λ at reply cells h. h) refl may
told_one (Close s) a may = other (Close s) a (λ at reply cells h. h) refl may
told_one (Reset s) a may = other (Reset s) a (λ at reply cells h. h) refl may
told_one (Bind s u) a may = other (Bind s u) a (λ at reply cells h. h) refl may
told_one (Exist s) a may = other (Exist s) a (λ at reply cells h. h) refl may
told_one (Info s) a may = other (Info s) a (λ at reply cells h. h) refl may
told_one (TaskAct d b) a may = other (TaskAct d b) a (λ at reply cells h. h) refl may
told_one (FinishAct b) a may = other (FinishAct b) a (λ at reply cells h. h) refl may
told_one (Stats c) a may = other (Stats c) a (λ at reply cells h. h) refl may
told_one Shutdown a may = other Shutdown a (λ at reply cells h. h) refl may
told_one Done a may = absurd may
told_one (Table c) (TableIs at reply cells) may = refl
told_one (Table c) NoTable may = refl
told_one (Table c) (TableRefused f) may = refl
told_one (Table c) Sent may = refl
told_one (Table c) Asked may = refl
told_one (Table c) BindOk may = refl
told_one (Table c) Exists may = refl
told_one (Table c) (InfoIs f u) may = refl
told_one (Table c) (Posted n) may = refl
told_one (Table c) Finished may = refl
told_one (Table c) (Count n) may = refl
told_one (Table c) (NoSession n) may = refl
told_one (Table c) (Bound n) may = refl
told_one (Table c) BadUid may = refl
told_one (Table c) WrongMode may = refl
told_one (Table c) TaskFull may = refl
told_one (Table c) BadTarget may = refl
told_one (Table c) NoTaskWorkers may = refl
told_one (Table c) IdsSpent may = refl
told_one (Table c) NotHere may = refl

-- behind any act: Done has no answer, and others no event
told_after : (act : Act) (log : Log) → DialogueAfter act log → told_places log ≡ places (collect place_in (answers_after act log))
told_after act [] d = refl
told_after act ((EventGiven e, b) ∷ xs) d = told_after b xs d.1
told_after act ((AnswerGiven a, b) ∷ xs) d =
    ap (λ (ns : List ℕ). ns ++ told_places xs) (told_one act a d.0) ∙ ap (λ (ns : List ℕ). places (place_in (act, a)) ++ ns) (told_after b xs d.1) ∙ sym (collect-append at_of (place_in (act, a)) (collect place_in (answers_after b xs)))

pub told_is : (log : Log) → Dialogue log → told_places log ≡ places (placed log)
told_is log d = told_after Done log d

-- the calls of a turn have places behind those before it
pub seats_above : (t : Terms) (legal : List Ran → Type 0) (y : ActorId) (n : ℕ) (p : Ports) (ds : List Did) → n ≤ length p.table → AllAnswer t legal p y ds → Each (λ m. n ≤ m) (places (collect seat_in ds))
seats_above t legal y n p [] le a = tt
seats_above t legal y n p (Tables at x ∷ ds) le a = ((let e : at ≡ length p.table = a.0.0 in omega arith), seats_above t legal y n (ported t p y (Tables at x)) ds (omega (arith, length_append p.table (x ∷ []))) a.1)
seats_above t legal y n p (Accepts ip c ∷ ds) le a = seats_above t legal y n (ported t p y (Accepts ip c)) ds le a.1
seats_above t legal y n p (NoLink ∷ ds) le a = seats_above t legal y n (ported t p y NoLink) ds le a.1
seats_above t legal y n p (NetOver ∷ ds) le a = seats_above t legal y n (ported t p y NetOver) ds le a.1
seats_above t legal y n p (Looks s x ∷ ds) le a = seats_above t legal y n (ported t p y (Looks s x)) ds le a.1
seats_above t legal y n p (Binds s u x ∷ ds) le a = seats_above t legal y n (ported t p y (Binds s u x)) ds le a.1
seats_above t legal y n p (Frees s u ∷ ds) le a = seats_above t legal y n (ported t p y (Frees s u)) ds le a.1
seats_above t legal y n p (Marks b ∷ ds) le a = seats_above t legal y n (ported t p y (Marks b)) ds le a.1
seats_above t legal y n p (Idles k m x ∷ ds) le a = seats_above t legal y n (ported t p y (Idles k m x)) ds le a.1
seats_above t legal y n p (Stops ∷ ds) le a = seats_above t legal y n (ported t p y Stops) ds le a.1
seats_above t legal y n p (SeesStop b ∷ ds) le a = seats_above t legal y n (ported t p y (SeesStop b)) ds le a.1
seats_above t legal y n p (Adds c ∷ ds) le a = seats_above t legal y n (ported t p y (Adds c)) ds le a.1
seats_above t legal y n p (Sums c m ∷ ds) le a = seats_above t legal y n (ported t p y (Sums c m)) ds le a.1
seats_above t legal y n p (TableRefuses c f ∷ ds) le a = seats_above t legal y n (ported t p y (TableRefuses c f)) ds le a.1

pub table_grows : (t : Terms) (y : ActorId) (p : Ports) (ds : List Did) → length p.table ≤ length (all_ported t p y ds).table
table_grows t y p [] = omega arith
table_grows t y p (Tables at x ∷ ds) = omega (arith, length_append p.table (x ∷ []), table_grows t y (ported t p y (Tables at x)) ds)
table_grows t y p (Accepts ip c ∷ ds) = table_grows t y (ported t p y (Accepts ip c)) ds
table_grows t y p (NoLink ∷ ds) = table_grows t y (ported t p y NoLink) ds
table_grows t y p (NetOver ∷ ds) = table_grows t y (ported t p y NetOver) ds
table_grows t y p (Looks s x ∷ ds) = table_grows t y (ported t p y (Looks s x)) ds
table_grows t y p (Binds s u x ∷ ds) = table_grows t y (ported t p y (Binds s u x)) ds
table_grows t y p (Frees s u ∷ ds) = table_grows t y (ported t p y (Frees s u)) ds
table_grows t y p (Marks b ∷ ds) = table_grows t y (ported t p y (Marks b)) ds
table_grows t y p (Idles k m x ∷ ds) = table_grows t y (ported t p y (Idles k m x)) ds
table_grows t y p (Stops ∷ ds) = table_grows t y (ported t p y Stops) ds
table_grows t y p (SeesStop b ∷ ds) = table_grows t y (ported t p y (SeesStop b)) ds
table_grows t y p (Adds c ∷ ds) = table_grows t y (ported t p y (Adds c)) ds
table_grows t y p (Sums c m ∷ ds) = table_grows t y (ported t p y (Sums c m)) ds
table_grows t y p (TableRefuses c f ∷ ds) = table_grows t y (ported t p y (TableRefuses c f)) ds

append_same : {A : Type 0} (xs ys zs : List A) → xs ++ ys ≡ xs ++ zs → ys ≡ zs
append_same [] ys zs e = e
append_same (x ∷ xs) ys zs e = append_same xs ys zs (cc)

-- what a further entry tells is of the turn's calls
pub told_new : (log : Log) (x : Given × Act) (mine ds : List Did) (n : ℕ) → Dialogue log → Dialogue (log ++ x ∷ []) → placed log ≡ collect seat_in mine → placed (log ++ x ∷ []) ≡ collect seat_in (mine ++ ds) → Each (λ m. n ≤ m) (places (collect seat_in ds)) → Each (λ m. n ≤ m) (told_places (x ∷ []))
told_new log x mine ds n d e a b h =
    let old : told_places log ≡ places (collect seat_in mine) = told_is log d ∙ ap places a in
    let all : told_places log ++ told_places (x ∷ []) ≡ places (collect seat_in mine) ++ places (collect seat_in ds) =
    sym (collect-append place_of log (x ∷ [])) ∙ told_is (log ++ x ∷ []) e ∙ ap places b ∙ ap places (collect-append seat_in mine ds) ∙ collect-append at_of (collect seat_in mine) (collect seat_in ds) in
    let new : told_places (x ∷ []) ≡ places (collect seat_in ds) = append_same (places (collect seat_in mine)) (told_places (x ∷ [])) (places (collect seat_in ds)) (ap (λ (ns : List ℕ). ns ++ told_places (x ∷ [])) (sym old) ∙ all) in
    subst (Each (λ m. n ≤ m)) (sym new) h
