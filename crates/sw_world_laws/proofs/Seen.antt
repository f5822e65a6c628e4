-- The marks show that calls of the Table come behind those that were seen.
use Rattle.std.proofs.Common.{◌≡◌, ◌⊎◌, ℕ, ◌+◌, ◌<◌, ◌≤◌, Bool, true, false, if◌then◌else◌, ◌==◌, List, [], ◌∷◌, ◌++◌, length, refl, ap, ◌∙◌, sym, subst, append-nil, append_assoc, arith, inl, inr, zero, suc}
use Rattle.sw_lists.specs.Lists.{collect, IsPrefix, Each, Has}
use Rattle.sw_lists.specs.Numbers.{IsCounting}
use Rattle.sw_lists.proofs.Lists.{eq_same, collect-append, collect-collect, collect-same, append_none, prefix_length, each_left, each_right, length_append}
use Rattle.sw_step.specs.declared.actor.ActorId.{ActorId}
use Rattle.sw_step.specs.declared.actor.ActorId.TheVariants.{Door, Reactor, Worker, Tasker}
use Rattle.sw_record.specs.Words.{Event, Connect, Packet, Closed, Finish, Task, Act, Send, Close, Reset, Bind, Exist, Info, TaskAct, FinishAct, Table, Stats, Shutdown, Done, Sent, Asked, BindOk, Exists, InfoIs, Posted, Finished, TableIs, TableRefused, Count, NoSession, Bound, BadUid, WrongMode, TaskFull, BadTarget, NoTaskWorkers, IdsSpent, NotHere, NoTable, Given, EventGiven, AnswerGiven, Log}
use Rattle.sw_record.specs.Terms.{Terms}
use Rattle.sw_record.specs.Logs.{event_of, events_of, numbers}
use Rattle.sw_record.specs.Places.{Ran}
use Rattle.sw_record.specs.Tasks.{post_of, posted_by, posts, posted_in, tasks_of, finish_of, finishes_of, gave_by, now_then, give_of, made, among, only}
use Rattle.sw_record.specs.AfterSeen.{place_of as place_told, told_places, IsPostedNext, IsPostedAt, IsMadeAt}
use Rattle.sw_past.specs.Messages.{Message, FreshMsg, SendMsg, CloseMsg, ResetMsg, Bye, EventMsg, OverMsg, NoMore}
use Rattle.sw_past.specs.Past.{Mail, bare, of}
use Rattle.sw_past.specs.Views.{for_hand, heard_in, finish_in}
use Rattle.sw_past.specs.Said.{last_after, posted_after, now_after, given_after}
use Rattle.sw_past.specs.Routes.{MayPush}
use Rattle.sw_join.specs.Modes.{AimOf, EndOf}
use Rattle.sw_join.specs.Seen.{IsMarked, SeenLaws}
use Rattle.sw_join.proofs.Talking.{posts_settled, made_settled, given_more}
use Rattle.sw_join.proofs.Tasks.{heard_finish, only_share, sorted}
use Rattle.sw_join.proofs.Told.{took_all}
use Rattle.sw_world_laws.specs.Actors.{Actors}
use Rattle.sw_world_laws.specs.World.{Core}
use Rattle.sw_world_laws.specs.History.{History, past_of}
use Rattle.sw_world_laws.specs.Marks.{posted_count, made_count, IsMark}
use Rattle.sw_world_laws.specs.Law.{Holds}
use Rattle.sw_world_laws.proofs.Locals.{locals, joint, task_locals, hand_law}

-- a message gives its handler one event at most
for_one : (y : ActorId) (e : Event) → (for_hand y e ≡ []) ⊎ (for_hand y e ≡ e ∷ [])
for_one (Tasker k) (Task w id b) = inr refl
for_one (Tasker k) (Finish id b) = inl refl
for_one (Tasker k) (Connect s) = inl refl
for_one (Tasker k) (Packet s i b) = inl refl
for_one (Tasker k) (Closed s) = inl refl
for_one (Worker k) (Task w id b) = inl refl
for_one (Worker k) (Finish id b) = inr refl
for_one (Worker k) (Connect s) = inr refl
for_one (Worker k) (Packet s i b) = inr refl
for_one (Worker k) (Closed s) = inr refl
for_one (Reactor k) (Task w id b) = inl refl
for_one (Reactor k) (Finish id b) = inr refl
for_one (Reactor k) (Connect s) = inr refl
for_one (Reactor k) (Packet s i b) = inr refl
for_one (Reactor k) (Closed s) = inr refl
for_one Door (Task w id b) = inl refl
for_one Door (Finish id b) = inr refl
for_one Door (Connect s) = inr refl
for_one Door (Packet s i b) = inr refl
for_one Door (Closed s) = inr refl

heard_one : (y : ActorId) (m : Message) → (heard_in y m ≡ []) ⊎ ((e : Event) × ((m ≡ EventMsg e) × (heard_in y m ≡ e ∷ [])))
heard_one y (FreshMsg ip s) = inl refl
heard_one y (SendMsg s b) = inl refl
heard_one y (CloseMsg s) = inl refl
heard_one y (ResetMsg s) = inl refl
heard_one y (Bye s) = inl refl
heard_one y (OverMsg id) = inl refl
heard_one y NoMore = inl refl
heard_one y (EventMsg e) = elim (for_one y e) [ inl q ↦ inl (append-nil (for_hand y e) ∙ q) | inr q ↦ inr (e, (refl, append-nil (for_hand y e) ∙ q)) ]

-- where the message of an event was taken that a handler was given
pub record Where (y : ActorId) (ms : Mail) (xs : List Event) (e : Event) : Type 0 where
  pub early : Mail
  pub who : ActorId
  pub rest : Mail
  pub split : ms ≡ early ++ (who, EventMsg e) ∷ rest
  pub heard : collect (heard_in y) (bare early) ≡ xs

locate : (y : ActorId) (ms : Mail) (xs : List Event) (e : Event) (ys : List Event) → collect (heard_in y) (bare ms) ≡ xs ++ e ∷ ys → Where y ms xs e
locate y [] xs e ys q = absurd (let i = (append_none xs (e ∷ ys) (sym q)).1 in cc)
locate y ((who, m) ∷ ms) xs e ys q = by (heard_one y m) q (λ zs r. locate y ms zs e ys r)
  where
    later : (d : List Event) (zs : List Event) → heard_in y m ≡ d → Where y ms zs e → Where y ((who, m) ∷ ms) (d ++ zs) e
    later d zs i r = record { early = (who, m) ∷ r.early; who = r.who; rest = r.rest; split = ap (λ (v : Mail). (who, m) ∷ v) r.split; heard = ap (λ (v : List Event). v ++ collect (heard_in y) (bare r.early)) i ∙ ap (λ (v : List Event). d ++ v) r.heard }

    one : (d : Event) (zs : List Event) → m ≡ EventMsg d → heard_in y m ≡ d ∷ [] → d ∷ collect (heard_in y) (bare ms) ≡ zs ++ e ∷ ys → ((vs : List Event) → collect (heard_in y) (bare ms) ≡ vs ++ e ∷ ys → Where y ms vs e) → Where y ((who, m) ∷ ms) zs e
    one d [] i h r f = let j : d ≡ e = cc in record { early = []; who = who; rest = ms; split = ap (λ (v : Message). (who, v) ∷ ms) (i ∙ ap (λ v. EventMsg v) j); heard = refl }
    one d (z ∷ zs) i h r f =
        let j : d ≡ z = cc in
        let k : collect (heard_in y) (bare ms) ≡ zs ++ e ∷ ys = cc in
        later (z ∷ []) zs (h ∙ ap (λ v. v ∷ []) j) (f zs k)

    by : (heard_in y m ≡ []) ⊎ ((d : Event) × ((m ≡ EventMsg d) × (heard_in y m ≡ d ∷ []))) → heard_in y m ++ collect (heard_in y) (bare ms) ≡ xs ++ e ∷ ys → ((vs : List Event) → collect (heard_in y) (bare ms) ≡ vs ++ e ∷ ys → Where y ms vs e) → Where y ((who, m) ∷ ms) xs e
    by (inl none) r f = later [] xs none (f xs (sym (ap (λ (v : List Event). v ++ collect (heard_in y) (bare ms)) none) ∙ r))
    by (inr (d, (i, h))) r f = one d xs i h (sym (ap (λ (v : List Event). v ++ collect (heard_in y) (bare ms)) h) ∙ r) f

-- what a log that has a given event at hand took
at_event : (y : ActorId) (took : Mail) (log front rest : Log) (e : Event) (act : Act) → IsPrefix (events_of log) (collect (heard_in y) (bare took)) → log ≡ front ++ (EventGiven e, act) ∷ rest → Where y took (events_of front) e
at_event y took log front rest e act p q =
    locate y took (events_of front) e (events_of rest ++ p.0)
    (sym p.1 ∙ ap (λ (v : Log). events_of v ++ p.0) q ∙ ap (λ (v : List Event). v ++ p.0) (collect-append event_of front ((EventGiven e, act) ∷ rest)) ∙ append_assoc (events_of front) (e ∷ events_of rest) p.0)

-- a part of a log that has no more events than stand before this one ends before it
ends_before : (before since front : Log) (e : Event) (act : Act) (rest : Log) → before ++ since ≡ front ++ (EventGiven e, act) ∷ rest → length (events_of before) ≤ length (events_of front) → (v : Log) × (since ≡ v ++ (EventGiven e, act) ∷ rest)
ends_before [] since front e act rest q le = (front, q)
ends_before (b ∷ bs) since [] e act rest q le = absurd (let i : b ≡ (EventGiven e, act) = cc in let j : event_of b ≡ e ∷ [] = ap event_of i in omega (arith, le, length_append (event_of b) (events_of bs), ap (λ (v : List Event). length v) j))
ends_before (b ∷ bs) since (f ∷ fs) e act rest q le =
    let i : b ≡ f = cc in
    let j : bs ++ since ≡ fs ++ (EventGiven e, act) ∷ rest = cc in
    ends_before bs since fs e act rest j (omega (arith, le, length_append (event_of b) (events_of bs), length_append (event_of f) (events_of fs), ap (λ (v : Given × Act). length (event_of v)) i))

told_behind : (n : ℕ) (before since front : Log) (e : Event) (act : Act) (rest : Log) → before ++ since ≡ front ++ (EventGiven e, act) ∷ rest → length (events_of before) ≤ length (events_of front) → Each (λ m. n ≤ m) (told_places since) → Each (λ m. n ≤ m) (told_places rest)
told_behind n before since front e act rest q le h =
    let r = ends_before before since front e act rest q le in
    each_right (λ m. n ≤ m) (told_places r.0) (told_places rest) (subst (Each (λ m. n ≤ m)) (ap told_places r.1 ∙ collect-append place_told r.0 ((EventGiven e, act) ∷ rest)) h)

-- one list begins the other
pub data Meets {A : Type 0} (xs more ys zs : List A) : Type 0 where
  Longer : (v : List A) → xs ≡ ys ++ v → Meets xs more ys zs
  Shorter : (x : A) (v : List A) → ys ≡ xs ++ x ∷ v → more ≡ x ∷ (v ++ zs) → Meets xs more ys zs

meets : {A : Type 0} (xs more ys zs : List A) → xs ++ more ≡ ys ++ zs → Meets xs more ys zs
meets [] more [] zs e = Longer [] refl
meets [] more (y ∷ ys) zs e = Shorter y ys refl e
meets (x ∷ xs) more [] zs e = Longer (x ∷ xs) refl
meets {A} (x ∷ xs) more (y ∷ ys) zs e =
    let i : x ≡ y = cc in
    let j : xs ++ more ≡ ys ++ zs = cc in
    by (meets xs more ys zs j) i
  where
    by : Meets xs more ys zs → x ≡ y → Meets (x ∷ xs) more (y ∷ ys) zs
    by (Longer v q) i = Longer v (ap (λ (w : List A). x ∷ w) q ∙ ap (λ w. w ∷ (ys ++ v)) i)
    by (Shorter z v q r) i = Shorter z v (ap (λ (w : List A). y ∷ w) q ∙ ap (λ w. w ∷ (xs ++ z ∷ v)) (sym i)) r

-- what stands before a message's act was told by the time of its mark
told_before : (calls : ℕ) (settles : Log → ℕ) (n : ℕ) (sender taker : Log) (heard : List Event) (m : IsMark calls settles n sender taker heard) → ((xs ys : Log) → settles xs ≤ settles (xs ++ ys)) →
    (before behind : Log) (given : Given) (act : Act) → sender ≡ before ++ (given, act) ∷ behind → settles (before ++ (given, act) ∷ []) ≤ n → Each (λ k. k < m.mark) (told_places (before ++ (given, Done) ∷ []))
told_before calls settles n sender taker heard m grows before behind given act e few =
    subst (Each (λ k. k < m.mark)) same (by (meets m.first m.more (before ++ (given, act) ∷ []) behind (sym m.sent ∙ e ∙ sym (append_assoc before ((given, act) ∷ []) behind))))
  where
    same : told_places (before ++ (given, act) ∷ []) ≡ told_places (before ++ (given, Done) ∷ [])
    same = collect-append place_told before ((given, act) ∷ []) ∙ sym (collect-append place_told before ((given, Done) ∷ []))

    by : Meets m.first m.more (before ++ (given, act) ∷ []) behind → Each (λ k. k < m.mark) (told_places (before ++ (given, act) ∷ []))
    by (Longer v q) = each_left (λ k. k < m.mark) (told_places (before ++ (given, act) ∷ [])) (told_places v) (subst (Each (λ k. k < m.mark)) (ap told_places q ∙ collect-append place_told (before ++ (given, act) ∷ []) v) m.below)
    by (Shorter x v q r) =
        let a : n < settles (m.first ++ x ∷ []) = m.settled x (v ++ behind) r in
        let b : settles (m.first ++ x ∷ []) ≤ settles ((m.first ++ x ∷ []) ++ v) = grows (m.first ++ x ∷ []) v in
        let d : settles ((m.first ++ x ∷ []) ++ v) ≡ settles (before ++ (given, act) ∷ []) = ap settles (append_assoc m.first (x ∷ []) v ∙ sym q) in
        absurd (omega (arith, few))

-- tasks that are posted for good
posted_grows : (act : Act) (xs ys : Log) → length (posted_after act xs) ≤ length (posted_after act (xs ++ ys))
posted_grows act [] ys = omega arith
posted_grows act (x ∷ xs) ys = omega (arith, posted_grows x.1 xs ys, length_append (posted_by act x.0) (posted_after x.1 xs), length_append (posted_by act x.0) (posted_after x.1 (xs ++ ys)))

one_post : (act : Act) → length (post_of act) ≤ 1
one_post (TaskAct d b) = omega arith
one_post (Send s b) = omega arith
one_post (Close s) = omega arith
one_post (Reset s) = omega arith
one_post (Bind s u) = omega arith
one_post (Exist s) = omega arith
one_post (Info s) = omega arith
one_post (FinishAct b) = omega arith
one_post (Table c) = omega arith
one_post (Stats c) = omega arith
one_post Shutdown = omega arith
one_post Done = omega arith

one_posted : (act : Act) (x : Given × Act) → length (posted_by act x.0) ≤ length (posted_in x)
one_posted act (EventGiven e, b) = omega arith
one_posted act (AnswerGiven (Posted n), b) = omega (arith, one_post act)
one_posted act (AnswerGiven Sent, b) = omega arith
one_posted act (AnswerGiven Asked, b) = omega arith
one_posted act (AnswerGiven BindOk, b) = omega arith
one_posted act (AnswerGiven Exists, b) = omega arith
one_posted act (AnswerGiven (InfoIs f u), b) = omega arith
one_posted act (AnswerGiven Finished, b) = omega arith
one_posted act (AnswerGiven (TableIs at r v), b) = omega arith
one_posted act (AnswerGiven (TableRefused f), b) = omega arith
one_posted act (AnswerGiven (Count n), b) = omega arith
one_posted act (AnswerGiven (NoSession n), b) = omega arith
one_posted act (AnswerGiven (Bound n), b) = omega arith
one_posted act (AnswerGiven BadUid, b) = omega arith
one_posted act (AnswerGiven WrongMode, b) = omega arith
one_posted act (AnswerGiven TaskFull, b) = omega arith
one_posted act (AnswerGiven BadTarget, b) = omega arith
one_posted act (AnswerGiven NoTaskWorkers, b) = omega arith
one_posted act (AnswerGiven IdsSpent, b) = omega arith
one_posted act (AnswerGiven NotHere, b) = omega arith
one_posted act (AnswerGiven NoTable, b) = omega arith

few_posted : (act : Act) (xs : Log) → length (posted_after act xs) ≤ length (collect posted_in xs)
few_posted act [] = omega arith
few_posted act (x ∷ xs) = omega (arith, few_posted x.1 xs, one_posted act x, length_append (posted_by act x.0) (posted_after x.1 xs), length_append (posted_in x) (collect posted_in xs))

counting_at : (n m : ℕ) (xs ys : List ℕ) → IsCounting n (xs ++ m ∷ ys) → m ≡ n + length xs
counting_at n m [] ys c = let i : m ≡ n = c.0 in omega arith
counting_at n m (x ∷ xs) ys c = let i : m ≡ n + 1 + length xs = counting_at (n + 1) m xs ys c.1 in omega arith

last_of : (act : Act) (xs : Log) (g : Given) (a : Act) → last_after act (xs ++ (g, a) ∷ []) ≡ a
last_of act [] g a = refl
last_of act (x ∷ xs) g a = last_of x.1 xs g a

-- at most so many tasks are posted for good before one of this number
posted_few : (log : Log) (id : ℕ) (before behind : Log) (given : Given) → IsCounting 0 (collect posted_in log) → (p : IsPostedAt log id before behind given) → posted_count (before ++ (given, TaskAct p.dst p.bytes) ∷ []) ≤ id
posted_few log id before behind given c p = by behind p.split p.next
  where
    here : Log
    here = before ++ (given, TaskAct p.dst p.bytes) ∷ []

    by : (xs : Log) → log ≡ before ++ (given, TaskAct p.dst p.bytes) ∷ xs → IsPostedNext id (length (posts log)) xs → posted_count (before ++ (given, TaskAct p.dst p.bytes) ∷ []) ≤ id
    by [] e q =
        let a : length (posts log) ≡ posted_count log + length (post_of (last_after Done log)) = ap length (posts_settled log) ∙ length_append (posted_after Done log) (post_of (last_after Done log)) in
        let b : length (post_of (last_after Done log)) ≡ 1 = ap (λ (v : Act). length (post_of v)) (ap (last_after Done) e ∙ last_of Done before given (TaskAct p.dst p.bytes)) in
        let d : posted_count log ≡ posted_count (before ++ (given, TaskAct p.dst p.bytes) ∷ []) = ap posted_count e in
        omega (arith, q)
    by ((AnswerGiven (Posted n), act) ∷ xs) e q =
        let a : collect posted_in log ≡ collect posted_in (before ++ (given, TaskAct p.dst p.bytes) ∷ []) ++ n ∷ collect posted_in xs =
        ap (collect posted_in) (e ∙ sym (append_assoc before ((given, TaskAct p.dst p.bytes) ∷ []) ((AnswerGiven (Posted n), act) ∷ xs))) ∙ collect-append posted_in (before ++ (given, TaskAct p.dst p.bytes) ∷ []) ((AnswerGiven (Posted n), act) ∷ xs) in
        let b : n ≡ 0 + length (collect posted_in (before ++ (given, TaskAct p.dst p.bytes) ∷ [])) = counting_at 0 n (collect posted_in (before ++ (given, TaskAct p.dst p.bytes) ∷ [])) (collect posted_in xs) (subst (IsCounting 0) a c) in
        omega (arith, q, few_posted Done (before ++ (given, TaskAct p.dst p.bytes) ∷ []))
    by ((EventGiven e', act) ∷ xs) e q = absurd q
    by ((AnswerGiven Sent, act) ∷ xs) e q = absurd q
    by ((AnswerGiven Asked, act) ∷ xs) e q = absurd q
    by ((AnswerGiven BindOk, act) ∷ xs) e q = absurd q
    by ((AnswerGiven Exists, act) ∷ xs) e q = absurd q
    by ((AnswerGiven (InfoIs f u), act) ∷ xs) e q = absurd q
    by ((AnswerGiven Finished, act) ∷ xs) e q = absurd q
    by ((AnswerGiven (TableIs at r v), act) ∷ xs) e q = absurd q
    by ((AnswerGiven (TableRefused f), act) ∷ xs) e q = absurd q
    by ((AnswerGiven (Count n), act) ∷ xs) e q = absurd q
    by ((AnswerGiven (NoSession n), act) ∷ xs) e q = absurd q
    by ((AnswerGiven (Bound n), act) ∷ xs) e q = absurd q
    by ((AnswerGiven BadUid, act) ∷ xs) e q = absurd q
    by ((AnswerGiven WrongMode, act) ∷ xs) e q = absurd q
    by ((AnswerGiven TaskFull, act) ∷ xs) e q = absurd q
    by ((AnswerGiven BadTarget, act) ∷ xs) e q = absurd q
    by ((AnswerGiven NoTaskWorkers, act) ∷ xs) e q = absurd q
    by ((AnswerGiven IdsSpent, act) ∷ xs) e q = absurd q
    by ((AnswerGiven NotHere, act) ∷ xs) e q = absurd q
    by ((AnswerGiven NoTable, act) ∷ xs) e q = absurd q

-- things that are given back for good
given_grows : (w : ℕ) (now : List ℕ) (act : Act) (xs ys : Log) → length (given_after w now act xs) ≤ length (given_after w now act (xs ++ ys))
given_grows w now act [] ys = omega arith
given_grows w now act (x ∷ xs) ys = omega (arith, given_grows w (now_then w now x.0) x.1 xs ys, length_append (gave_by now act x.0) (given_after w (now_then w now x.0) x.1 xs), length_append (gave_by now act x.0) (given_after w (now_then w now x.0) x.1 (xs ++ ys)))

made_few : (w : ℕ) (log : Log) (n : ℕ) (before behind : Log) (given : Given) → (p : IsMadeAt w log n before behind given) → made_count w (before ++ (given, FinishAct p.bytes) ∷ []) ≤ n
made_few w log n before behind given p =
    let x : Log = before ++ (given, Done) ∷ [] in
    let a : length (made w x) ≡ made_count w x + length (give_of (now_after w [] x) (last_after Done x)) = ap length (made_settled w x) ∙ length_append (given_after w [] Done x) (give_of (now_after w [] x) (last_after Done x)) in
    let b : made_count w (before ++ (given, FinishAct p.bytes) ∷ []) ≡ made_count w x = ap length (given_more w before given (FinishAct p.bytes) ∙ sym (given_more w before given Done)) in
    omega (arith, p.before_it)

among_has : (ids : List ℕ) (n : ℕ) → Has n ids → among ids n ≡ true
among_has [] n h = absurd (let q = h.1 in cc)
among_has (m ∷ ms) n (zero, q) = ap (λ (b : Bool). if b then true else among ms n) (eq_same m n (let i : m ≡ n = cc in i))
among_has (m ∷ ms) n (suc k, q) = pick (m == n) (among_has ms n (k, q))
  where
    pick : (b : Bool) → among ms n ≡ true → (if b then true else among ms n) ≡ true
    pick true e = refl
    pick false e = e

seen_task : (t : Terms) (legal : List Ran → Type 0) (p : Actors t) (c : Core p.State) (h : History) → Holds t legal p c h → c.lost ≡ false → (w k : ℕ) → w < t.worker_num → k < t.tasker_num → (id : ℕ) (bytes : List ℕ) (act : Act) (front rest before behind : Log) (given : Given) → p.log (c.states (Tasker k)) ≡ front ++ (EventGiven (Task w id bytes), act) ∷ rest → IsPostedAt (p.log (c.states (Worker w))) id before behind given → IsMarked (told_places (before ++ (given, Done) ∷ [])) (told_places rest)
seen_task t legal p c h l ok w k lw lk id bytes act front rest before behind given e q =
    let at = at_event (Tasker k) (h.took (Tasker k)) (p.log (c.states (Tasker k))) front rest (Task w id bytes) act (hand_law t legal p c h l (Tasker k) (inr (k, (lk, refl)))).told e in
    let came : Each (λ (e : ActorId × Message). MayPush t e.0 (Tasker k) e.1) (at.early ++ (at.who, EventMsg (Task w id bytes)) ∷ at.rest) = subst (Each (λ (e : ActorId × Message). MayPush t e.0 (Tasker k) e.1)) at.split (took_all t (AimOf t) (EndOf t) (past_of t p c h) (locals t legal p c h l) (joint t legal p c h l) (Tasker k)) in
    let who : at.who ≡ Worker w = (each_right (λ (e : ActorId × Message). MayPush t e.0 (Tasker k) e.1) at.early ((at.who, EventMsg (Task w id bytes)) ∷ at.rest) came).0.0 in
    let m = l.task_marks w k lw lk id bytes at.early at.rest (at.split ∙ ap (λ (v : ActorId). at.early ++ (v, EventMsg (Task w id bytes)) ∷ at.rest) who) in
    let counting : IsCounting 0 (collect posted_in (p.log (c.states (Worker w)))) = ((task_locals t legal p c h l ok).worker w lw).posted in (
      m.mark,
      (
        told_before (length c.ports.table) posted_count id (p.log (c.states (Worker w))) (p.log (c.states (Tasker k))) (collect (heard_in (Tasker k)) (bare at.early)) m (λ xs ys. posted_grows Done xs ys) before behind given (TaskAct q.dst q.bytes) q.split (posted_few (p.log (c.states (Worker w))) id before behind given counting q),
        told_behind m.mark m.before m.since front (Task w id bytes) act rest (sym m.taken ∙ e) (let le : length (events_of m.before) ≤ length (collect (heard_in (Tasker k)) (bare at.early)) = prefix_length (events_of m.before) (collect (heard_in (Tasker k)) (bare at.early)) m.told in omega (arith, ap (λ (v : List Event). length v) at.heard)) m.above,
      ),
    )

seen_finish : (t : Terms) (legal : List Ran → Type 0) (p : Actors t) (c : Core p.State) (h : History) → Holds t legal p c h → c.lost ≡ false → (w k : ℕ) → w < t.worker_num → k < t.tasker_num → (id : ℕ) (bytes : List ℕ) (act : Act) (front rest before behind : Log) (given : Given) → p.log (c.states (Worker w)) ≡ front ++ (EventGiven (Finish id bytes), act) ∷ rest → Has id (numbers (tasks_of w (p.log (c.states (Tasker k))))) → IsMadeAt w (p.log (c.states (Tasker k))) (length (only (numbers (tasks_of w (p.log (c.states (Tasker k))))) (finishes_of front))) before behind given → IsMarked (told_places (before ++ (given, Done) ∷ [])) (told_places rest)
seen_finish t legal p c h l ok w k lw lk id bytes act front rest before behind given e has q =
    let ids : List ℕ = numbers (tasks_of w (p.log (c.states (Tasker k)))) in
    let at = at_event (Worker w) (h.took (Worker w)) (p.log (c.states (Worker w))) front rest (Finish id bytes) act (hand_law t legal p c h l (Worker w) (inl (w, (lw, refl)))).told e in
    let all = sorted t (AimOf t) (EndOf t) (past_of t p c h) (locals t legal p c h l) (joint t legal p c h l) (task_locals t legal p c h l ok) w k lw lk in
    let parts = subst (Each _) at.split all in
    let who : at.who ≡ Tasker k = elim (each_right _ at.early ((at.who, EventMsg (Finish id bytes)) ∷ at.rest) parts).0 [
      | inl r ↦ r.0
      | inr r ↦ absurd (let i : among ids id ≡ false = r.1.0 in let j : among ids id ≡ true = among_has ids id has in let v : true ≡ false = sym j ∙ i in cc)
    ] in
    let m = l.finish_marks w k lw lk id bytes at.early at.rest (at.split ∙ ap (λ (v : ActorId). at.early ++ (v, EventMsg (Finish id bytes)) ∷ at.rest) who) in
    let share : only ids (collect finish_in (bare at.early)) ≡ collect finish_in (of (Tasker k) at.early) = only_share ids (Tasker k) at.early (each_left _ at.early ((at.who, EventMsg (Finish id bytes)) ∷ at.rest) parts) in
    let given_back : finishes_of front ≡ collect finish_in (bare at.early) = ap (collect finish_of) (sym at.heard) ∙ collect-collect finish_of (heard_in (Worker w)) (bare at.early) ∙ collect-same (λ x. collect finish_of (heard_in (Worker w) x)) finish_in (heard_finish w) (bare at.early) in
    let number : length (only ids (finishes_of front)) ≡ length (collect finish_in (of (Tasker k) at.early)) = ap (λ (v : List (ℕ × List ℕ)). length (only ids v)) given_back ∙ ap (λ (v : List (ℕ × List ℕ)). length v) share in
    let few : made_count w (before ++ (given, FinishAct q.bytes) ∷ []) ≤ length (only ids (finishes_of front)) = made_few w (p.log (c.states (Tasker k))) (length (only ids (finishes_of front))) before behind given q in (
      m.mark,
      (
        told_before (length c.ports.table) (made_count w) (length (collect finish_in (of (Tasker k) at.early))) (p.log (c.states (Tasker k))) (p.log (c.states (Worker w))) (collect (heard_in (Worker w)) (bare at.early)) m (λ xs ys. given_grows w [] Done xs ys) before behind given (FinishAct q.bytes) q.split (omega (arith, few, number)),
        told_behind m.mark m.before m.since front (Finish id bytes) act rest (sym m.taken ∙ e) (let le : length (events_of m.before) ≤ length (collect (heard_in (Worker w)) (bare at.early)) = prefix_length (events_of m.before) (collect (heard_in (Worker w)) (bare at.early)) m.told in omega (arith, ap (λ (v : List Event). length v) at.heard)) m.above,
      ),
    )

pub seen_laws : (t : Terms) (legal : List Ran → Type 0) (p : Actors t) (c : Core p.State) (h : History) → Holds t legal p c h → c.lost ≡ false → SeenLaws t (past_of t p c h)
seen_laws t legal p c h l ok =
    record {
      task = λ w k lw lk id bytes act front rest before behind given e q. seen_task t legal p c h l ok w k lw lk id bytes act front rest before behind given e q;
      finish = λ w k lw lk id bytes act front rest before behind given e has q. seen_finish t legal p c h l ok w k lw lk id bytes act front rest before behind given e has q;
    }
