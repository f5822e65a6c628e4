-- Tasks stand in one log each, in order, and come back to who posted them.
use Rattle.std.proofs.Common.{◌≡◌, ◌⊎◌, ℕ, ◌+◌, ◌<◌, ◌≤◌, ◌==◌, Bool, true, false, if◌then◌else◌, List, [], ◌∷◌, ◌++◌, refl, ap, ◌∙◌, sym, subst, arith, Option, Some, slice_get, inl, inr, zero, suc}
use Rattle.std.proofs.lemmas.Bool.{cases_lt}
use Rattle.sw_lists.proofs.Lists.{bool_cases, collect-append, collect-collect, collect-same, each_append, each_at, each_left, each_more, each_prefix, each_right, eq_is, eq_other, eq_same, equal_or_not, prefix_collect, prefix_trans, rises_prefix}
use Rattle.sw_lists.specs.Lists.{collect, IsPrefix, Each, Has, when}
use Rattle.sw_lists.specs.Numbers.{Rises, IsCounting}
use Rattle.sw_step.specs.Actors.{is}
use Rattle.sw_step.specs.declared.actor.ActorId.{ActorId}
use Rattle.sw_step.specs.declared.actor.ActorId.TheVariants.{Door, Reactor, Worker, Tasker}
use Rattle.sw_record.specs.Logs.{events_of, number_of, numbers}
use Rattle.sw_record.specs.Tasks.{posts, posted_in, task_of, tasks_of, FitsDst, IsPost, finish_of, finishes_of, now_of, with_bytes, give_of, gave_by, made_after, made, among, only_of, only, TasksRight}
use Rattle.sw_record.specs.Terms.{Terms}
use Rattle.sw_record.specs.Words.{Connect, Packet, Closed, Finish, Task, Act, Send, Close, Reset, Bind, Exist, Info, TaskAct, FinishAct, Table, Stats, Shutdown, Done, Dst, At, Answer, Sent, Asked, BindOk, Exists, InfoIs, Posted, Finished, TableIs, TableRefused, Count, NoSession, Bound, BadUid, WrongMode, TaskFull, BadTarget, NoTaskWorkers, IdsSpent, NotHere, NoTable, EventGiven, AnswerGiven, Log}
use Rattle.sw_record.specs.declared.record.Record.{Record}
use Rattle.sw_past.specs.Messages.{Message, FreshMsg, SendMsg, CloseMsg, ResetMsg, Bye, EventMsg, OverMsg, NoMore}
use Rattle.sw_past.specs.Past.{Mail, Past, bare, of}
use Rattle.sw_past.specs.Routes.{IsTasker, MayPush, crew}
use Rattle.sw_past.specs.Views.{heard_in, task_in, task_id, finish_in}
use Rattle.sw_join.proofs.Routes.{from_each, is_other, is_refl, is_same, of_own, one_sender}
use Rattle.sw_join.proofs.Scatter.{apart_share, has_prefix}
use Rattle.sw_join.proofs.Shown.{shown_tasker, shown_worker}
use Rattle.sw_join.proofs.Told.{rises_share, took_all}
use Rattle.sw_join.specs.Laws.{Aim, Ending, Joint, Locals}
use Rattle.sw_join.specs.Shown.{log_at, IsShown}
use Rattle.sw_join.specs.Tasks.{TaskLocals}

-- a task worker's tasks of w came from w alone
pub heard_task : (k w : ℕ) (m : Message) → collect (task_of w) (heard_in (Tasker k) m) ≡ task_in w m
heard_task k w (EventMsg (Connect u)) = refl
heard_task k w (EventMsg (Packet u i b)) = refl
heard_task k w (EventMsg (Closed u)) = refl
heard_task k w (EventMsg (Finish id b)) = refl
heard_task k w (EventMsg (Task v id b)) = refl
heard_task k w (FreshMsg ip u) = refl
heard_task k w (SendMsg u b) = refl
heard_task k w (CloseMsg u) = refl
heard_task k w (ResetMsg u) = refl
heard_task k w (Bye u) = refl
heard_task k w (OverMsg id) = refl
heard_task k w NoMore = refl

pub task_sender : (t : Terms) (w : ℕ) (from to : ActorId) (m : Message) → MayPush t from to m → (task_in w m ≡ []) ⊎ (from ≡ Worker w)
task_sender t w from to (EventMsg (Task v id b)) h = elim (bool_cases (v == w)) [ inl e ↦ inr (h.0 ∙ ap Worker (eq_is v w e)) | inr e ↦ inl (rw e refl) ]
task_sender t w from to (EventMsg (Connect u)) h = inl refl
task_sender t w from to (EventMsg (Packet u i b)) h = inl refl
task_sender t w from to (EventMsg (Closed u)) h = inl refl
task_sender t w from to (EventMsg (Finish id b)) h = inl refl
task_sender t w from to (FreshMsg ip u) h = inl refl
task_sender t w from to (SendMsg u b) h = inl refl
task_sender t w from to (CloseMsg u) h = inl refl
task_sender t w from to (ResetMsg u) h = inl refl
task_sender t w from to (Bye u) h = inl refl
task_sender t w from to (OverMsg id) h = inl refl
task_sender t w from to NoMore h = inl refl

-- so they begin what w pushed to it
tasks_begin : (t : Terms) (a : Aim) (e : Ending) (h : Past) → Locals t a e h → Joint t h → (w k : ℕ) → k < t.tasker_num → IsPrefix (tasks_of w (h.log (Tasker k))) (collect (task_in w) (of (Tasker k) (h.pushed (Worker w))))
tasks_begin t a e h l j w k lt =
    let y : ActorId = Tasker k in
    let given : IsPrefix (tasks_of w (h.log y)) (collect (task_of w) (collect (heard_in y) (bare (h.took y)))) = prefix_collect (task_of w) (events_of (h.log y)) (collect (heard_in y) (bare (h.took y))) (l.hand y (inr (k, (lt, refl)))).told in
    let same : collect (task_of w) (collect (heard_in y) (bare (h.took y))) ≡ collect (task_in w) (bare (h.took y)) = collect-collect (task_of w) (heard_in y) (bare (h.took y)) ∙ collect-same (λ m. collect (task_of w) (heard_in y m)) (task_in w) (heard_task k w) (bare (h.took y)) in
    let mine : collect (task_in w) (of (Worker w) (h.took y)) ≡ collect (task_in w) (bare (h.took y)) = one_sender (task_in w) (Worker w) (h.took y) (each_more (λ (x : ActorId × Message). MayPush t x.0 y x.1) (λ (x : ActorId × Message). (task_in w x.1 ≡ []) ⊎ (x.0 ≡ Worker w)) (h.took y) (λ x r. task_sender t w x.0 y x.1 r) (took_all t a e h l j y)) in
    prefix_trans (tasks_of w (h.log y)) (collect (task_in w) (of (Worker w) (h.took y))) (collect (task_in w) (of y (h.pushed (Worker w))))
    (subst (IsPrefix (tasks_of w (h.log y))) (same ∙ sym mine) given)
    (prefix_collect (task_in w) (of (Worker w) (h.took y)) (of y (h.pushed (Worker w))) (j.pipes y (Worker w)))

-- numbers one by one rise
counting_above : (n m : ℕ) (ns : List ℕ) → IsCounting n ns → m < n → Each (λ k. m < k) ns
counting_above n m [] c lt = tt
counting_above n m (k ∷ ns) c lt = ((let e : k ≡ n = c.0 in omega arith), counting_above (n + 1) m ns c.1 (omega arith))

counting_rises : (n : ℕ) (ns : List ℕ) → IsCounting n ns → Rises ns
counting_rises n [] c = tt
counting_rises n (k ∷ ns) c = (let e : k ≡ n = c.0 in (counting_above (n + 1) k ns c.1 (omega arith), counting_rises (n + 1) ns c.1))

ids_is : (w : ℕ) (ms : List Message) → numbers (collect (task_in w) ms) ≡ collect (task_id w) ms
ids_is w ms = collect-collect number_of (task_in w) ms

ids_begin : (t : Terms) (a : Aim) (e : Ending) (h : Past) → Locals t a e h → Joint t h → (w k : ℕ) → k < t.tasker_num → IsPrefix (numbers (tasks_of w (h.log (Tasker k)))) (collect (task_id w) (of (Tasker k) (h.pushed (Worker w))))
ids_begin t a e h l j w k lt = subst (IsPrefix (numbers (tasks_of w (h.log (Tasker k))))) (ids_is w (of (Tasker k) (h.pushed (Worker w)))) (prefix_collect number_of (tasks_of w (h.log (Tasker k))) (collect (task_in w) (of (Tasker k) (h.pushed (Worker w)))) (tasks_begin t a e h l j w k lt))

-- what was pushed to one fits for it
posts_share : (w : ℕ) (ps : List (Dst × List ℕ)) (y : ActorId) (ms : Mail) → Each (λ (e : ActorId × Message). Each (IsPost ps e.0) (task_in w e.1)) ms → Each (IsPost ps y) (collect (task_in w) (of y ms))
posts_share w ps y [] h = tt
posts_share w ps y (e ∷ ms) h = pick (is e.0 y) refl (posts_share w ps y ms h.1)
  where
    pick : (b : Bool) → is e.0 y ≡ b → Each (IsPost ps y) (collect (task_in w) (of y ms)) → Each (IsPost ps y) (collect (task_in w) (when b e.1 ++ of y ms))
    pick true q r = each_append (IsPost ps y) (task_in w e.1) (collect (task_in w) (of y ms)) (subst (λ (z : ActorId). Each (IsPost ps z) (task_in w e.1)) (is_same e.0 y q) h.0) r
    pick false q r = r

-- an item of a rising list below one that stands in a beginning of it stands there too
rises_has : (x y : ℕ) (xs ys : List ℕ) → IsPrefix xs ys → Rises ys → x < y → Has y xs → Has x ys → Has x xs
rises_has x y [] ys p r lt hy hx = absurd (let q : slice_get [] hy.0 ≡ Some y = hy.1 in cc)
rises_has x y (z ∷ xs) [] p r lt hy hx = absurd (let q : z ∷ (xs ++ p.0) ≡ [] = p.1 in cc)
rises_has x y (z ∷ xs) (v ∷ ys) p r lt (zero, e) (zero, f) = (0, (let q : z ∷ (xs ++ p.0) ≡ v ∷ ys = p.1 in let a : z ≡ v = cc in cc))
rises_has x y (z ∷ xs) (v ∷ ys) p r lt (zero, e) (suc n, f) =
    let q : z ∷ (xs ++ p.0) ≡ v ∷ ys = p.1 in
    let a : z ≡ v = cc in
    let b : z ≡ y = cc in
    let c : v < x = each_has (λ m. v < m) x ys r.0 n f in
    absurd (omega arith)
  where
    each_has : (P : ℕ → Type 0) (m : ℕ) (zs : List ℕ) → Each P zs → (n : ℕ) → slice_get zs n ≡ Some m → P m
    each_has P m [] k n e = absurd (cc)
    each_has P m (c ∷ zs) k zero e = subst P (let q : c ≡ m = cc in q) k.0
    each_has P m (c ∷ zs) k (suc n) e = each_has P m zs k.1 n e
rises_has x y (z ∷ xs) (v ∷ ys) p r lt (suc m, e) (zero, f) = (0, (let q : z ∷ (xs ++ p.0) ≡ v ∷ ys = p.1 in let a : z ≡ v = cc in cc))
rises_has x y (z ∷ xs) (v ∷ ys) p r lt (suc m, e) (suc n, f) =
    let s = rises_has x y xs ys (p.0, (let q : z ∷ (xs ++ p.0) ≡ v ∷ ys = p.1 in cc)) r.1 lt (m, e) (n, f) in
    (suc s.0, s.1)

-- numbers one by one leave none out
counting_has : (n m : ℕ) (ns : List ℕ) → IsCounting n ns → (k : ℕ) → n ≤ k → k < m → Has m ns → Has k ns
counting_has n m [] c k le lt has = absurd (let q : slice_get [] has.0 ≡ Some m = has.1 in cc)
counting_has n m (i ∷ ns) c k le lt (zero, e) = absurd (let a : i ≡ n = c.0 in let b : i ≡ m = cc in omega arith)
counting_has n m (i ∷ ns) c k le lt (suc x, e) = elim (equal_or_not k n) [
  | inl same ↦ (0, ap (λ (z : ℕ). Some z) (c.0 ∙ sym same))
  | inr other ↦ (let s = counting_has (n + 1) m ns c.1 k (omega (arith, other)) lt (x, e) in (suc s.0, s.1))
]

-- an id that was pushed stands with whom its act says
id_share : (w : ℕ) (ps : List (Dst × List ℕ)) (k n : ℕ) (b : List ℕ) (ms : Mail) → Each (λ (e : ActorId × Message). Each (IsPost ps e.0) (task_in w e.1)) ms → slice_get ps n ≡ Some (At k, b) → Has n (collect (task_id w) (bare ms)) → Has n (collect (task_id w) (of (Tasker k) ms))
id_share w ps k n b [] h g has = absurd (let q : slice_get [] has.0 ≡ Some n = has.1 in cc)
id_share w ps k n b (e ∷ ms) h g has = split (here (task_id w e.1) (collect (task_id w) (bare ms)) has.0 has.1) (λ z. id_share w ps k n b ms h.1 g z)
  where
    here : (xs ys : List ℕ) (i : ℕ) → slice_get (xs ++ ys) i ≡ Some n → Has n xs ⊎ Has n ys
    here [] ys i q = inr (i, q)
    here (x ∷ xs) ys zero q = inl (0, q)
    here (x ∷ xs) ys (suc i) q = elim (here xs ys i q) [ inl a ↦ inl (suc a.0, a.1) | inr c ↦ inr c ]

    right : (xs ys : List ℕ) → Has n ys → Has n (xs ++ ys)
    right [] ys a = a
    right (x ∷ xs) ys a = let c = right xs ys a in (suc c.0, c.1)

    behind : (v : Bool) → Has n (collect (task_id w) (of (Tasker k) ms)) → Has n (collect (task_id w) (when v e.1 ++ of (Tasker k) ms))
    behind true a = right (task_id w e.1) (collect (task_id w) (of (Tasker k) ms)) a
    behind false a = a

    where_to : (ts : List (ℕ × List ℕ)) → Each (IsPost ps e.0) ts → Has n (numbers ts) → e.0 ≡ Tasker k
    where_to [] u a = absurd (let q : slice_get [] a.0 ≡ Some n = a.1 in cc)
    where_to (p ∷ ts) u (zero, q) =
        (let same : p.0 ≡ n = cc in
        let d = u.0 in
        let r : slice_get ps n ≡ Some (d.0, p.1) = ap (slice_get ps) (sym same) ∙ d.1.0 in
        let f : ◌≡◌ {A = Dst × List ℕ} (At k, b) (d.0, p.1) = (let z : ◌≡◌ {A = Option (Dst × List ℕ)} (Some (At k, b)) (Some (d.0, p.1)) = sym g ∙ r in cc) in
        let c : d.0 ≡ At k = sym (ap (λ (z : Dst × List ℕ). z.0) f) in
        subst (λ (z : Dst). FitsDst z e.0) c d.1.1)
    where_to (p ∷ ts) u (suc i, q) = where_to ts u.1 (i, q)

    own : e.0 ≡ Tasker k → Has n (task_id w e.1) → Has n (collect (task_id w) (of (Tasker k) (e ∷ ms)))
    own q a = subst (λ (zs : List Message). Has n (collect (task_id w) zs)) (sym (of_own (Tasker k) e ms q)) (has_prefix n (task_id w e.1) (task_id w e.1 ++ collect (task_id w) (of (Tasker k) ms)) (collect (task_id w) (of (Tasker k) ms), refl) a)

    split : Has n (task_id w e.1) ⊎ Has n (collect (task_id w) (bare ms)) → (Has n (collect (task_id w) (bare ms)) → Has n (collect (task_id w) (of (Tasker k) ms))) → Has n (collect (task_id w) (of (Tasker k) (e ∷ ms)))
    split (inl a) f = own (where_to (task_in w e.1) h.0 a) a
    split (inr c) f = behind (is e.0 (Tasker k)) (f c)

has_share : (f : Message → List ℕ) (y : ActorId) (n : ℕ) (ms : Mail) → Has n (collect f (of y ms)) → Has n (collect f (bare ms))
has_share f y n [] h = absurd (let q : slice_get [] h.0 ≡ Some n = h.1 in cc)
has_share f y n (e ∷ ms) h = pick (is e.0 y) h (λ z. has_share f y n ms z)
  where
    here : (xs ys : List ℕ) (i : ℕ) → slice_get (xs ++ ys) i ≡ Some n → Has n xs ⊎ Has n ys
    here [] ys i q = inr (i, q)
    here (x ∷ xs) ys zero q = inl (0, q)
    here (x ∷ xs) ys (suc i) q = elim (here xs ys i q) [ inl a ↦ inl (suc a.0, a.1) | inr c ↦ inr c ]

    right : (xs ys : List ℕ) → Has n ys → Has n (xs ++ ys)
    right [] ys a = a
    right (x ∷ xs) ys a = let c = right xs ys a in (suc c.0, c.1)

    pick : (v : Bool) → Has n (collect f (when v e.1 ++ of y ms)) → (Has n (collect f (of y ms)) → Has n (collect f (bare ms))) → Has n (f e.1 ++ collect f (bare ms))
    pick true k g = elim (here (f e.1) (collect f (of y ms)) k.0 k.1) [
      | inl a ↦ has_prefix n (f e.1) (f e.1 ++ collect f (bare ms)) (collect f (bare ms), refl) a
      | inr b ↦ right (f e.1) (collect f (bare ms)) (g b)
    ]
    pick false k g = right (f e.1) (collect f (bare ms)) (g k)

-- what a log made is of tasks that it was given
give_known : (P : ℕ → Type 0) (now : List ℕ) (act : Act) → Each P now → Each (λ (p : ℕ × List ℕ). P p.0) (give_of now act)
give_known P now (FinishAct b) h = all now h
  where
    all : (ns : List ℕ) → Each P ns → Each (λ (p : ℕ × List ℕ). P p.0) (collect (with_bytes b) ns)
    all [] k = tt
    all (n ∷ ns) k = (k.0, all ns k.1)
give_known P now (Send u b) h = tt
give_known P now (Close u) h = tt
give_known P now (Reset u) h = tt
give_known P now (Bind u i) h = tt
give_known P now (Exist u) h = tt
give_known P now (Info u) h = tt
give_known P now (TaskAct d b) h = tt
give_known P now (Table c) h = tt
give_known P now (Stats c) h = tt
give_known P now Shutdown h = tt
give_known P now Done h = tt

gave_known : (P : ℕ → Type 0) (now : List ℕ) (act : Act) (a : Answer) → Each P now → Each (λ (p : ℕ × List ℕ). P p.0) (gave_by now act (AnswerGiven a))
gave_known P now act Finished h = give_known P now act h
gave_known P now act Sent h = tt
gave_known P now act Asked h = tt
gave_known P now act BindOk h = tt
gave_known P now act Exists h = tt
gave_known P now act (InfoIs a b) h = tt
gave_known P now act (Posted n) h = tt
gave_known P now act (TableIs a b c) h = tt
gave_known P now act (TableRefused n) h = tt
gave_known P now act (Count n) h = tt
gave_known P now act (NoSession n) h = tt
gave_known P now act (Bound n) h = tt
gave_known P now act BadUid h = tt
gave_known P now act WrongMode h = tt
gave_known P now act TaskFull h = tt
gave_known P now act BadTarget h = tt
gave_known P now act NoTaskWorkers h = tt
gave_known P now act IdsSpent h = tt
gave_known P now act NotHere h = tt
gave_known P now act NoTable h = tt

made_known : (w : ℕ) (P : ℕ → Type 0) (now : List ℕ) (act : Act) (log : Log) → Each P now → Each P (numbers (tasks_of w log)) → Each (λ (p : ℕ × List ℕ). P p.0) (made_after w now act log)
made_known w P now act [] h k = give_known P now act h
made_known w P now act ((EventGiven e, b) ∷ xs) h k =
    let s : numbers (task_of w e ++ tasks_of w xs) ≡ now_of w e ++ numbers (tasks_of w xs) = collect-append number_of (task_of w e) (tasks_of w xs) in
    let q = subst (Each P) s k in
    made_known w P (now_of w e) b xs (each_left P (now_of w e) (numbers (tasks_of w xs)) q) (each_right P (now_of w e) (numbers (tasks_of w xs)) q)
made_known w P now act ((AnswerGiven a, b) ∷ xs) h k = each_append (λ (p : ℕ × List ℕ). P p.0) (gave_by now act (AnswerGiven a)) (made_after w now b xs) (gave_known P now act a h) (made_known w P now b xs h k)

-- what came back to a worker, by who sent it
pub heard_finish : (k : ℕ) (m : Message) → collect finish_of (heard_in (Worker k) m) ≡ finish_in m
heard_finish k (EventMsg (Connect u)) = refl
heard_finish k (EventMsg (Packet u i b)) = refl
heard_finish k (EventMsg (Closed u)) = refl
heard_finish k (EventMsg (Finish id b)) = refl
heard_finish k (EventMsg (Task v id b)) = refl
heard_finish k (FreshMsg ip u) = refl
heard_finish k (SendMsg u b) = refl
heard_finish k (CloseMsg u) = refl
heard_finish k (ResetMsg u) = refl
heard_finish k (Bye u) = refl
heard_finish k (OverMsg id) = refl
heard_finish k NoMore = refl

-- who finishes is a task worker
finish_sender : (t : Terms) (from to : ActorId) (m : Message) → MayPush t from to m → (finish_in m ≡ []) ⊎ IsTasker t from
finish_sender t from to (EventMsg (Finish id b)) h = inr h.0
finish_sender t from to (EventMsg (Connect u)) h = inl refl
finish_sender t from to (EventMsg (Packet u i b)) h = inl refl
finish_sender t from to (EventMsg (Closed u)) h = inl refl
finish_sender t from to (EventMsg (Task v id b)) h = inl refl
finish_sender t from to (FreshMsg ip u) h = inl refl
finish_sender t from to (SendMsg u b) h = inl refl
finish_sender t from to (CloseMsg u) h = inl refl
finish_sender t from to (ResetMsg u) h = inl refl
finish_sender t from to (Bye u) h = inl refl
finish_sender t from to (OverMsg id) h = inl refl
finish_sender t from to NoMore h = inl refl

-- each finish that was taken has an id of a task that its sender was given
abbrev IsFrom : Past → ℕ → ActorId → Message → Type 0
IsFrom h w y m = Each (λ (p : ℕ × List ℕ). Has p.0 (numbers (tasks_of w (h.log y)))) (finish_in m)

each_collected : (P : ℕ × List ℕ → Type 0) (ms : List Message) → Each P (collect finish_in ms) → Each (λ (m : Message). Each P (finish_in m)) ms
each_collected P [] h = tt
each_collected P (m ∷ ms) h = (each_left P (finish_in m) (collect finish_in ms) h, each_collected P ms (each_right P (finish_in m) (collect finish_in ms) h))

sends_none : (h : Past) (w : ℕ) (t : Terms) (y to : ActorId) (m : Message) → MayPush t y to m → ¬ IsTasker t y → IsFrom h w y m
sends_none h w t y to m r n = elim (finish_sender t y to m r) [ inl e ↦ rw e tt | inr k ↦ absurd (n k) ]

taken_from : (t : Terms) (a : Aim) (e : Ending) (h : Past) → Locals t a e h → Joint t h → TaskLocals t h → (w : ℕ) → Each (λ (x : ActorId × Message). IsFrom h w x.0 x.1) (h.took (Worker w))
taken_from t a e h l j tl w = from_each (IsFrom h w) (h.took (Worker w)) one
  where
    mine : (k : ℕ) → k < t.tasker_num → Each (IsFrom h w (Tasker k)) (of (Tasker k) (h.took (Worker w)))
    mine k lt =
        let p : IsPrefix (collect finish_in (of (Tasker k) (h.took (Worker w)))) (made w (h.log (Tasker k))) =
        prefix_trans (collect finish_in (of (Tasker k) (h.took (Worker w)))) (collect finish_in (of (Worker w) (h.pushed (Tasker k)))) (made w (h.log (Tasker k)))
        (prefix_collect finish_in (of (Tasker k) (h.took (Worker w))) (of (Worker w) (h.pushed (Tasker k))) (j.pipes (Worker w) (Tasker k))) (tl.tasker k lt w) in
        each_collected (λ (q : ℕ × List ℕ). Has q.0 (numbers (tasks_of w (h.log (Tasker k))))) (of (Tasker k) (h.took (Worker w)))
        (each_prefix (λ (q : ℕ × List ℕ). Has q.0 (numbers (tasks_of w (h.log (Tasker k))))) (collect finish_in (of (Tasker k) (h.took (Worker w)))) (made w (h.log (Tasker k))) p
        (made_known w (λ n. Has n (numbers (tasks_of w (h.log (Tasker k))))) [] Done (h.log (Tasker k)) tt (each_at (λ n. Has n (numbers (tasks_of w (h.log (Tasker k))))) (numbers (tasks_of w (h.log (Tasker k)))) (λ n has. has))))

    other : (y : ActorId) → ¬ IsTasker t y → Each (IsFrom h w y) (of y (h.took (Worker w)))
    other y n = share (h.took (Worker w)) (took_all t a e h l j (Worker w))
      where
        share : (ms : Mail) → Each (λ (x : ActorId × Message). MayPush t x.0 (Worker w) x.1) ms → Each (IsFrom h w y) (of y ms)
        share [] r = tt
        share (x ∷ ms) r = pick (is x.0 y) refl (share ms r.1)
          where
            pick : (b : Bool) → is x.0 y ≡ b → Each (IsFrom h w y) (of y ms) → Each (IsFrom h w y) (when b x.1 ++ of y ms)
            pick true q s = (sends_none h w t y (Worker w) x.1 (subst (λ (z : ActorId). MayPush t z (Worker w) x.1) (is_same x.0 y q) r.0) n, s)
            pick false q s = s

    tasker : (k : ℕ) → (k < t.tasker_num) ⊎ (¬ (k < t.tasker_num)) → Each (IsFrom h w (Tasker k)) (of (Tasker k) (h.took (Worker w)))
    tasker k (inl lt) = mine k lt
    tasker k (inr ge) = other (Tasker k) (λ i. ge (let q : Tasker k ≡ Tasker i.0 = i.1.1 in let r : k ≡ i.0 = cc in let s : i.0 < t.tasker_num = i.1.0 in omega arith))

    one : (y : ActorId) → Each (IsFrom h w y) (of y (h.took (Worker w)))
    one Door = other Door (λ i. absurd (let q : Door ≡ Tasker i.0 = i.1.1 in cc))
    one (Reactor n) = other (Reactor n) (λ i. absurd (let q : Reactor n ≡ Tasker i.0 = i.1.1 in cc))
    one (Worker n) = other (Worker n) (λ i. absurd (let q : Worker n ≡ Tasker i.0 = i.1.1 in cc))
    one (Tasker k) = tasker k (elim (cases_lt k t.tasker_num) [ inl lt ↦ inl lt | inr ge ↦ inr (λ lt. absurd (omega arith)) ])

-- among
among_has : (ids : List ℕ) (n : ℕ) → Has n ids → among ids n ≡ true
among_has [] n h = absurd (let q : slice_get [] h.0 ≡ Some n = h.1 in cc)
among_has (m ∷ ms) n (zero, e) = let q : m ≡ n = cc in rw (eq_same m n q) refl
among_has (m ∷ ms) n (suc k, e) = pick (m == n) (among_has ms n (k, e))
  where
    pick : (b : Bool) → among ms n ≡ true → (if b then true else among ms n) ≡ true
    pick true q = refl
    pick false q = q

among_none : (ids : List ℕ) (n : ℕ) → Each (λ m. ¬ (n ≡ m)) ids → among ids n ≡ false
among_none [] n h = refl
among_none (m ∷ ms) n h = rw (eq_other m n (λ e. h.0 (sym e))) (among_none ms n h.1)

-- those with ids of a task worker's tasks are those that it sent
only_all : (ids : List ℕ) (ps : List (ℕ × List ℕ)) → Each (λ (p : ℕ × List ℕ). among ids p.0 ≡ true) ps → only ids ps ≡ ps
only_all ids [] h = refl
only_all ids (p ∷ ps) h = rw h.0 (ap (λ qs. p ∷ qs) (only_all ids ps h.1))

only_none : (ids : List ℕ) (ps : List (ℕ × List ℕ)) → Each (λ (p : ℕ × List ℕ). among ids p.0 ≡ false) ps → only ids ps ≡ []
only_none ids [] h = refl
only_none ids (p ∷ ps) h = rw h.0 (only_none ids ps h.1)

-- by sender: in, or out
abbrev IsSorted : List ℕ → ActorId → ActorId × Message → Type 0
IsSorted ids y e = ((e.0 ≡ y) × Each (λ (p : ℕ × List ℕ). among ids p.0 ≡ true) (finish_in e.1)) ⊎ ((¬ (e.0 ≡ y)) × Each (λ (p : ℕ × List ℕ). among ids p.0 ≡ false) (finish_in e.1))

pub only_share : (ids : List ℕ) (y : ActorId) (ms : Mail) → Each (IsSorted ids y) ms → only ids (collect finish_in (bare ms)) ≡ collect finish_in (of y ms)
only_share ids y [] h = refl
only_share ids y (e ∷ ms) h = collect-append (only_of ids) (finish_in e.1) (collect finish_in (bare ms)) ∙ pick h.0 (only_share ids y ms h.1)
  where
    pick : IsSorted ids y e → only ids (collect finish_in (bare ms)) ≡ collect finish_in (of y ms) → only ids (finish_in e.1) ++ only ids (collect finish_in (bare ms)) ≡ collect finish_in (of y (e ∷ ms))
    pick (inl k) r = ap (λ (xs : List (ℕ × List ℕ)). xs ++ only ids (collect finish_in (bare ms))) (only_all ids (finish_in e.1) k.1) ∙ ap (λ xs. finish_in e.1 ++ xs) r ∙ sym (ap (collect finish_in) (of_own y e ms k.0))
    pick (inr k) r = ap (λ (xs : List (ℕ × List ℕ)). xs ++ only ids (collect finish_in (bare ms))) (only_none ids (finish_in e.1) k.1) ∙ r ∙ sym (ap (λ (b : Bool). collect finish_in (when b e.1 ++ of y ms)) (is_other e.0 y k.0))

-- the ids of two task workers are apart
ids_apart : (t : Terms) (a : Aim) (e : Ending) (h : Past) → Locals t a e h → Joint t h → TaskLocals t h → (w j k : ℕ) → w < t.worker_num → j < t.tasker_num → k < t.tasker_num → ¬ (j ≡ k) → Each (λ n. Each (λ m. ¬ (n ≡ m)) (numbers (tasks_of w (h.log (Tasker k))))) (numbers (tasks_of w (h.log (Tasker j))))
ids_apart t a e h l jt tl w j k lt ltj ltk n =
    let all = apart_share (task_id w) (Tasker j) (Tasker k) (λ q. n (let r : Tasker j ≡ Tasker k = q in cc)) (h.pushed (Worker w)) (counting_rises 0 (collect (task_id w) (bare (h.pushed (Worker w)))) (tl.worker w lt).counting) in
    each_more (λ x. Each (λ y. ¬ (x ≡ y)) (collect (task_id w) (of (Tasker k) (h.pushed (Worker w))))) (λ x. Each (λ y. ¬ (x ≡ y)) (numbers (tasks_of w (h.log (Tasker k))))) (numbers (tasks_of w (h.log (Tasker j))))
    (λ x q. each_prefix (λ y. ¬ (x ≡ y)) (numbers (tasks_of w (h.log (Tasker k)))) (collect (task_id w) (of (Tasker k) (h.pushed (Worker w)))) (ids_begin t a e h l jt w k ltk) q)
    (each_prefix (λ x. Each (λ y. ¬ (x ≡ y)) (collect (task_id w) (of (Tasker k) (h.pushed (Worker w))))) (numbers (tasks_of w (h.log (Tasker j)))) (collect (task_id w) (of (Tasker j) (h.pushed (Worker w)))) (ids_begin t a e h l jt w j ltj) all)

has_each : (P : ℕ → Type 0) (x : ℕ) (xs : List ℕ) → Each P xs → Has x xs → P x
has_each P x [] h k = absurd (let q : slice_get [] k.0 ≡ Some x = k.1 in cc)
has_each P x (y ∷ ys) h (zero, e) = subst P (let q : y ≡ x = cc in q) h.0
has_each P x (y ∷ ys) h (suc n, e) = has_each P x ys h.1 (n, e)

-- what came back to w, sorted
pub sorted : (t : Terms) (a : Aim) (e : Ending) (h : Past) → Locals t a e h → Joint t h → TaskLocals t h → (w k : ℕ) → w < t.worker_num → k < t.tasker_num → Each (IsSorted (numbers (tasks_of w (h.log (Tasker k)))) (Tasker k)) (h.took (Worker w))
sorted t a e h l j tl w k lt ltk = all (h.took (Worker w)) (taken_from t a e h l j tl w) (took_all t a e h l j (Worker w))
  where
    ids : List ℕ
    ids = numbers (tasks_of w (h.log (Tasker k)))

    foreign : (m : ℕ) → m < t.tasker_num → ¬ (m ≡ k) → (ps : List (ℕ × List ℕ)) → Each (λ (p : ℕ × List ℕ). Has p.0 (numbers (tasks_of w (h.log (Tasker m))))) ps → Each (λ (p : ℕ × List ℕ). among (numbers (tasks_of w (h.log (Tasker k)))) p.0 ≡ false) ps
    foreign m ltm o ps h1 = each_more (λ (p : ℕ × List ℕ). Has p.0 (numbers (tasks_of w (h.log (Tasker m))))) (λ (p : ℕ × List ℕ). among (numbers (tasks_of w (h.log (Tasker k)))) p.0 ≡ false) ps
        (λ p q. among_none (numbers (tasks_of w (h.log (Tasker k)))) p.0 (has_each (λ x. Each (λ y. ¬ (x ≡ y)) (numbers (tasks_of w (h.log (Tasker k))))) p.0 (numbers (tasks_of w (h.log (Tasker m)))) (ids_apart t a e h l j tl w m k lt ltm ltk o) q)) h1

    silent : (x : ActorId × Message) → finish_in x.1 ≡ [] → (x.0 ≡ Tasker k) ⊎ (¬ (x.0 ≡ Tasker k)) → IsSorted (numbers (tasks_of w (h.log (Tasker k)))) (Tasker k) x
    silent x n (inl q) = inl (q, rw n tt)
    silent x n (inr o) = inr (o, rw n tt)

    who_or : (x : ActorId) → (x ≡ Tasker k) ⊎ (¬ (x ≡ Tasker k))
    who_or x = elim (bool_cases (is x (Tasker k))) [ inl q ↦ inl (is_same x (Tasker k) q) | inr q ↦ inr (λ z. absurd (let a : is x (Tasker k) ≡ true = ap (λ (v : ActorId). is v (Tasker k)) z ∙ is_refl (Tasker k) in cc)) ]

    from : (x : ActorId × Message) → IsFrom h w x.0 x.1 → IsTasker t x.0 → IsSorted (numbers (tasks_of w (h.log (Tasker k)))) (Tasker k) x
    from x f i = elim (equal_or_not i.0 k) [
      | inl same ↦ inl (i.1.1 ∙ ap Tasker same, each_more (λ (p : ℕ × List ℕ). Has p.0 (numbers (tasks_of w (h.log x.0)))) (λ (p : ℕ × List ℕ). among (numbers (tasks_of w (h.log (Tasker k)))) p.0 ≡ true) (finish_in x.1) (λ p q. among_has (numbers (tasks_of w (h.log (Tasker k)))) p.0 (subst (λ (y : ActorId). Has p.0 (numbers (tasks_of w (h.log y)))) (i.1.1 ∙ ap Tasker same) q)) f)
      | inr o ↦ inr ((λ z. o (let q : Tasker i.0 ≡ Tasker k = sym i.1.1 ∙ z in cc)), foreign i.0 i.1.0 o (finish_in x.1) (subst (λ (y : ActorId). Each (λ (p : ℕ × List ℕ). Has p.0 (numbers (tasks_of w (h.log y)))) (finish_in x.1)) i.1.1 f))
    ]

    all : (ms : Mail) → Each (λ (x : ActorId × Message). IsFrom h w x.0 x.1) ms → Each (λ (x : ActorId × Message). MayPush t x.0 (Worker w) x.1) ms → Each (IsSorted (numbers (tasks_of w (h.log (Tasker k)))) (Tasker k)) ms
    all [] f r = tt
    all (x ∷ ms) f r = ((elim (finish_sender t x.0 (Worker w) x.1 r.0) [ inl n ↦ silent x n (who_or x.0) | inr i ↦ from x f.0 i ]), all ms f.1 r.1)

finishes_begin : (t : Terms) (a : Aim) (e : Ending) (h : Past) → Locals t a e h → (w : ℕ) → w < t.worker_num → IsPrefix (finishes_of (h.log (Worker w))) (collect finish_in (bare (h.took (Worker w))))
finishes_begin t a e h l w lt =
    let y : ActorId = Worker w in
    subst (IsPrefix (finishes_of (h.log y))) (collect-collect finish_of (heard_in y) (bare (h.took y)) ∙ collect-same (λ m. collect finish_of (heard_in y m)) finish_in (heard_finish w) (bare (h.took y)))
    (prefix_collect finish_of (events_of (h.log y)) (collect (heard_in y) (bare (h.took y))) (l.hand y (inl (w, (lt, refl)))).told)

pub crew_has_log : (h : Past) (f : ℕ → ActorId) (n k m : ℕ) → m < k → slice_get (collect (log_at h) (crew f n k)) m ≡ Some (h.log (f (n + m)))
crew_has_log h f n zero m lt = absurd (omega arith)
crew_has_log h f n (suc k) zero lt = ap (λ i. Some (h.log (f i))) (let e : n ≡ n + 0 = omega arith in e)
crew_has_log h f n (suc k) (suc m) lt = crew_has_log h f (n + 1) k m (omega arith) ∙ ap (λ i. Some (h.log (f i))) (let e : n + 1 + m ≡ n + suc m = omega arith in e)

pub tasks_right : (t : Terms) (a : Aim) (e : Ending) (h : Past) (r : Record) → Locals t a e h → Joint t h → IsShown t h r → TaskLocals t h → TasksRight r
tasks_right t a e h r l j i tl =
    record {
      posted = λ w log there. (let b = shown_worker t h r i w log there in subst (λ (x : Log). IsCounting 0 (collect posted_in x)) b.1 (tl.worker w b.0).posted);
      given = λ w k log tasks there theres. (let b = shown_worker t h r i w log there in let c = shown_tasker t h r i k tasks theres in
          subst (λ (x : Log). Each (IsPost (posts x) (Tasker k)) (tasks_of w tasks)) b.1 (subst (λ (x : Log). Each (IsPost (posts (h.log (Worker w))) (Tasker k)) (tasks_of w x)) c.1
          (each_prefix (IsPost (posts (h.log (Worker w))) (Tasker k)) (tasks_of w (h.log (Tasker k))) (collect (task_in w) (of (Tasker k) (h.pushed (Worker w)))) (tasks_begin t a e h l j w k c.0)
          (posts_share w (posts (h.log (Worker w))) (Tasker k) (h.pushed (Worker w)) (tl.worker w b.0).posts))));
      rise = λ w k log tasks there theres. (let b = shown_worker t h r i w log there in let c = shown_tasker t h r i k tasks theres in
          subst (λ (x : Log). Rises (numbers (tasks_of w x))) c.1 (rises_prefix (numbers (tasks_of w (h.log (Tasker k)))) (collect (task_id w) (of (Tasker k) (h.pushed (Worker w)))) (ids_begin t a e h l j w k c.0) (rises_share (task_id w) (Tasker k) (h.pushed (Worker w)) (counting_rises 0 (collect (task_id w) (bare (h.pushed (Worker w)))) (tl.worker w b.0).counting))));
      once = λ w k u log tasks others there theres thereo apart. (let b = shown_worker t h r i w log there in let c = shown_tasker t h r i k tasks theres in let d = shown_tasker t h r i u others thereo in
          subst (λ (x : Log). Each (λ n. Each (λ m. ¬ (n ≡ m)) (numbers (tasks_of w x))) (numbers (tasks_of w tasks))) d.1 (subst (λ (x : Log). Each (λ n. Each (λ m. ¬ (n ≡ m)) (numbers (tasks_of w (h.log (Tasker u))))) (numbers (tasks_of w x))) c.1 (ids_apart t a e h l j tl w k u b.0 c.0 d.0 apart)));
      earlier = λ w k log tasks there theres x y b post lt has. (let f = shown_worker t h r i w log there in let c = shown_tasker t h r i k tasks theres in
          let p = tl.worker w f.0 in
          let hasy : Has y (numbers (tasks_of w (h.log (Tasker k)))) = subst (λ (z : Log). Has y (numbers (tasks_of w z))) (sym c.1) has in
          let begin = ids_begin t a e h l j w k c.0 in
          let ally : Has y (collect (task_id w) (bare (h.pushed (Worker w)))) = has_share (task_id w) (Tasker k) y (h.pushed (Worker w)) (has_prefix y (numbers (tasks_of w (h.log (Tasker k)))) (collect (task_id w) (of (Tasker k) (h.pushed (Worker w)))) begin hasy) in
          let allx : Has x (collect (task_id w) (bare (h.pushed (Worker w)))) = counting_has 0 y (collect (task_id w) (bare (h.pushed (Worker w)))) p.counting x (omega arith) lt ally in
          let sharex : Has x (collect (task_id w) (of (Tasker k) (h.pushed (Worker w)))) = id_share w (posts (h.log (Worker w))) k x b (h.pushed (Worker w)) p.posts (ap (λ (z : Log). slice_get (posts z) x) f.1 ∙ post) allx in
          subst (λ (z : Log). Has x (numbers (tasks_of w z))) c.1
          (rises_has x y (numbers (tasks_of w (h.log (Tasker k)))) (collect (task_id w) (of (Tasker k) (h.pushed (Worker w)))) begin (rises_share (task_id w) (Tasker k) (h.pushed (Worker w)) (counting_rises 0 (collect (task_id w) (bare (h.pushed (Worker w)))) p.counting)) lt hasy sharex));
      back = λ w log there. (let b = shown_worker t h r i w log there in
          subst (λ (x : Log). Each (λ (p : ℕ × List ℕ). (k : ℕ) × ((tasks : Log) × ((slice_get r.taskers k ≡ Some tasks) × Has p.0 (numbers (tasks_of w tasks))))) (finishes_of x)) b.1
          (each_prefix (λ (p : ℕ × List ℕ). (k : ℕ) × ((tasks : Log) × ((slice_get r.taskers k ≡ Some tasks) × Has p.0 (numbers (tasks_of w tasks))))) (finishes_of (h.log (Worker w))) (collect finish_in (bare (h.took (Worker w)))) (finishes_begin t a e h l w b.0) (known w (h.took (Worker w)) (taken_from t a e h l j tl w) (took_all t a e h l j (Worker w)))));
      finishes = λ w k log tasks there theres. (let b = shown_worker t h r i w log there in let c = shown_tasker t h r i k tasks theres in
          subst (λ (x : Log). IsPrefix (only (numbers (tasks_of w x)) (finishes_of log)) (made w x)) c.1 (subst (λ (x : Log). IsPrefix (only (numbers (tasks_of w (h.log (Tasker k)))) (finishes_of x)) (made w (h.log (Tasker k)))) b.1
          (back_prefix w k b.0 c.0)));
    }
  where
    known : (w : ℕ) (ms : Mail) → Each (λ (x : ActorId × Message). IsFrom h w x.0 x.1) ms → Each (λ (x : ActorId × Message). MayPush t x.0 (Worker w) x.1) ms → Each (λ (p : ℕ × List ℕ). (k : ℕ) × ((tasks : Log) × ((slice_get r.taskers k ≡ Some tasks) × Has p.0 (numbers (tasks_of w tasks))))) (collect finish_in (bare ms))
    known w [] f q = tt
    known w (x ∷ ms) f q = each_append (λ (p : ℕ × List ℕ). (k : ℕ) × ((tasks : Log) × ((slice_get r.taskers k ≡ Some tasks) × Has p.0 (numbers (tasks_of w tasks))))) (finish_in x.1) (collect finish_in (bare ms))
        (elim (finish_sender t x.0 (Worker w) x.1 q.0) [
          | inl n ↦ rw n tt
          | inr z ↦ each_more (λ (p : ℕ × List ℕ). Has p.0 (numbers (tasks_of w (h.log x.0)))) (λ (p : ℕ × List ℕ). (k : ℕ) × ((tasks : Log) × ((slice_get r.taskers k ≡ Some tasks) × Has p.0 (numbers (tasks_of w tasks))))) (finish_in x.1)
              (λ p v. (z.0, (h.log (Tasker z.0), ((ap (λ (xs : List Log). slice_get xs z.0) i.taskers ∙ crew_has_log h Tasker 0 t.tasker_num z.0 z.1.0 ∙ ap (λ n. Some (h.log (Tasker n))) (let c : 0 + z.0 ≡ z.0 = omega arith in c)), subst (λ (y : ActorId). Has p.0 (numbers (tasks_of w (h.log y)))) z.1.1 v)))) f.0
        ])
        (known w ms f.1 q.1)

    back_prefix : (w k : ℕ) → w < t.worker_num → k < t.tasker_num → IsPrefix (only (numbers (tasks_of w (h.log (Tasker k)))) (finishes_of (h.log (Worker w)))) (made w (h.log (Tasker k)))
    back_prefix w k lt ltk =
        let ids : List ℕ = numbers (tasks_of w (h.log (Tasker k))) in
        let y : ActorId = Tasker k in
        prefix_trans (only ids (finishes_of (h.log (Worker w)))) (collect finish_in (of y (h.took (Worker w)))) (made w (h.log y))
        (subst (IsPrefix (only ids (finishes_of (h.log (Worker w))))) (only_share ids y (h.took (Worker w)) (sorted t a e h l j tl w k lt ltk))
        (prefix_collect (only_of ids) (finishes_of (h.log (Worker w))) (collect finish_in (bare (h.took (Worker w)))) (finishes_begin t a e h l w lt)))
        (prefix_trans (collect finish_in (of y (h.took (Worker w)))) (collect finish_in (of (Worker w) (h.pushed y))) (made w (h.log y))
        (prefix_collect finish_in (of y (h.took (Worker w))) (of (Worker w) (h.pushed y)) (j.pipes (Worker w) y)) (tl.tasker k ltk w))
