-- Takes and turns keep the marks of tasks and finishes.
use Rattle.std.proofs.Common.{◌≡◌, ◌⊎◌, ℕ, ◌+◌, ◌<◌, ◌≤◌, ◌==◌, Bool, true, false, if◌then◌else◌, List, [], ◌∷◌, ◌++◌, length, refl, ap, ◌∙◌, sym, subst, append-nil, append_assoc, arith, inl, inr, zero, suc}
use Rattle.sw_lists.specs.Lists.{collect, when, IsPrefix, Each, Has}
use Rattle.sw_lists.specs.Numbers.{IsCounting}
use Rattle.sw_lists.proofs.Lists.{eq_same, collect-append, each_append, each_more, prefix_collect, prefix_length, length_append}
use Rattle.sw_step.specs.declared.actor.ActorId.{ActorId}
use Rattle.sw_step.specs.declared.actor.ActorId.TheVariants.{Worker, Tasker}
use Rattle.sw_step.specs.Actors.{is}
use Rattle.sw_record.specs.Words.{Event, Finish, Task, Act, Given, Log}
use Rattle.sw_record.specs.Terms.{Terms}
use Rattle.sw_record.specs.Logs.{numbers}
use Rattle.sw_record.specs.Places.{Ran, places}
use Rattle.sw_record.specs.AfterSeen.{place_of as place_told, told_places}
use Rattle.sw_past.specs.Messages.{Message, EventMsg}
use Rattle.sw_past.specs.Past.{Mail, bare, of, with}
use Rattle.sw_past.specs.Views.{heard_in, task_id, finish_in}
use Rattle.sw_past.specs.Routes.{IsHand}
use Rattle.sw_join.specs.Steps.{put}
use Rattle.sw_join.proofs.Routes.{of_own}
use Rattle.sw_join.proofs.Steps.{pipes}
use Rattle.sw_world_ports.specs.Made.{seat_in}
use Rattle.sw_world_ports.specs.Law.{all_in}
use Rattle.sw_world_ports.proofs.Frame.{frame}
use Rattle.sw_world_ports.proofs.Haves.{has_left, has_right, has_split, Place, AtLast, Before, place_of}
use Rattle.sw_world_ports.proofs.Shelf.{seats_below}
use Rattle.sw_world_laws.specs.Actors.{Actors, Grows, IsSettled}
use Rattle.sw_world_laws.specs.World.{Core}
use Rattle.sw_world_laws.specs.History.{History}
use Rattle.sw_world_laws.specs.Marks.{posted_count, made_count, IsMark, TaskMarks, FinishMarks}
use Rattle.sw_world_laws.specs.Law.{Holds}
use Rattle.sw_world_laws.proofs.Locals.{shown, task_locals, hand_law, there_hand}
use Rattle.sw_world_laws.proofs.Places.{told_is}

-- as a message is taken
mark_now : (t : Terms) (legal : List Ran → Type 0) (p : Actors t) (c : Core p.State) (h : History) → Holds t legal p c h → c.lost ≡ false → (x y : ActorId) → IsHand t x → IsHand t y → (settles : Log → ℕ) (n : ℕ) → IsMark (length c.ports.table) settles n (p.log (c.states x)) (p.log (c.states y)) (collect (heard_in y) (bare (h.took y)))
mark_now t legal p c h l was x y kx ky settles n =
    record {
      mark = length c.ports.table;
      reached = omega arith;
      first = p.log (c.states x);
      more = [];
      sent = sym (append-nil (p.log (c.states x)));
      below = subst (Each (λ m. m < length c.ports.table)) (sym (told_is (p.log (c.states x)) (hand_law t legal p c h l x kx).dialogue ∙ ap places ((shown t legal p c h l was x (there_hand t x kx)).hand kx).logged)) (seats_below t legal c.ports.table (all_in seat_in h.dids) _ l.ports.shelf x);
      settled = λ z rest e. absurd (cc);
      before = p.log (c.states y);
      since = [];
      taken = sym (append-nil (p.log (c.states y)));
      told = (hand_law t legal p c h l y ky).told;
      above = tt;
    }

-- further calls of the Table
calls_grow : (a b : ℕ) (settles : Log → ℕ) (n : ℕ) (sender taker : Log) (heard : List Event) → a ≤ b → IsMark a settles n sender taker heard → IsMark b settles n sender taker heard
calls_grow a b settles n sender taker heard le m =
    record { mark = m.mark; reached = (let q : m.mark ≤ a = m.reached in omega arith); first = m.first; more = m.more; sent = m.sent; below = m.below; settled = m.settled; before = m.before; since = m.since; taken = m.taken; told = m.told; above = m.above }

-- a further entry of the sender's log
settled_more : (settles : Log → ℕ) (n : ℕ) (first more : Log) (x : Given × Act) → ((z : Given × Act) (rest : Log) → more ≡ z ∷ rest → n < settles (first ++ z ∷ [])) → n < settles ((first ++ more) ++ x ∷ []) → (z : Given × Act) (rest : Log) → more ++ x ∷ [] ≡ z ∷ rest → n < settles (first ++ z ∷ [])
settled_more settles n first [] x old new z rest e =
    let i : x ≡ z = cc in
    subst (λ (v : Given × Act). n < settles (first ++ v ∷ [])) i (subst (λ (w : Log). n < settles (w ++ x ∷ [])) (append-nil first) new)
settled_more settles n first (v ∷ vs) x old new z rest e = old z vs (let i : v ≡ z = cc in ap (λ (w : Given × Act). w ∷ vs) i)

sender_grows : (calls : ℕ) (settles : Log → ℕ) (n : ℕ) (sender taker : Log) (heard : List Event) → IsMark calls settles n sender taker heard → (log : Log) → ((log ≡ sender) ⊎ ((x : Given × Act) × ((log ≡ sender ++ x ∷ []) × (n < settles log)))) → IsMark calls settles n log taker heard
sender_grows calls settles n sender taker heard m log (inl e) = subst (λ (v : Log). IsMark calls settles n v taker heard) (sym e) m
sender_grows calls settles n sender taker heard m log (inr (x, (e, lt))) =
    record {
      mark = m.mark;
      reached = m.reached;
      first = m.first;
      more = m.more ++ x ∷ [];
      sent = e ∙ ap (λ (v : Log). v ++ x ∷ []) m.sent ∙ append_assoc m.first m.more (x ∷ []);
      below = m.below;
      settled = settled_more settles n m.first m.more x m.settled (subst (λ (v : Log). n < settles v) (e ∙ ap (λ (v : Log). v ++ x ∷ []) m.sent) lt);
      before = m.before;
      since = m.since;
      taken = m.taken;
      told = m.told;
      above = m.above;
    }

-- a further entry of the taker's log
taker_grows : (calls : ℕ) (settles : Log → ℕ) (n : ℕ) (sender taker : Log) (heard : List Event) → IsMark calls settles n sender taker heard → (log : Log) → ((log ≡ taker) ⊎ ((x : Given × Act) × ((log ≡ taker ++ x ∷ []) × Each (λ k. calls ≤ k) (told_places (x ∷ []))))) → IsMark calls settles n sender log heard
taker_grows calls settles n sender taker heard m log (inl e) = subst (λ (v : Log). IsMark calls settles n sender v heard) (sym e) m
taker_grows calls settles n sender taker heard m log (inr (x, (e, told))) =
    record {
      mark = m.mark;
      reached = m.reached;
      first = m.first;
      more = m.more;
      sent = m.sent;
      below = m.below;
      settled = m.settled;
      before = m.before;
      since = m.since ++ x ∷ [];
      taken = e ∙ ap (λ (v : Log). v ++ x ∷ []) m.taken ∙ append_assoc m.before m.since (x ∷ []);
      told = m.told;
      above = subst (Each (λ k. m.mark ≤ k)) (sym (collect-append place_told m.since (x ∷ []))) (each_append (λ k. m.mark ≤ k) (told_places m.since) (told_places (x ∷ [])) m.above (each_more (λ k. calls ≤ k) (λ k. m.mark ≤ k) (told_places (x ∷ [])) (λ k le. (let q : m.mark ≤ calls = m.reached in omega arith)) told));
    }

-- a take
pub task_marks_take : (t : Terms) (legal : List Ran → Type 0) (p : Actors t) (c : Core p.State) (h : History) → Holds t legal p c h → c.lost ≡ false → (y : ActorId) (e : ActorId × Message) → TaskMarks t (length c.ports.table) (put h.took y e) (λ z. p.log (c.states z))
task_marks_take t legal p c h l was y e w k lw lk id bytes early rest = pick (is (Tasker k) y)
  where
    by : Place (h.took (Tasker k)) e early (Worker w, EventMsg (Task w id bytes)) rest → IsMark (length c.ports.table) posted_count id (p.log (c.states (Worker w))) (p.log (c.states (Tasker k))) (collect (heard_in (Tasker k)) (bare early))
    by (Before more a) = l.task_marks w k lw lk id bytes early more a
    by (AtLast a b) = subst (λ (ms : Mail). IsMark (length c.ports.table) posted_count id (p.log (c.states (Worker w))) (p.log (c.states (Tasker k))) (collect (heard_in (Tasker k)) (bare ms))) a (mark_now t legal p c h l was (Worker w) (Tasker k) (inl (w, (lw, refl))) (inr (k, (lk, refl))) posted_count id)

    pick : (b : Bool) → (if b then h.took (Tasker k) ++ e ∷ [] else h.took (Tasker k)) ≡ early ++ (Worker w, EventMsg (Task w id bytes)) ∷ rest → IsMark (length c.ports.table) posted_count id (p.log (c.states (Worker w))) (p.log (c.states (Tasker k))) (collect (heard_in (Tasker k)) (bare early))
    pick true q = by (place_of (h.took (Tasker k)) e early (Worker w, EventMsg (Task w id bytes)) rest q)
    pick false q = l.task_marks w k lw lk id bytes early rest q

pub finish_marks_take : (t : Terms) (legal : List Ran → Type 0) (p : Actors t) (c : Core p.State) (h : History) → Holds t legal p c h → c.lost ≡ false → (y : ActorId) (e : ActorId × Message) → FinishMarks t (length c.ports.table) (put h.took y e) (λ z. p.log (c.states z))
finish_marks_take t legal p c h l was y e w k lw lk id bytes early rest = pick (is (Worker w) y)
  where
    by : Place (h.took (Worker w)) e early (Tasker k, EventMsg (Finish id bytes)) rest → IsMark (length c.ports.table) (made_count w) (length (collect finish_in (of (Tasker k) early))) (p.log (c.states (Tasker k))) (p.log (c.states (Worker w))) (collect (heard_in (Worker w)) (bare early))
    by (Before more a) = l.finish_marks w k lw lk id bytes early more a
    by (AtLast a b) = subst (λ (ms : Mail). IsMark (length c.ports.table) (made_count w) (length (collect finish_in (of (Tasker k) ms))) (p.log (c.states (Tasker k))) (p.log (c.states (Worker w))) (collect (heard_in (Worker w)) (bare ms))) a
        (mark_now t legal p c h l was (Tasker k) (Worker w) (inr (k, (lk, refl))) (inl (w, (lw, refl))) (made_count w) (length (collect finish_in (of (Tasker k) (h.took (Worker w))))))

    pick : (b : Bool) → (if b then h.took (Worker w) ++ e ∷ [] else h.took (Worker w)) ≡ early ++ (Tasker k, EventMsg (Finish id bytes)) ∷ rest → IsMark (length c.ports.table) (made_count w) (length (collect finish_in (of (Tasker k) early))) (p.log (c.states (Tasker k))) (p.log (c.states (Worker w))) (collect (heard_in (Worker w)) (bare early))
    pick true q = by (place_of (h.took (Worker w)) e early (Tasker k, EventMsg (Finish id bytes)) rest q)
    pick false q = l.finish_marks w k lw lk id bytes early rest q

-- a task that was taken is among those that were pushed
has_of : (f : Message → List ℕ) (y : ActorId) (n : ℕ) (ms : Mail) → Has n (collect f (of y ms)) → Has n (collect f (bare ms))
has_of f y n [] h = h
has_of f y n (e ∷ ms) h = pick (is e.0 y) (λ k. has_of f y n ms k) h
  where
    pick : (b : Bool) → (Has n (collect f (of y ms)) → Has n (collect f (bare ms))) → Has n (collect f (when b e.1 ++ of y ms)) → Has n (f e.1 ++ collect f (bare ms))
    pick true r k = elim (has_split n (f e.1) (collect f (of y ms)) k) [ inl i ↦ has_left n (f e.1) (collect f (bare ms)) i | inr i ↦ has_right n (f e.1) (collect f (bare ms)) (r i) ]
    pick false r k = has_right n (f e.1) (collect f (bare ms)) (r k)

counting_less : (n m : ℕ) (ns : List ℕ) → IsCounting n ns → Has m ns → m < n + length ns
counting_less n m [] c h = absurd (let q = h.1 in cc)
counting_less n m (k ∷ ns) c (zero, q) = let i : k ≡ m = cc in let j : k ≡ n = c.0 in omega arith
counting_less n m (k ∷ ns) c (suc v, q) = let r : m < n + 1 + length ns = counting_less (n + 1) m ns c.1 (v, q) in omega arith

taken_of : (y : ActorId) (early : Mail) (m : Message) (rest : Mail) → of y (early ++ (y, m) ∷ rest) ≡ of y early ++ m ∷ of y rest
taken_of y early m rest = collect-append (with y) early ((y, m) ∷ rest) ∙ ap (λ (ms : List Message). of y early ++ ms) (of_own y (y, m) rest refl)

task_sent : (t : Terms) (legal : List Ran → Type 0) (p : Actors t) (c : Core p.State) (h : History) → Holds t legal p c h → c.lost ≡ false → (w k : ℕ) → w < t.worker_num → (id : ℕ) (bytes : List ℕ) (early rest : Mail) → h.took (Tasker k) ≡ early ++ (Worker w, EventMsg (Task w id bytes)) ∷ rest → id < length (collect (task_id w) (bare (h.pushed (Worker w))))
task_sent t legal p c h l was w k lw id bytes early rest e =
    let pipe : IsPrefix (of (Worker w) (h.took (Tasker k))) (of (Tasker k) (h.pushed (Worker w))) = pipes h.took h.pushed h.sent l.pipes (Tasker k) (Worker w) in
    let same : of (Worker w) (h.took (Tasker k)) ≡ of (Worker w) early ++ EventMsg (Task w id bytes) ∷ of (Worker w) rest = ap (of (Worker w)) e ∙ taken_of (Worker w) early (EventMsg (Task w id bytes)) rest in
    let here : Has id (collect (task_id w) (of (Worker w) early ++ EventMsg (Task w id bytes) ∷ of (Worker w) rest)) =
    subst (Has id) (sym (collect-append (task_id w) (of (Worker w) early) (EventMsg (Task w id bytes) ∷ of (Worker w) rest))) (has_right id (collect (task_id w) (of (Worker w) early)) (collect (task_id w) (EventMsg (Task w id bytes) ∷ of (Worker w) rest)) (own (w == w) (eq_same w w refl))) in
    let taken : Has id (collect (task_id w) (of (Worker w) (h.took (Tasker k)))) = subst (λ (ms : List Message). Has id (collect (task_id w) ms)) (sym same) here in
    let q = prefix_collect (task_id w) (of (Worker w) (h.took (Tasker k))) (of (Tasker k) (h.pushed (Worker w))) pipe in
    let sent : Has id (collect (task_id w) (of (Tasker k) (h.pushed (Worker w)))) = subst (Has id) q.1 (has_left id (collect (task_id w) (of (Worker w) (h.took (Tasker k)))) q.0 taken) in
    let less : id < 0 + length (collect (task_id w) (bare (h.pushed (Worker w)))) = counting_less 0 id (collect (task_id w) (bare (h.pushed (Worker w)))) ((task_locals t legal p c h l was).worker w lw).counting (has_of (task_id w) (Tasker k) id (h.pushed (Worker w)) sent) in
    omega (arith, less)
  where
    own : (b : Bool) → b ≡ true → Has id (numbers (when b (id, bytes) ++ []) ++ collect (task_id w) (of (Worker w) rest))
    own true q = (0, refl)
    own false q = absurd (cc)

finish_sent : (t : Terms) (legal : List Ran → Type 0) (p : Actors t) (c : Core p.State) (h : History) → Holds t legal p c h → (w k : ℕ) (id : ℕ) (bytes : List ℕ) (early rest : Mail) → h.took (Worker w) ≡ early ++ (Tasker k, EventMsg (Finish id bytes)) ∷ rest → length (collect finish_in (of (Tasker k) early)) < length (collect finish_in (of (Worker w) (h.pushed (Tasker k))))
finish_sent t legal p c h l w k id bytes early rest e =
    let pipe : IsPrefix (of (Tasker k) (h.took (Worker w))) (of (Worker w) (h.pushed (Tasker k))) = pipes h.took h.pushed h.sent l.pipes (Worker w) (Tasker k) in
    let same : collect finish_in (of (Tasker k) (h.took (Worker w))) ≡ collect finish_in (of (Tasker k) early) ++ (id, bytes) ∷ collect finish_in (of (Tasker k) rest) =
    ap (collect finish_in) (ap (of (Tasker k)) e ∙ taken_of (Tasker k) early (EventMsg (Finish id bytes)) rest) ∙ collect-append finish_in (of (Tasker k) early) (EventMsg (Finish id bytes) ∷ of (Tasker k) rest) in
    omega (arith, prefix_length (collect finish_in (of (Tasker k) (h.took (Worker w)))) (collect finish_in (of (Worker w) (h.pushed (Tasker k)))) (prefix_collect finish_in (of (Tasker k) (h.took (Worker w))) (of (Worker w) (h.pushed (Tasker k))) pipe), ap (λ (xs : List (ℕ × List ℕ)). length xs) same, length_append (collect finish_in (of (Tasker k) early)) ((id, bytes) ∷ collect finish_in (of (Tasker k) rest)))

-- a turn
abbrev pub TellsLater : ℕ → Log → Log → Type 0
TellsLater n log more = (x : Given × Act) → more ≡ log ++ x ∷ [] → Each (λ k. n ≤ k) (told_places (x ∷ []))

sent_by : (t : Terms) (y : ActorId) (log more : Log) (pushed : Mail) (settles : Log → ℕ) (n : ℕ) → Grows t y log more pushed → IsHand t y → (IsSettled t y more pushed → n < settles more) → (more ≡ log) ⊎ ((x : Given × Act) × ((more ≡ log ++ x ∷ []) × (n < settles more)))
sent_by t y log more pushed settles n (inl e) k f = inl e
sent_by t y log more pushed settles n (inr (x, (e, s))) k f = inr (x, (e, f (s k)))

took_by : (t : Terms) (y : ActorId) (log more : Log) (pushed : Mail) (n : ℕ) → Grows t y log more pushed → TellsLater n log more → (more ≡ log) ⊎ ((x : Given × Act) × ((more ≡ log ++ x ∷ []) × Each (λ k. n ≤ k) (told_places (x ∷ []))))
took_by t y log more pushed n (inl e) f = inl e
took_by t y log more pushed n (inr (x, (e, s))) f = inr (x, (e, f x e))

pub task_marks_turn : (t : Terms) (legal : List Ran → Type 0) (p : Actors t) (c : Core p.State) (h : History) → Holds t legal p c h → c.lost ≡ false → (y : ActorId) (u : p.State) (calls : ℕ) → length c.ports.table ≤ calls → Grows t y (p.log (c.states y)) (p.log u) (h.pushed y) → (IsHand t y → TellsLater (length c.ports.table) (p.log (c.states y)) (p.log u)) → TaskMarks t calls h.took (λ z. p.log (if is z y then u else c.states z))
task_marks_turn t legal p c h l was y u calls le grows tells w k lw lk id bytes early rest e =
    let n : ℕ = length c.ports.table in
    let old = l.task_marks w k lw lk id bytes early rest e in
    let heard : List Event = collect (heard_in (Tasker k)) (bare early) in
    let took = frame y (λ b z. z ≡ Tasker k → (p.log (if b then u else c.states z) ≡ p.log (c.states z)) ⊎ ((x : Given × Act) × ((p.log (if b then u else c.states z) ≡ p.log (c.states z) ++ x ∷ []) × Each (λ m. length c.ports.table ≤ m) (told_places (x ∷ [])))))
    (λ q. took_by t y (p.log (c.states y)) (p.log u) (h.pushed y) (length c.ports.table) grows (tells (subst (IsHand t) (sym q) (inr (k, (lk, refl)))))) (λ z q. inl refl) (Tasker k) refl in
    let sent = frame y (λ b z. z ≡ Worker w → (p.log (if b then u else c.states z) ≡ p.log (c.states z)) ⊎ ((x : Given × Act) × ((p.log (if b then u else c.states z) ≡ p.log (c.states z) ++ x ∷ []) × (id < posted_count (p.log (if b then u else c.states z))))))
    (λ q. sent_by t y (p.log (c.states y)) (p.log u) (h.pushed y) posted_count id grows (subst (IsHand t) (sym q) (inl (w, (lw, refl)))) (λ s. (let a : id < length (collect (task_id w) (bare (h.pushed y))) = subst (λ (z : ActorId). id < length (collect (task_id w) (bare (h.pushed z)))) (sym q) (task_sent t legal p c h l was w k lw id bytes early rest e) in let b : length (collect (task_id w) (bare (h.pushed y))) ≤ posted_count (p.log u) = s.tasks w q in omega arith)))
    (λ z q. inl refl) (Worker w) refl in
    calls_grow n calls posted_count id _ _ heard le
    (sender_grows n posted_count id (p.log (c.states (Worker w))) _ heard (taker_grows n posted_count id (p.log (c.states (Worker w))) (p.log (c.states (Tasker k))) heard old (p.log (if is (Tasker k) y then u else c.states (Tasker k))) took) (p.log (if is (Worker w) y then u else c.states (Worker w))) sent)

pub finish_marks_turn : (t : Terms) (legal : List Ran → Type 0) (p : Actors t) (c : Core p.State) (h : History) → Holds t legal p c h → c.lost ≡ false → (y : ActorId) (u : p.State) (calls : ℕ) → length c.ports.table ≤ calls → Grows t y (p.log (c.states y)) (p.log u) (h.pushed y) → (IsHand t y → TellsLater (length c.ports.table) (p.log (c.states y)) (p.log u)) → FinishMarks t calls h.took (λ z. p.log (if is z y then u else c.states z))
finish_marks_turn t legal p c h l was y u calls le grows tells w k lw lk id bytes early rest e =
    let n : ℕ = length c.ports.table in
    let at : ℕ = length (collect finish_in (of (Tasker k) early)) in
    let old = l.finish_marks w k lw lk id bytes early rest e in
    let heard : List Event = collect (heard_in (Worker w)) (bare early) in
    let took = frame y (λ b z. z ≡ Worker w → (p.log (if b then u else c.states z) ≡ p.log (c.states z)) ⊎ ((x : Given × Act) × ((p.log (if b then u else c.states z) ≡ p.log (c.states z) ++ x ∷ []) × Each (λ m. length c.ports.table ≤ m) (told_places (x ∷ [])))))
    (λ q. took_by t y (p.log (c.states y)) (p.log u) (h.pushed y) (length c.ports.table) grows (tells (subst (IsHand t) (sym q) (inl (w, (lw, refl)))))) (λ z q. inl refl) (Worker w) refl in
    let sent = frame y (λ b z. z ≡ Tasker k → (p.log (if b then u else c.states z) ≡ p.log (c.states z)) ⊎ ((x : Given × Act) × ((p.log (if b then u else c.states z) ≡ p.log (c.states z) ++ x ∷ []) × (length (collect finish_in (of (Tasker k) early)) < made_count w (p.log (if b then u else c.states z))))))
    (λ q. sent_by t y (p.log (c.states y)) (p.log u) (h.pushed y) (made_count w) (length (collect finish_in (of (Tasker k) early))) grows (subst (IsHand t) (sym q) (inr (k, (lk, refl))))
    (λ s. (let a : length (collect finish_in (of (Tasker k) early)) < length (collect finish_in (of (Worker w) (h.pushed y))) = subst (λ (z : ActorId). length (collect finish_in (of (Tasker k) early)) < length (collect finish_in (of (Worker w) (h.pushed z)))) (sym q) (finish_sent t legal p c h l w k id bytes early rest e) in let b : length (collect finish_in (of (Worker w) (h.pushed y))) ≤ made_count w (p.log u) = s.finishes k w q in omega arith)))
    (λ z q. inl refl) (Tasker k) refl in
    calls_grow n calls (made_count w) at _ _ heard le
    (sender_grows n (made_count w) at (p.log (c.states (Tasker k))) _ heard (taker_grows n (made_count w) at (p.log (c.states (Tasker k))) (p.log (c.states (Worker w))) heard old (p.log (if is (Worker w) y then u else c.states (Worker w))) took) (p.log (if is (Tasker k) y then u else c.states (Tasker k))) sent)
