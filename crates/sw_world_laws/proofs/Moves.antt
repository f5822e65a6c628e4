-- Takes and pushes keep the law.
use Rattle.std.proofs.Common.{◌≡◌, ◌⊎◌, ℕ, ◌+◌, ◌<◌, ◌≤◌, nat_lt, Bool, true, false, if◌then◌else◌, List, [], ◌∷◌, ◌++◌, length, refl, ap, ◌∙◌, sym, subst, append_assoc, arith, inl, inr, zero, suc}
use Rattle.std.proofs.lemmas.Bool.Decides.{nat_tests}
use Rattle.sw_lists.specs.Lists.{collect, Each, Has}
use Rattle.sw_lists.specs.Numbers.{Rises}
use Rattle.sw_lists.proofs.Lists.{eq_other, collect-append, each_right, length_append}
use Rattle.sw_step.specs.declared.actor.ActorId.{ActorId}
use Rattle.sw_step.specs.declared.actor.ActorId.TheVariants.{Door, Reactor, Worker, Tasker}
use Rattle.sw_step.specs.Actors.{is}
use Rattle.sw_record.specs.Terms.{Terms, reactor_of}
use Rattle.sw_record.specs.Own.{StandsEarly}
use Rattle.sw_past.specs.Messages.{Message, FreshMsg, SendMsg, CloseMsg, ResetMsg, Bye, EventMsg, OverMsg, NoMore}
use Rattle.sw_past.specs.Past.{Mail, bare, msg_of, of}
use Rattle.sw_past.specs.Views.{fresh_in, fresh_of, sends_in}
use Rattle.sw_past.specs.Routes.{IsHand, IsFair, MayPush}
use Rattle.sw_join.specs.Steps.{put}
use Rattle.sw_join.proofs.Routes.{is_same}
use Rattle.sw_join.proofs.Steps.{push_keeps, take_keeps, note_now}
use Rattle.sw_record.specs.Places.{Ran}
use Rattle.sw_join.specs.Modes.{AimOf, EndOf}
use Rattle.sw_world_ports.specs.Ports.{set_at}
use Rattle.sw_world_ports.proofs.Frame.{frame}
use Rattle.sw_world_ports.proofs.Haves.{Place, AtLast, Before, place_of}
use Rattle.sw_world_laws.specs.Turns.{AskTake, AskPush, GotTook, GotEmpty, GotPushed, GotFull, HasPipe, After}
use Rattle.sw_world_laws.specs.Actors.{Actors}
use Rattle.sw_world_laws.specs.World.{Gave, Core, there, took_of, left_of, has_room, taken, pushed_by}
use Rattle.sw_world_laws.specs.History.{History, diary_of, past_of, LocalBy}
use Rattle.sw_world_laws.specs.Law.{Lies, NotesLaw, Holds, Law, IsSound}
use Rattle.sw_world_laws.proofs.Locals.{locals, joint, fair_sent, lt_test}
use Rattle.sw_world_laws.proofs.Firsts.{doors_push, doors_take, links_take}
use Rattle.sw_world_laws.proofs.Marks.{task_marks_take, finish_marks_take}

-- a link that comes now did not come before
fresh_new : (ms rest : Mail) (who : ActorId) (ip s : ℕ) → Rises (collect fresh_in (bare (ms ++ (who, FreshMsg ip s) ∷ rest))) → collect (fresh_of s) (bare ms) ≡ []
fresh_new [] rest who ip s r = refl
fresh_new ((x, m) ∷ ms) rest who ip s r = one m r (λ k. fresh_new ms rest who ip s k)
  where
    tail : List ℕ
    tail = collect fresh_in (bare (ms ++ (who, FreshMsg ip s) ∷ rest))

    less : (u : ℕ) → Each (λ k. u < k) tail → ¬ (u ≡ s)
    less u h e =
        let q : tail ≡ collect fresh_in (bare ms) ++ s ∷ collect fresh_in (bare rest) = ap (collect fresh_in) (collect-append msg_of ms ((who, FreshMsg ip s) ∷ rest)) ∙ collect-append fresh_in (bare ms) (FreshMsg ip s ∷ bare rest) in
        let lt : u < s = (each_right (λ k. u < k) (collect fresh_in (bare ms)) (s ∷ collect fresh_in (bare rest)) (subst (Each (λ k. u < k)) q h)).0 in
        absurd (omega arith)

    one : (m : Message) → Rises (fresh_in m ++ tail) → (Rises tail → collect (fresh_of s) (bare ms) ≡ []) → fresh_of s m ++ collect (fresh_of s) (bare ms) ≡ []
    one (FreshMsg i u) k f = rw (eq_other u s (less u k.0)) (f k.1)
    one (SendMsg u b) k f = f k
    one (CloseMsg u) k f = f k
    one (ResetMsg u) k f = f k
    one (Bye u) k f = f k
    one (EventMsg e) k f = f k
    one (OverMsg id) k f = f k
    one NoMore k f = f k

-- THE NOTE at the take of a link
note_taken : (t : Terms) (legal : List Ran → Type 0) (p : Actors t) (c : Core p.State) (h : History) → Holds t legal p c h → (n ip s : ℕ) (rest : Mail) → h.sent (Reactor n) ≡ h.took (Reactor n) ++ (Door, FreshMsg ip s) ∷ rest → (y : ActorId) → IsHand t y → StandsEarly (p.log (c.states y)) s (collect (sends_in s) (of y (h.took (Reactor n))))
note_taken t legal p c h l n ip s rest q y k =
    let fair : IsFair t n (h.took (Reactor n) ++ (Door, FreshMsg ip s) ∷ rest) = subst (IsFair t n) q (fair_sent t legal p c h l n) in
    let may : MayPush t Door (Reactor n) (FreshMsg ip s) = (each_right (λ (e : ActorId × Message). MayPush t e.0 (Reactor n) e.1) (h.took (Reactor n)) ((Door, FreshMsg ip s) ∷ rest) fair.routed).0 in
    let same : Reactor (reactor_of t s) ≡ Reactor n = sym may.1 in
    let none : collect (fresh_of s) (bare (h.took (Reactor n))) ≡ [] = fresh_new (h.took (Reactor n)) rest Door ip s fair.once in
    subst (λ (x : ActorId). StandsEarly (p.log (c.states y)) s (collect (sends_in s) (of y (h.took x)))) same
    (note_now t (AimOf t) (EndOf t) (past_of t p c h) (locals t legal p c h l) (joint t legal p c h l) s y k (subst (λ (x : ActorId). collect (fresh_of s) (bare (h.took x)) ≡ []) (sym same) none))

notes_take : (t : Terms) (legal : List Ran → Type 0) (p : Actors t) (c : Core p.State) (h : History) → Holds t legal p c h → (y : ActorId) (e : ActorId × Message) (rest : Mail) → h.sent y ≡ h.took y ++ e ∷ rest → NotesLaw t (put h.took y e) (λ z. p.log (c.states z))
notes_take t legal p c h l y e rest q n z k ip s early back eq = pick (is (Reactor n) y) refl eq
  where
    at : (x : ActorId) → x ≡ Reactor n → h.sent x ≡ h.took x ++ e ∷ rest → h.took (Reactor n) ++ e ∷ [] ≡ early ++ (Door, FreshMsg ip s) ∷ back → StandsEarly (p.log (c.states z)) s (collect (sends_in s) (of z early))
    at x i w g = by (place_of (h.took (Reactor n)) e early (Door, FreshMsg ip s) back g)
      where
        by : Place (h.took (Reactor n)) e early (Door, FreshMsg ip s) back → StandsEarly (p.log (c.states z)) s (collect (sends_in s) (of z early))
        by (Before more a) = l.notes n z k ip s early more a
        by (AtLast a b) =
            subst (λ (ms : Mail). StandsEarly (p.log (c.states z)) s (collect (sends_in s) (of z ms))) a
            (note_taken t legal p c h l n ip s rest (subst (λ (d : ActorId × Message). h.sent (Reactor n) ≡ h.took (Reactor n) ++ d ∷ rest) b (subst (λ (v : ActorId). h.sent v ≡ h.took v ++ e ∷ rest) i w)) z k)

    pick : (b : Bool) → is (Reactor n) y ≡ b → (if b then h.took (Reactor n) ++ e ∷ [] else h.took (Reactor n)) ≡ early ++ (Door, FreshMsg ip s) ∷ back → StandsEarly (p.log (c.states z)) s (collect (sends_in s) (of z early))
    pick true i g = at y (sym (is_same (Reactor n) y i)) q g
    pick false i g = l.notes n z k ip s early back g

-- a take
took_keeps : (t : Terms) (legal : List Ran → Type 0) (p : Actors t) (c : Core p.State) (h : History) → Holds t legal p c h → c.lost ≡ false → (y : ActorId) → there t y ≡ true → After t (p.Quiet y) (p.Done y) (c.states y) AskTake (diary_of h y) → (rest : Mail) → h.sent y ≡ h.took y ++ rest → (ms : List Message) → bare rest ≡ ms → Law t legal p (record c { nexts = set_at c.nexts y (Gave (took_of ms)); pipes = set_at c.pipes y (left_of ms) })
took_keeps t legal p c h l was y th q [] split [] inside = (
  h,
  record {
    local = frame y (λ b z. there t z ≡ true → LocalBy t p z (c.states z) (if b then Gave GotEmpty else c.nexts z) (diary_of h z)) (λ i. q.0) l.local;
    absent = l.absent;
    sound = λ ok. frame y (λ b z. IsSound (if b then Gave GotEmpty else c.nexts z)) tt (l.sound ok);
    may = l.may;
    pipes = l.pipes;
    lies = frame y (λ b z. Lies (h.took z) (h.sent z) (if b then [] else c.pipes z)) (record { rest = []; split = split; inside = refl }) l.lies;
    notes = l.notes;
    task_marks = l.task_marks;
    finish_marks = l.finish_marks;
    ports = l.ports;
    full = l.full;
    doors_first = l.doors_first;
    links_first = l.links_first;
  },
)
took_keeps t legal p c h l was y th q [] split (m ∷ ms) inside = absurd (cc)
took_keeps t legal p c h l was y th q (e ∷ rest) split [] inside = absurd (cc)
took_keeps t legal p c h l was y th q ((who, n) ∷ rest) split (m ∷ ms) inside =
    let i : n ≡ m = cc in
    let j : bare rest ≡ ms = cc in
    let e : ActorId × Message = (who, n) in (
      record h { took = put h.took y e },
      record {
        local = frame y (λ b z. there t z ≡ true → LocalBy t p z (c.states z) (if b then Gave (GotTook m) else c.nexts z) (record { took = (if b then h.took z ++ e ∷ [] else h.took z); pushed = h.pushed z; refused = h.refused z; dids = h.dids z }))
            (λ k. subst (λ (v : Message). p.Quiet y (c.states y) (GotTook v) (record { took = h.took y ++ e ∷ []; pushed = h.pushed y; refused = h.refused y; dids = h.dids y })) i (q.1 who n)) l.local;
        absent = l.absent;
        sound = λ ok. frame y (λ b z. IsSound (if b then Gave (GotTook m) else c.nexts z)) tt (l.sound ok);
        may = l.may;
        pipes = take_keeps h.took h.pushed h.sent l.pipes y e rest split;
        lies = frame y (λ b z. Lies (if b then h.took z ++ e ∷ [] else h.took z) (h.sent z) (if b then ms else c.pipes z)) (record { rest = rest; split = split ∙ sym (append_assoc (h.took y) (e ∷ []) rest); inside = j }) l.lies;
        notes = notes_take t legal p c h l y e rest split;
        task_marks = task_marks_take t legal p c h l was y e;
        finish_marks = finish_marks_take t legal p c h l was y e;
        ports = l.ports;
        full = l.full;
        doors_first = doors_take t h.took h.sent l.doors_first y e;
        links_first = links_take t legal p c h l y e rest split;
      },
    )

pub taken_keeps : (t : Terms) (legal : List Ran → Type 0) (p : Actors t) (c : Core p.State) (h : History) → Holds t legal p c h → c.lost ≡ false → (y : ActorId) → there t y ≡ true → After t (p.Quiet y) (p.Done y) (c.states y) AskTake (diary_of h y) → Law t legal p (taken c y)
taken_keeps t legal p c h l was y th q = let k = l.lies y in took_keeps t legal p c h l was y th q k.rest k.split (c.pipes y) k.inside

-- a test of two that is passed
test : (n k : ℕ) (b c : Bool) → nat_lt n k ≡ b → (if b then c else false) ≡ true → n < k
test n k true c e q = grind (arith, nat_tests)
test n k false c e q = absurd (cc)

-- one more in a list
has_more : {A : Type 0} (x : A) (xs : List A) (e : A) → Has x (xs ++ e ∷ []) → Has x xs ⊎ (e ≡ x)
has_more x [] e (zero, q) = inr (let i : e ≡ x = cc in i)
has_more x [] e (suc k, q) = absurd (cc)
has_more x (y ∷ xs) e (zero, q) = inl (0, q)
has_more x (y ∷ xs) e (suc k, q) = elim (has_more x xs e (k, q)) [ inl h ↦ inl (suc h.0, h.1) | inr i ↦ inr i ]

length_bare : (ms : Mail) → length (bare ms) ≡ length ms
length_bare [] = refl
length_bare (m ∷ ms) = ap (λ n. suc n) (length_bare ms)

-- who has room has a pipe
room_pipe : (t : Terms) (x : ActorId) (ms : List Message) → has_room t x ms ≡ true → HasPipe t x
room_pipe t Door ms q = absurd (cc)
room_pipe t (Reactor n) ms q = test n t.reactor_num (nat_lt n t.reactor_num) (nat_lt (length ms) t.pipe_capacity) refl q
room_pipe t (Worker n) ms q = test n t.worker_num (nat_lt n t.worker_num) (nat_lt (length ms) t.pipe_capacity) refl q
room_pipe t (Tasker n) ms q = test n t.tasker_num (nat_lt n t.tasker_num) (nat_lt (length ms) t.pipe_capacity) refl q

-- a pipe without room has all that it can hold
no_room : (t : Terms) (x : ActorId) (ms : List Message) (n : ℕ) → x ≡ Tasker n → n < t.tasker_num → has_room t x ms ≡ false → t.pipe_capacity ≤ length ms
no_room t x ms n e lt q =
    let a : has_room t (Tasker n) ms ≡ false = subst (λ (z : ActorId). has_room t z ms ≡ false) e q in
    let b : has_room t (Tasker n) ms ≡ nat_lt (length ms) t.pipe_capacity = rw (lt_test n t.tasker_num lt) refl in
    let d : nat_lt (length ms) t.pipe_capacity ≡ false = sym b ∙ a in
    grind (arith, nat_tests)

longer : (f : ActorId → Mail) (x : ActorId) (e : ActorId × Message) (z : ActorId) (k : ℕ) → k ≤ length (f z) → k ≤ length (put f x e z)
longer f x e z k h = pick (is z x)
  where
    pick : (b : Bool) → k ≤ length (if b then f z ++ e ∷ [] else f z)
    pick true = (let a : length (f z ++ e ∷ []) ≡ length (f z) + 1 = length_append (f z) (e ∷ []) in omega arith)
    pick false = h

pub pushed_keeps : (t : Terms) (legal : List Ran → Type 0) (p : Actors t) (c : Core p.State) (h : History) → Holds t legal p c h → c.lost ≡ false → (y x : ActorId) (m : Message) → there t y ≡ true → After t (p.Quiet y) (p.Done y) (c.states y) (AskPush x m) (diary_of h y) → (b : Bool) → has_room t x (c.pipes x) ≡ b → Law t legal p (pushed_by c y x m b)
pushed_keeps t legal p c h l was y x m th q true room =
    let e : ActorId × Message = (x, m) in
    let f : ActorId × Message = (y, m) in
    let k : Lies (h.took x) (h.sent x) (c.pipes x) = l.lies x in (
      record h { pushed = put h.pushed y e; sent = put h.sent x f },
      record {
        local = frame y (λ b z. there t z ≡ true → LocalBy t p z (c.states z) (if b then Gave GotPushed else c.nexts z) (record { took = h.took z; pushed = (if b then h.pushed z ++ e ∷ [] else h.pushed z); refused = h.refused z; dids = h.dids z })) (λ i. q.0 (room_pipe t x (c.pipes x) room)) l.local;
        absent = frame y (λ b z. there t z ≡ false → (if b then h.pushed z ++ e ∷ [] else h.pushed z) ≡ []) (λ i. absurd (let j : true ≡ false = sym th ∙ i in cc)) l.absent;
        sound = λ ok. frame y (λ b z. IsSound (if b then Gave GotPushed else c.nexts z)) tt (l.sound ok);
        may = l.may;
        pipes = push_keeps h.took h.pushed h.sent l.pipes y x m;
        lies = frame x (λ b z. Lies (h.took z) (if b then h.sent z ++ f ∷ [] else h.sent z) (if b then c.pipes x ++ m ∷ [] else c.pipes z))
            (record {
              rest = k.rest ++ f ∷ [];
              split = ap (λ (zs : Mail). zs ++ f ∷ []) k.split ∙ append_assoc (h.took x) k.rest (f ∷ []);
              inside = collect-append msg_of k.rest (f ∷ []) ∙ ap (λ (zs : List Message). zs ++ m ∷ []) k.inside;
            }) l.lies;
        notes = l.notes;
        task_marks = l.task_marks;
        finish_marks = l.finish_marks;
        ports = l.ports;
        full = λ z n v lt has. longer h.sent x f (Tasker n) t.pipe_capacity (l.full z n v lt has);
        doors_first = doors_push t legal p c h l was y x m th (p.shows y (c.states y) GotPushed (record { took = h.took y; pushed = h.pushed y ++ (x, m) ∷ []; refused = h.refused y; dids = h.dids y }) (q.0 (room_pipe t x (c.pipes x) room)));
        links_first = l.links_first;
      },
    )
pushed_keeps t legal p c h l was y x m th q false room =
    let e : ActorId × Message = (x, m) in
    let k : Lies (h.took x) (h.sent x) (c.pipes x) = l.lies x in (
      record h { refused = put h.refused y e },
      record {
        local = frame y (λ b z. there t z ≡ true → LocalBy t p z (c.states z) (if b then Gave (GotFull m) else c.nexts z) (record { took = h.took z; pushed = h.pushed z; refused = (if b then h.refused z ++ e ∷ [] else h.refused z); dids = h.dids z })) (λ i. q.1) l.local;
        absent = l.absent;
        sound = λ ok. frame y (λ b z. IsSound (if b then Gave (GotFull m) else c.nexts z)) tt (l.sound ok);
        may = l.may;
        pipes = l.pipes;
        lies = l.lies;
        notes = l.notes;
        task_marks = l.task_marks;
        finish_marks = l.finish_marks;
        ports = l.ports;
        full = λ z n v lt. frame y (λ b w. Has (Tasker n, v) (if b then h.refused w ++ e ∷ [] else h.refused w) → t.pipe_capacity ≤ length (h.sent (Tasker n)))
            (λ has. elim (has_more (Tasker n, v) (h.refused y) e has) [
              | inl old ↦ l.full y n v lt old
              | inr new ↦ (let i : x ≡ Tasker n = ap (λ (d : ActorId × Message). d.0) new in
                  let a : t.pipe_capacity ≤ length (c.pipes x) = no_room t x (c.pipes x) n i lt room in
                  let b : length (c.pipes x) ≡ length k.rest = ap length (sym k.inside) ∙ length_bare k.rest in
                  let d : length (h.sent x) ≡ length (h.took x) + length k.rest = ap length k.split ∙ length_append (h.took x) k.rest in
                  subst (λ (w : ActorId). t.pipe_capacity ≤ length (h.sent w)) i (omega arith))
            ])
            (λ w has. l.full w n v lt has) z;
        doors_first = l.doors_first;
        links_first = l.links_first;
      },
    )
