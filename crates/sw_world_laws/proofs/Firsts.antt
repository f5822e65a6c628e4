-- No link comes to a reactor behind a NoMore: the door's comes behind its links, and a hand pushes its own once those of all
-- came, so once each reactor had one.
use Rattle.std.proofs.Common.{◌≡◌, ◌⊎◌, ℕ, ◌+◌, ◌<◌, ◌≤◌, Bool, true, false, if◌then◌else◌, List, [], ◌∷◌, ◌++◌, length, refl, ap, ◌∙◌, sym, subst, append-nil, arith, inl, inr, zero, suc}
use Rattle.sw_lists.specs.Lists.{collect, when, IsPrefix, Each, Has}
use Rattle.sw_lists.proofs.Lists.{append_none, bool_cases, collect-append, each_right, prefix_collect}
use Rattle.sw_step.specs.declared.actor.ActorId.{ActorId}
use Rattle.sw_step.specs.declared.actor.ActorId.TheVariants.{Door, Reactor, Worker, Tasker}
use Rattle.sw_step.specs.Actors.{is}
use Rattle.sw_record.specs.Terms.{Terms}
use Rattle.sw_record.specs.Places.{Ran}
use Rattle.sw_past.specs.Messages.{Message, FreshMsg, SendMsg, CloseMsg, ResetMsg, Bye, EventMsg, OverMsg, NoMore}
use Rattle.sw_past.specs.Past.{Mail, bare, msg_of, of, with}
use Rattle.sw_past.specs.Views.{fresh_in, no_more}
use Rattle.sw_past.specs.Routes.{IsHand, MayPush, ToWorker, crew}
use Rattle.sw_join.specs.Modes.{AimOf, EndOf}
use Rattle.sw_join.specs.Steps.{put}
use Rattle.sw_join.proofs.Routes.{is_refl, is_same}
use Rattle.sw_join.proofs.Told.{Kind, AsDoor, AsReactor, AsHand, AsNone, kind}
use Rattle.sw_join.proofs.Senders.{count}
use Rattle.sw_join.proofs.Drained.{one_each, took_enders}
use Rattle.sw_join.proofs.Merged.{crew_has}
use Rattle.sw_join.proofs.Steps.{pipes}
use Rattle.sw_world_ports.proofs.Haves.{each_has}
use Rattle.sw_world_laws.specs.Shows.{ComeFirst, EndsCame, HasWord, Shows}
use Rattle.sw_world_laws.specs.Actors.{Actors}
use Rattle.sw_world_laws.specs.World.{Core, there}
use Rattle.sw_world_laws.specs.History.{History, past_of}
use Rattle.sw_world_laws.specs.Law.{DoorsFirst, Holds}
use Rattle.sw_world_laws.proofs.Locals.{locals, joint, fair_sent, shown, door_shown, there_hand, words_found, not_there}
use Rattle.sw_world_laws.proofs.Turns.{more_of}

-- of lists
some_left : {A : Type 0} (xs ys : List A) → ¬ (xs ≡ []) → ¬ (xs ++ ys ≡ [])
some_left xs ys n e = n (append_none xs ys e).0

some_right : {A : Type 0} (xs ys : List A) → ¬ (ys ≡ []) → ¬ (xs ++ ys ≡ [])
some_right xs ys n e = n (append_none xs ys e).1

some_prefix : {A : Type 0} (f : A → List ℕ) (xs ys : List A) → IsPrefix xs ys → ¬ (collect f xs ≡ []) → ¬ (collect f ys ≡ [])
some_prefix f xs ys (rest, e) n z = some_left (collect f xs) (collect f rest) n (sym (collect-append f xs rest) ∙ ap (collect f) e ∙ z)

empty_or : (xs : List ℕ) → (xs ≡ []) ⊎ (¬ (xs ≡ []))
empty_or [] = inl refl
empty_or (x ∷ xs) = inr (λ e. absurd (cc))

long_some : (xs : List ℕ) → 1 ≤ length xs → ¬ (xs ≡ [])
long_some [] h e = absurd (let q : 1 ≤ 0 = h in omega (arith, q))
long_some (x ∷ xs) h e = absurd (cc)

-- a share of mail
share_some : (x : ActorId) (ms : Mail) → ¬ (collect no_more (of x ms) ≡ []) → ¬ (collect no_more (bare ms) ≡ [])
share_some x [] n = n
share_some x (e ∷ ms) n = pick (is e.0 x) (λ k. share_some x ms k) n
  where
    pick : (b : Bool) → (¬ (collect no_more (of x ms) ≡ []) → ¬ (collect no_more (bare ms) ≡ [])) → ¬ (collect no_more (when b e.1 ++ of x ms) ≡ []) → ¬ (collect no_more (bare (e ∷ ms)) ≡ [])
    pick true rest k z = elim (empty_or (no_more e.1)) [
      | inl q ↦ rest (λ w. k (ap (λ (ys : List ℕ). ys ++ collect no_more (of x ms)) q ∙ w)) (append_none (no_more e.1) (collect no_more (bare ms)) z).1
      | inr q ↦ q (append_none (no_more e.1) (collect no_more (bare ms)) z).0
    ]
    pick false rest k z = rest k (append_none (no_more e.1) (collect no_more (bare ms)) z).1

share_none : (x : ActorId) (ms : Mail) → collect fresh_in (bare ms) ≡ [] → collect fresh_in (of x ms) ≡ []
share_none x [] h = refl
share_none x (e ∷ ms) h = pick (is e.0 x) (share_none x ms both.1)
  where
    both : (fresh_in e.1 ≡ []) × (collect fresh_in (bare ms) ≡ [])
    both = append_none (fresh_in e.1) (collect fresh_in (bare ms)) h

    pick : (b : Bool) → collect fresh_in (of x ms) ≡ [] → collect fresh_in (when b e.1 ++ of x ms) ≡ []
    pick true rest = ap (λ (ys : List ℕ). ys ++ collect fresh_in (of x ms)) both.0 ∙ rest
    pick false rest = rest

share_first : (x : ActorId) (ms : Mail) → ComeFirst (bare ms) → ComeFirst (of x ms)
share_first x [] h = tt
share_first x (e ∷ ms) h = pick (is e.0 x) (share_first x ms h.1)
  where
    pick : (b : Bool) → ComeFirst (of x ms) → ComeFirst (when b e.1 ++ of x ms)
    pick true rest = ((λ some. share_none x ms (h.0 some)), rest)
    pick false rest = rest

-- what comes behind a NoMore is no link
first_mid : (xs ys : List Message) (m : Message) → ComeFirst (xs ++ m ∷ ys) → ¬ (collect no_more xs ≡ []) → fresh_in m ≡ []
first_mid [] ys m h n = absurd (n refl)
first_mid (x ∷ xs) ys m h n = elim (empty_or (no_more x)) [
  | inl q ↦ first_mid xs ys m h.1 (λ z. n (ap (λ (zs : List ℕ). zs ++ collect no_more xs) q ∙ z))
  | inr q ↦ (append_none (fresh_in m) (collect fresh_in ys) (append_none (collect fresh_in xs) (fresh_in m ++ collect fresh_in ys) (sym (collect-append fresh_in xs (m ∷ ys)) ∙ h.0 q)).1).0
]

first_append : (ms : List Message) (m : Message) → ComeFirst ms → (¬ (collect no_more ms ≡ []) → fresh_in m ≡ []) → ComeFirst (ms ++ m ∷ [])
first_append [] m h f = ((λ some. refl), tt)
first_append (x ∷ ms) m h f = (
  (λ some. collect-append fresh_in ms (m ∷ []) ∙ ap (λ (zs : List ℕ). zs ++ (fresh_in m ++ [])) (h.0 some) ∙ append-nil (fresh_in m) ∙ f (some_left (no_more x) (collect no_more ms) some)),
  first_append ms m h.1 (λ some. f (some_right (no_more x) (collect no_more ms) some)),
)

-- who pushed one of these
record Sender (ys : List ActorId) (ms : Mail) : Type 0 where
  who : ActorId
  among : Has who ys
  gave : ¬ (collect no_more (of who ms) ≡ [])

sent_by : (e : ActorId × Message) (ms : Mail) (z : ActorId) → ¬ (collect no_more (of z ms) ≡ []) → ¬ (collect no_more (of z (e ∷ ms)) ≡ [])
sent_by e ms z n = pick (is e.0 z)
  where
    pick : (b : Bool) → ¬ (collect no_more (when b e.1 ++ of z ms) ≡ [])
    pick true = some_right (no_more e.1) (collect no_more (of z ms)) n
    pick false = n

sent_first : (e : ActorId × Message) (ms : Mail) → ¬ (no_more e.1 ≡ []) → ¬ (collect no_more (of e.0 (e ∷ ms)) ≡ [])
sent_first e ms n = subst (λ (b : Bool). ¬ (collect no_more (when b e.1 ++ of e.0 ms) ≡ [])) (sym (is_refl e.0)) (some_left (no_more e.1) (collect no_more (of e.0 ms)) n)

sender_in : (ys : List ActorId) (ms : Mail) → Each (λ (e : ActorId × Message). (no_more e.1 ≡ []) ⊎ Has e.0 ys) ms → ¬ (collect no_more (bare ms) ≡ []) → Sender ys ms
sender_in ys [] h n = absurd (n refl)
sender_in ys (e ∷ ms) h n = elim (empty_or (no_more e.1)) [
  | inl q ↦ (let r = sender_in ys ms h.1 (λ z. n (ap (λ (zs : List ℕ). zs ++ collect no_more (bare ms)) q ∙ z)) in record { who = r.who; among = r.among; gave = sent_by e ms r.who r.gave })
  | inr q ↦ elim h.0 [ inl z ↦ absurd (q z) | inr has ↦ record { who = e.0; among = has; gave = sent_first e ms q } ]
]

sender_of : (ms : Mail) → ¬ (collect no_more (bare ms) ≡ []) → (z : ActorId) × (¬ (collect no_more (of z ms) ≡ []))
sender_of [] n = absurd (n refl)
sender_of (e ∷ ms) n = elim (empty_or (no_more e.1)) [
  | inl q ↦ (let r = sender_of ms (λ z. n (ap (λ (zs : List ℕ). zs ++ collect no_more (bare ms)) q ∙ z)) in (r.0, sent_by e ms r.0 r.1))
  | inr q ↦ (e.0, sent_first e ms q)
]

each_crew : (P : ActorId → Type 0) (f : ℕ → ActorId) (k n : ℕ) → ((m : ℕ) → m < k + n → P (f m)) → Each P (crew f k n)
each_crew P f k zero g = tt
each_crew P f k (suc n) g = (g k (omega arith), each_crew P f (k + 1) n (λ m lt. g m (omega (arith, lt))))

crew_is : (f : ℕ → ActorId) (k n : ℕ) (z : ActorId) → Has z (crew f k n) → (m : ℕ) × ((m < k + n) × (z ≡ f m))
crew_is f k zero z (i, q) = absurd (cc)
crew_is f k (suc n) z (zero, q) = (k, ((omega arith), (let e : f k ≡ z = cc in sym e)))
crew_is f k (suc n) z (suc i, q) = (let r = crew_is f (k + 1) n z (i, q) in (r.0, ((let a : r.0 < k + 1 + n = r.1.0 in omega (arith, a)), r.1.1)))

-- a reactor that took a NoMore took the door's
reactor_told : (t : Terms) (legal : List Ran → Type 0) (p : Actors t) (c : Core p.State) (h : History) → Holds t legal p c h → 0 < t.worker_num → (n : ℕ) → n < t.reactor_num → ¬ (collect no_more (bare (h.took (Reactor n))) ≡ []) → ¬ (collect no_more (of Door (h.took (Reactor n))) ≡ [])
reactor_told t legal p c h l some n lt told =
    let z = sender_of (h.took (Reactor n)) told in
    elim (bool_cases (is z.0 Door)) [
      | inl q ↦ subst (λ (y : ActorId). ¬ (collect no_more (of y (h.took (Reactor n))) ≡ [])) (is_same z.0 Door q) z.1
      | inr q ↦ l.doors_first some n lt z.0 (λ e. absurd (let i : true ≡ false = sym (ap (λ (y : ActorId). is y Door) e) ∙ q in cc))
          (some_prefix no_more (of z.0 (h.took (Reactor n))) (of z.0 (h.sent (Reactor n))) (prefix_collect (with z.0) (h.took (Reactor n)) (h.sent (Reactor n)) (l.pipes.begins (Reactor n))) z.1)
    ]

-- a worker that took those of all took each reactor's
worker_told : (t : Terms) (legal : List Ran → Type 0) (p : Actors t) (c : Core p.State) (h : History) → Holds t legal p c h → 0 < t.worker_num → (n : ℕ) → n < t.reactor_num → (w : ℕ) → t.reactor_num ≤ length (collect no_more (bare (h.took (Worker w)))) → ¬ (collect no_more (of Door (h.took (Reactor n))) ≡ [])
worker_told t legal p c h l some n lt w all =
    let ys : List ActorId = crew Reactor 0 t.reactor_num in
    let senders : Each (λ (e : ActorId × Message). (no_more e.1 ≡ []) ⊎ Has e.0 (crew Reactor 0 t.reactor_num)) (h.took (Worker w)) =
    took_enders t (AimOf t) (EndOf t) (past_of t p c h) (locals t legal p c h l) (joint t legal p c h l) (Worker w) (crew Reactor 0 t.reactor_num) (λ y e. rw e.1.1 (subst (λ (q : ℕ). Has (Reactor q) (crew Reactor 0 t.reactor_num)) (let z : 0 + e.0 ≡ e.0 = omega arith in z) (crew_has Reactor 0 t.reactor_num e.0 e.1.0))) in
    let few : Each (λ y. count no_more (h.took (Worker w)) y ≤ 1) (crew Reactor 0 t.reactor_num) =
    each_crew (λ y. count no_more (h.took (Worker w)) y ≤ 1) Reactor 0 t.reactor_num (λ m less. once m (let a : m < 0 + t.reactor_num = less in omega (arith, a))) in
    let each = one_each t (Worker w) (crew Reactor 0 t.reactor_num) (h.took (Worker w)) senders few (let e : length (crew Reactor 0 t.reactor_num) ≡ t.reactor_num = crew_length Reactor 0 t.reactor_num in omega (arith, all, e)) in
    let one : 1 ≤ count no_more (h.took (Worker w)) (Reactor n) = each_has (λ y. 1 ≤ count no_more (h.took (Worker w)) y) (crew Reactor 0 t.reactor_num) (Reactor n) each (subst (λ (q : ℕ). Has (Reactor q) (crew Reactor 0 t.reactor_num)) (let z : 0 + n ≡ n = omega arith in z) (crew_has Reactor 0 t.reactor_num n lt)) in
    let gave : ¬ (collect no_more (of (Worker w) (h.pushed (Reactor n))) ≡ []) = some_prefix no_more (of (Reactor n) (h.took (Worker w))) (of (Worker w) (h.pushed (Reactor n))) (pipes h.took h.pushed h.sent l.pipes (Worker w) (Reactor n)) (long_some (collect no_more (of (Reactor n) (h.took (Worker w)))) one) in
    reactor_told t legal p c h l some n lt ((more_of t legal p c h l n lt).ended (share_some (Worker w) (h.pushed (Reactor n)) gave))
  where
    crew_length : (f : ℕ → ActorId) (k m : ℕ) → length (crew f k m) ≡ m
    crew_length f k zero = refl
    crew_length f k (suc m) = ap (λ (i : ℕ). suc i) (crew_length f (k + 1) m)

    prefix_length : (xs ys : List Message) → IsPrefix xs ys → length (collect no_more ys) ≤ 1 → length (collect no_more xs) ≤ 1
    prefix_length xs ys (rest, e) few = (let a : collect no_more xs ++ collect no_more rest ≡ collect no_more ys = sym (collect-append no_more xs rest) ∙ ap (collect no_more) e in shorter (collect no_more xs) (collect no_more rest) (collect no_more ys) a few)
      where
        shorter : (us vs ws : List ℕ) → us ++ vs ≡ ws → length ws ≤ 1 → length us ≤ 1
        shorter [] vs ws q k = omega arith
        shorter (a ∷ []) vs ws q k = omega arith
        shorter (a ∷ b ∷ us) vs ws q k = absurd (let z : length (a ∷ b ∷ (us ++ vs)) ≤ 1 = subst (λ (zs : List ℕ). length zs ≤ 1) (sym q) k in omega (arith, z))

    once : (m : ℕ) → m < t.reactor_num → count no_more (h.took (Worker w)) (Reactor m) ≤ 1
    once m less = prefix_length (of (Reactor m) (h.took (Worker w))) (of (Worker w) (h.pushed (Reactor m))) (pipes h.took h.pushed h.sent l.pipes (Worker w) (Reactor m)) ((more_of t legal p c h l m less).last (Worker w))

-- so did one that pushes its own
hand_told : (t : Terms) (legal : List Ran → Type 0) (p : Actors t) (c : Core p.State) (h : History) → Holds t legal p c h → c.lost ≡ false → 0 < t.worker_num → (n : ℕ) → n < t.reactor_num → (y : ActorId) → IsHand t y → EndsCame t y (h.took y) → ¬ (collect no_more (of Door (h.took (Reactor n))) ≡ [])
hand_told t legal p c h l ok some n lt y (inl (w, (less, e))) came = worker_told t legal p c h l some n lt w (subst (λ (z : ActorId). EndsCame t z (h.took z)) e came)
hand_told t legal p c h l ok some n lt y (inr (k, (less, e))) came =
    let all : t.worker_num ≤ length (collect no_more (bare (h.took (Tasker k)))) = subst (λ (z : ActorId). EndsCame t z (h.took z)) e came in
    let senders : Each (λ (x : ActorId × Message). (no_more x.1 ≡ []) ⊎ Has x.0 (crew Worker 0 t.worker_num)) (h.took (Tasker k)) =
    took_enders t (AimOf t) (EndOf t) (past_of t p c h) (locals t legal p c h l) (joint t legal p c h l) (Tasker k) (crew Worker 0 t.worker_num) (λ z q. rw q.1.1 (subst (λ (v : ℕ). Has (Worker v) (crew Worker 0 t.worker_num)) (let z2 : 0 + q.0 ≡ q.0 = omega arith in z2) (crew_has Worker 0 t.worker_num q.0 q.1.0))) in
    let s = sender_in (crew Worker 0 t.worker_num) (h.took (Tasker k)) senders (long_some (collect no_more (bare (h.took (Tasker k)))) (omega (arith, all, some))) in
    let v = crew_is Worker 0 t.worker_num s.who s.among in
    let small : v.0 < t.worker_num = (let a : v.0 < 0 + t.worker_num = v.1.0 in omega (arith, a)) in
    let gave : ¬ (collect no_more (of (Tasker k) (h.pushed s.who)) ≡ []) = some_prefix no_more (of s.who (h.took (Tasker k))) (of (Tasker k) (h.pushed s.who)) (pipes h.took h.pushed h.sent l.pipes (Tasker k) s.who) s.gave in
    let is_hand : IsHand t s.who = inl (v.0, (small, v.1.1)) in
    let ended = ((shown t legal p c h l ok s.who (there_hand t s.who is_hand)).hand is_hand).ended (share_some (Tasker k) (h.pushed s.who) gave) in
    worker_told t legal p c h l some n lt v.0 (subst (λ (z : ActorId). EndsCame t z (h.took z)) v.1.1 ended)

-- A PUSH
pub doors_push : (t : Terms) (legal : List Ran → Type 0) (p : Actors t) (c : Core p.State) (h : History) → Holds t legal p c h → c.lost ≡ false → (y x : ActorId) (m : Message) → there t y ≡ true → Shows t y (p.log (c.states y)) (p.kept (c.states y)) (p.told (c.states y)) (record { took = h.took y; pushed = h.pushed y ++ (x, m) ∷ []; refused = h.refused y; dids = h.dids y }) → DoorsFirst t h.took (put h.sent x (y, m))
doors_push t legal p c h l ok y x m th s some n lt z ne gave = pick (is (Reactor n) x) refl gave
  where
    last : (P : ActorId × Message → Type 0) → Each P (h.pushed y ++ (x, m) ∷ []) → P (x, m)
    last P q = (each_right P (h.pushed y) ((x, m) ∷ []) q).0

    pushes : (xs : List Message) → ¬ (no_more m ≡ []) → ¬ (collect no_more (bare (h.pushed y ++ (x, m) ∷ [])) ≡ [])
    pushes xs k e = some_right (collect no_more (bare (h.pushed y))) (no_more m ++ []) (some_left (no_more m) [] k) (sym (ap (collect no_more) (collect-append msg_of (h.pushed y) ((x, m) ∷ [])) ∙ collect-append no_more (bare (h.pushed y)) (m ∷ [])) ∙ e)

    no_reactor : ToWorker t (x, m) → x ≡ Reactor n → ¬ (no_more m ≡ []) → ⊥
    no_reactor w e k = by_message m w e k
      where
        by_message : (v : Message) → ToWorker t (x, v) → x ≡ Reactor n → ¬ (no_more v ≡ []) → ⊥
        by_message NoMore w e k = absurd (let g : Worker w.0 ≡ Reactor n = sym w.1.1 ∙ e in cc)
        by_message (EventMsg v) w e k = absurd (let g : Worker w.0 ≡ Reactor n = sym w.1.1 ∙ e in cc)
        by_message (FreshMsg ip v) w e k = w
        by_message (SendMsg v b) w e k = w
        by_message (CloseMsg v) w e k = w
        by_message (ResetMsg v) w e k = w
        by_message (Bye v) w e k = w
        by_message (OverMsg id) w e k = w

    by : x ≡ Reactor n → ¬ (no_more m ≡ []) → y ≡ z → Kind t y → ¬ (collect no_more (of Door (h.took (Reactor n))) ≡ [])
    by e k i (AsDoor q) = absurd (ne (sym i ∙ q))
    by e k i (AsReactor r less q) = absurd (no_reactor (last (ToWorker t) (s.reactor r less q (subst (λ (v : ActorId). HasWord (h.dids v)) (sym q) (words_found t legal p c h l r less))).0.to_workers) e k)
    by e k i (AsHand q) = hand_told t legal p c h l ok some n lt y q ((s.hand q).ended (pushes [] k))
    by e k i (AsNone d r q) = absurd (let g : true ≡ false = sym th ∙ not_there t y d r q in cc)

    pick : (b : Bool) → is (Reactor n) x ≡ b → ¬ (collect no_more (of z (if b then h.sent (Reactor n) ++ (y, m) ∷ [] else h.sent (Reactor n))) ≡ []) → ¬ (collect no_more (of Door (h.took (Reactor n))) ≡ [])
    pick false q k = l.doors_first some n lt z ne k
    pick true q k = elim (empty_or (collect no_more (of z (h.sent (Reactor n))))) [
      | inl none ↦ one (is y z) refl (λ e. k (ap (collect no_more) (collect-append (with z) (h.sent (Reactor n)) ((y, m) ∷ [])) ∙ collect-append no_more (of z (h.sent (Reactor n))) (of z ((y, m) ∷ [])) ∙ ap (λ (zs : List ℕ). zs ++ collect no_more (of z ((y, m) ∷ []))) none ∙ e))
      | inr old ↦ l.doors_first some n lt z ne old
    ]
      where
        one : (b : Bool) → is y z ≡ b → ¬ (collect no_more (when b m ++ []) ≡ []) → ¬ (collect no_more (of Door (h.took (Reactor n))) ≡ [])
        one true i g = by (sym (is_same (Reactor n) x q)) (λ e. g (ap (λ (zs : List ℕ). zs ++ []) e)) (is_same y z i) (kind t y)
        one false i g = absurd (g refl)

-- A TAKE
pub doors_take : (t : Terms) (took sent : ActorId → Mail) → DoorsFirst t took sent → (y : ActorId) (e : ActorId × Message) → DoorsFirst t (put took y e) sent
doors_take t took sent h y e some n lt z ne gave = pick (is (Reactor n) y)
  where
    pick : (b : Bool) → ¬ (collect no_more (of Door (if b then took (Reactor n) ++ e ∷ [] else took (Reactor n))) ≡ [])
    pick true = some_prefix no_more (of Door (took (Reactor n))) (of Door (took (Reactor n) ++ e ∷ [])) (prefix_collect (with Door) (took (Reactor n)) (took (Reactor n) ++ e ∷ []) (e ∷ [], refl)) (h some n lt z ne gave)
    pick false = h some n lt z ne gave

pub links_take : (t : Terms) (legal : List Ran → Type 0) (p : Actors t) (c : Core p.State) (h : History) → Holds t legal p c h → (y : ActorId) (e : ActorId × Message) (rest : Mail) → h.sent y ≡ h.took y ++ e ∷ rest → 0 < t.worker_num → (n : ℕ) → n < t.reactor_num → ComeFirst (bare (put h.took y e (Reactor n)))
links_take t legal p c h l y e rest q some n lt = pick (is (Reactor n) y) refl
  where
    door_first : ComeFirst (of Door (h.sent (Reactor n)))
    door_first = subst ComeFirst (l.pipes.same (Reactor n) Door) (share_first (Reactor n) (h.pushed Door) (door_shown t legal p c h l).order)

    here : h.sent (Reactor n) ≡ h.took (Reactor n) ++ e ∷ rest → ¬ (collect no_more (bare (h.took (Reactor n))) ≡ []) → fresh_in e.1 ≡ []
    here split told = by e.1 e.0 (each_right (λ (x : ActorId × Message). MayPush t x.0 (Reactor n) x.1) (h.took (Reactor n)) (e ∷ rest) (subst (Each (λ (x : ActorId × Message). MayPush t x.0 (Reactor n) x.1)) split (fair_sent t legal p c h l n).routed)).0
        (subst ComeFirst (ap (of Door) split ∙ collect-append (with Door) (h.took (Reactor n)) (e ∷ rest)) door_first)
      where
        by : (m : Message) (who : ActorId) → MayPush t who (Reactor n) m → ComeFirst (of Door (h.took (Reactor n)) ++ (when (is who Door) m ++ of Door rest)) → fresh_in m ≡ []
        by (FreshMsg ip s) who may first = first_mid (of Door (h.took (Reactor n))) (of Door rest) (FreshMsg ip s) (subst (λ (v : ActorId). ComeFirst (of Door (h.took (Reactor n)) ++ (when (is v Door) (FreshMsg ip s) ++ of Door rest))) may.0 first) (reactor_told t legal p c h l some n lt told)
        by (SendMsg s b) who may first = refl
        by (CloseMsg s) who may first = refl
        by (ResetMsg s) who may first = refl
        by (Bye s) who may first = refl
        by (EventMsg v) who may first = refl
        by (OverMsg id) who may first = refl
        by NoMore who may first = refl

    pick : (b : Bool) → is (Reactor n) y ≡ b → ComeFirst (bare (if b then h.took (Reactor n) ++ e ∷ [] else h.took (Reactor n)))
    pick true i = (let same : y ≡ Reactor n = sym (is_same (Reactor n) y i) in
        subst ComeFirst (sym (collect-append msg_of (h.took (Reactor n)) (e ∷ []))) (first_append (bare (h.took (Reactor n))) e.1 (l.links_first some n lt) (here (subst (λ (v : ActorId). h.sent v ≡ h.took v ++ e ∷ rest) same q))))
    pick false i = l.links_first some n lt
