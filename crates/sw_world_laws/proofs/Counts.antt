-- The board's counters give CountLaws, and a reactor's shares RoundLaws' first.
use Rattle.std.proofs.Common.{false, ◌≡◌, ℕ, ◌+◌, ◌<◌, ◌≤◌, Bool, List, [], ◌∷◌, ◌++◌, length, refl, ap, ◌∙◌, sym, subst, arith, inl, inr, zero, suc}
use Rattle.sw_lists.specs.Lists.{collect, when, Each, Has}
use Rattle.sw_lists.specs.Numbers.{Distinct, sum_below}
use Rattle.sw_lists.proofs.Lists.{each_more, length_append, each_append}
use Rattle.sw_step.specs.declared.actor.ActorId.{ActorId}
use Rattle.sw_step.specs.declared.actor.ActorId.TheVariants.{Door, Reactor}
use Rattle.sw_record.specs.Terms.{Terms, reactor_of}
use Rattle.sw_record.specs.Counts.{total, counted, tally, count_in}
use Rattle.sw_record.specs.Answers.{answers_of}
use Rattle.sw_past.specs.Past.{bare}
use Rattle.sw_past.specs.Views.{fresh_in}
use Rattle.sw_past.specs.Routes.{IsHand, crew, hands}
use Rattle.sw_join.specs.Counts.{CountLaws}
use Rattle.sw_join.proofs.Merged.{hands_are, crew_are}
use Rattle.sw_record.specs.Places.{Ran}
use Rattle.sw_record.specs.Words.{Counter, AcceptedCount, EndedCount, PacketsCount, SendsCount, TasksCount, FinishesCount}
use Rattle.sw_world_ports.specs.Calls.{Did, Accepts, NoLink, NetOver, Looks, Binds, Frees, Marks, Idles, Stops, SeesStop, Adds, Sums, Tables, MayDo, MayAdd, IsReactor, TableRefuses}
use Rattle.sw_world_ports.specs.Made.{add_in, sum_in, free_in, accept_in, firsts}
use Rattle.sw_world_ports.specs.Ports.{sum_of, everyone}
use Rattle.sw_world_ports.specs.Law.{drawn_by}
use Rattle.sw_world_ports.proofs.Haves.{each_has}
use Rattle.sw_world_ports.proofs.Counters.{counter_other}
use Rattle.sw_world_laws.specs.Shows.{HandShows, DoorShows}
use Rattle.sw_world_laws.specs.Actors.{Actors}
use Rattle.sw_world_laws.specs.World.{Core}
use Rattle.sw_world_laws.specs.History.{History, diary_of, past_of}
use Rattle.sw_world_laws.specs.Law.{Holds}
use Rattle.sw_world_laws.proofs.Locals.{shown, there_hand, door_shown, no_hand_door, no_hand_reactor}
use Rattle.sw_world_laws.proofs.Turns.{more_of, fair_took, fresh_routed, took_drawn}
use Rattle.sw_world_laws.proofs.Account.{account_by}
use Rattle.sw_world_laws.proofs.Shares.{shares_of}

-- who may not add did not
no_adds : (t : Terms) (y : ActorId) (c : Counter) (ds : List Did) → (MayAdd t y c → ⊥) → Each (MayDo t y) ds → collect (add_in c) ds ≡ []
no_adds t y c [] n h = refl
no_adds t y c (Adds d ∷ ds) n h = ap (λ (b : Bool). when b 0 ++ collect (add_in c) ds) (counter_other d c (λ e. n (subst (MayAdd t y) e h.0))) ∙ no_adds t y c ds n h.1
no_adds t y c (Accepts ip x ∷ ds) n h = no_adds t y c ds n h.1
no_adds t y c (NoLink ∷ ds) n h = no_adds t y c ds n h.1
no_adds t y c (NetOver ∷ ds) n h = no_adds t y c ds n h.1
no_adds t y c (Looks s x ∷ ds) n h = no_adds t y c ds n h.1
no_adds t y c (Binds s u x ∷ ds) n h = no_adds t y c ds n h.1
no_adds t y c (Frees s u ∷ ds) n h = no_adds t y c ds n h.1
no_adds t y c (Marks b ∷ ds) n h = no_adds t y c ds n h.1
no_adds t y c (Idles k m x ∷ ds) n h = no_adds t y c ds n h.1
no_adds t y c (Stops ∷ ds) n h = no_adds t y c ds n h.1
no_adds t y c (SeesStop b ∷ ds) n h = no_adds t y c ds n h.1
no_adds t y c (Sums k m ∷ ds) n h = no_adds t y c ds n h.1
no_adds t y c (Tables at x ∷ ds) n h = no_adds t y c ds n h.1
no_adds t y c (TableRefuses k fault ∷ ds) n h = no_adds t y c ds n h.1

no_count : (t : Terms) (legal : List Ran → Type 0) (p : Actors t) (c : Core p.State) (h : History) → Holds t legal p c h → (k : Counter) (y : ActorId) → (MayAdd t y k → ⊥) → c.ports.counts k y ≡ 0
no_count t legal p c h l k y n =
    let a : c.ports.counts k y ≤ length (collect (add_in k) (h.dids y)) = l.ports.counts.own k y in
    let b : length (collect (add_in k) (h.dids y)) ≡ 0 = ap (λ (xs : List ℕ). length xs) (no_adds t y k (h.dids y) n (l.may y)) in
    omega arith

-- sums
sum_append : (f : ActorId → ℕ) (xs ys : List ActorId) → sum_of f (xs ++ ys) ≡ sum_of f xs + sum_of f ys
sum_append f [] ys = omega arith
sum_append f (x ∷ xs) ys = omega (arith, sum_append f xs ys)

sum_none : (f : ActorId → ℕ) (ys : List ActorId) → Each (λ y. f y ≡ 0) ys → sum_of f ys ≡ 0
sum_none f [] h = refl
sum_none f (y ∷ ys) h = let a : f y ≡ 0 = h.0 in let b : sum_of f ys ≡ 0 = sum_none f ys h.1 in omega arith

-- of all actors: the door's, the reactors' and the hands'
sum_all : (t : Terms) (f : ActorId → ℕ) → sum_of f (everyone t) ≡ f Door + (sum_of f (crew Reactor 0 t.reactor_num) + sum_of f (hands t))
sum_all t f = ap (λ n. f Door + n) (sum_append f (crew Reactor 0 t.reactor_num) (hands t))

hand_door : (t : Terms) (y : ActorId) → IsHand t y → y ≡ Door → ⊥
hand_door t y k e = no_hand_door t (subst (IsHand t) e k)

hand_reactor : (t : Terms) (y : ActorId) → IsHand t y → IsReactor t y → ⊥
hand_reactor t y k r = no_hand_reactor t r.0 (subst (IsHand t) r.1.1 k)

-- reactors' numbers, one by one
crew_below : (f : ActorId → ℕ) (g : ℕ → ℕ) (a k : ℕ) → ((n : ℕ) → n < a + k → f (Reactor n) ≤ g n) → sum_below g a + sum_of f (crew Reactor a k) ≤ sum_below g (a + k)
crew_below f g a zero h = let e : a + 0 ≡ a = omega arith in subst (λ m. sum_below g a + 0 ≤ sum_below g m) (sym e) (omega arith)
crew_below f g a (suc k) h =
    let r : sum_below g (a + 1) + sum_of f (crew Reactor (a + 1) k) ≤ sum_below g (a + 1 + k) = crew_below f g (a + 1) k (λ n lt. h n (omega arith)) in
    let e : a + 1 ≡ suc a = omega arith in
    let d : sum_below g (a + 1) ≡ sum_below g a + g a = ap (λ m. sum_below g m) e in
    let s : a + 1 + k ≡ a + suc k = omega arith in
    let one : f (Reactor a) ≤ g a = h a (omega arith) in
    subst (λ m. sum_below g a + (f (Reactor a) + sum_of f (crew Reactor (a + 1) k)) ≤ sum_below g m) s (omega arith)

crew_sum : (f : ActorId → ℕ) (g : ℕ → ℕ) (k : ℕ) → ((n : ℕ) → n < k → f (Reactor n) ≤ g n) → sum_of f (crew Reactor 0 k) ≤ sum_below g k
crew_sum f g k h =
    let e : 0 + k ≡ k = omega arith in
    let r : 0 + sum_of f (crew Reactor 0 k) ≤ sum_below g (0 + k) = crew_below f g 0 k (λ n lt. h n (omega arith)) in
    let q : sum_below g (0 + k) ≡ sum_below g k = ap (λ m. sum_below g m) e in
    omega arith

-- distinct numbers of a list are not more than it has
cut_at : (x : ℕ) (ys : List ℕ) → Has x ys → (front : List ℕ) × ((back : List ℕ) × (ys ≡ front ++ x ∷ back))
cut_at x [] h = absurd (let q = h.1 in cc)
cut_at x (y ∷ ys) (zero, q) = ([], (ys, (let i : y ≡ x = cc in ap (λ z. z ∷ ys) i)))
cut_at x (y ∷ ys) (suc k, q) = let r = cut_at x ys (k, q) in (y ∷ r.0, (r.1.0, ap (λ zs. y ∷ zs) r.1.1))

has_else : (x z : ℕ) (front back : List ℕ) → ¬ (x ≡ z) → Has z (front ++ x ∷ back) → Has z (front ++ back)
has_else x z [] back n (zero, q) = absurd (n (let i : x ≡ z = cc in i))
has_else x z [] back n (suc k, q) = (k, q)
has_else x z (y ∷ front) back n (zero, q) = (0, q)
has_else x z (y ∷ front) back n (suc k, q) = let r = has_else x z front back n (k, q) in (suc r.0, r.1)

few : (xs ys : List ℕ) → Distinct xs → Each (λ x. Has x ys) xs → length xs ≤ length ys
few [] ys d h = omega arith
few (x ∷ xs) ys d h =
    let r = cut_at x ys h.0 in
    let rest : length xs ≤ length (r.0 ++ r.1.0) = few xs (r.0 ++ r.1.0) d.1 (others r.0 r.1.0 xs d.0 (subst (λ (zs : List ℕ). Each (λ z. Has z zs) xs) r.1.1 h.1)) in
    omega (arith, rest, ap (λ (zs : List ℕ). length zs) r.1.1, length_append r.0 r.1.0, length_append r.0 (x ∷ r.1.0))
  where
    others : (front back zs : List ℕ) → Each (λ m. ¬ (x ≡ m)) zs → Each (λ z. Has z (front ++ x ∷ back)) zs → Each (λ z. Has z (front ++ back)) zs
    others front back [] a b = tt
    others front back (z ∷ zs) a b = (has_else x z front back a.0 b.0, others front back zs a.1 b.1)

distinct_append : (xs ys : List ℕ) → Distinct xs → Distinct ys → Each (λ x. Each (λ y. ¬ (x ≡ y)) ys) xs → Distinct (xs ++ ys)
distinct_append [] ys d e a = e
distinct_append (x ∷ xs) ys d e a = (each_append (λ m. ¬ (x ≡ m)) xs ys d.0 a.0, distinct_append xs ys d.1 e a.1)

-- all releases are of different sessions that were drawn
abbrev frees_of : History → ℕ → List ℕ
frees_of h n = firsts (collect free_in (h.dids (Reactor n)))

abbrev all_frees : History → ℕ → ℕ → List ℕ
all_frees h a zero = []
all_frees h a (suc k) = frees_of h a ++ all_frees h (a + 1) k

firsts_length : (ps : List (ℕ × ℕ)) → length (firsts ps) ≡ length ps
firsts_length [] = refl
firsts_length (p ∷ ps) = ap (λ n. suc n) (firsts_length ps)

frees_are : (t : Terms) (legal : List Ran → Type 0) (p : Actors t) (c : Core p.State) (h : History) → Holds t legal p c h → (n : ℕ) → n < t.reactor_num → Each (λ s. (reactor_of t s ≡ n) × Has s (drawn_by h.dids)) (frees_of h n)
frees_are t legal p c h l n lt =
    each_more (λ s. Has s (collect fresh_in (bare (h.took (Reactor n))))) (λ s. (reactor_of t s ≡ n) × Has s (drawn_by h.dids)) (frees_of h n)
    (λ s has. ((let q : Reactor n ≡ Reactor (reactor_of t s) = fresh_routed t n (h.took (Reactor n)) (fair_took t legal p c h l n).routed s has in let i : n ≡ reactor_of t s = cc in sym i), each_has (λ r. Has r (drawn_by h.dids)) (collect fresh_in (bare (h.took (Reactor n)))) s (took_drawn t legal p c h l n) has))
    (more_of t legal p c h l n lt).freed_fresh

frees_all : (t : Terms) (legal : List Ran → Type 0) (p : Actors t) (c : Core p.State) (h : History) → Holds t legal p c h → (a k : ℕ) → a + k ≤ t.reactor_num → Distinct (all_frees h a k) × Each (λ s. (a ≤ reactor_of t s) × Has s (drawn_by h.dids)) (all_frees h a k)
frees_all t legal p c h l a zero le = (tt, tt)
frees_all t legal p c h l a (suc k) le =
    let lt : a < t.reactor_num = omega arith in
    let mine = frees_are t legal p c h l a lt in
    let rest = frees_all t legal p c h l (a + 1) k (omega arith) in (
      distinct_append (frees_of h a) (all_frees h (a + 1) k) (more_of t legal p c h l a lt).freed_once rest.0
          (each_more (λ s. (reactor_of t s ≡ a) × Has s (drawn_by h.dids)) (λ s. Each (λ u. ¬ (s ≡ u)) (all_frees h (a + 1) k)) (frees_of h a)
          (λ s q. each_more (λ u. (a + 1 ≤ reactor_of t u) × Has u (drawn_by h.dids)) (λ u. ¬ (s ≡ u)) (all_frees h (a + 1) k) (λ u v e. absurd (let i : reactor_of t u ≡ a = ap (λ w. reactor_of t w) (sym e) ∙ q.0 in let j : a + 1 ≤ reactor_of t u = v.0 in omega arith)) rest.1) mine),
      each_append (λ s. (a ≤ reactor_of t s) × Has s (drawn_by h.dids)) (frees_of h a) (all_frees h (a + 1) k)
          (each_more (λ s. (reactor_of t s ≡ a) × Has s (drawn_by h.dids)) (λ s. (a ≤ reactor_of t s) × Has s (drawn_by h.dids)) (frees_of h a) (λ s q. ((let i : reactor_of t s ≡ a = q.0 in omega arith), q.1)) mine)
          (each_more (λ s. (a + 1 ≤ reactor_of t s) × Has s (drawn_by h.dids)) (λ s. (a ≤ reactor_of t s) × Has s (drawn_by h.dids)) (all_frees h (a + 1) k) (λ s q. ((let i : a + 1 ≤ reactor_of t s = q.0 in omega arith), q.1)) rest.1),
    )

sum_frees : (f : ActorId → ℕ) (h : History) (a k m : ℕ) → a + k ≤ m → ((n : ℕ) → n < m → f (Reactor n) ≤ length (collect free_in (h.dids (Reactor n)))) → sum_of f (crew Reactor a k) ≤ length (all_frees h a k)
sum_frees f h a zero m le g = omega arith
sum_frees f h a (suc k) m le g =
    let one : f (Reactor a) ≤ length (collect free_in (h.dids (Reactor a))) = g a (omega arith) in
    let two : length (frees_of h a) ≡ length (collect free_in (h.dids (Reactor a))) = firsts_length (collect free_in (h.dids (Reactor a))) in
    let rest : sum_of f (crew Reactor (a + 1) k) ≤ length (all_frees h (a + 1) k) = sum_frees f h (a + 1) k m (omega arith) g in
    omega (arith, length_append (frees_of h a) (all_frees h (a + 1) k))

sum_hands : (f : ActorId → ℕ) (g : ActorId → List ℕ) (ys : List ActorId) → Each (λ y. f y ≤ length (g y)) ys → sum_of f ys ≤ length (collect g ys)
sum_hands f g [] h = omega arith
sum_hands f g (y ∷ ys) h = let a : f y ≤ length (g y) = h.0 in let b : sum_of f ys ≤ length (collect g ys) = sum_hands f g ys h.1 in omega (arith, length_append (g y) (collect g ys))

pub count_laws : (t : Terms) (legal : List Ran → Type 0) (p : Actors t) (c : Core p.State) (h : History) → 1 ≤ t.reactor_num → Holds t legal p c h → c.lost ≡ false → CountLaws t (past_of t p c h) (account_by t p c h)
count_laws t legal p c h some l ok =
    record {
      final = λ k. sum_of (counts k) (everyone t);
      most = λ y k. each_more (λ (q : Counter × ℕ). Has q (collect sum_in (h.dids y))) (λ (q : Counter × ℕ). q.1 ≤ sum_of (counts q.0) (everyone t)) (collect count_in (answers_of (p.log (c.states y))))
          (λ q has. each_has (λ (x : Counter × ℕ). x.1 ≤ sum_of (counts x.0) (everyone t)) (collect sum_in (h.dids y)) q (l.ports.counts.sums y) has) (hand y k).counts;
      accepted = (let a : counts AcceptedCount Door ≤ length (collect (add_in AcceptedCount) (h.dids Door)) = l.ports.counts.own AcceptedCount Door in
          let b : length (collect (add_in AcceptedCount) (h.dids Door)) ≤ length (collect accept_in (h.dids Door)) = door.accepted in
          let x : sum_of (counts AcceptedCount) (crew Reactor 0 t.reactor_num) ≡ 0 = sum_none (counts AcceptedCount) (crew Reactor 0 t.reactor_num) (crew_are Reactor (λ y. counts AcceptedCount y ≡ 0) 0 t.reactor_num (λ m lt. no_count t legal p c h l AcceptedCount (Reactor m) (λ e. absurd (cc)))) in
          let z : sum_of (counts AcceptedCount) (hands t) ≡ 0 = sum_none (counts AcceptedCount) (hands t) (each_more (IsHand t) (λ y. counts AcceptedCount y ≡ 0) (hands t) (λ y k. no_count t legal p c h l AcceptedCount y (hand_door t y k)) (hands_are t)) in
          omega (arith, sum_all t (counts AcceptedCount)));
      ended = (let a : counts EndedCount Door ≤ length (collect (add_in EndedCount) (h.dids Door)) = l.ports.counts.own EndedCount Door in
          let b : length (collect (add_in EndedCount) (h.dids Door)) + length (drawn_by h.dids) ≤ length (collect accept_in (h.dids Door)) = door.refused in
          let f = frees_all t legal p c h l 0 t.reactor_num (omega arith) in
          let all : length (all_frees h 0 t.reactor_num) ≤ length (drawn_by h.dids) = few (all_frees h 0 t.reactor_num) (drawn_by h.dids) f.0 (each_more (λ s. (0 ≤ reactor_of t s) × Has s (drawn_by h.dids)) (λ s. Has s (drawn_by h.dids)) (all_frees h 0 t.reactor_num) (λ s q. q.1) f.1) in
          let x : sum_of (counts EndedCount) (crew Reactor 0 t.reactor_num) ≤ length (all_frees h 0 t.reactor_num) = sum_frees (counts EndedCount) h 0 t.reactor_num t.reactor_num (omega arith) (λ n lt. (let u : counts EndedCount (Reactor n) ≤ length (collect (add_in EndedCount) (h.dids (Reactor n))) = l.ports.counts.own EndedCount (Reactor n) in let v : length (collect (add_in EndedCount) (h.dids (Reactor n))) ≤ length (collect free_in (h.dids (Reactor n))) = (more_of t legal p c h l n lt).ends in omega arith)) in
          let z : sum_of (counts EndedCount) (hands t) ≡ 0 = sum_none (counts EndedCount) (hands t) (each_more (IsHand t) (λ y. counts EndedCount y ≡ 0) (hands t) (λ y k. no_count t legal p c h l EndedCount y (λ e. elim e [ inl i ↦ hand_door t y k i | inr i ↦ hand_reactor t y k i ])) (hands_are t)) in
          omega (arith, sum_all t (counts EndedCount)));
      packets = (let a : counts PacketsCount Door ≡ 0 = no_count t legal p c h l PacketsCount Door (λ e. absurd (let q : Door ≡ Reactor e.0 = e.1.1 in cc)) in
          let x : sum_of (counts PacketsCount) (crew Reactor 0 t.reactor_num) ≤ sum_below (λ n. total (p.kept (c.states (Reactor n)))) t.reactor_num = crew_sum (counts PacketsCount) (λ n. total (p.kept (c.states (Reactor n)))) t.reactor_num
          (λ n lt. (let u : counts PacketsCount (Reactor n) ≤ length (collect (add_in PacketsCount) (h.dids (Reactor n))) = l.ports.counts.own PacketsCount (Reactor n) in let v : length (collect (add_in PacketsCount) (h.dids (Reactor n))) ≤ total (p.kept (c.states (Reactor n))) = (more_of t legal p c h l n lt).packets in omega arith)) in
          let z : sum_of (counts PacketsCount) (hands t) ≡ 0 = sum_none (counts PacketsCount) (hands t) (each_more (IsHand t) (λ y. counts PacketsCount y ≡ 0) (hands t) (λ y k. no_count t legal p c h l PacketsCount y (hand_reactor t y k)) (hands_are t)) in
          omega (arith, sum_all t (counts PacketsCount)));
      sends = answered SendsCount (no_hand_door t) (no_hand_reactor t);
      tasks = answered TasksCount (no_hand_door t) (no_hand_reactor t);
      finishes = answered FinishesCount (no_hand_door t) (no_hand_reactor t);
      least = λ y k before behind x n e. (let q = (hand y k).least before behind x n e in
          elim (l.ports.counts.least y q.0 q.1.0 x n q.1.1.0) [ inl le ↦ inl (let u : length (collect (counted x) before) ≤ length (collect (add_in x) q.0) = q.1.1.1 in omega arith) | inr full ↦ inr full ]);
      shares = λ n lt. (let q = shares_of t legal p c h some l n lt in (q.0, q.1.1));
    }
  where
    counts : Counter → ActorId → ℕ
    counts = c.ports.counts

    hand : (y : ActorId) → IsHand t y → HandShows t y (p.log (c.states y)) (diary_of h y)
    hand y k = (shown t legal p c h l ok y (there_hand t y k)).hand k

    door : DoorShows t (diary_of h Door)
    door = door_shown t legal p c h l

    answered : (k : Counter) → (MayAdd t Door k → ⊥) → ((n : ℕ) → MayAdd t (Reactor n) k → ⊥) → sum_of (c.ports.counts k) (everyone t) ≤ length (collect (λ y. tally k (p.log (c.states y))) (hands t))
    answered k nd nr =
        let a : c.ports.counts k Door ≡ 0 = no_count t legal p c h l k Door nd in
        let x : sum_of (c.ports.counts k) (crew Reactor 0 t.reactor_num) ≡ 0 = sum_none (c.ports.counts k) (crew Reactor 0 t.reactor_num) (crew_are Reactor (λ y. c.ports.counts k y ≡ 0) 0 t.reactor_num (λ n lt. no_count t legal p c h l k (Reactor n) (nr n))) in
        let z : sum_of (c.ports.counts k) (hands t) ≤ length (collect (λ y. tally k (p.log (c.states y))) (hands t)) =
        sum_hands (c.ports.counts k) (λ y. tally k (p.log (c.states y))) (hands t)
        (each_more (IsHand t) (λ y. c.ports.counts k y ≤ length (tally k (p.log (c.states y)))) (hands t)
        (λ y i. (let u : c.ports.counts k y ≤ length (collect (add_in k) (h.dids y)) = l.ports.counts.own k y in let v : length (collect (add_in k) (h.dids y)) ≤ length (tally k (p.log (c.states y))) = (hand y i).adds k in omega arith)) (hands_are t)) in
        omega (arith, sum_all t (c.ports.counts k))
