-- Calls on the plain board have the ports' answers, and leave what the ports leave.
use Rattle.std.proofs.Common.{◌≡◌, ◌≢◌, ℕ, ◌+◌, ◌-◌, ◌<◌, ◌≤◌, ◌%◌, nat_lt, sum, Bool, true, false, if◌then◌else◌, List, [], ◌∷◌, ◌++◌, length, refl, ap, ◌∙◌, sym, subst, arith, inl, inr, Option, Some, None, slice_index_or, slice_set, zero, suc}
use Rattle.std.proofs.lemmas.Bool.Decides.{nat_tests}
use Rattle.std.proofs.lemmas.List.{get_or-set_same, get_or-set_other, length-set}
use Rattle.std.proofs.lemmas.List.Sums.{sum_by-append}
use native.Mathlib.Nat.{mod-lt}
use Rattle.sw_lists.proofs.Lists.{equal_or_not}
use Rattle.sw_step.specs.declared.actor.ActorId.{ActorId}
use Rattle.sw_step.specs.declared.actor.ActorId.TheVariants.{Door, Reactor, Worker, Tasker}
use Rattle.sw_step.specs.Actors.{is}
use Rattle.sw_join.proofs.Routes.{is_same, is_refl}
use Rattle.sw_port_board.specs.declared.crew.Crew.{Crew}
use Rattle.sw_port_board.specs.declared.crew.Crew.TheVariants.{Workers, Taskers}
use Rattle.sw_port_board.specs.declared.board.BoardStep.{BoardStep}
use Rattle.sw_port_board.specs.declared.board.BoardStep.TheVariants.{Marked, Found, Stopped, SawStop, Added}
use Rattle.sw_port_board.specs.declared.counts.Counts.{Counts}
use Rattle.sw_port_board.specs.Board.{members, capped as capped_min, found_busy, FindsIdle, reads_from, SumsUp}
use Rattle.sw_port_board.specs.PlainBoard.{PlainWords, no_counts, count_of, counted, plain_after, PlainGoes}
use Rattle.sw_record.specs.Words.{Counter, AcceptedCount, EndedCount, PacketsCount, SendsCount, TasksCount, FinishesCount}
use Rattle.sw_record.specs.Counts.{greatest}
use Rattle.sw_record.specs.Terms.{Terms}
use Rattle.sw_record.specs.Places.{Ran}
use Rattle.sw_past.specs.Routes.{crew, hands}
use Rattle.sw_world_ports.specs.Calls.{Marks, Idles, Stops, SeesStop, Adds, Sums}
use Rattle.sw_world_ports.specs.Made.{same_counter}
use Rattle.sw_world_ports.specs.Ports.{Ports, capped, sum_of, everyone, idle_by, Answers, ported}
use Rattle.sw_world_ports.proofs.Counters.{counter_is}
use Rattle.sw_world_fits.specs.Board.{number_of, IsThere, of_taskers, BoardStands}

-- the stop word
pub stop_fits : (t : Terms) (b d : PlainWords) (p : Ports) (y : ActorId) → BoardStands t b p → PlainGoes b (Stopped ∷ []) d → BoardStands t d (ported t p y Stops)
stop_fits t b d p y st g = subst (λ (w : PlainWords). BoardStands t w (ported t p y Stops)) (sym g.1) (record { workers = st.workers; taskers = st.taskers; actors = st.actors; marks = st.marks; words = st.words; stopped = refl; worker = st.worker; tasker = st.tasker; counts = st.counts })

pub stopped_fits : (t : Terms) (legal : List Ran → Type 0) (b d : PlainWords) (p : Ports) (y : ActorId) (set : Bool) → BoardStands t b p → PlainGoes b (SawStop set ∷ []) d → Answers t legal p y (SeesStop set) × BoardStands t d (ported t p y (SeesStop set))
stopped_fits t legal b d p y set st g = (sym st.stopped ∙ sym g.0, subst (λ (w : PlainWords). BoardStands t w p) (sym g.1) st)

-- numbers of actors differ
number_apart : (t : Terms) (x y : ActorId) → IsThere t x → IsThere t y → ¬ (x ≡ y) → number_of t x ≢ number_of t y
number_apart t (Worker a) (Worker b) lx ly ne = λ e. ne (ap (λ (k : ℕ). Worker k) e)
number_apart t (Worker a) (Tasker b) lx ly ne = λ e. absurd (omega arith)
number_apart t (Worker a) (Reactor b) lx ly ne = λ e. absurd (omega arith)
number_apart t (Worker a) Door lx ly ne = λ e. absurd (omega arith)
number_apart t (Tasker a) (Worker b) lx ly ne = λ e. absurd (omega arith)
number_apart t (Tasker a) (Tasker b) lx ly ne = λ e. ne (ap (λ (k : ℕ). Tasker k) (let q : a ≡ b = omega arith in q))
number_apart t (Tasker a) (Reactor b) lx ly ne = λ e. absurd (omega arith)
number_apart t (Tasker a) Door lx ly ne = λ e. absurd (omega arith)
number_apart t (Reactor a) (Worker b) lx ly ne = λ e. absurd (omega arith)
number_apart t (Reactor a) (Tasker b) lx ly ne = λ e. absurd (omega arith)
number_apart t (Reactor a) (Reactor b) lx ly ne = λ e. ne (ap (λ (k : ℕ). Reactor k) (let q : a ≡ b = omega arith in q))
number_apart t (Reactor a) Door lx ly ne = λ e. absurd (omega arith)
number_apart t Door (Worker b) lx ly ne = λ e. absurd (omega arith)
number_apart t Door (Tasker b) lx ly ne = λ e. absurd (omega arith)
number_apart t Door (Reactor b) lx ly ne = λ e. absurd (omega arith)
number_apart t Door Door lx ly ne = λ e. ne refl

number_less : (t : Terms) (y : ActorId) → IsThere t y → number_of t y < t.worker_num + t.tasker_num + t.reactor_num + 1
number_less t (Worker a) l = omega (arith, l)
number_less t (Tasker a) l = omega (arith, l)
number_less t (Reactor a) l = omega (arith, l)
number_less t Door l = omega arith

-- one more of a counter
count_more : (c d : Counter) (k : Counts) → same_counter d c ≡ true → count_of d (counted c k) ≡ capped_min (count_of d k + 1)
count_more c d k e = subst (λ (x : Counter). count_of d (counted x k) ≡ capped_min (count_of d k + 1)) (counter_is d c e) (own d)
  where
    own : (x : Counter) → count_of x (counted x k) ≡ capped_min (count_of x k + 1)
    own AcceptedCount = refl
    own EndedCount = refl
    own PacketsCount = refl
    own SendsCount = refl
    own TasksCount = refl
    own FinishesCount = refl

count_same : (c d : Counter) (k : Counts) → same_counter d c ≡ false → count_of d (counted c k) ≡ count_of d k
count_same AcceptedCount AcceptedCount k e = absurd (cc)
count_same AcceptedCount EndedCount k e = refl
count_same AcceptedCount PacketsCount k e = refl
count_same AcceptedCount SendsCount k e = refl
count_same AcceptedCount TasksCount k e = refl
count_same AcceptedCount FinishesCount k e = refl
count_same EndedCount AcceptedCount k e = refl
count_same EndedCount EndedCount k e = absurd (cc)
count_same EndedCount PacketsCount k e = refl
count_same EndedCount SendsCount k e = refl
count_same EndedCount TasksCount k e = refl
count_same EndedCount FinishesCount k e = refl
count_same PacketsCount AcceptedCount k e = refl
count_same PacketsCount EndedCount k e = refl
count_same PacketsCount PacketsCount k e = absurd (cc)
count_same PacketsCount SendsCount k e = refl
count_same PacketsCount TasksCount k e = refl
count_same PacketsCount FinishesCount k e = refl
count_same SendsCount AcceptedCount k e = refl
count_same SendsCount EndedCount k e = refl
count_same SendsCount PacketsCount k e = refl
count_same SendsCount SendsCount k e = absurd (cc)
count_same SendsCount TasksCount k e = refl
count_same SendsCount FinishesCount k e = refl
count_same TasksCount AcceptedCount k e = refl
count_same TasksCount EndedCount k e = refl
count_same TasksCount PacketsCount k e = refl
count_same TasksCount SendsCount k e = refl
count_same TasksCount TasksCount k e = absurd (cc)
count_same TasksCount FinishesCount k e = refl
count_same FinishesCount AcceptedCount k e = refl
count_same FinishesCount EndedCount k e = refl
count_same FinishesCount PacketsCount k e = refl
count_same FinishesCount SendsCount k e = refl
count_same FinishesCount TasksCount k e = refl
count_same FinishesCount FinishesCount k e = absurd (cc)

-- both caps are one
one_more : (n : ℕ) → n ≤ greatest → capped_min (n + 1) ≡ (if nat_lt n greatest then n + 1 else n)
one_more n le = pick (nat_lt n greatest) refl
  where
    pick : (x : Bool) → nat_lt n greatest ≡ x → capped_min (n + 1) ≡ (if x then n + 1 else n)
    pick true e = let lt : n < greatest = grind (arith, nat_tests) in omega (arith, lt)
    pick false e = let ge : greatest ≤ n = grind (arith, nat_tests) in omega (arith, ge, le)

capped_same : (n : ℕ) → capped_min n ≡ capped n
capped_same n = pick (nat_lt n greatest) refl
  where
    pick : (x : Bool) → nat_lt n greatest ≡ x → capped_min n ≡ (if x then n else greatest)
    pick true e = let lt : n < greatest = grind (arith, nat_tests) in omega (arith, lt)
    pick false e = let ge : greatest ≤ n = grind (arith, nat_tests) in omega (arith, ge)

-- an actor adds, whose turn it is
pub add_fits : (t : Terms) (b d : PlainWords) (p : Ports) (y : ActorId) (c : Counter) → BoardStands t b p → IsThere t y → b.turn ≡ number_of t y → ((k : Counter) (z : ActorId) → p.counts k z ≤ greatest) → PlainGoes b (Added c ∷ []) d → BoardStands t d (ported t p y (Adds c))
add_fits t b d p y c st there turn fits g =
    subst (λ (w : PlainWords). BoardStands t w (ported t p y (Adds c))) (sym g.1)
    (record { workers = st.workers; taskers = st.taskers; actors = st.actors; marks = st.marks; words = length-set b.counts b.turn (counted c (slice_index_or b.counts b.turn no_counts)) ∙ st.words; stopped = st.stopped; worker = st.worker; tasker = st.tasker; counts = λ k z l. one k z l (is z y) refl (same_counter k c) refl })
  where
    new : Counts
    new = counted c (slice_index_or b.counts b.turn no_counts)

    at_turn : slice_index_or (slice_set b.counts b.turn (counted c (slice_index_or b.counts b.turn no_counts))) b.turn no_counts ≡ counted c (slice_index_or b.counts b.turn no_counts)
    at_turn = get_or-set_same b.counts b.turn (counted c (slice_index_or b.counts b.turn no_counts)) no_counts (omega (arith, turn, st.words, number_less t y there))

    was : (k : Counter) → count_of k (slice_index_or b.counts b.turn no_counts) ≡ p.counts k y
    was k = ap (λ (n : ℕ). count_of k (slice_index_or b.counts n no_counts)) turn ∙ st.counts k y there

    one : (k : Counter) (z : ActorId) → IsThere t z → (x : Bool) → is z y ≡ x → (v : Bool) → same_counter k c ≡ v →
        count_of k (slice_index_or (slice_set b.counts b.turn (counted c (slice_index_or b.counts b.turn no_counts))) (number_of t z) no_counts) ≡ (if v then (if x then (if nat_lt (p.counts k z) greatest then p.counts k z + 1 else p.counts k z) else p.counts k z) else p.counts k z)
    one k z l true e v f =
        let i : z ≡ y = is_same z y e in
        let n : number_of t z ≡ b.turn = ap (number_of t) i ∙ sym turn in
        ap (λ (m : ℕ). count_of k (slice_index_or (slice_set b.counts b.turn (counted c (slice_index_or b.counts b.turn no_counts))) m no_counts)) n ∙ ap (count_of k) at_turn ∙ own v f i
      where
        own : (w : Bool) → same_counter k c ≡ w → z ≡ y → count_of k (counted c (slice_index_or b.counts b.turn no_counts)) ≡ (if w then (if nat_lt (p.counts k z) greatest then p.counts k z + 1 else p.counts k z) else p.counts k z)
        own true q i = count_more c k (slice_index_or b.counts b.turn no_counts) q ∙ ap (λ (n : ℕ). capped_min (n + 1)) (was k ∙ ap (λ (a : ActorId). p.counts k a) (sym i)) ∙ one_more (p.counts k z) (fits k z)
        own false q i = count_same c k (slice_index_or b.counts b.turn no_counts) q ∙ was k ∙ ap (λ (a : ActorId). p.counts k a) (sym i)
    one k z l false e v f = ap (count_of k) (get_or-set_other b.counts b.turn (number_of t z) (counted c (slice_index_or b.counts b.turn no_counts)) no_counts (λ q. apart (q ∙ turn))) ∙ st.counts k z l ∙ rest v
      where
        apart : number_of t z ≡ number_of t y → ⊥
        apart q = number_apart t z y l there (λ i. absurd (let r : is z y ≡ true = ap (λ (a : ActorId). is a y) i ∙ is_refl y in let w : true ≡ false = sym r ∙ e in cc)) q

        rest : (w : Bool) → p.counts k z ≡ (if w then p.counts k z else p.counts k z)
        rest true = refl
        rest false = refl

-- an actor marks, whose turn it is
pub mark_fits : (t : Terms) (b d : PlainWords) (p : Ports) (y : ActorId) (idle : Bool) → BoardStands t b p → IsThere t y → b.turn ≡ number_of t y → PlainGoes b (Marked idle ∷ []) d → BoardStands t d (ported t p y (Marks idle))
mark_fits t b d p y idle st there turn g =
    subst (λ (w : PlainWords). BoardStands t w (ported t p y (Marks idle))) (sym g.1)
    (record { workers = st.workers; taskers = st.taskers; actors = st.actors; marks = length-set b.idle b.turn idle ∙ st.marks; words = st.words; stopped = st.stopped; worker = λ k l. one (Worker k) k l refl (omega (arith, l)) (st.worker k l) (is (Worker k) y) refl; tasker = λ k l. one (Tasker k) (t.worker_num + k) l refl (omega (arith, l)) (st.tasker k l) (is (Tasker k) y) refl; counts = st.counts })
  where
    one : (z : ActorId) (n : ℕ) → IsThere t z → number_of t z ≡ n → n < t.worker_num + t.tasker_num → slice_index_or b.idle n false ≡ p.idle z → (x : Bool) → is z y ≡ x → slice_index_or (slice_set b.idle b.turn idle) n false ≡ (if x then idle else p.idle z)
    one z n l same less old true e =
        let m : n ≡ b.turn = sym same ∙ ap (number_of t) (is_same z y e) ∙ sym turn in
        ap (λ (k : ℕ). slice_index_or (slice_set b.idle b.turn idle) k false) m ∙ get_or-set_same b.idle b.turn idle false (omega (arith, m, less, st.marks))
    one z n l same less old false e =
        get_or-set_other b.idle b.turn n idle false (λ q. number_apart t z y l there (λ i. absurd (let r : is z y ≡ true = ap (λ (a : ActorId). is a y) i ∙ is_refl y in let w : true ≡ false = sym r ∙ e in cc)) (same ∙ q ∙ turn)) ∙ old

-- what reads find, added up
abbrev pub range : (ℕ → ℕ) → ℕ → ℕ → ℕ
range g a zero = 0
range g a (suc k) = g a + range g (a + 1) k

reads_sum : (b : PlainWords) (c : Counter) (words : List ℕ) (a : ℕ) (d : PlainWords) → PlainGoes b (reads_from c a words) d → (sum words ≡ range (λ i. count_of c (slice_index_or b.counts i no_counts)) a (length words)) × (d ≡ b)
reads_sum b c [] a d g = (refl, g)
reads_sum b c (w ∷ ws) a d g =
    let r = reads_sum b c ws (a + 1) d g.1 in
    (sum_by-append (λ (n : ℕ). n) (w ∷ []) ws ∙ (let i : w ≡ count_of c (slice_index_or b.counts a no_counts) = g.0 in omega (arith, i, r.0)), r.1)

range_more : (g : ℕ → ℕ) (a k m : ℕ) → range g a (k + m) ≡ range g a k + range g (a + k) m
range_more g a zero m = ap (λ (k : ℕ). range g a k) (let z : 0 + m ≡ m = omega arith in z) ∙ ap (λ (n : ℕ). range g n m) (let e : a ≡ a + 0 = omega arith in e) ∙ (let z : range g (a + 0) m ≡ 0 + range g (a + 0) m = omega arith in z)
range_more g a (suc k) m = ap (λ (n : ℕ). range g a n) (let z : suc k + m ≡ suc (k + m) = omega arith in z) ∙ omega (arith, range_more g (a + 1) k m, ap (λ (n : ℕ). range g n m) (let e : a + 1 + k ≡ a + suc k = omega arith in e))

range_crew : (g : ℕ → ℕ) (f : ActorId → ℕ) (mk : ℕ → ActorId) (off a k : ℕ) → ((i : ℕ) → a ≤ i → i < a + k → g (off + i) ≡ f (mk i)) → range g (off + a) k ≡ sum_of f (crew mk a k)
range_crew g f mk off a zero h = refl
range_crew g f mk off a (suc k) h =
    omega (arith, h a (omega arith) (omega arith), range_crew g f mk off (a + 1) k (λ i l u. h i (omega arith) (omega arith)), ap (λ (n : ℕ). range g n k) (let e : off + a + 1 ≡ off + (a + 1) = omega arith in e))

sum_join : (f : ActorId → ℕ) (xs ys : List ActorId) → sum_of f (xs ++ ys) ≡ sum_of f xs + sum_of f ys
sum_join f [] ys = omega arith
sum_join f (x ∷ xs) ys = omega (arith, sum_join f xs ys)

pub sum_fits : (t : Terms) (legal : List Ran → Type 0) (b d : PlainWords) (p : Ports) (y : ActorId) (c : Counter) (n : ℕ) → BoardStands t b p → SumsUp PlainGoes b.sizes c b n d → Answers t legal p y (Sums c n) × BoardStands t d (ported t p y (Sums c n))
sum_fits t legal b d p y c n st (words, long, is, g) =
    let r = reads_sum b c words 0 d g in
    let q : ℕ → ℕ = λ i. count_of c (slice_index_or b.counts i no_counts) in
    let f : ActorId → ℕ = p.counts c in
    let w : ℕ = t.worker_num in let k : ℕ = t.tasker_num in let m : ℕ = t.reactor_num in
    let len : length words ≡ t.worker_num + t.tasker_num + t.reactor_num + 1 = long ∙ st.actors in
    let all : sum words ≡ range q 0 (t.worker_num + t.tasker_num + t.reactor_num + 1) = r.0 ∙ ap (range q 0) len in
    let a : range q 0 (w + k + m + 1) ≡ range q 0 (w + k + m) + range q (0 + (w + k + m)) 1 = range_more q 0 (w + k + m) 1 in
    let e : range q 0 (w + k + m) ≡ range q 0 (w + k) + range q (0 + (w + k)) m = range_more q 0 (w + k) m in
    let h : range q 0 (w + k) ≡ range q 0 w + range q (0 + w) k = range_more q 0 w k in
    let workers : range q (0 + 0) w ≡ sum_of f (crew Worker 0 w) = range_crew q f Worker 0 0 w (λ i l u. ap q (let z : 0 + i ≡ i = omega arith in z) ∙ st.counts c (Worker i) (omega (arith, u))) in
    let taskers : range q (w + 0) k ≡ sum_of f (crew Tasker 0 k) = range_crew q f Tasker w 0 k (λ i l u. st.counts c (Tasker i) (omega (arith, u))) in
    let reactors : range q (w + k + 0) m ≡ sum_of f (crew Reactor 0 m) = range_crew q f Reactor (w + k) 0 m (λ i l u. st.counts c (Reactor i) (omega (arith, u))) in
    let door : q (w + k + m) ≡ f Door = st.counts c Door tt in
    let total : sum words ≡ sum_of f (everyone t) =
    omega (
      arith,
      all,
      a,
      e,
      h,
      workers,
      taskers,
      reactors,
      door,
      ap (λ (v : ℕ). range q v w) (let z : 0 + 0 ≡ 0 = omega arith in z),
      ap (λ (v : ℕ). range q v k) (let z : w + 0 ≡ 0 + w = omega arith in z),
      ap (λ (v : ℕ). range q v m) (let z : w + k + 0 ≡ 0 + (w + k) = omega arith in z),
      ap q (let z : 0 + (w + k + m) ≡ w + k + m = omega arith in z),
      sum_join f (crew Reactor 0 m) (hands t),
      sum_join f (crew Worker 0 w) (crew Tasker 0 k),
    ) in
    (is ∙ ap capped_min total ∙ capped_same (sum_of f (everyone t)), subst (λ (v : PlainWords). BoardStands t v p) (sym r.1) st)

-- the first idle member of a crew
goes_both : (b d : PlainWords) (xs ys : List BoardStep) → PlainGoes b (xs ++ ys) d → (e : PlainWords) × (PlainGoes b xs e × PlainGoes e ys d)
goes_both b d [] ys g = (b, (refl, g))
goes_both b d (x ∷ xs) ys g = let r = goes_both (plain_after b x) d xs ys g.1 in (r.0, ((g.0, r.1.0), r.1.1))

all_busy : (b d : PlainWords) (first size from n : ℕ) → PlainGoes b (found_busy first size from n) d → (d ≡ b) × ((i : ℕ) → i < n → slice_index_or b.idle (first + (from + i) % size) false ≡ false)
all_busy b d first size from zero g = (g, λ i l. absurd (omega arith))
all_busy b d first size from (suc n) g =
    let r = goes_both b d (found_busy first size from n) (Found (first + (from + n) % size) false ∷ []) g in
    let s = all_busy b r.0 first size from n r.1.0 in (
      r.1.1.1 ∙ s.0,
      λ i l. elim (equal_or_not i n) [
        | inl e ↦ subst (λ (k : ℕ). slice_index_or b.idle (first + (from + k) % size) false ≡ false) (sym e) (sym (r.1.1.0 ∙ ap (λ (v : PlainWords). slice_index_or v.idle (first + (from + n) % size) false) s.0))
        | inr ne ↦ s.1 i (omega (arith, l, ne))
      ],
    )

skip_busy : (idle : ActorId → Bool) (mk : ℕ → ActorId) (size from n rest : ℕ) → ((i : ℕ) → i < n → idle (mk ((from + i) % size)) ≡ false) → idle_by idle mk size from (n + rest) ≡ idle_by idle mk size (from + n) rest
skip_busy idle mk size from zero rest h = ap (λ (n : ℕ). idle_by idle mk size from n) (let z : 0 + rest ≡ rest = omega arith in z) ∙ ap (λ (k : ℕ). idle_by idle mk size k rest) (let e : from ≡ from + 0 = omega arith in e)
skip_busy idle mk size from (suc n) rest h =
    let busy : idle (mk (from % size)) ≡ false = ap (λ (k : ℕ). idle (mk (k % size))) (let e : from ≡ from + 0 = omega arith in e) ∙ h 0 (omega arith) in
    ap (λ (k : ℕ). idle_by idle mk size from k) (let z : suc n + rest ≡ suc (n + rest) = omega arith in z) ∙ ap (λ (x : Bool). if x then Some (from % size) else idle_by idle mk size (from + 1) (n + rest)) busy
    ∙ skip_busy idle mk size (from + 1) n rest (λ i l. ap (λ (k : ℕ). idle (mk (k % size))) (let e : from + 1 + i ≡ from + suc i = omega arith in e) ∙ h (suc i) (omega (arith, l)))
    ∙ ap (λ (k : ℕ). idle_by idle mk size k rest) (let e : from + 1 + n ≡ from + suc n = omega arith in e)

found_now : (idle : ActorId → Bool) (mk : ℕ → ActorId) (size from rest : ℕ) → idle (mk (from % size)) ≡ true → idle_by idle mk size from (suc rest) ≡ Some (from % size)
found_now idle mk size from rest e = ap (λ (x : Bool). if x then Some (from % size) else idle_by idle mk size (from + 1) rest) e

-- a crew's first idle member was found
abbrev FindsAt : PlainWords → PlainWords → ℕ → ℕ → ℕ → Option ℕ → Type 0
FindsAt b d first size from (Some m) = (n : ℕ) × (n < size) × (m ≡ (from + n) % size) × PlainGoes b (found_busy first size from n ++ Found (first + m) true ∷ []) d
FindsAt b d first size from None = PlainGoes b (found_busy first size from size) d

-- by a crew whose marks are these
crew_fits : (b d : PlainWords) (idle : ActorId → Bool) (mk : ℕ → ActorId) (first size from : ℕ) (x : Option ℕ) → 1 ≤ size → ((k : ℕ) → k < size → slice_index_or b.idle (first + k) false ≡ idle (mk k)) → ((k : ℕ) → k % size < size) →
    FindsAt b d first size from x → (idle_by idle mk size from size ≡ x) × (d ≡ b)
crew_fits b d idle mk first size from None some same less g =
    let s = all_busy b d first size from size g in
    (subst (λ (k : ℕ). idle_by idle mk size from k ≡ None) (let e : size + 0 ≡ size = omega arith in e) (skip_busy idle mk size from size 0 (λ i l. sym (same ((from + i) % size) (less (from + i))) ∙ s.1 i l)), s.0)
crew_fits b d idle mk first size from (Some m) some same less (n, l, is, g) =
    let r = goes_both b d (found_busy first size from n) (Found (first + m) true ∷ []) g in
    let s = all_busy b r.0 first size from n r.1.0 in
    let hit : idle (mk ((from + n) % size)) ≡ true = sym (same ((from + n) % size) (less (from + n))) ∙ ap (λ (k : ℕ). slice_index_or b.idle (first + k) false) (sym is) ∙ sym (r.1.1.0 ∙ ap (λ (v : PlainWords). slice_index_or v.idle (first + m) false) s.0) in
    let rest : ℕ = size - (n + 1) in
    (by (size - (n + 1)) (omega (arith, l)) s.1 hit is, r.1.1.1 ∙ s.0)
  where
    by : (rest : ℕ) → size ≡ n + suc rest → ((i : ℕ) → i < n → slice_index_or b.idle (first + (from + i) % size) false ≡ false) → idle (mk ((from + n) % size)) ≡ true → m ≡ (from + n) % size → idle_by idle mk size from size ≡ Some m
    by rest e busy hit is =
        subst (λ (k : ℕ). idle_by idle mk size from k ≡ Some m) (sym e)
        (skip_busy idle mk size from n (suc rest) (λ i l. sym (same ((from + i) % size) (less (from + i))) ∙ busy i l) ∙ found_now idle mk size (from + n) rest hit ∙ ap (λ (k : ℕ). Some k) (sym is))

pub idle_fits : (t : Terms) (legal : List Ran → Type 0) (b d : PlainWords) (p : Ports) (y : ActorId) (which : Crew) (from : ℕ) (x : Option ℕ) → BoardStands t b p → from < members which b.sizes → FindsIdle PlainGoes b.sizes which from b x d → Answers t legal p y (Idles (of_taskers which) from x) × BoardStands t d (ported t p y (Idles (of_taskers which) from x))
idle_fits t legal b d p y Workers from x st less g =
    let r = crew_fits b d p.idle Worker 0 t.worker_num from x (omega (arith, less, st.workers)) (λ k l. ap (λ (n : ℕ). slice_index_or b.idle n false) (let e : 0 + k ≡ k = omega arith in e) ∙ st.worker k l) (λ k. mod-lt k (omega (arith, less, st.workers))) (subst (λ (n : ℕ). FindsAt b d 0 n from x) st.workers (at x g)) in
    (r.0, subst (λ (v : PlainWords). BoardStands t v p) (sym r.1) st)
  where
    at : (z : Option ℕ) → FindsIdle PlainGoes b.sizes Workers from b z d → FindsAt b d 0 b.sizes.workers from z
    at None q = q
    at (Some m) q = q
idle_fits t legal b d p y Taskers from x st less g =
    let r = crew_fits b d p.idle Tasker t.worker_num t.tasker_num from x (omega (arith, less, st.taskers)) st.tasker (λ k. mod-lt k (omega (arith, less, st.taskers))) (subst (λ (n : ℕ). FindsAt b d n t.tasker_num from x) st.workers (subst (λ (n : ℕ). FindsAt b d b.sizes.workers n from x) st.taskers (at x g))) in
    (r.0, subst (λ (v : PlainWords). BoardStands t v p) (sym r.1) st)
  where
    at : (z : Option ℕ) → FindsIdle PlainGoes b.sizes Taskers from b z d → FindsAt b d b.sizes.workers b.sizes.taskers from z
    at None q = q
    at (Some m) q = q
