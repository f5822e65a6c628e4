-- What the plain ports keep, by all calls so far.
use Rattle.std.specs.Prelude.{◌≡◌, ◌⊎◌, ℕ, ◌<◌, ◌≤◌, ◌%◌, Bool, true, List, [], ◌∷◌, ◌++◌, length, slice_get, Some, if◌then◌else◌}
use Rattle.sw_lists.specs.Lists.{collect, Each, Has}
use Rattle.sw_lists.specs.Numbers.{Rises, Distinct}
use Rattle.sw_step.specs.Actors.{is}
use Rattle.sw_step.specs.declared.actor.ActorId.{ActorId}
use Rattle.sw_step.specs.declared.actor.ActorId.TheVariants.{Door, Reactor}
use Rattle.sw_record.specs.Terms.{Terms}
use Rattle.sw_record.specs.Words.{Counter}
use Rattle.sw_record.specs.Counts.{greatest}
use Rattle.sw_record.specs.EndsRise.{RiseBySlot}
use Rattle.sw_record.specs.Places.{Ran, places}
use Rattle.sw_record.specs.Uids.{for_session}
use Rattle.sw_past.specs.Claims.{Claim, drew_in, last_then, IsClaims}
use Rattle.sw_past.specs.Routes.{IsHand}
use Rattle.sw_world_ports.specs.Calls.{Did, Sums}
use Rattle.sw_world_ports.specs.Made.{accept_in, live_in, other_in, pass_in, found_in, had_in, free_in, firsts, seat_in, spent_in, stop_in, saw_stop_in, add_in, sum_in}
use Rattle.sw_world_ports.specs.Ports.{Ports, everyone, sum_of}

-- the uids that an actor's granted binds gave a session
abbrev pub binds_of : (ActorId → List (ℕ × ℕ)) → ℕ → ActorId → List ℕ
binds_of passes s y = collect (for_session s) (passes y)

-- nobody bound it
abbrev pub NoBind : (ActorId → List (ℕ × ℕ)) → ℕ → Type 0
NoBind passes s = (y : ActorId) → binds_of passes s y ≡ []

-- one hand bound it, and it was bound once
abbrev pub OneBind : Terms → (ActorId → List (ℕ × ℕ)) → ℕ → ℕ → Type 0
OneBind t passes s u = (¬ (u ≡ 0)) × ((y : ActorId) × ((IsHand t y) × ((binds_of passes s y ≡ u ∷ []) × ((z : ActorId) → ¬ (z ≡ y) → binds_of passes s z ≡ []))))

-- the uid of a session, 0 where nobody bound it
abbrev pub UidIs : Terms → (ActorId → List (ℕ × ℕ)) → ℕ → ℕ → Type 0
UidIs t passes s u = ((u ≡ 0) × NoBind passes s) ⊎ OneBind t passes s u

-- a reactor released it
abbrev pub IsFreed : Terms → (ActorId → List (ℕ × ℕ)) → ℕ → Type 0
IsFreed t freed s = (n : ℕ) × ((n < t.reactor_num) × Has s (firsts (freed (Reactor n))))

-- the last number that was tried, behind all these claims
abbrev pub last_all : ℕ → ℕ → List (ℕ × Claim) → ℕ
last_all slots last [] = last
last_all slots last (x ∷ xs) = last_all slots (last_then slots last x.1) xs

-- the session book, by the claims, releases and granted binds so far
pub record BookLaw (t : Terms) (words : ℕ → ℕ × ℕ) (last : ℕ) (accepts : List (ℕ × Claim)) (freed passes : ActorId → List (ℕ × ℕ)) : Type 0 where
  pub claims : IsClaims t.max_conn t.session_last [] accepts
  pub last_is : last ≡ last_all t.max_conn t.session_last accepts
  -- no number that was drawn is above the last one, and none was released that wasn't drawn
  pub low : Each (λ s. (¬ (s ≡ 0)) × (s ≤ last)) (collect drew_in accepts)
  pub released : (s : ℕ) → IsFreed t freed s → Has s (collect drew_in accepts)
  -- a word that isn't 0 is its slot's, drawn and not released, with the uid of its bind
  pub slot : (i : ℕ) → ¬ ((words i).0 ≡ 0) → (words i).0 % t.max_conn ≡ i
  pub held : (s : ℕ) → ¬ (s ≡ 0) → (words (s % t.max_conn)).0 ≡ s → Has s (collect drew_in accepts) × ((IsFreed t freed s → ⊥) × UidIs t passes s (words (s % t.max_conn)).1)
  pub back : (s : ℕ) → Has s (collect drew_in accepts) → ((words (s % t.max_conn)).0 ≡ s) ⊎ IsFreed t freed s
  -- a slot that was drawn again was released, and the numbers that an actor released of one slot rise
  pub again : (s u : ℕ) → Has s (collect drew_in accepts) → Has u (collect drew_in accepts) → s < u → s % t.max_conn ≡ u % t.max_conn → IsFreed t freed s
  pub rise : (n : ℕ) → n < t.reactor_num → RiseBySlot t.max_conn (firsts (freed (Reactor n)))
  -- each session was bound once at most, none before it was drawn, and a release answered its uid
  pub one : (s : ℕ) → (u : ℕ) × UidIs t passes s u
  pub above : (s : ℕ) → last < s → NoBind passes s
  pub frees : (n : ℕ) → n < t.reactor_num → (s u : ℕ) → Has (s, u) (freed (Reactor n)) → UidIs t passes s u

-- what calls found is so for good
pub record FoundLaw (t : Terms) (accepts : List (ℕ × Claim)) (passes : ActorId → List (ℕ × ℕ)) (dids : List Did) : Type 0 where
  pub lives : Each (λ s. Has s (collect drew_in accepts)) (collect live_in dids)
  pub others : Each (λ (p : ℕ × ℕ). (¬ (p.1 ≡ p.0)) × ((p.1 ≡ 0) ⊎ (Has p.1 (collect drew_in accepts) × (p.1 % t.max_conn ≡ p.0 % t.max_conn)))) (collect other_in dids)
  pub found : Each (λ (p : ℕ × ℕ). (p.1 ≡ 0) ⊎ OneBind t passes p.0 p.1) (collect found_in dids)
  pub had : Each (λ (p : ℕ × ℕ). OneBind t passes p.0 p.1) (collect had_in dids)

-- what is collected of each actor's calls
abbrev pub all_in : {B : Type 0} → (Did → List B) → (ActorId → List Did) → ActorId → List B
all_in f dids y = collect f (dids y)

-- the book, and what all actors found in it
pub record WordsLaw (t : Terms) (words : ℕ → ℕ × ℕ) (last : ℕ) (dids : ActorId → List Did) : Type 0 where
  pub book : BookLaw t words last (collect accept_in (dids Door)) (all_in free_in dids) (all_in pass_in dids)
  pub found : (y : ActorId) → FoundLaw t (collect accept_in (dids Door)) (all_in pass_in dids) (dids y)

-- the stop word was set by the door or a hand
abbrev pub IsStopped : Terms → (ActorId → List Did) → Type 0
IsStopped t dids = (y : ActorId) × (((y ≡ Door) ⊎ IsHand t y) × (¬ (collect stop_in (dids y) ≡ [])))

-- the stop word
pub record StopLaw (t : Terms) (stop : Bool) (dids : ActorId → List Did) : Type 0 where
  pub set : stop ≡ true → IsStopped t dids
  pub seen : (y : ActorId) → ¬ (collect saw_stop_in (dids y) ≡ []) → IsStopped t dids

-- the counters: each word is at most what its owner added, and a sum at most what the words stand at
pub record CountsLaw (t : Terms) (counts : Counter → ActorId → ℕ) (dids : ActorId → List Did) : Type 0 where
  pub own : (c : Counter) (y : ActorId) → counts c y ≤ length (collect (add_in c) (dids y))
  pub cap : (c : Counter) (y : ActorId) → counts c y ≤ greatest
  pub own_least : (c : Counter) (y : ActorId) → (length (collect (add_in c) (dids y)) ≤ counts c y) ⊎ (counts c y ≡ greatest)
  pub sums : (y : ActorId) → Each (λ (p : Counter × ℕ). p.1 ≤ sum_of (counts p.0) (everyone t)) (collect sum_in (dids y))
  -- a sum is at least what its actor added before
  pub least : (y : ActorId) (before behind : List Did) (c : Counter) (n : ℕ) → dids y ≡ before ++ Sums c n ∷ behind → (length (collect (add_in c) before) ≤ n) ⊎ (n ≡ greatest)

-- the Table: each call took the next place of one legal history, and one was refused only where all were taken
pub record ShelfLaw (t : Terms) (legal : List Ran → Type 0) (history : List Ran) (seat : ActorId → List (ℕ × Ran)) (spent : ActorId → List ℕ) : Type 0 where
  pub is_legal : legal history
  pub each : (y : ActorId) → Each (λ (p : ℕ × Ran). slice_get history p.0 ≡ Some p.1) (seat y)
  pub rise : (y : ActorId) → Rises (places (seat y))
  pub once : (y z : ActorId) → ¬ (y ≡ z) → Each (λ n. Each (λ m. ¬ (n ≡ m)) (places (seat z))) (places (seat y))
  pub all : (n : ℕ) → n < length history → (y : ActorId) × (IsHand t y × Has n (places (seat y)))
  pub none_left : (y : ActorId) → Each (λ n. (n ≡ t.table_last_call) × (length history ≡ n)) (spent y)

-- the ports and all calls so far
pub record PortsLaw (t : Terms) (legal : List Ran → Type 0) (p : Ports) (dids : ActorId → List Did) : Type 0 where
  pub given : p.given ≡ collect accept_in (dids Door)
  pub words : WordsLaw t p.words p.last dids
  pub stop : StopLaw t p.stop dids
  pub counts : CountsLaw t p.counts dids
  pub shelf : ShelfLaw t legal p.table (all_in seat_in dids) (all_in spent_in dids)

-- the sessions that the door drew
abbrev pub drawn_by : (ActorId → List Did) → List ℕ
drawn_by dids = collect drew_in (collect accept_in (dids Door))

-- what a turn releases was drawn, no other reactor released it, and nor did this one
pub record MayFree (t : Terms) (dids : ActorId → List Did) (y : ActorId) (mine ds : List Did) : Type 0 where
  pub once : ¬ (collect free_in ds ≡ []) → Distinct (firsts (collect free_in (mine ++ ds)))
  pub drawn : Each (λ s. Has s (drawn_by dids)) (firsts (collect free_in ds))
  pub alone : Each (λ s. (m : ℕ) → m < t.reactor_num → ¬ (Reactor m ≡ y) → ¬ Has s (firsts (collect free_in (dids (Reactor m))))) (firsts (collect free_in ds))

-- one actor's list has all of these more
abbrev pub add_all : (ActorId → List Did) → ActorId → List Did → ActorId → List Did
add_all dids y ds z = if is z y then dids z ++ ds else dids z
