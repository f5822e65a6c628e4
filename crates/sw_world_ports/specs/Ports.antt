-- The plain ports: whether a call has this answer, and what it leaves.
use Rattle.std.specs.Prelude.{◌≡◌, ℕ, zero, suc, ◌+◌, ◌-◌, ◌<◌, ◌^◌, ◌%◌, ◌==◌, Bool, true, false, nat_lt, if◌then◌else◌, List, [], ◌∷◌, ◌++◌, length, Option, Some, None}
use Rattle.sw_base.specs.declared.table.CallFault.TheVariants.{Busy, Spent as PlacesSpent}
use Rattle.sw_column.specs.Fit.{call_fault}
use Rattle.sw_step.specs.declared.actor.ActorId.{ActorId}
use Rattle.sw_step.specs.declared.actor.ActorId.TheVariants.{Door, Reactor, Worker, Tasker}
use Rattle.sw_step.specs.Actors.{is}
use Rattle.sw_record.specs.Terms.{Terms}
use Rattle.sw_record.specs.Words.{Call, CallFault, Counter}
use Rattle.sw_record.specs.Counts.{greatest}
use Rattle.sw_record.specs.Places.{Ran}
use Rattle.sw_past.specs.Claims.{Claim, Drew, Full, Spent}
use Rattle.sw_past.specs.Routes.{crew, hands}
use Rattle.sw_world_ports.specs.Calls.{Seen, Lives, Other, BindGot, Granted, ZeroUid, Had, NotThere, Did, Accepts, NoLink, NetOver, Looks, Binds, Frees, Marks, Idles, Stops, SeesStop, Adds, Sums, Tables, TableRefuses}
use Rattle.sw_world_ports.specs.Made.{same_counter}

-- what all actors share
pub record Ports : Type 0 where
  -- the word of each slot: a session, or 0, and its uid
  pub words : ℕ → ℕ × ℕ
  -- the last number that was tried
  pub last : ℕ
  -- who is idle, whether the stop word is set, and each actor's words of the counters
  pub idle : ActorId → Bool
  pub stop : Bool
  pub counts : Counter → ActorId → ℕ
  -- the calls of the Table that had a place, with their replies
  pub table : List Ran
  -- the addresses of the links that wait, and whether an end comes behind them
  pub waiting : List ℕ
  pub ended : Bool
  -- the links that the net gave, by their addresses, and what the claims of their sessions answered
  pub given : List (ℕ × Claim)

-- before any call
abbrev pub new_ports : Terms → Ports
new_ports t = record { words = λ i. (0, 0); last = t.session_last; idle = λ y. false; stop = false; counts = λ c y. 0; table = []; waiting = []; ended = false; given = [] }

-- a claim tries at most k numbers, one by one, until one has a free slot; beside it the last number that was tried
abbrev pub claim_by : ℕ → (ℕ → ℕ × ℕ) → ℕ → ℕ → Claim × ℕ
claim_by slots words zero last = (Full, last)
claim_by slots words (suc k) last = if last == 2 ^ 32 - 1 then (Spent, last) else if (words ((last + 1) % slots)).0 == 0 then (Drew (last + 1), last + 1) else claim_by slots words k (last + 1)

-- as many numbers as there are slots
abbrev pub claimed : Terms → Ports → Claim × ℕ
claimed t p = claim_by t.max_conn p.words t.max_conn p.last

-- all actors
abbrev pub everyone : Terms → List ActorId
everyone t = Door ∷ (crew Reactor 0 t.reactor_num ++ hands t)

-- the sum over these
abbrev pub sum_of : (ActorId → ℕ) → List ActorId → ℕ
sum_of f [] = 0
sum_of f (y ∷ ys) = f y + sum_of f ys

-- at most the greatest count there is
abbrev pub capped : ℕ → ℕ
capped n = if nat_lt n greatest then n else greatest

-- the first idle one of n tried from k on, round
abbrev pub idle_by : (ActorId → Bool) → (ℕ → ActorId) → ℕ → ℕ → ℕ → Option ℕ
idle_by idle f size k zero = None
idle_by idle f size k (suc n) = if idle (f (k % size)) then Some (k % size) else idle_by idle f size (k + 1) n

-- of the task workers, or of the workers
abbrev pub idle_one : Terms → (ActorId → Bool) → Bool → ℕ → Option ℕ
idle_one t idle true k = idle_by idle Tasker t.tasker_num k t.tasker_num
idle_one t idle false k = idle_by idle Worker t.worker_num k t.worker_num

-- whether a look finds this
abbrev pub SeesIt : ℕ × ℕ → ℕ → Seen → Type 0
SeesIt word s (Lives u) = word ≡ (s, u)
SeesIt word s (Other n) = (word.0 ≡ n) × (¬ (n ≡ s))

-- whether a bind comes to this; a uid of 0 is refused first
abbrev pub BindsIt : ℕ × ℕ → ℕ → ℕ → BindGot → Type 0
BindsIt word s u Granted = (¬ (u ≡ 0)) × (word ≡ (s, 0))
BindsIt word s u ZeroUid = u ≡ 0
BindsIt word s u (Had v) = (¬ (v ≡ 0)) × (word ≡ (s, v))
BindsIt word s u (NotThere n) = (word.0 ≡ n) × (¬ (n ≡ s))

-- whether the Table refuses a call so: for its arguments first, then where all places are used, and never for a lock
abbrev pub RefusesIt : Terms → ℕ → Call → CallFault → Type 0
RefusesIt t calls c (Busy word seen) = ⊥
RefusesIt t calls c (PlacesSpent n) = (call_fault t.columns c ≡ None) × ((n ≡ calls) × (calls ≡ t.table_last_call))
RefusesIt t calls c fault = call_fault t.columns c ≡ Some fault

-- whether a call has this answer; a session is released while it stands in its word, and the Table's calls are of a legal
-- history
abbrev pub Answers : Terms → (List Ran → Type 0) → Ports → ActorId → Did → Type 0
Answers t legal p y (Accepts ip c) = ((rest : List ℕ) × (p.waiting ≡ ip ∷ rest)) × ((claimed t p).0 ≡ c)
Answers t legal p y NoLink = (p.waiting ≡ []) × (p.ended ≡ false)
Answers t legal p y NetOver = (p.waiting ≡ []) × (p.ended ≡ true)
Answers t legal p y (Looks s x) = (¬ (s ≡ 0)) × SeesIt (p.words (s % t.max_conn)) s x
Answers t legal p y (Binds s u x) = (¬ (s ≡ 0)) × BindsIt (p.words (s % t.max_conn)) s u x
Answers t legal p y (Frees s u) = (¬ (s ≡ 0)) × (p.words (s % t.max_conn) ≡ (s, u))
Answers t legal p y (Marks b) = Unit {0}
Answers t legal p y (Idles crew k x) = idle_one t p.idle crew k ≡ x
Answers t legal p y Stops = Unit {0}
Answers t legal p y (SeesStop b) = p.stop ≡ b
Answers t legal p y (Adds c) = Unit {0}
Answers t legal p y (Sums c n) = n ≡ capped (sum_of (p.counts c) (everyone t))
Answers t legal p y (Tables at x) = (at ≡ length p.table) × (length p.table < t.table_last_call) × legal (p.table ++ x ∷ [])
Answers t legal p y (TableRefuses c fault) = RefusesIt t (length p.table) c fault

-- a function changed at one place
abbrev pub set : {A : Type 0} → (ℕ → A) → ℕ → A → ℕ → A
set f i v j = if j == i then v else f j

-- and at one actor
abbrev pub set_at : {A : Type 0} → (ActorId → A) → ActorId → A → ActorId → A
set_at f y v z = if is z y then v else f z

-- lists of which one actor's has one more
abbrev pub add : {A : Type 0} → (ActorId → List A) → ActorId → A → ActorId → List A
add f y e z = if is z y then f z ++ e ∷ [] else f z

-- the words behind a claim
abbrev pub words_by : ℕ → (ℕ → ℕ × ℕ) → Claim → ℕ → ℕ × ℕ
words_by slots words (Drew s) = set words (s % slots) (s, 0)
words_by slots words Full = words
words_by slots words Spent = words

-- the words behind a bind
abbrev pub bound_by : ℕ → (ℕ → ℕ × ℕ) → ℕ → ℕ → BindGot → ℕ → ℕ × ℕ
bound_by slots words s u Granted = set words (s % slots) (s, u)
bound_by slots words s u ZeroUid = words
bound_by slots words s u (Had v) = words
bound_by slots words s u (NotThere n) = words

-- the links that wait behind the first
abbrev pub behind : List ℕ → List ℕ
behind [] = []
behind (x ∷ xs) = xs

-- one more of an actor's word of a counter, as far as it goes
abbrev pub added : (Counter → ActorId → ℕ) → ActorId → Counter → Counter → ActorId → ℕ
added counts y c d z = if same_counter d c then (if is z y then (if nat_lt (counts d z) greatest then counts d z + 1 else counts d z) else counts d z) else counts d z

-- what a call leaves
abbrev pub ported : Terms → Ports → ActorId → Did → Ports
ported t p y (Accepts ip c) = record p { given = p.given ++ (ip, c) ∷ []; waiting = behind p.waiting; words = words_by t.max_conn p.words c; last = (claimed t p).1 }
ported t p y NoLink = p
ported t p y NetOver = p
ported t p y (Looks s x) = p
ported t p y (Binds s u x) = record p { words = bound_by t.max_conn p.words s u x }
ported t p y (Frees s u) = record p { words = set p.words (s % t.max_conn) (0, 0) }
ported t p y (Marks b) = record p { idle = set_at p.idle y b }
ported t p y (Idles crew k x) = p
ported t p y Stops = record p { stop = true }
ported t p y (SeesStop b) = p
ported t p y (Adds c) = record p { counts = added p.counts y c }
ported t p y (Sums c n) = p
ported t p y (Tables at x) = record p { table = p.table ++ x ∷ [] }
ported t p y (TableRefuses c fault) = p

-- a turn's calls have these answers, one after the other
abbrev pub AllAnswer : Terms → (List Ran → Type 0) → Ports → ActorId → List Did → Type 0
AllAnswer t legal p y [] = Unit {0}
AllAnswer t legal p y (d ∷ ds) = Answers t legal p y d × AllAnswer t legal (ported t p y d) y ds

-- what they leave
abbrev pub all_ported : Terms → Ports → ActorId → List Did → Ports
all_ported t p y [] = p
all_ported t p y (d ∷ ds) = all_ported t (ported t p y d) y ds
