-- A call on what actors share, with its answer, and who may make it.
use Rattle.std.specs.Prelude.{◌≡◌, ◌⊎◌, ℕ, ◌<◌, Bool, Option}
use Rattle.sw_step.specs.declared.actor.ActorId.{ActorId}
use Rattle.sw_step.specs.declared.actor.ActorId.TheVariants.{Door, Reactor}
use Rattle.sw_record.specs.Terms.{Terms}
use Rattle.sw_record.specs.Words.{Call, CallFault, Counter, AcceptedCount, EndedCount, PacketsCount, SendsCount, TasksCount, FinishesCount}
use Rattle.sw_record.specs.Places.{Ran}
use Rattle.sw_past.specs.Claims.{Claim}
use Rattle.sw_past.specs.Routes.{IsHand}

-- what stood in a session's slot: the session with this uid, or another number, 0 for none
pub data Seen : Type 0 where
  Lives : ℕ → Seen
  Other : ℕ → Seen

-- what a bind came to: it was granted, its uid was 0, the session had this uid, or its slot held this other number
pub data BindGot : Type 0 where
  Granted : BindGot
  ZeroUid : BindGot
  Had : ℕ → BindGot
  NotThere : ℕ → BindGot

-- a call with its answer
pub data Did : Type 0 where
  -- the net gave a link from this address, and this the claim of its session answered
  Accepts : ℕ → Claim → Did
  -- no link waits, and no further one comes
  NoLink : Did
  NetOver : Did
  -- a session, and what was seen
  Looks : ℕ → Seen → Did
  Binds : ℕ → ℕ → BindGot → Did
  -- a session's release, and the uid that it answered
  Frees : ℕ → ℕ → Did
  -- the actor is idle, or busy
  Marks : Bool → Did
  -- task workers or workers, from this one on, and the first idle one
  Idles : Bool → ℕ → Option ℕ → Did
  -- the stop word is set, and is seen
  Stops : Did
  SeesStop : Bool → Did
  -- one more of a counter, and the sum over all actors
  Adds : Counter → Did
  Sums : Counter → ℕ → Did
  -- a place of the Table, and the call with its reply
  Tables : ℕ → Ran → Did
  -- a call of the Table that was refused
  TableRefuses : Call → CallFault → Did

-- a reactor that is there
abbrev pub IsReactor : Terms → ActorId → Type 0
IsReactor t y = (n : ℕ) × ((n < t.reactor_num) × (y ≡ Reactor n))

-- who adds to a counter: the door counts links that it accepts and those that it ends, reactors ends and packets, hands
-- the others
abbrev pub MayAdd : Terms → ActorId → Counter → Type 0
MayAdd t y AcceptedCount = y ≡ Door
MayAdd t y EndedCount = (y ≡ Door) ⊎ IsReactor t y
MayAdd t y PacketsCount = IsReactor t y
MayAdd t y SendsCount = IsHand t y
MayAdd t y TasksCount = IsHand t y
MayAdd t y FinishesCount = IsHand t y

-- who may make which call
abbrev pub MayDo : Terms → ActorId → Did → Type 0
MayDo t y (Accepts ip c) = y ≡ Door
MayDo t y (Binds s u x) = IsHand t y
MayDo t y (Frees s u) = IsReactor t y
MayDo t y (Tables at x) = IsHand t y
MayDo t y Stops = (y ≡ Door) ⊎ IsHand t y
MayDo t y (Adds c) = MayAdd t y c
MayDo t y (Sums c n) = IsHand t y
MayDo t y _ = Unit {0}
