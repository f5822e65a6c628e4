-- The record of the world, and what its links tell beside it.
use Rattle.std.specs.Prelude.{ℕ, ◌%◌, ◌==◌, Bool, false, if◌then◌else◌, List, [], ◌∷◌, ◌++◌, Option, Some, None}
use Rattle.sw_lists.specs.Lists.{collect}
use Rattle.sw_step.specs.declared.actor.ActorId.{ActorId}
use Rattle.sw_step.specs.declared.actor.ActorId.TheVariants.{Reactor, Worker, Tasker}
use Rattle.sw_record.specs.Words.{Log, Cause, PeerEnd, NoSlot, NumbersSpent, Ended}
use Rattle.sw_record.specs.declared.record.LinkState.{LinkState}
use Rattle.sw_record.specs.declared.record.LinkState.TheVariants.{Waiting, Live, Over}
use Rattle.sw_record.specs.declared.record.LinkRecord.{LinkRecord}
use Rattle.sw_record.specs.Terms.{Terms, Outside, reactor_of, session_of}
use Rattle.sw_record.specs.declared.record.Record.{Record}
use Rattle.sw_past.specs.Claims.{Claim, Drew, Full, Spent}
use Rattle.sw_past.specs.Routes.{crew}
use Rattle.sw_world_laws.specs.Shows.{Tells}
use Rattle.sw_world_laws.specs.Actors.{Actors}
use Rattle.sw_world_laws.specs.World.{Core}

-- the session is this one
abbrev pub is_session : ℕ → Option ℕ → Bool
is_session s None = false
is_session s (Some u) = u == s

-- the first link of a session
abbrev pub link_in : ℕ → List LinkRecord → Option LinkRecord
link_in s [] = None
link_in s (l ∷ ls) = if is_session s (session_of l.state) then Some l else link_in s ls

-- a link of which nothing was read and nothing written
abbrev pub untouched : ℕ → LinkState → LinkRecord
untouched ip state = record { ip = ip; state = state; pieces = []; written = [] }

-- what is said of a link on its way to its reactor
abbrev pub coming : Terms → ℕ → ℕ → Ended
coming t ip s = record { session = Some s; fd = s % t.max_conn; ip = ip; uid = 0; dispatched = 0; split = 0; cause = PeerEnd }

-- and of one without a session
abbrev pub refusal : ℕ → Cause → Ended
refusal ip cause = record { session = None; fd = 0; ip = ip; uid = 0; dispatched = 0; split = 0; cause = cause }

-- a link of a session: its reactor's, or else on its way
abbrev pub link_or : Terms → ℕ → ℕ → Option LinkRecord → LinkRecord
link_or t ip s (Some l) = l
link_or t ip s None = untouched ip (Live (coming t ip s))

-- the link that was accepted from this address, by what its claim answered
abbrev pub link_by : Terms → (ℕ → List LinkRecord) → ℕ → Claim → LinkRecord
link_by t kept ip (Drew s) = link_or t ip s (link_in s (kept (reactor_of t s)))
link_by t kept ip Full = untouched ip (Over (refusal ip NoSlot))
link_by t kept ip Spent = untouched ip (Over (refusal ip NumbersSpent))

-- the same of an accepted link
abbrev pub links_by : Terms → (ℕ → List LinkRecord) → ℕ × Claim → List LinkRecord
links_by t kept x = link_by t kept x.0 x.1 ∷ []

-- a link that waits
abbrev pub waits : ℕ → List LinkRecord
waits ip = untouched ip Waiting ∷ []

-- an actor's log
abbrev pub log_of : (ActorId → Log) → ActorId → List Log
log_of log y = log y ∷ []

-- the links in the order in which they arrived, and the hands' logs
abbrev pub account_of : Terms → (ActorId → Log) → (ℕ → List LinkRecord) → List (ℕ × Claim) → List ℕ → Record
account_of t log kept accepts waiting =
    record {
      links = collect (links_by t kept) accepts ++ collect waits waiting;
      workers = collect (log_of log) (crew Worker 0 t.worker_num);
      taskers = collect (log_of log) (crew Tasker 0 t.tasker_num);
    }

-- the record of the world
abbrev pub account : (t : Terms) (p : Actors t) → Core p.State → Record
account t p c = account_of t (λ y. p.log (c.states y)) (λ n. p.kept (c.states (Reactor n))) c.ports.given c.ports.waiting

-- a link that was not read
abbrev pub untold : Tells
untold = record { at_end = false; failed = false }

-- what an accepted link tells, by what its claim answered
abbrev pub tells_by : Terms → (ℕ → ℕ → Tells) → Claim → Tells
tells_by t told (Drew s) = told (reactor_of t s) s
tells_by t told Full = untold
tells_by t told Spent = untold

-- whether a read answered End, and whether the count of faults rose
abbrev pub end_told : Terms → (ℕ → ℕ → Tells) → ℕ × Claim → List Bool
end_told t told x = (tells_by t told x.1).at_end ∷ []

-- the same of faults
abbrev pub fault_told : Terms → (ℕ → ℕ → Tells) → ℕ × Claim → List Bool
fault_told t told x = (tells_by t told x.1).failed ∷ []

-- a link that waits tells nothing
abbrev pub none_told : ℕ → List Bool
none_told ip = false ∷ []

-- by the links' numbers
abbrev pub outside_of : Terms → (ℕ → ℕ → Tells) → List (ℕ × Claim) → List ℕ → Outside
outside_of t told accepts waiting =
    record {
      at_end = collect (end_told t told) accepts ++ collect none_told waiting;
      failed = collect (fault_told t told) accepts ++ collect none_told waiting;
    }

-- what the links of the world tell
abbrev pub outside : (t : Terms) (p : Actors t) → Core p.State → Outside
outside t p c = outside_of t (λ n. p.told (c.states (Reactor n))) c.ports.given c.ports.waiting
