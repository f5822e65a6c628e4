-- Which calls on the book and the board a turn of the table makes, by what they answer.
use Rattle.std.specs.Prelude.{◌≡◌, ℕ, ◌%◌, ◌==◌, false, List, [], ◌∷◌, ◌++◌, Option, Some, None}
use Rattle.std.specs.Bool.{MatchBool}
use Rattle.sw_data.specs.declared.messages.Got.{Got}
use Rattle.sw_lists.specs.Lists.{collect}
use Rattle.sw_record.specs.Words.{Event, PacketsCount, EndedCount}
use Rattle.sw_record.specs.Terms.{Terms, keeps}
use Rattle.sw_past.specs.Messages.{Message}
use Rattle.sw_world_ports.specs.Calls.{Seen, Lives, Other, Did, Looks, Idles, Frees, SeesStop, Adds}
use Rattle.sw_reactor_table.specs.Conn.{Conn as Row, Answers, Does, Pushes, Moves, Stays, Leaves, tidied, serve}
use Rattle.sw_reactor_table.specs.Reactor.{Reactor as Table, Ask, Take, Push, Nothing, Rest, Finished}
use Rattle.sw_reactor_laws.specs.Histories.{counts_in}

-- the uid that a look shows, 0 for none
abbrev pub uid_seen : Seen → ℕ
uid_seen (Lives u) = u
uid_seen (Other n) = 0

-- no call, so that no uid was seen
abbrev pub NoCalls : Answers → List Did → Type 0
NoCalls a ds = (a.look ≡ 0) × (ds ≡ [])

-- a look at the session of the connection
abbrev pub LookCalls : Answers → ℕ → List Did → Type 0
LookCalls a s ds = (x : Seen) × ((a.look ≡ uid_seen x) × (ds ≡ Looks s x ∷ []))

-- the first idle worker from the one whose turn it is
abbrev pub IdleCalls : Terms → Answers → ℕ → List Did → Type 0
IdleCalls t a k ds = (a.look ≡ 0) × (ds ≡ Idles false (k % t.worker_num) a.idle ∷ [])

-- where an event goes: in mode 5 by a look, in mode 3 by who is idle
abbrev pub AimCalls : Terms → Answers → ℕ → ℕ → List Did → Type 0
AimCalls t a k s ds = MatchBool (keeps t.mode) (NoCalls a ds) (MatchBool (t.mode == 5) (LookCalls a s ds) (MatchBool (t.mode == 3) (IdleCalls t a k ds) (NoCalls a ds)))

-- an event that was held goes where it went before
abbrev pub PushCalls : Terms → Answers → ℕ → ℕ → Option (ℕ × Event) → List Did → Type 0
PushCalls t a k s None ds = AimCalls t a k s ds
PushCalls t a k s (Some h) ds = NoCalls a ds

-- a connection that leaves is released, and its end counted
abbrev pub DoesCalls : Terms → Answers → ℕ → ℕ → Option (ℕ × Event) → Does → List Did → Type 0
DoesCalls t a k s held (Pushes w e) ds = PushCalls t a k s held ds
DoesCalls t a k s held Moves ds = NoCalls a ds
DoesCalls t a k s held Stays ds = NoCalls a ds
DoesCalls t a k s held (Leaves e) ds = (a.look ≡ 0) × (ds ≡ Frees s a.released ∷ Adds EndedCount ∷ [])

-- a serve
abbrev pub ServeCalls : Terms → Answers → ℕ → Row → List Did → Type 0
ServeCalls t a k d ds = DoesCalls t a k d.session (tidied a d).held (serve t a k d).does ds

-- of the next connection
abbrev pub NextCalls : Terms → Answers → ℕ → List Row → List Did → Type 0
NextCalls t a k [] ds = NoCalls a ds
NextCalls t a k (d ∷ es) ds = ServeCalls t a k d ds

-- before a take the stop word is read
abbrev pub TakeCalls : Answers → List Did → Type 0
TakeCalls a ds = (a.look ≡ 0) × (ds ≡ SeesStop a.stop ∷ [])

-- by what was asked last
abbrev pub ChoiceCalls : Terms → Answers → Ask → Table → List Did → Type 0
ChoiceCalls t a Take s ds = NextCalls t a s.round s.next ds
ChoiceCalls t a (Push w m) s ds = TakeCalls a ds
ChoiceCalls t a Nothing s ds = TakeCalls a ds
ChoiceCalls t a Rest s ds = TakeCalls a ds
ChoiceCalls t a Finished s ds = TakeCalls a ds

-- a packet that was pushed is counted
abbrev pub counts_packet : ℕ → List Did
counts_packet n = Adds PacketsCount ∷ []

-- the packets that a turn counts
abbrev pub packets_counted : Got Message → Ask → List Did
packets_counted got ask = collect counts_packet (counts_in got ask)

-- a turn from a settled state: first it counts, then it chooses
abbrev pub TurnCalls : Terms → Answers → Got Message → Ask → Table → List Did → Type 0
TurnCalls t a got ask s ds = (rest : List Did) × ((ds ≡ packets_counted got ask ++ rest) × ChoiceCalls t a ask s rest)
