-- Where a turn of a run read the stop word.
use Rattle.std.specs.Prelude.{◌≡◌, ℕ, Bool, true, false, if◌then◌else◌, List, Option, Some}
use Rattle.sw_record.specs.Words.{Cause, Stop, Ended}
use Rattle.sw_record.specs.declared.record.LinkState.TheVariants.{Over}
use Rattle.sw_record.specs.declared.record.LinkRecord.{LinkRecord}
use Rattle.sw_record.specs.Terms.{Terms}
use Rattle.sw_past.specs.Past.{Mail}
use Rattle.sw_reactor_table.specs.Conn.{Conn}
use Rattle.sw_reactor_table.specs.Reactor.{Reactor, Ask, Take, Push, Nothing, Rest, Finished}
use Rattle.sw_reactor_table.specs.Runs.{Runs, First, Then}

-- a cause is Stop only there
abbrev pub CalmOf : Bool → Option Cause → Type 0
CalmOf b o = o ≡ Some Stop → b ≡ true

-- the same of a connection
abbrev pub Calm : Bool → Conn → Type 0
Calm b c = CalmOf b c.cause

-- and of a link that ended
abbrev pub CalmLink : Bool → LinkRecord → Type 0
CalmLink b l = (e : Ended) → l.state ≡ Over e → e.cause ≡ Stop → b ≡ true

-- whether a turn read the stop word and found it set: it reads it where it asks for a take
abbrev pub stop_at : Ask → Bool → Bool
stop_at Take stop = false
stop_at (Push w m) stop = stop
stop_at Nothing stop = stop
stop_at Rest stop = stop
stop_at Finished stop = stop

-- whether a turn of a run found the stop word set
abbrev pub stop_read : {t : Terms} {word : ℕ → ℕ} {took pushed : Mail} {r : Reactor} → Runs t word took pushed r → Bool
stop_read (First starved a f) = a.stop
stop_read (Then {r = r} before later more got call starved a f) = if stop_at r.last a.stop then true else stop_read before
