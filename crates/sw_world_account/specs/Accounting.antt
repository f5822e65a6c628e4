-- The record of each link, by what its claim answered and by the links of the reactors.
use Rattle.std.specs.Prelude.{ℕ, ◌%◌, List, [], slice_get, Option, Some, None}
use Rattle.sw_data.specs.declared.ended.Cause.TheVariants as causes
use Rattle.sw_data.specs.declared.ended.Ended.{Ended}
use Rattle.sw_record.specs.declared.record.LinkRecord.{LinkRecord}
use Rattle.sw_record.specs.declared.record.LinkState.TheVariants.{Waiting, Live, Over}
use Rattle.sw_world_laws.specs.Account.{link_in, untouched, refusal}
use Rattle.sw_world_places.specs.Arrived.{Known}
use Rattle.sw_world_places.specs.declared.arrived.Claimed.{Claimed}
use Rattle.sw_world_places.specs.declared.arrived.Claimed.TheVariants.{Drew, NoSlot, NumbersSpent}
use Rattle.sw_world_account.specs.declared.kept.Kept.{Kept}
use Rattle.sw_world_account.specs.Kept.{kept_links}

-- what is said of a link on its way to its reactor
abbrev pub coming : ℕ → ℕ → ℕ → Ended
coming max_conn ip s = record { session = Some s; fd = s % max_conn; ip = ip; uid = 0; dispatched = 0; split = 0; cause = causes.PeerEnd }

-- the link of a session: the one that its reactor has, or else one on its way
abbrev pub found_or : ℕ → ℕ → ℕ → Option LinkRecord → LinkRecord
found_or max_conn ip s (Some l) = l
found_or max_conn ip s None = untouched ip (Live (coming max_conn ip s))

abbrev pub session_link : ℕ → ℕ → (ℕ → List LinkRecord) → ℕ → ℕ → LinkRecord
session_link max_conn reactors links ip s = found_or max_conn ip s (link_in s (links ((s % max_conn) % reactors)))

-- by what its claim answered
abbrev pub record_by : ℕ → ℕ → (ℕ → List LinkRecord) → ℕ → Option Claimed → LinkRecord
record_by max_conn reactors links ip None = untouched ip Waiting
record_by max_conn reactors links ip (Some (Drew s)) = session_link max_conn reactors links ip s
record_by max_conn reactors links ip (Some NoSlot) = untouched ip (Over (refusal ip causes.NoSlot))
record_by max_conn reactors links ip (Some NumbersSpent) = untouched ip (Over (refusal ip causes.NumbersSpent))

abbrev pub record_of : ℕ → ℕ → (ℕ → List LinkRecord) → Known → LinkRecord
record_of max_conn reactors links l = record_by max_conn reactors links l.ip l.claim

-- a reactor's links, by its number
abbrev pub links_of : Option Kept → List LinkRecord
links_of None = []
links_of (Some k) = kept_links k.reactor.now.terms k.reactor.now.line.conns k.ends.now.kept

abbrev pub links_at : List Kept → ℕ → List LinkRecord
links_at kept n = links_of (slice_get kept n)
