-- The links of one reactor, as the record shows them: its connections in the order of their arrival, then those that ended.
use Rattle.std.specs.Prelude.{ℕ, List, ◌++◌, map, Option, Some}
use Rattle.sw_data.specs.declared.ended.Ended.{Ended}
use Rattle.sw_link.specs.declared.memory_link.MemoryLink.{MemoryLink}
use Rattle.sw_record.specs.declared.record.LinkRecord.{LinkRecord}
use Rattle.sw_record.specs.declared.record.LinkState.TheVariants.{Live}
use Rattle.sw_record.specs.Words.{PeerEnd}
use Rattle.sw_conn.specs.declared.conn.Conn.{Conn}
use Rattle.sw_conn.specs.declared.terms.Terms.{Terms}
use Rattle.sw_conn.specs.Conn.{account}
use Rattle.sw_world_reactor_fits.specs.Plain.{over_of}

-- the link of a connection; no cause is meant yet
abbrev pub live_by : Terms → Conn MemoryLink ℕ → LinkRecord
live_by t c = record { ip = c.ip; state = Live (account t c c.uid PeerEnd); pieces = c.link.pieces; written = c.link.written }

-- all links
abbrev pub kept_links : Terms → List (Conn MemoryLink ℕ) → List (MemoryLink × Ended) → List LinkRecord
kept_links t conns ends = map (live_by t) conns ++ map over_of ends

-- and their sessions
abbrev pub conn_session : Conn MemoryLink ℕ → Option ℕ
conn_session c = Some c.session

abbrev pub end_session : MemoryLink × Ended → Option ℕ
end_session x = (x.1).session

abbrev pub kept_sessions : List (Conn MemoryLink ℕ) → List (MemoryLink × Ended) → List (Option ℕ)
kept_sessions conns ends = map conn_session conns ++ map end_session ends
