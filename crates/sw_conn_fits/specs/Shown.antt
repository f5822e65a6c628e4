-- A connection as the table has it: its link, its ticket and its cutter aside, with the pieces that were read, the bytes that
-- were written and the packets that were taken.
use Rattle.std.specs.Prelude.{◌≡◌, ℕ, ◌+◌, Bool, true, false, List, [], ◌∷◌, ◌++◌, take, Option, Some, None}
use Rattle.sw_link.specs.declared.link.LinkWrite.{LinkWrite}
use Rattle.sw_link.specs.declared.link.LinkWrite.TheVariants as writing
use Rattle.sw_link.specs.Reads.{Read, GotPiece, ReadNotYet, ReadEnd, ReadFailed}
use Rattle.sw_conn.specs.declared.conn.Conn.{Conn}
use Rattle.sw_conn.specs.declared.serve.Step.{Step}
use Rattle.sw_conn.specs.declared.serve.Step.TheVariants as steps
use Rattle.sw_conn.specs.declared.terms.Terms.{Terms as Settings}
use Rattle.sw_conn.specs.Causes.{is_packet_event}
use Rattle.sw_record.specs.Terms.{Terms}
use Rattle.sw_reactor_table.specs.Conn.{Conn as Row, Answers, Served, Pushes, Moves, Stays, Leaves, plain, pushes, read_by, serve}

-- the settings that a connection goes by
abbrev pub settings : Terms → Settings
settings t = record { mode = t.mode; worker_num = t.worker_num; tasker_num = t.tasker_num; max_conn = t.max_conn; buffer_size = t.buffer_size }

-- a connection as the table has it, with its pieces, the bytes that were written and the packets that were taken
abbrev pub shown : {L K : Type 0} → List (List ℕ) → List ℕ → ℕ → Conn L K → Row
shown pieces written taken c =
    record {
      ip = c.ip;
      session = c.session;
      pieces = pieces;
      written = written;
      unsent = c.unsent;
      taken = taken;
      held = c.held;
      awaited = c.awaited;
      uid = c.uid;
      split = c.split;
      dispatched = c.dispatched;
      cause = c.cause;
      phase = c.phase;
    }

-- as long as a connection has no cause its cutter was fed these pieces and gave this many packets
abbrev pub IsCut : {L K : Type 0} → Terms → List (List ℕ) → ℕ → Conn L K → Type 0
IsCut t pieces taken c = c.cause ≡ None → c.cutter ≡ record { framing = t.framing; pieces = pieces; given = taken }

-- the answer of a write that was made, and one that changes nothing where none was
abbrev pub write_of : Option LinkWrite → LinkWrite
write_of None = writing.NotYet
write_of (Some w) = w

-- the bytes that were written behind a write
abbrev pub written_by : Option LinkWrite → List ℕ → List ℕ → List ℕ
written_by None unsent written = written
written_by (Some (writing.Took k)) unsent written = written ++ take k unsent
written_by (Some writing.NotYet) unsent written = written
written_by (Some writing.Failed) unsent written = written

-- the pieces that were read behind a read
abbrev pub pieces_by : Read → List (List ℕ) → List (List ℕ)
pieces_by (GotPiece p) pieces = pieces ++ p ∷ []
pieces_by ReadNotYet pieces = pieces
pieces_by ReadEnd pieces = pieces
pieces_by ReadFailed pieces = pieces

-- a write moved something
abbrev pub some_write : Option LinkWrite → Bool
some_write None = false
some_write (Some (writing.Took k)) = true
some_write (Some writing.NotYet) = false
some_write (Some writing.Failed) = true

-- what a step of a connection is of the table's serve, with the connection behind the step
abbrev pub IsStep : Terms → Answers → ℕ → Row → Step → Served → Type 0
IsStep t a k d (steps.Again w e) v = v ≡ plain d (Pushes w e)
IsStep t a k d (steps.Tell e) v = v ≡ pushes t a k e (is_packet_event e) d
IsStep t a k d steps.Read v = v ≡ read_by a.feed_starved a.read d
IsStep t a k d steps.Moved v = v ≡ plain d Moves
IsStep t a k d steps.Stay v = v ≡ plain d Stays
IsStep t a k d (steps.Leave e) v = v ≡ plain d (Leaves e)

-- a serve of a connection is the table's: with this write, and with memory for the cutter or without
pub record IsServed {L K : Type 0} (t : Terms) (pieces : List (List ℕ)) (written : List ℕ) (n : ℕ) (c d : Conn L K) (wrote : Option LinkWrite) (step : Step) : Type 0 where
  pub starved : Bool
  -- the packets that were taken from the cutter then
  pub taken : ℕ
  pub is : (a : Answers) (k : ℕ) → a.write ≡ write_of wrote → a.cut_starved ≡ starved → IsStep t a k (shown pieces (written_by wrote c.unsent written) taken d) step (serve t a k (shown pieces written n c))
  pub cut : IsCut t pieces taken d
  -- a read comes only without a cause, and then no packet was taken
  pub reads : step ≡ steps.Read → (d.cause ≡ None) × (taken ≡ n)
