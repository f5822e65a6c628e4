-- What the turns of a run did at their ports, in order: the packets that they counted, the sessions that they released, and
-- the reads and writes of their links.
use Rattle.std.specs.Prelude.{ℕ, Bool, true, false, if◌then◌else◌, List, [], ◌∷◌, ◌++◌}
use Rattle.sw_lists.specs.Lists.{collect, when}
use Rattle.sw_data.specs.declared.messages.Got.{Got}
use Rattle.sw_data.specs.declared.messages.Got.TheVariants.{Start, Took, Empty, Pushed, Full}
use Rattle.sw_data.specs.declared.messages.Got.TheVariants as gots
use Rattle.sw_link.specs.declared.link.LinkWrite.{LinkWrite}
use Rattle.sw_link.specs.Reads.{Read}
use Rattle.sw_conn.specs.Causes.{is_hard}
use Rattle.sw_conn.specs.Conn.{has_unsent}
use Rattle.sw_record.specs.Words.{Ended}
use Rattle.sw_record.specs.declared.record.LinkRecord.{LinkRecord}
use Rattle.sw_record.specs.declared.record.LinkState.{LinkState}
use Rattle.sw_record.specs.declared.record.LinkState.TheVariants.{Waiting, Live, Over}
use Rattle.sw_record.specs.Terms.{Terms}
use Rattle.sw_past.specs.Messages.{Message}
use Rattle.sw_past.specs.Past.{Mail}
use Rattle.sw_past.specs.Views.{packet_msg}
use Rattle.sw_reactor_table.specs.Conn.{Conn, Answers, Does, Pushes, Moves, Stays, Leaves, serve}
use Rattle.sw_reactor_table.specs.Reactor.{Reactor, Ask, Take, Push, Nothing, Rest, Finished, settled}
use Rattle.sw_reactor_table.specs.Quiet.{some_list}
use Rattle.sw_reactor_table.specs.Runs.{Runs, First, Then}

-- a packet that is asked to be pushed
abbrev pub pushed_packet : Ask → List ℕ
pushed_packet (Push w m) = packet_msg m
pushed_packet Take = []
pushed_packet Nothing = []
pushed_packet Rest = []
pushed_packet Finished = []

-- the packet that a turn counts: it was pushed, and its push is noted
abbrev pub counts_in : Got Message → Ask → List ℕ
counts_in Start ask = []
counts_in (Took m) ask = []
counts_in Empty ask = []
counts_in Pushed ask = pushed_packet ask
counts_in (Full m) ask = []
counts_in gots.Nothing ask = []

-- the packets that the turns of a run counted
abbrev pub counted_in : {t : Terms} {word : ℕ → ℕ} {took pushed : Mail} {r : Reactor} → Runs t word took pushed r → List ℕ
counted_in (First starved a f) = []
counted_in (Then {r = r} before later more got call starved a f) = counted_in before ++ counts_in got r.last

-- what is done at the first of these connections
abbrev pub at_first : {A : Type 0} → (Conn → List A) → List Conn → List A
at_first f [] = []
at_first f (c ∷ cs) = f c

-- what a turn does at the connection that it serves: it serves one after a take
abbrev pub at_served : {A : Type 0} → (Conn → List A) → Ask → List Conn → List A
at_served f Take cs = at_first f cs
at_served f (Push w m) cs = []
at_served f Nothing cs = []
at_served f Rest cs = []
at_served f Finished cs = []

-- what the turns of a run did at the connections that they served, by what a serve with these answers does
abbrev pub done_in : {A : Type 0} {t : Terms} {word : ℕ → ℕ} {took pushed : Mail} {r : Reactor} → (Answers → ℕ → Conn → List A) → Runs t word took pushed r → List A
done_in f (First starved a g) = []
done_in {t = t} f (Then {r = r} before later more got call starved a g) = done_in f before ++ at_served (f a (settled t starved got r).round) r.last (settled t starved got r).next

-- a session with the uid that its release answered
abbrev pub leaves_with : ℕ → ℕ → Does → List (ℕ × ℕ)
leaves_with s uid (Pushes w e) = []
leaves_with s uid Moves = []
leaves_with s uid Stays = []
leaves_with s uid (Leaves e) = (s, uid) ∷ []

-- the session that a serve releases
abbrev pub frees : Terms → Answers → ℕ → Conn → List (ℕ × ℕ)
frees t a k c = leaves_with (serve t a k c).conn.session a.released (serve t a k c).does

-- the sessions that the turns of a run released, in order, with the uids that were answered
abbrev pub freed_in : {t : Terms} {word : ℕ → ℕ} {took pushed : Mail} {r : Reactor} → Runs t word took pushed r → List (ℕ × ℕ)
freed_in {t = t} run = done_in (frees t) run

-- a session and the uid that its end tells
abbrev pub told_uid : Ended → ℕ → List (ℕ × ℕ)
told_uid e s = (s, e.uid) ∷ []

-- the same of a link that ended
abbrev pub freed_by : LinkState → List (ℕ × ℕ)
freed_by Waiting = []
freed_by (Live e) = []
freed_by (Over e) = collect (told_uid e) (some_list e.session)

-- and of a link
abbrev pub freed_of : LinkRecord → List (ℕ × ℕ)
freed_of l = freed_by l.state

-- the sessions alone
abbrev pub first_of : ℕ × ℕ → List ℕ
first_of p = p.0 ∷ []

-- all of these
abbrev pub firsts : List (ℕ × ℕ) → List ℕ
firsts ps = collect first_of ps

-- the read that a serve makes
abbrev pub reads_at : Terms → Answers → ℕ → Conn → List (ℕ × Read)
reads_at t a k c = when (serve t a k c).reads (c.session, a.read)

-- the write that a serve makes: where bytes are unsent and no cause is hard
abbrev pub may_write : Conn → Bool
may_write c = if is_hard c.cause then false else has_unsent c.unsent

-- with its session
abbrev pub writes_at : Answers → ℕ → Conn → List (ℕ × LinkWrite)
writes_at a k c = when (may_write c) (c.session, a.write)

-- all reads of a run, in order, each with the session of its link
abbrev pub reads_in : {t : Terms} {word : ℕ → ℕ} {took pushed : Mail} {r : Reactor} → Runs t word took pushed r → List (ℕ × Read)
reads_in {t = t} run = done_in (reads_at t) run

-- all writes of a run
abbrev pub writes_in : {t : Terms} {word : ℕ → ℕ} {took pushed : Mail} {r : Reactor} → Runs t word took pushed r → List (ℕ × LinkWrite)
writes_in run = done_in writes_at run
