-- The parts of a serve, in their order, by what the connection's link and cutter answer.
use Rattle.std.specs.Prelude.{◌≡◌, ℕ, ◌==◌, ◌^◌, ◌-◌, nat_lt, Bool, true, false, if◌then◌else◌, List, Option, Some, None}
use Rattle.std.specs.Bool.{MatchBool}
use Rattle.sw_data.specs.declared.ended.Cause.{Cause}
use Rattle.sw_data.specs.declared.ended.Cause.TheVariants as causes
use Rattle.sw_data.specs.declared.events.Event.{Event}
use Rattle.sw_data.specs.declared.events.Event.TheVariants.{Connect, Packet, Closed}
use Rattle.sw_frame.specs.declared.next.Next.{Next}
use Rattle.sw_frame.specs.declared.next.Next.TheVariants as next
use Rattle.sw_frame.specs.Cutting.{next_of, after, IsAnswer}
use Rattle.sw_link.specs.declared.link.LinkWrite.{LinkWrite}
use Rattle.sw_link.specs.Reads.{Read}
use Rattle.sw_conn.specs.declared.conn.Conn.{Conn}
use Rattle.sw_conn.specs.declared.conn.Phase.{Phase}
use Rattle.sw_conn.specs.declared.conn.Phase.TheVariants.{Coming, Open, Closing}
use Rattle.sw_conn.specs.declared.serve.Step.{Step}
use Rattle.sw_conn.specs.declared.serve.Step.TheVariants.{Again, Tell, Read as ReadMore, Moved, Stay, Leave}
use Rattle.sw_conn.specs.declared.terms.Terms.{Terms}
use Rattle.sw_conn.specs.Modes.{bound}
use Rattle.sw_conn.specs.Causes.{is_hard}
use Rattle.sw_conn.specs.Conn.{wrote, has_unsent, may_write, read_by}

-- point 1: the write, where there is one, and what it leaves of the connection
abbrev pub FlushedBy : {L K : Type 0} → (L → List ℕ → LinkWrite → L → Type 0) → Conn L K → Option LinkWrite → Conn L K → Type 0
FlushedBy gives c None d = (may_write c ≡ false) × (d ≡ c)
FlushedBy gives c (Some w) d = (may_write c ≡ true) × gives c.link c.unsent w d.link × (d ≡ record (wrote w c) { link = d.link })

-- a read came to this, with memory for the cutter or without
abbrev pub ReadsBy : {L K : Type 0} → (L → ℕ → Read → L → Type 0) → ℕ → Conn L K → Read → Conn L K → Type 0
ReadsBy gives room c r d = gives c.link room r d.link × ((starved : Bool) × (d ≡ record (read_by starved r c) { link = d.link }))

-- Connect is still to be pushed, and Closed
abbrev pub connects : Terms → Phase → Bool
connects t Coming = bound t.mode
connects t Open = false
connects t Closing = false

abbrev pub closes : Terms → Phase → Bool
closes t Coming = bound t.mode
closes t Open = bound t.mode
closes t Closing = false

-- nothing is awaited, and after a soft cause all is written
abbrev pub can_leave : {L K : Type 0} → Conn L K → Bool
can_leave c = if c.awaited == 0 then (if is_hard c.cause then true else (if has_unsent c.unsent then false else true)) else false

-- what a serve comes to
pub record Chosen (L K : Type 0) : Type 0 where
  pub conn : Conn L K
  pub step : Step

-- points 4 to 6, by the cutter's answer
abbrev pub cut_by : {L K : Type 0} → Next → Conn L K → Chosen L K
cut_by (next.Packet b) c = record { conn = record c { cutter = after c.cutter (next.Packet b) }; step = Tell (Packet c.session c.dispatched b) }
cut_by next.More c = record { conn = c; step = ReadMore }
cut_by (next.TooLong n) c = record { conn = record c { cause = Some (causes.TooLong n) }; step = Moved }
cut_by (next.BadLength n) c = record { conn = record c { cause = Some (causes.BadLength n) }; step = Moved }
cut_by next.OutOfMemory c = record { conn = record c { cause = Some causes.NoMemory }; step = Moved }

abbrev pub Cuts : {L K : Type 0} → Conn L K → Conn L K → Step → Type 0
Cuts c d step = (n : Next) × IsAnswer (next_of c.cutter) n × (d ≡ (cut_by n c).conn) × (step ≡ (cut_by n c).step)

-- points 7 to 9
abbrev pub ended_by : {L K : Type 0} → Terms → Conn L K → Cause → Step
ended_by t c e = if closes t c.phase then Tell (Closed c.session) else (if can_leave c then Leave e else Stay)

abbrev pub ChoosesCause : {L K : Type 0} → Terms → Option Cause → Conn L K → Conn L K → Step → Type 0
ChoosesCause t None c d step = MatchBool (nat_lt c.dispatched (2 ^ 64 - 1)) (Cuts c d step) ((d ≡ c) × (step ≡ Stay))
ChoosesCause t (Some e) c d step = (d ≡ c) × (step ≡ ended_by t c e)

-- point 3
abbrev pub ChoosesOpen : {L K : Type 0} → Terms → Conn L K → Conn L K → Step → Type 0
ChoosesOpen t c d step = MatchBool (connects t c.phase) ((d ≡ c) × (step ≡ Tell (Connect c.session))) (ChoosesCause t c.cause c d step)

-- point 2
abbrev pub ChoosesHeld : {L K : Type 0} → Terms → Option (ℕ × Event) → Conn L K → Conn L K → Step → Type 0
ChoosesHeld t None c d step = ChoosesOpen t c d step
ChoosesHeld t (Some h) c d step = (d ≡ record c { held = None }) × (step ≡ Again h.0 h.1)

-- points 2 to 9: what comes next
abbrev pub Chooses : {L K : Type 0} → Terms → Conn L K → Conn L K → Step → Type 0
Chooses t c d step = ChoosesHeld t c.held c d step
