-- What causes are, and which of them drop a held packet.
use Rattle.std.specs.Prelude.{ℕ, Bool, true, false, Option, Some, None}
use Rattle.sw_data.specs.declared.ended.Cause.{Cause}
use Rattle.sw_data.specs.declared.ended.Cause.TheVariants.{PeerEnd, ServerClose, Reset, ReadFault, WriteFault, TooLong, BadLength, Overflow, Stop, NoSlot, NumbersSpent, NoMemory}
use Rattle.sw_data.specs.declared.events.Event.{Event}
use Rattle.sw_data.specs.declared.events.Event.TheVariants.{Connect, Packet, Closed, Finish, Task}

-- causes after which nothing more is written
abbrev pub hard : Cause → Bool
hard PeerEnd = false
hard ServerClose = false
hard Reset = true
hard ReadFault = false
hard WriteFault = true
hard (TooLong n) = false
hard (BadLength n) = false
hard (Overflow n) = true
hard Stop = true
hard NoSlot = false
hard NumbersSpent = false
hard NoMemory = true

abbrev pub is_hard : Option Cause → Bool
is_hard None = false
is_hard (Some e) = hard e

-- a close and a hard cause drop a held packet
abbrev pub drops : Option Cause → Bool
drops None = false
drops (Some ServerClose) = true
drops (Some e) = hard e

abbrev pub is_packet_event : Event → Bool
is_packet_event (Connect s) = false
is_packet_event (Packet s i b) = true
is_packet_event (Closed s) = false
is_packet_event (Finish id b) = false
is_packet_event (Task w id b) = false

-- a packet is held
abbrev pub is_packet : Option (ℕ × Event) → Bool
is_packet None = false
is_packet (Some h) = is_packet_event h.1
