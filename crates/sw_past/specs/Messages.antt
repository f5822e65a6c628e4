-- Messages as histories have them: a link that comes is its address and its session.
use Rattle.std.specs.Prelude.{ℕ, List}
use Rattle.sw_data.specs.declared.messages.Msg.{Msg}
use Rattle.sw_data.specs.declared.messages.Msg.TheVariants.{Fresh, Send as SendIn, Close as CloseIn, Reset as ResetIn, Bye as ByeIn, Event as EventIn, Over as OverIn, NoMore as NoMoreIn}
use Rattle.sw_record.specs.Words.{Event}

-- a message of a pipe, in a history
pub data Message : Type 0 where
  -- a link that comes, by its address and its session
  FreshMsg : ℕ → ℕ → Message
  SendMsg : ℕ → List ℕ → Message
  CloseMsg : ℕ → Message
  ResetMsg : ℕ → Message
  Bye : ℕ → Message
  EventMsg : Event → Message
  OverMsg : ℕ → Message
  NoMore : Message

-- a message of the pipes as histories have it, by the session of a ticket
abbrev pub message_of : {L K : Type 0} → (K → ℕ) → Msg L K → Message
message_of number (Fresh link ip ticket) = FreshMsg ip (number ticket)
message_of number (SendIn s b) = SendMsg s b
message_of number (CloseIn s) = CloseMsg s
message_of number (ResetIn s) = ResetMsg s
message_of number (ByeIn s) = Bye s
message_of number (EventIn e) = EventMsg e
message_of number (OverIn id) = OverMsg id
message_of number NoMoreIn = NoMore
