-- The counts of a connection stay below what 64 and 128 bits hold, so they are counted on without an end.
use Rattle.std.specs.Prelude.{◌≡◌, ℕ, ◌+◌, ◌-◌, ◌<◌, ◌≤◌, ◌^◌, Bool, true, List, [], ◌∷◌, Option, Some, None}
use Rattle.sw_lists.specs.Lists.{collect, Each}
use Rattle.sw_lists.specs.Numbers.{Distinct}
use Rattle.sw_conn.specs.declared.conn.Phase.{Phase}
use Rattle.sw_conn.specs.declared.conn.Phase.TheVariants.{Coming, Open, Closing}
use Rattle.sw_conn.specs.Causes.{is_packet_event}
use Rattle.sw_record.specs.Words.{Event, Connect, Packet, Closed, Finish, Task}
use Rattle.sw_past.specs.Messages.{Message, FreshMsg, SendMsg, CloseMsg, ResetMsg, Bye, EventMsg, OverMsg, NoMore}
use Rattle.sw_reactor_table.specs.Conn.{Conn}
use Rattle.sw_reactor_table.specs.Reactor.{Reactor, Ask, Take, Push, Nothing, Rest, Finished, all}
use Rattle.sw_reactor_table.specs.Quiet.{IsOf, session_in}

-- an event may be noted: Connect and Closed once each, and a packet as long as there are numbers
abbrev pub MayNote : Phase → ℕ → Event → Type 0
MayNote phase n (Connect s) = phase ≡ Coming
MayNote phase n (Packet s i b) = n < 2 ^ 64 - 1
MayNote phase n (Closed s) = phase ≡ Open
MayNote phase n (Finish id b) = ⊥
MayNote phase n (Task w id b) = ⊥

-- what is held may be noted
abbrev pub HeldMay : Phase → ℕ → Option (ℕ × Event) → Type 0
HeldMay phase n None = Unit {0}
HeldMay phase n (Some h) = MayNote phase n h.1

-- how many events that aren't packets were noted
abbrev pub opened : Phase → ℕ
opened Coming = 0
opened Open = 1
opened Closing = 2

-- a connection's counts are in bounds
abbrev pub IsSmall : Conn → Type 0
IsSmall c = (c.dispatched ≤ 2 ^ 64 - 1) × (c.awaited ≤ c.dispatched + opened c.phase) × HeldMay c.phase c.dispatched c.held

-- the event of the push that is asked for can be noted, where it is this connection's
abbrev pub CanNoteMsg : Message → Conn → Type 0
CanNoteMsg (EventMsg e) c = IsOf c.session e → (is_packet_event e ≡ true → c.dispatched < 2 ^ 64 - 1) × (c.awaited < 2 ^ 128 - 1)
CanNoteMsg (FreshMsg ip s) c = Unit {0}
CanNoteMsg (SendMsg s b) c = Unit {0}
CanNoteMsg (CloseMsg s) c = Unit {0}
CanNoteMsg (ResetMsg s) c = Unit {0}
CanNoteMsg (Bye s) c = Unit {0}
CanNoteMsg (OverMsg id) c = Unit {0}
CanNoteMsg NoMore c = Unit {0}

-- of each ask
abbrev pub CanNote : Ask → Conn → Type 0
CanNote (Push w m) c = CanNoteMsg m c
CanNote Take c = Unit {0}
CanNote Nothing c = Unit {0}
CanNote Rest c = Unit {0}
CanNote Finished c = Unit {0}

-- where a reactor stands between its turns: no two connections have one session, and the count of each goes on
pub record InBounds (r : Reactor) : Type 0 where
  pub distinct : Distinct (collect session_in (all r))
  pub notes : Each (CanNote r.last) (all r)
