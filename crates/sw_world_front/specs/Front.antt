-- The front's calls, by what the door does over the plain ports.
use Rattle.std.specs.Prelude.{◌≡◌, ℕ, Bool, true, false, Option, Some, None, Result}
use Rattle.sw_data.specs.declared.ended.Cause.{Cause}
use Rattle.sw_data.specs.declared.ended.Cause.TheVariants as causes
use Rattle.sw_data.specs.declared.ended.Ended.{Ended}
use Rattle.sw_data.specs.declared.messages.Msg.TheVariants as msgs
use Rattle.sw_data.specs.declared.messages.Ask.TheVariants as asks
use Rattle.sw_data.specs.declared.messages.Got.TheVariants as gots
use Rattle.sw_link.specs.declared.memory_link.MemoryLink.{MemoryLink}
use Rattle.sw_link.specs.Memory.{new_link}
use Rattle.sw_link.specs.MemoryNets.{Plan, AcceptsBy, with_link, closed}
use Rattle.sw_port_book.specs.declared.answers.ClaimFault.{ClaimFault}
use Rattle.sw_port_book.specs.Plain.{Words, plain_claim}
use Rattle.sw_port_board.specs.PlainBoard.{PlainWords, PlainGoes}
use Rattle.sw_door.specs.declared.door.Door.{Door}
use Rattle.sw_door.specs.Door.{GoesOn, Turns}
use Rattle.sw_world_places.specs.Pipes.{Sent, Asking, Getting}
use Rattle.sw_world_places.specs.Links.{Arrivals, with_come, accepted}
use Rattle.sw_world_places.specs.declared.arrived.Claimed.{Claimed}
use Rattle.sw_world_places.specs.declared.arrived.Claimed.TheVariants.{Drew, NoSlot, NumbersSpent}
use Rattle.sw_world_front.specs.declared.front.Front.{Front}

-- a claim of the plain book, and ends that keep the cause alone
abbrev pub claim_gives : Words → Result ℕ ClaimFault → Words → Type 0
claim_gives b answer c = (answer ≡ (plain_claim b).answer) × (c ≡ (plain_claim b).words)

abbrev pub put_gives : Option Cause → MemoryLink → Ended → Bool → Option Cause → Type 0
put_gives last link ended kept next = (kept ≡ true) × (next ≡ Some ended.cause)

-- a turn of the door over the plain ports, and one in which nothing came back
abbrev pub PlainGoesOn : Door → Plan → Words → PlainWords → Option Cause → Door → Plan → Words → PlainWords → Option Cause → Asking → Type 0
PlainGoesOn d n b o f e m c p g ask = GoesOn AcceptsBy claim_gives (λ (k : ℕ). k) PlainGoes put_gives d n b o f e m c p g ask

abbrev pub PlainTurns : Door → Plan → Words → PlainWords → Option Cause → Getting → Door → Plan → Words → PlainWords → Option Cause → Asking → Type 0
PlainTurns d n b o f got e m c p g ask = Turns AcceptsBy claim_gives (λ (k : ℕ). k) PlainGoes put_gives d n b o f got e m c p g ask

-- the session of a link that is pushed
abbrev pub session_of : Sent → Option ℕ
session_of (msgs.Fresh link ip ticket) = Some ticket
session_of (msgs.Send s bytes) = None
session_of (msgs.Close s) = None
session_of (msgs.Reset s) = None
session_of (msgs.Bye s) = None
session_of (msgs.Event e) = None
session_of (msgs.Over id) = None
session_of msgs.NoMore = None

abbrev pub session_in : Asking → Option ℕ
session_in asks.Take = None
session_in (asks.Push to m) = session_of m
session_in asks.Nothing = None
session_in asks.Rest = None
session_in asks.Finished = None

-- what a link's claim answered, by the cause of its end
abbrev pub claim_of_cause : Cause → Option Claimed
claim_of_cause causes.NoSlot = Some NoSlot
claim_of_cause causes.NumbersSpent = Some NumbersSpent
claim_of_cause _ = None

abbrev pub cause_claim : Option Cause → Option Claimed
cause_claim (Some cause) = claim_of_cause cause
cause_claim None = None

-- what a claim answered: its link's session is pushed with it, or its cause is known
abbrev pub claim_by : Option ℕ → Option Cause → Option Claimed
claim_by (Some s) last = Some (Drew s)
claim_by None last = cause_claim last

-- a message came back
abbrev pub is_full : Getting → Bool
is_full (gots.Full m) = true
is_full gots.Start = false
is_full (gots.Took m) = false
is_full gots.Empty = false
is_full gots.Pushed = false
is_full gots.Nothing = false

-- then its link is no new one
abbrev pub claim_if : Bool → Option Claimed → Option Claimed
claim_if true claim = None
claim_if false claim = claim

-- what the claim of a turn answered, if there was one
abbrev pub claim_in : Getting → Asking → Option Cause → Option Claimed
claim_in got ask last = claim_if (is_full got) (claim_by (session_in ask) last)

-- the next link was accepted, where there was a claim
abbrev pub accepted_if : Option Claimed → Arrivals → Arrivals
accepted_if None a = a
accepted_if (Some c) a = accepted c a

-- a link arrives at the net, and has the next number
abbrev pub arrived : ℕ → Front → Front
arrived ip f = record f { net = with_link new_link ip f.net; links = with_come ip f.links }

-- no more links arrive
abbrev pub net_ended : Front → Front
net_ended f = record f { net = closed f.net }

-- a turn of the door: the link that it accepted has its claim's answer then, and nothing is left in its ends
abbrev pub TurnsFront : Front → Words → PlainWords → Getting → Front → Words → PlainWords → Asking → Type 0
TurnsFront f b o got h c q ask =
    (last : Option Cause) × (PlainTurns f.door f.net b o f.refusals got h.door h.net c q last ask
    × (h.refusals ≡ None) × (h.links ≡ accepted_if (claim_in got ask last) f.links))
