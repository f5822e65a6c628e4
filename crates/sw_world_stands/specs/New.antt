-- Links on their way were not read or written yet.
use Rattle.sw_step.specs.declared.actor.ActorId.{ActorId}
use Rattle.sw_step.specs.declared.actor.ActorId.TheVariants.{Door, Reactor, Worker, Tasker}
use Rattle.sw_data.specs.declared.messages.Msg.TheVariants as msgs
use Rattle.sw_data.specs.declared.messages.Ask.TheVariants as asks
use Rattle.sw_data.specs.declared.messages.Got.TheVariants as gots
use Rattle.sw_link.specs.MemoryNets.{IsNew}
use Rattle.sw_past.specs.Messages.{Message, FreshMsg, SendMsg, CloseMsg, ResetMsg, Bye, EventMsg, OverMsg, NoMore}
use Rattle.sw_world_places.specs.Pipes.{Sent, Asking, Getting}
use Rattle.sw_world_places.specs.declared.place.Next.{Next}
use Rattle.sw_world_places.specs.declared.place.Next.TheVariants as nexts

-- a message carries no link, or a new one
abbrev pub CarriesNew : Sent → Type 0
CarriesNew (msgs.Fresh link ip ticket) = IsNew link
CarriesNew (msgs.Send s b) = Unit {0}
CarriesNew (msgs.Close s) = Unit {0}
CarriesNew (msgs.Reset s) = Unit {0}
CarriesNew (msgs.Bye s) = Unit {0}
CarriesNew (msgs.Event e) = Unit {0}
CarriesNew (msgs.Over id) = Unit {0}
CarriesNew msgs.NoMore = Unit {0}

-- it carries none
abbrev pub NoLink : Message → Type 0
NoLink (FreshMsg ip s) = ⊥
NoLink (SendMsg s b) = Unit {0}
NoLink (CloseMsg s) = Unit {0}
NoLink (ResetMsg s) = Unit {0}
NoLink (Bye s) = Unit {0}
NoLink (EventMsg e) = Unit {0}
NoLink (OverMsg id) = Unit {0}
NoLink NoMore = Unit {0}

-- what holds of the door alone
abbrev pub OfDoor : ActorId → Type 0 → Type 0
OfDoor Door A = A
OfDoor (Reactor n) A = Unit {0}
OfDoor (Worker n) A = Unit {0}
OfDoor (Tasker n) A = Unit {0}

-- what an actor took is new, and what the door wants to push or got back
abbrev pub GotNew : ActorId → Getting → Type 0
GotNew y gots.Start = Unit {0}
GotNew y (gots.Took m) = CarriesNew m
GotNew y gots.Empty = Unit {0}
GotNew y gots.Pushed = Unit {0}
GotNew y (gots.Full m) = OfDoor y (CarriesNew m)
GotNew y gots.Nothing = Unit {0}

abbrev pub AskNew : ActorId → Asking → Type 0
AskNew y asks.Take = Unit {0}
AskNew y (asks.Push to m) = OfDoor y (CarriesNew m)
AskNew y asks.Nothing = Unit {0}
AskNew y asks.Rest = Unit {0}
AskNew y asks.Finished = Unit {0}

abbrev pub NextNew : ActorId → Next → Type 0
NextNew y (nexts.Asked ask) = AskNew y ask
NextNew y (nexts.Gave got) = GotNew y got
