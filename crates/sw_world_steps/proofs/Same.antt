-- The words of the bridges for what a turn begins and ends with are one.
use Rattle.std.proofs.Common.{◌≡◌, ℕ, refl, ap}
use Rattle.sw_step.specs.declared.actor.ActorId.{ActorId}
use Rattle.sw_step.specs.declared.actor.ActorId.TheVariants.{Door, Reactor, Worker, Tasker}
use Rattle.sw_data.specs.declared.messages.Ask.TheVariants as asks
use Rattle.sw_data.specs.declared.messages.Got.TheVariants as gots
use Rattle.sw_data.specs.declared.messages.Target.TheVariants as targets
use Rattle.sw_data.specs.declared.messages.Msg.TheVariants as msgs
use Rattle.sw_world_places.specs.Pipes.{Sent, Asking, Getting}
use Rattle.sw_world_stands.specs.Asked.{ask_of, got_of}
use Rattle.sw_world_stands.specs.New.{CarriesNew, OfDoor, GotNew, AskNew}
use Rattle.sw_world_reactor_fits.specs.Plain.{memory_tells, got_of as reactor_got, ask_of as reactor_ask}
use Rattle.sw_reactor_fits.specs.Told.{IsNew, BringsNew}
use Rattle.sw_world_hand_fits.specs.Hands.{world_got, world_asks}
use Rattle.sw_world_steps.specs.Turns.{itself}

-- the reactors'
pub got_reactor : (g : Getting) → reactor_got g ≡ got_of g
got_reactor gots.Start = refl
got_reactor (gots.Took m) = refl
got_reactor gots.Empty = refl
got_reactor gots.Pushed = refl
got_reactor (gots.Full m) = refl
got_reactor gots.Nothing = refl

pub ask_reactor : (a : Asking) → reactor_ask a ≡ ask_of a
ask_reactor asks.Take = refl
ask_reactor (asks.Push (targets.Reactor n) m) = refl
ask_reactor (asks.Push (targets.Worker n) m) = refl
ask_reactor (asks.Push (targets.Tasker n) m) = refl
ask_reactor asks.Nothing = refl
ask_reactor asks.Rest = refl
ask_reactor asks.Finished = refl

-- the hands'
pub got_hand : (g : Getting) → world_got itself g ≡ got_of g
got_hand gots.Start = refl
got_hand (gots.Took m) = refl
got_hand gots.Empty = refl
got_hand gots.Pushed = refl
got_hand (gots.Full m) = refl
got_hand gots.Nothing = refl

pub ask_hand : (a : Asking) → world_asks itself a ≡ ask_of a
ask_hand asks.Take = refl
ask_hand (asks.Push (targets.Reactor n) m) = refl
ask_hand (asks.Push (targets.Worker n) m) = refl
ask_hand (asks.Push (targets.Tasker n) m) = refl
ask_hand asks.Nothing = refl
ask_hand asks.Rest = refl
ask_hand asks.Finished = refl

-- who isn't the door pushes no link
of_other : (y : ActorId) → ¬ (y ≡ Door) → (m : Sent) → OfDoor y (CarriesNew m)
of_other Door ne m = absurd (ne refl)
of_other (Reactor n) ne m = tt
of_other (Worker n) ne m = tt
of_other (Tasker n) ne m = tt

pub ask_other : (y : ActorId) → ¬ (y ≡ Door) → (a : Asking) → AskNew y a
ask_other y ne asks.Take = tt
ask_other y ne (asks.Push to m) = of_other y ne m
ask_other y ne asks.Nothing = tt
ask_other y ne asks.Rest = tt
ask_other y ne asks.Finished = tt

-- a link that was taken is new to its reactor
new_taken : (m : Sent) → CarriesNew m → IsNew memory_tells m
new_taken (msgs.Fresh link ip ticket) new = (new.pieces, new.written)
new_taken (msgs.Send s b) new = tt
new_taken (msgs.Close s) new = tt
new_taken (msgs.Reset s) new = tt
new_taken (msgs.Bye s) new = tt
new_taken (msgs.Event e) new = tt
new_taken (msgs.Over id) new = tt
new_taken msgs.NoMore new = tt

pub brings_new : (y : ActorId) (g : Getting) → GotNew y g → BringsNew memory_tells g
brings_new y gots.Start new = tt
brings_new y (gots.Took m) new = new_taken m new
brings_new y gots.Empty new = tt
brings_new y gots.Pushed new = tt
brings_new y (gots.Full m) new = tt
brings_new y gots.Nothing new = tt
