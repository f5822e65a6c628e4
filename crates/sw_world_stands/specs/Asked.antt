-- What the code's actors ask of the pipes and get from them, as the world has it.
use Rattle.std.specs.Prelude.{ℕ}
use Rattle.sw_data.specs.declared.messages.Ask.TheVariants as asks
use Rattle.sw_data.specs.declared.messages.Got.TheVariants as gots
use Rattle.sw_past.specs.Messages.{Message, message_of}
use Rattle.sw_world_laws.specs.Turns.{Ask, AskTake, AskPush, AskNothing, AskRest, AskFinished, Got, GotStart, GotTook, GotEmpty, GotPushed, GotFull, GotNothing}
use Rattle.sw_world_laws.specs.World.{Pending, Waits, Gave}
use Rattle.sw_world_places.specs.Pipes.{Sent, Asking, Getting}
use Rattle.sw_world_places.specs.Places.{actor_of}
use Rattle.sw_world_places.specs.declared.place.Next.{Next}
use Rattle.sw_world_places.specs.declared.place.Next.TheVariants as nexts

-- a message: a ticket is its session's number
abbrev pub bare_of : Sent → Message
bare_of m = message_of (λ (k : ℕ). k) m

abbrev pub ask_of : Asking → Ask
ask_of asks.Take = AskTake
ask_of (asks.Push target m) = AskPush (actor_of target) (bare_of m)
ask_of asks.Nothing = AskNothing
ask_of asks.Rest = AskRest
ask_of asks.Finished = AskFinished

abbrev pub got_of : Getting → Got
got_of gots.Start = GotStart
got_of (gots.Took m) = GotTook (bare_of m)
got_of gots.Empty = GotEmpty
got_of gots.Pushed = GotPushed
got_of (gots.Full m) = GotFull (bare_of m)
got_of gots.Nothing = GotNothing

abbrev pub next_of : Next → Pending
next_of (nexts.Asked ask) = Waits (ask_of ask)
next_of (nexts.Gave got) = Gave (got_of got)
