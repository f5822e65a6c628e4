-- An actor's place.
use Rattle.std.specs.Prelude.{ℕ}
use Rattle.sw_data.specs.declared.messages.Ask.TheVariants as asks
use Rattle.sw_data.specs.declared.messages.Got.TheVariants as gots
use Rattle.sw_world_places.specs.Pipes.{Pipe, Asking}
use Rattle.sw_world_places.specs.declared.place.Next.{Next}
use Rattle.sw_world_places.specs.declared.place.Next.TheVariants.{Asked, Gave}
use Rattle.sw_world_places.specs.declared.place.Place.{Place}

-- before the first turn
abbrev pub fresh : Pipe → Place
fresh pipe = record { next = Gave gots.Start; inbox = pipe }

-- what stays where what is next was taken out: nothing, or the finish of an actor
abbrev pub ask_left : Asking → Next
ask_left asks.Finished = Asked asks.Finished
ask_left asks.Take = Gave gots.Nothing
ask_left (asks.Push to m) = Gave gots.Nothing
ask_left asks.Nothing = Gave gots.Nothing
ask_left asks.Rest = Gave gots.Nothing

abbrev pub next_left : Next → Next
next_left (Asked ask) = ask_left ask
next_left (Gave got) = Gave gots.Nothing
