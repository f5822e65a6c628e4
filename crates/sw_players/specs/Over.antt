-- Whether what an actor asked for is its last.
use Rattle.std.specs.Prelude.{Bool, true, false}
use Rattle.sw_data.specs.declared.messages.Ask.{Ask}
use Rattle.sw_data.specs.declared.messages.Ask.TheVariants as asks

-- an actor that asked for nothing more is finished
abbrev pub is_over : {M : Type 0} → Ask M → Bool
is_over asks.Take = false
is_over (asks.Push to m) = false
is_over asks.Nothing = false
is_over asks.Rest = false
is_over asks.Finished = true
