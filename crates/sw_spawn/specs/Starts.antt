-- Players on their way.
use Rattle.sw_spawn.specs.declared.apart.Started.{Started}
use Rattle.sw_spawn.specs.declared.apart.Started.TheVariants.{Running, Refused}
use Rattle.sw_spawn.specs.declared.player.Player as Player

module _ {P : Type 0} (g : Player.Ghosts P) where
  -- what a player on its way was made with
  abbrev pub made_by : Started P → g.Made
  made_by (Running h) = g.made h.promise.was.value
  made_by (Refused p) = g.made p
