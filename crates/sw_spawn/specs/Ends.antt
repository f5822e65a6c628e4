-- How a turn ends.
use Rattle.std.specs.Prelude.{Bool, true, false}
use Rattle.sw_spawn.specs.declared.player.Went.{Went}
use Rattle.sw_spawn.specs.declared.player.Went.TheVariants.{Moved, Resting, Finished}

-- the turn was the last
abbrev pub is_end : Went → Bool
is_end Moved = false
is_end Resting = false
is_end Finished = true
