-- The command that words name.
use Rattle.std.specs.Prelude.{ℕ, List, [], ◌∷◌, codes, Option, Some, None, if◌then◌else◌}
use Rattle.std.specs.Str.{bytes_eq}
use Rattle.sw_top.specs.declared.words.Command.{Command}
use Rattle.sw_top.specs.declared.words.Command.TheVariants.{Drill, Audit, Settings, Timers, Dump, Restore}

-- the command of this name
abbrev pub named : List ℕ → Option Command
named word = if bytes_eq word (codes "drill") then Some Drill else if bytes_eq word (codes "audit") then Some Audit else if bytes_eq word (codes "settings") then Some Settings else if bytes_eq word (codes "timers") then Some Timers else if bytes_eq word (codes "dump") then Some Dump else if bytes_eq word (codes "restore") then Some Restore else None

-- the command that the words name: they are its name alone
abbrev pub command_of : List (List ℕ) → Option Command
command_of [] = None
command_of (w ∷ []) = named w
command_of (w ∷ v ∷ ws) = None
