-- Which acts use the bytes of their event.
use Rattle.std.specs.Prelude.{Bool, true, false, List}
use Rattle.std.specs.List.{list_any}
use Rattle.sw_script.specs.declared.bytes.Bytes.{Bytes}
use Rattle.sw_script.specs.declared.bytes.Bytes.TheVariants.{Literal, Data, Tail, Answer}
use Rattle.sw_script.specs.declared.moves.Move.{Move}
use Rattle.sw_script.specs.declared.moves.Move.TheVariants as moves

abbrev pub bytes_use : Bytes → Bool
bytes_use (Literal b) = false
bytes_use Data = true
bytes_use Tail = true
bytes_use Answer = false

abbrev pub move_uses : Move → Bool
move_uses (moves.Send w b) = bytes_use b
move_uses (moves.Close w) = false
move_uses (moves.Reset w) = false
move_uses (moves.Bind w uid) = false
move_uses (moves.Exist w) = false
move_uses (moves.Info w) = false
move_uses (moves.Task dst b) = bytes_use b
move_uses (moves.Finish b) = bytes_use b
move_uses (moves.Keyed v key) = bytes_use key
move_uses moves.Count = false
move_uses (moves.Stats c) = false
move_uses moves.Shutdown = false

-- one of the acts does
abbrev pub moves_use : List Move → Bool
moves_use ms = list_any move_uses ms
