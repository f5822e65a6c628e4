-- Why a text is no script.
use Rattle.std.specs.Prelude.{◌≡◌, ℕ, List, Err}
use Rattle.sw_script.specs.declared.reading.ScriptFault.{ScriptFault}
use Rattle.sw_script.specs.declared.reading.ScriptFault.TheVariants.{BadLine, OutOfMemory}
use Rattle.sw_script.specs.Script.{script_of}

-- the number is that of the first line out of the grammar; want of memory may come at any text
abbrev pub IsFault : List ℕ → ScriptFault → Type 0
IsFault text (BadLine n) = script_of text ≡ Err n
IsFault text OutOfMemory = Unit {0}
