-- What a user relies on, of the record that is printed.
use Rattle.std.specs.Prelude.{◌≡◌, ℕ, List, slice_get, Option, Some, None, Ok}
use Rattle.sw_answer.specs.declared.status.Status.{Status}
use Rattle.sw_answer.specs.declared.status.Status.TheVariants as statuses
use Rattle.sw_top.specs.declared.words.Command.{Command}
use Rattle.sw_top.specs.declared.words.Command.TheVariants.{Drill as DrillCommand, Audit, Settings as SettingsCommand, Timers, Dump, Restore}
use Rattle.sw_top.specs.Words.{command_of}
use Rattle.sw_top.specs.Says.{FromSource, FromSink, IsInput, Meant, IsWritten}
use Rattle.sw_play.specs.Rightly.{IsRightText}

-- the text of a drill is such a text, of all that the source gave
abbrev pub IsRightFor : Option Command → FromSource → List ℕ → Type 0
IsRightFor None s text = Unit {0}
IsRightFor (Some DrillCommand) s text = (input : List ℕ) × IsInput s input × IsRightText input text
IsRightFor (Some Audit) s text = Unit {0}
IsRightFor (Some SettingsCommand) s text = Unit {0}
IsRightFor (Some Timers) s text = Unit {0}
IsRightFor (Some Dump) s text = Unit {0}
IsRightFor (Some Restore) s text = Unit {0}

-- at Ok the text that was meant and written is such a text, if the words name a drill
abbrev pub PrintsRight : List (List ℕ) → FromSource → FromSink → Status → Type 0
PrintsRight words s k statuses.Ok = (text : List ℕ) × Meant words s statuses.Ok text × IsRightFor (command_of words) s text × IsWritten k text
PrintsRight words s k (statuses.BadLine n) = Unit {0}
PrintsRight words s k (statuses.Settings fault) = Unit {0}
PrintsRight words s k statuses.InputLong = Unit {0}
PrintsRight words s k (statuses.No at) = Unit {0}
PrintsRight words s k (statuses.Unfit n name) = Unit {0}
PrintsRight words s k statuses.Usage = Unit {0}
PrintsRight words s k statuses.ReadFault = Unit {0}
PrintsRight words s k statuses.WriteFault = Unit {0}
PrintsRight words s k statuses.OutOfMemory = Unit {0}
