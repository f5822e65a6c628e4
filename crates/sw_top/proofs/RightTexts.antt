-- What is written at Ok for a drill is the text of a right record.
use Rattle.std.proofs.Common.{ℕ, List, Option, Some, None}
use Rattle.sw_answer.specs.declared.status.Status.{Status}
use Rattle.sw_answer.specs.declared.status.Status.TheVariants as statuses
use Rattle.sw_play.proofs.Texts.{right_text}
use Rattle.sw_top.specs.Says.{FromSource, FromSink, DueBy, Said}
use Rattle.sw_top.specs.Rightly.{IsRightFor, PrintsRight}
use Rattle.sw_top.specs.declared.words.Command.{Command}
use Rattle.sw_top.specs.declared.words.Command.TheVariants.{Drill as DrillCommand, Audit, Settings as SettingsCommand, Timers, Dump, Restore}
use Rattle.sw_top.specs.Words.{command_of}

right_for : (o : Option Command) (s : FromSource) (text : List ℕ) → DueBy o s statuses.Ok text → IsRightFor o s text
right_for None s text m = tt
right_for (Some DrillCommand) s text m = (m.0, m.1, right_text m.0 text m.2)
right_for (Some Audit) s text m = tt
right_for (Some SettingsCommand) s text m = tt
right_for (Some Timers) s text m = tt
right_for (Some Dump) s text m = tt
right_for (Some Restore) s text m = tt

-- what was written at Ok is such a text, if the words name a drill
pub prints_right : (words : List (List ℕ)) (s : FromSource) (k : FromSink) (result : Status) → Said words s k result → PrintsRight words s k result
prints_right words s k statuses.Ok h = (h.0, h.1, right_for (command_of words) s h.0 h.1, h.2)
prints_right words s k (statuses.BadLine n) h = tt
prints_right words s k (statuses.Settings fault) h = tt
prints_right words s k statuses.InputLong h = tt
prints_right words s k (statuses.No at) h = tt
prints_right words s k (statuses.Unfit n name) h = tt
prints_right words s k statuses.Usage h = tt
prints_right words s k statuses.ReadFault h = tt
prints_right words s k statuses.WriteFault h = tt
prints_right words s k statuses.OutOfMemory h = tt
