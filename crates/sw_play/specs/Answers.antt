-- What the text of a drill is answered.
use Rattle.std.specs.Prelude.{◌≡◌, ℕ, List, Option, Some, None, Result, Ok, Err}
use Rattle.sw_answer.specs.declared.refusal.Refusal.{Refusal}
use Rattle.sw_answer.specs.declared.refusal.Refusal.TheVariants.{Line, Settings, Place, Unfit}
use Rattle.sw_settings.specs.declared.pair.Pair.{Pair}
use Rattle.sw_settings.specs.declared.faults.SettingsFault.{SettingsFault}
use Rattle.sw_settings.specs.declared.values.Values.{Values}
use Rattle.sw_settings.specs.Values.{values_of}
use Rattle.sw_settings.specs.Faults.{fault_of}
use Rattle.sw_script.specs.declared.script.Script.{Script}
use Rattle.sw_schedule.specs.declared.schedule.Line.{Line as Lines}
use Rattle.sw_schedule.specs.declared.schedule.Schedule.{Schedule}
use Rattle.sw_schedule.specs.Draft.{schedule_of}
use Rattle.sw_play.specs.Drilled.{IsRun}

-- the pairs are settings, or are refused for their first fault
abbrev pub IsSettled : List Pair → Result Values SettingsFault → Type 0
IsSettled ps (Ok v) = (fault_of ps ≡ None) × (v ≡ values_of ps)
IsSettled ps (Err fault) = fault_of ps ≡ Some fault

-- what is written for a run is the text of its record
abbrev pub IsWritten : Script → Values → List Lines → Result (List ℕ) Refusal → Type 0
IsWritten s v lines (Ok text) = IsRun s v lines text
IsWritten s v lines (Err refusal) = ⊥

-- a schedule is refused for the first fault of its settings, and without one answered by the text of the record of its run
abbrev pub AnswersFor : Schedule → Result (List ℕ) Refusal → Type 0
AnswersFor s (Ok text) = (fault_of s.pairs ≡ None) × IsRun s.script (values_of s.pairs) s.lines text
AnswersFor s (Err (Settings fault)) = fault_of s.pairs ≡ Some fault
AnswersFor s (Err (Line n)) = ⊥
AnswersFor s (Err (Place at)) = ⊥
AnswersFor s (Err (Unfit n name)) = ⊥

abbrev pub AnswersBy : Result Schedule ℕ → Result (List ℕ) Refusal → Type 0
AnswersBy (Ok s) r = AnswersFor s r
AnswersBy (Err n) r = r ≡ Err (Line n)

-- what is written for a text, or why it is refused: a line out of the grammar comes before any fault of the settings
abbrev pub Answers : List ℕ → Result (List ℕ) Refusal → Type 0
Answers input r = AnswersBy (schedule_of input) r
