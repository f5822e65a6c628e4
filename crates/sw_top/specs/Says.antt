-- What each status says of what was read and written.
use Rattle.std.specs.Prelude.{◌≡◌, ℕ, ◌≤◌, ◌<◌, List, codes, length, take, Option, Some, None, Bool, true, Result, Ok, Err, ◌⊎◌}
use Rattle.std.specs.Io.KnownBytes.{Consumes, Appends, IsAtEnd}
use Rattle.sw_causes.specs.Causes.{Rises}
use Rattle.sw_causes.specs.Whole.{Came, IsLong, limit}
use Rattle.sw_audit.specs.declared.verdict.Verdict.TheVariants as verdicts
use Rattle.sw_audit.specs.declared.verdict.AuditFault.TheVariants as faults
use Rattle.sw_audit.specs.Verdicts.{IsAudit}
use Rattle.sw_audit.specs.Printing.{verdict_text}
use Rattle.sw_audit.specs.Finals.{IsFinalState}
use Rattle.sw_tmodel.specs.Plain.{PlainTable}
use Rattle.sw_dump.specs.Restores.{IsRestored}
use Rattle.sw_dump.specs.declared.fault.RestoreFault.TheVariants as unfits
use Rattle.sw_top.specs.declared.words.Command.{Command}
use Rattle.sw_top.specs.declared.words.Command.TheVariants.{Drill as DrillCommand, Audit, Settings as SettingsCommand, Timers, Dump, Restore}
use Rattle.sw_top.specs.Words.{command_of}
use Rattle.sw_top.specs.Answering.{Answers}
use Rattle.sw_answer.specs.declared.refusal.Refusal.{Refusal}
use Rattle.sw_answer.specs.Refusals.{line_text, settings_text, unfit_text}
use Rattle.sw_settings.specs.Faults.{fault_of}
use Rattle.sw_answer.specs.declared.refusal.Refusal.TheVariants.{Line, Settings, Place, Unfit}
use Rattle.sw_settings.specs.declared.faults.SettingsFault.{SettingsFault}
use Rattle.sw_settings.specs.declared.values.Values.{Values}
use Rattle.sw_settings_json.specs.Json.{json_settings}
use Rattle.sw_schedule.specs.declared.schedule.Schedule.{Schedule}
use Rattle.sw_text.specs.Parts.{lines_of}
use Rattle.sw_timers_text.specs.declared.line.Line.{Line as TimerLine}
use Rattle.sw_timers_text.specs.Grammar.{lines_from}
use Rattle.sw_schedule.specs.Draft.{schedule_of}
use Rattle.sw_answer.specs.declared.status.Status.{Status}
use Rattle.sw_answer.specs.declared.status.Status.TheVariants as statuses
use Rattle.sw_top.specs.declared.command.Outcome.{Outcome}
use Rattle.sw_top.specs.declared.command.Outcome.TheVariants as outcomes

-- ---- the source

-- what a call saw of its source
pub record FromSource : Type 0 where
  pub left : Option (List ℕ)
  pub left_new : Option (List ℕ)
  pub faults : ℕ
  pub faults_new : ℕ
  pub ended : Bool

-- all that the source gave, to its end
pub record IsInput (s : FromSource) (input : List ℕ) : Type 0 where
  pub came : Consumes s.left s.left_new input
  pub all : IsAtEnd s.left_new
  pub within : length input ≤ limit
  pub ended : s.ended ≡ true

-- what comes of an input that was read whole
abbrev pub IsOutcome : Command → List ℕ → Outcome → Type 0
IsOutcome c input (outcomes.Done text) = Answers c input (Ok text)
IsOutcome c input (outcomes.Refused refusal) = Answers c input (Err refusal)
IsOutcome c input outcomes.Long = ⊥
IsOutcome c input outcomes.Fault = ⊥
IsOutcome c input outcomes.Memory = Unit {0}

-- all that the source gave is answered so
abbrev pub IsAnswered : Command → FromSource → Result (List ℕ) Refusal → Type 0
IsAnswered c s r = (input : List ℕ) × IsInput s input × Answers c input r

abbrev pub Comes : Command → FromSource → Outcome → Type 0
Comes c s (outcomes.Done text) = IsAnswered c s (Ok text)
Comes c s (outcomes.Refused refusal) = IsAnswered c s (Err refusal)
Comes c s outcomes.Long = Came s.left s.left_new IsLong
Comes c s outcomes.Fault = Came s.left s.left_new (λ n. n ≤ limit) × Rises s.faults s.faults_new
Comes c s outcomes.Memory = Unit {0}

-- ---- the sink

-- what a call saw of its sink
pub record FromSink : Type 0 where
  pub taken : Option (List ℕ)
  pub taken_new : Option (List ℕ)
  pub faults : ℕ
  pub faults_new : ℕ

abbrev pub IsWritten : FromSink → List ℕ → Type 0
IsWritten k text = Appends k.taken k.taken_new text

-- a true beginning of the text was written, and the sink failed
abbrev pub IsCut : FromSink → List ℕ → Type 0
IsCut k text = ((n : ℕ) × (n < length text) × IsWritten k (take n text)) × Rises k.faults k.faults_new

-- a fault of the sink stands in place of any other status but OutOfMemory
abbrev pub cut_status : Status → Status
cut_status statuses.Ok = statuses.WriteFault
cut_status (statuses.BadLine n) = statuses.WriteFault
cut_status (statuses.Settings fault) = statuses.WriteFault
cut_status statuses.InputLong = statuses.WriteFault
cut_status (statuses.No at) = statuses.WriteFault
cut_status (statuses.Unfit n name) = statuses.WriteFault
cut_status statuses.Usage = statuses.WriteFault
cut_status statuses.ReadFault = statuses.WriteFault
cut_status statuses.WriteFault = statuses.WriteFault
cut_status statuses.OutOfMemory = statuses.OutOfMemory

-- a text was written for this status, or not all of it
abbrev pub Finishes : FromSink → Status → List ℕ → Status → Type 0
Finishes k status text result = ((result ≡ status) × IsWritten k text) ⊎ ((result ≡ cut_status status) × IsCut k text)

-- ---- all together

-- the status and the text that are right for a command and what the source gave
abbrev pub Due : Command → FromSource → Status → List ℕ → Type 0
Due c s statuses.Ok text = IsAnswered c s (Ok text)
Due c s (statuses.BadLine n) text = IsAnswered c s (Err (Line n)) × (text ≡ line_text n)
Due c s (statuses.Settings fault) text = IsAnswered c s (Err (Settings fault)) × (text ≡ settings_text fault)
Due c s statuses.InputLong text = Came s.left s.left_new IsLong × (text ≡ codes "fault long\n")
Due c s (statuses.No at) text = IsAnswered c s (Err (Place at)) × (text ≡ verdict_text (verdicts.No at))
Due c s (statuses.Unfit n name) text = IsAnswered c s (Err (Unfit n name)) × (text ≡ unfit_text n name)
Due c s statuses.Usage text = ⊥
Due c s statuses.ReadFault text = Came s.left s.left_new (λ n. n ≤ limit) × Rises s.faults s.faults_new × (text ≡ codes "fault read\n")
Due c s statuses.WriteFault text = ⊥
Due c s statuses.OutOfMemory text = text ≡ codes "fault memory\n"

-- words that name no command are Usage, whatever the source gives
abbrev pub DueBy : Option Command → FromSource → Status → List ℕ → Type 0
DueBy None s status text = (status ≡ statuses.Usage) × (text ≡ codes "fault usage\n")
DueBy (Some c) s status text = Due c s status text

-- the status and the text that are right for the words and what the source gave
abbrev pub Meant : List (List ℕ) → FromSource → Status → List ℕ → Type 0
Meant words s status text = DueBy (command_of words) s status text

-- what was done for a command, or without one: a status and a text that are right, and they were answered and written
abbrev pub DoesBy : Option Command → FromSource → FromSink → Status → Type 0
DoesBy c s k result = (status : Status) × (text : List ℕ) × DueBy c s status text × Finishes k status text result

-- what each answer says of the words, of what came, and of what was written
abbrev pub Said : List (List ℕ) → FromSource → FromSink → Status → Type 0
Said words s k statuses.Ok = (text : List ℕ) × Meant words s statuses.Ok text × IsWritten k text
Said words s k (statuses.BadLine n) = (text : List ℕ) × Meant words s (statuses.BadLine n) text × IsWritten k text
Said words s k (statuses.Settings fault) = (text : List ℕ) × Meant words s (statuses.Settings fault) text × IsWritten k text
Said words s k statuses.InputLong = (text : List ℕ) × Meant words s statuses.InputLong text × IsWritten k text
Said words s k (statuses.No at) = (text : List ℕ) × Meant words s (statuses.No at) text × IsWritten k text
Said words s k (statuses.Unfit n name) = (text : List ℕ) × Meant words s (statuses.Unfit n name) text × IsWritten k text
Said words s k statuses.Usage = (text : List ℕ) × Meant words s statuses.Usage text × IsWritten k text
Said words s k statuses.ReadFault = (text : List ℕ) × Meant words s statuses.ReadFault text × IsWritten k text
Said words s k statuses.WriteFault = (status : Status) × (text : List ℕ) × Meant words s status text × IsCut k text
Said words s k statuses.OutOfMemory = (text : List ℕ) × Meant words s statuses.OutOfMemory text × (IsWritten k text ⊎ IsCut k text)

abbrev pub expected_by : Option SettingsFault → Status
expected_by None = statuses.Ok
expected_by (Some fault) = statuses.Settings fault

-- the status of the text of a drill that was read whole
abbrev pub expected : Result Schedule ℕ → Status
expected (Ok s) = expected_by (fault_of s.pairs)
expected (Err n) = statuses.BadLine n

-- the status of a trace that was read whole: that of its verdict, or of its first line out of the grammar
abbrev pub Judged : List ℕ → Status → Type 0
Judged input statuses.Ok = (n : ℕ) × IsAudit input (Ok (verdicts.Ok n))
Judged input (statuses.BadLine n) = IsAudit input (Err (faults.BadLine n))
Judged input (statuses.Settings fault) = ⊥
Judged input statuses.InputLong = ⊥
Judged input (statuses.No at) = IsAudit input (Ok (verdicts.No at))
Judged input (statuses.Unfit n name) = ⊥
Judged input statuses.Usage = ⊥
Judged input statuses.ReadFault = ⊥
Judged input statuses.WriteFault = ⊥
Judged input statuses.OutOfMemory = ⊥

-- the status of settings in JSON
abbrev pub settings_status : Result Values SettingsFault → Status
settings_status (Ok v) = statuses.Ok
settings_status (Err fault) = statuses.Settings fault

-- the status of lines on timers
abbrev pub timers_status : Result (List TimerLine) ℕ → Status
timers_status (Ok lines) = statuses.Ok
timers_status (Err n) = statuses.BadLine n

-- the status of a trace whose Table is dumped: there is one, or its first line out of the grammar, or its least bad place
abbrev pub Dumped : List ℕ → Status → Type 0
Dumped input statuses.Ok = (p : PlainTable) × IsFinalState input (Ok (Ok p))
Dumped input (statuses.BadLine n) = IsFinalState input (Err (faults.BadLine n))
Dumped input (statuses.Settings fault) = ⊥
Dumped input statuses.InputLong = ⊥
Dumped input (statuses.No at) = IsFinalState input (Ok (Err at))
Dumped input (statuses.Unfit n name) = ⊥
Dumped input statuses.Usage = ⊥
Dumped input statuses.ReadFault = ⊥
Dumped input statuses.WriteFault = ⊥
Dumped input statuses.OutOfMemory = ⊥

-- the status of a dump that is restored: there is a trace, or its first line out of the grammar, or the first that the new columns
-- refuse
abbrev pub Restored : List ℕ → Status → Type 0
Restored input statuses.Ok = (text : List ℕ) × IsRestored input (Ok text)
Restored input (statuses.BadLine n) = IsRestored input (Err (unfits.BadLine n))
Restored input (statuses.Settings fault) = ⊥
Restored input statuses.InputLong = ⊥
Restored input (statuses.No at) = ⊥
Restored input (statuses.Unfit n name) = IsRestored input (Err (unfits.Unfit n name))
Restored input statuses.Usage = ⊥
Restored input statuses.ReadFault = ⊥
Restored input statuses.WriteFault = ⊥
Restored input statuses.OutOfMemory = ⊥

-- the status that the input alone asks for
abbrev pub Expected : Command → List ℕ → Status → Type 0
Expected DrillCommand input status = status ≡ expected (schedule_of input)
Expected Audit input status = Judged input status
Expected SettingsCommand input status = status ≡ settings_status (json_settings input)
Expected Timers input status = status ≡ timers_status (lines_from 1 (lines_of input))
Expected Dump input status = Dumped input status
Expected Restore input status = Restored input status

-- without a fault, an input that isn't too long is answered by its text alone, unless memory runs out
abbrev pub IsComplete : List (List ℕ) → FromSource → FromSink → Status → Type 0
IsComplete words s k result = (c : Command) → command_of words ≡ Some c → (Rises s.faults s.faults_new → ⊥) → (Rises k.faults k.faults_new → ⊥) → (input : List ℕ) → s.left ≡ Some input → length input ≤ limit
    → Expected c input result ⊎ (result ≡ statuses.OutOfMemory)
