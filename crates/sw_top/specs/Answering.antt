-- What an input is answered under each command.
use Rattle.std.specs.Prelude.{◌≡◌, ℕ, List, Result, Ok, Err}
use Rattle.sw_audit.specs.declared.verdict.Verdict.TheVariants as verdicts
use Rattle.sw_audit.specs.declared.verdict.AuditFault.TheVariants as faults
use Rattle.sw_audit.specs.Verdicts.{IsAudit}
use Rattle.sw_audit.specs.Printing.{verdict_text}
use Rattle.sw_audit.specs.Finals.{IsFinalState}
use Rattle.sw_tmodel.specs.Plain.{PlainTable}
use Rattle.sw_dump.specs.Texts.{dump_text}
use Rattle.sw_dump.specs.Restores.{IsRestored}
use Rattle.sw_dump.specs.declared.fault.RestoreFault.TheVariants as unfits
use Rattle.sw_top.specs.declared.words.Command.{Command}
use Rattle.sw_top.specs.declared.words.Command.TheVariants.{Drill, Audit, Settings as SettingsCommand, Timers, Dump, Restore}
use Rattle.sw_answer.specs.declared.refusal.Refusal.{Refusal}
use Rattle.sw_answer.specs.declared.refusal.Refusal.TheVariants.{Line, Settings, Place, Unfit}
use Rattle.sw_settings.specs.declared.values.Values.{Values}
use Rattle.sw_settings.specs.declared.faults.SettingsFault.{SettingsFault}
use Rattle.sw_settings_json.specs.Json.{json_settings}
use Rattle.sw_settings_print.specs.Print.{settings_text}
use Rattle.sw_play.specs.Answers.{Answers as AnswersDrill}
use Rattle.sw_timers_text.specs.Prints.{IsTimedText}

-- a trace is answered by its verdict, and refused for its first line out of the grammar or for its least bad place
abbrev pub AnswersTrace : List ℕ → Result (List ℕ) Refusal → Type 0
AnswersTrace input (Ok text) = (n : ℕ) × IsAudit input (Ok (verdicts.Ok n)) × (text ≡ verdict_text (verdicts.Ok n))
AnswersTrace input (Err (Line n)) = IsAudit input (Err (faults.BadLine n))
AnswersTrace input (Err (Settings fault)) = ⊥
AnswersTrace input (Err (Place at)) = IsAudit input (Ok (verdicts.No at))
AnswersTrace input (Err (Unfit n name)) = ⊥

abbrev pub shown : Result Values SettingsFault → Result (List ℕ) Refusal
shown (Ok v) = Ok (settings_text v)
shown (Err fault) = Err (Settings fault)

-- settings in JSON are answered by their print, and refused for their first fault
abbrev pub settings_answer : List ℕ → Result (List ℕ) Refusal
settings_answer input = shown (json_settings input)

-- lines on timers are answered by what they print, and refused for the first that isn't in the grammar
abbrev pub AnswersTimers : List ℕ → Result (List ℕ) Refusal → Type 0
AnswersTimers input (Ok text) = IsTimedText input (Ok text)
AnswersTimers input (Err (Line n)) = IsTimedText input (Err n)
AnswersTimers input (Err (Settings fault)) = ⊥
AnswersTimers input (Err (Place at)) = ⊥
AnswersTimers input (Err (Unfit n name)) = ⊥

-- a trace is answered by the dump of the Table that it leaves, and refused as its audit is
abbrev pub AnswersDump : List ℕ → Result (List ℕ) Refusal → Type 0
AnswersDump input (Ok text) = (p : PlainTable) × IsFinalState input (Ok (Ok p)) × (text ≡ dump_text p)
AnswersDump input (Err (Line n)) = IsFinalState input (Err (faults.BadLine n))
AnswersDump input (Err (Settings fault)) = ⊥
AnswersDump input (Err (Place at)) = IsFinalState input (Ok (Err at))
AnswersDump input (Err (Unfit n name)) = ⊥

-- a dump is answered by the trace that restores it, and refused for its first line out of the grammar, or for the first that the
-- new columns refuse
abbrev pub AnswersRestore : List ℕ → Result (List ℕ) Refusal → Type 0
AnswersRestore input (Ok text) = IsRestored input (Ok text)
AnswersRestore input (Err (Line n)) = IsRestored input (Err (unfits.BadLine n))
AnswersRestore input (Err (Settings fault)) = ⊥
AnswersRestore input (Err (Place at)) = ⊥
AnswersRestore input (Err (Unfit n name)) = IsRestored input (Err (unfits.Unfit n name))

-- what is written for an input under a command, or why it is refused
abbrev pub Answers : Command → List ℕ → Result (List ℕ) Refusal → Type 0
Answers Drill input r = AnswersDrill input r
Answers Audit input r = AnswersTrace input r
Answers SettingsCommand input r = r ≡ settings_answer input
Answers Timers input r = AnswersTimers input r
Answers Dump input r = AnswersDump input r
Answers Restore input r = AnswersRestore input r
