use Rattle.std.proofs.Common.{◌≡◌, ℕ, ◌≤◌, false, true≢false, List, ◌++◌, length, Option, Some, None, Result, Ok, Err, refl, ap, sym, subst, ◌∙◌, inl, inr, arith, length-append}
use Rattle.std.proofs.lemmas.List.{append-nil}
use Rattle.std.specs.Io.KnownBytes.{Consumes, IsAtEnd}
use Rattle.sw_schedule.specs.declared.schedule.Schedule.{Schedule}
use Rattle.sw_text.specs.Parts.{lines_of}
use Rattle.sw_timers_text.specs.declared.line.Line.{Line as TimerLine}
use Rattle.sw_timers_text.specs.Grammar.{lines_from}
use Rattle.sw_timers_text.specs.Prints.{IsTimedBy}
use Rattle.sw_schedule.specs.Draft.{schedule_of}
use Rattle.sw_settings.specs.declared.faults.SettingsFault.{SettingsFault}
use Rattle.sw_settings.specs.declared.values.Values.{Values}
use Rattle.sw_settings.specs.Faults.{fault_of}
use Rattle.sw_settings_json.specs.Json.{json_settings}
use Rattle.sw_answer.specs.declared.refusal.Refusal.{Refusal}
use Rattle.sw_answer.specs.declared.refusal.Refusal.TheVariants.{Line, Settings, Place, Unfit}
use Rattle.sw_top.specs.declared.words.Command.{Command}
use Rattle.sw_top.specs.declared.words.Command.TheVariants.{Drill as DrillCommand, Audit, Settings as SettingsCommand, Timers, Dump, Restore}
use Rattle.sw_top.specs.Answering.{Answers, shown}
use Rattle.sw_answer.specs.Refusals.{refusal_text, refusal_status}
use Rattle.sw_play.specs.Answers.{AnswersBy}
use Rattle.sw_top.specs.Words.{command_of}
use Rattle.sw_top.specs.Says.{FromSource, FromSink, IsInput, IsAnswered, IsWritten, IsCut, Due, DueBy, Meant, Finishes, cut_status, DoesBy, Said, expected_by, expected, settings_status, timers_status, Expected, IsComplete}
use Rattle.sw_answer.specs.declared.status.Status.{Status}
use Rattle.sw_answer.specs.declared.status.Status.TheVariants as statuses

-- no words and no source make a fault of the sink right
never_due : (o : Option Command) (s : FromSource) (text : List ℕ) → DueBy o s statuses.WriteFault text → ⊥
never_due None s text m = let e : statuses.WriteFault ≡ statuses.Usage = m.0 in cc
never_due (Some c) s text m = m

all_written : (words : List (List ℕ)) (s : FromSource) (k : FromSink) (status : Status) (text : List ℕ) → Meant words s status text → IsWritten k text → Said words s k status
all_written words s k statuses.Ok text m w = (text, m, w)
all_written words s k (statuses.BadLine n) text m w = (text, m, w)
all_written words s k (statuses.Settings fault) text m w = (text, m, w)
all_written words s k statuses.InputLong text m w = (text, m, w)
all_written words s k (statuses.No at) text m w = (text, m, w)
all_written words s k (statuses.Unfit n name) text m w = (text, m, w)
all_written words s k statuses.Usage text m w = (text, m, w)
all_written words s k statuses.ReadFault text m w = (text, m, w)
all_written words s k statuses.WriteFault text m w = absurd (never_due (command_of words) s text m)
all_written words s k statuses.OutOfMemory text m w = (text, m, inl w)

was_cut : (words : List (List ℕ)) (s : FromSource) (k : FromSink) (status : Status) (text : List ℕ) → Meant words s status text → IsCut k text → Said words s k (cut_status status)
was_cut words s k statuses.Ok text m w = (statuses.Ok, text, m, w)
was_cut words s k (statuses.BadLine n) text m w = (statuses.BadLine n, text, m, w)
was_cut words s k (statuses.Settings fault) text m w = (statuses.Settings fault, text, m, w)
was_cut words s k statuses.InputLong text m w = (statuses.InputLong, text, m, w)
was_cut words s k (statuses.No at) text m w = (statuses.No at, text, m, w)
was_cut words s k (statuses.Unfit n name) text m w = (statuses.Unfit n name, text, m, w)
was_cut words s k statuses.Usage text m w = (statuses.Usage, text, m, w)
was_cut words s k statuses.ReadFault text m w = (statuses.ReadFault, text, m, w)
was_cut words s k statuses.WriteFault text m w = absurd (never_due (command_of words) s text m)
was_cut words s k statuses.OutOfMemory text m w = (text, m, inr w)

said_by : (words : List (List ℕ)) (s : FromSource) (k : FromSink) (status : Status) (text : List ℕ) (result : Status) → Meant words s status text → Finishes k status text result → Said words s k result
said_by words s k status text result m (inl f) = subst (λ r. Said words s k r) (sym f.0) (all_written words s k status text m f.1)
said_by words s k status text result m (inr f) = subst (λ r. Said words s k r) (sym f.0) (was_cut words s k status text m f.1)

pub said : (words : List (List ℕ)) (s : FromSource) (k : FromSink) (result : Status) → DoesBy (command_of words) s k result → Said words s k result
said words s k result d = said_by words s k d.0 d.1 result d.2 d.3

-- ---- the input alone decides

all_of : (left : Option (List ℕ)) (input bytes : List ℕ) → Consumes (Some bytes) left input → IsAtEnd left → input ≡ bytes
all_of None input bytes e none = absurd e
all_of (Some bs) input bytes e none = sym (e ∙ ap (λ (x : List ℕ). input ++ x) none ∙ append-nil input)

part_of : (left : Option (List ℕ)) (input bytes : List ℕ) → Consumes (Some bytes) left input → length input ≤ length bytes
part_of None input bytes e = absurd e
part_of (Some bs) input bytes e = omega (arith, ap length e, length-append input bs)

is_input : (s : FromSource) (input bytes : List ℕ) → IsInput s input → s.left ≡ Some bytes → input ≡ bytes
is_input s input bytes i e = all_of s.left_new input bytes (subst (λ l. Consumes l s.left_new input) e i.came) i.all

ok_by : (o : Option SettingsFault) → o ≡ None → statuses.Ok ≡ expected_by o
ok_by None e = refl
ok_by (Some fault) e = absurd cc

ok_answer : (r : Result Schedule ℕ) (text : List ℕ) → AnswersBy r (Ok text) → statuses.Ok ≡ expected r
ok_answer (Ok s) text a = ok_by (fault_of s.pairs) a.0
ok_answer (Err n) text a = absurd cc

line_answer : (r : Result Schedule ℕ) (n : ℕ) → AnswersBy r (Err (Line n)) → statuses.BadLine n ≡ expected r
line_answer (Ok s) n a = absurd a
line_answer (Err m) n a = let f : n ≡ m = cc in ap (λ (x : ℕ). statuses.BadLine x) f

settings_by : (o : Option SettingsFault) (fault : SettingsFault) → o ≡ Some fault → statuses.Settings fault ≡ expected_by o
settings_by None fault e = absurd cc
settings_by (Some g) fault e = let f : fault ≡ g = cc in ap (λ (x : SettingsFault). statuses.Settings x) f

settings_answer : (r : Result Schedule ℕ) (fault : SettingsFault) → AnswersBy r (Err (Settings fault)) → statuses.Settings fault ≡ expected r
settings_answer (Ok s) fault a = settings_by (fault_of s.pairs) fault a
settings_answer (Err m) fault a = absurd cc

-- the status of settings that are shown, and of refused ones

ok_shown : (r : Result Values SettingsFault) (text : List ℕ) → Ok text ≡ shown r → statuses.Ok ≡ settings_status r
ok_shown (Ok v) text e = refl
ok_shown (Err fault) text e = absurd cc

line_shown : (r : Result Values SettingsFault) (n : ℕ) → Err (Line n) ≡ shown r → ⊥
line_shown (Ok v) n e = cc
line_shown (Err fault) n e = cc

settings_shown : (r : Result Values SettingsFault) (fault : SettingsFault) → Err (Settings fault) ≡ shown r → statuses.Settings fault ≡ settings_status r
settings_shown (Ok v) fault e = absurd cc
settings_shown (Err g) fault e = let f : fault ≡ g = cc in ap (λ (x : SettingsFault). statuses.Settings x) f

place_shown : (r : Result Values SettingsFault) (at : ℕ) → Err (Place at) ≡ shown r → ⊥
place_shown (Ok v) at e = cc
place_shown (Err fault) at e = cc

-- the status of lines on timers

ok_timed : (r : Result (List TimerLine) ℕ) (text : List ℕ) → IsTimedBy r (Ok text) → statuses.Ok ≡ timers_status r
ok_timed (Ok lines) text h = refl
ok_timed (Err n) text h = absurd h

line_timed : (r : Result (List TimerLine) ℕ) (n : ℕ) → IsTimedBy r (Err n) → statuses.BadLine n ≡ timers_status r
line_timed (Ok lines) n h = absurd h
line_timed (Err m) n h = ap (λ (x : ℕ). statuses.BadLine x) h

-- what an answer says of the status

ok_expected : (c : Command) (input text : List ℕ) → Answers c input (Ok text) → Expected c input statuses.Ok
ok_expected DrillCommand input text a = ok_answer (schedule_of input) text a
ok_expected Audit input text a = (a.0, a.1)
ok_expected SettingsCommand input text a = ok_shown (json_settings input) text a
ok_expected Timers input text a = ok_timed (lines_from 1 (lines_of input)) text a
ok_expected Dump input text a = (a.0, a.1)
ok_expected Restore input text a = (text, a)

line_expected : (c : Command) (input : List ℕ) (n : ℕ) → Answers c input (Err (Line n)) → Expected c input (statuses.BadLine n)
line_expected DrillCommand input n a = line_answer (schedule_of input) n a
line_expected Audit input n a = a
line_expected SettingsCommand input n a = absurd (line_shown (json_settings input) n a)
line_expected Timers input n a = line_timed (lines_from 1 (lines_of input)) n a
line_expected Dump input n a = a
line_expected Restore input n a = a

settings_expected : (c : Command) (input : List ℕ) (fault : SettingsFault) → Answers c input (Err (Settings fault)) → Expected c input (statuses.Settings fault)
settings_expected DrillCommand input fault a = settings_answer (schedule_of input) fault a
settings_expected Audit input fault a = absurd a
settings_expected SettingsCommand input fault a = settings_shown (json_settings input) fault a
settings_expected Timers input fault a = absurd a
settings_expected Dump input fault a = absurd a
settings_expected Restore input fault a = absurd a

place_answer : (r : Result Schedule ℕ) (at : ℕ) → AnswersBy r (Err (Place at)) → ⊥
place_answer (Ok s) at a = a
place_answer (Err n) at a = cc

place_expected : (c : Command) (input : List ℕ) (at : ℕ) → Answers c input (Err (Place at)) → Expected c input (statuses.No at)
place_expected DrillCommand input at a = absurd (place_answer (schedule_of input) at a)
place_expected Audit input at a = a
place_expected SettingsCommand input at a = absurd (place_shown (json_settings input) at a)
place_expected Timers input at a = absurd a
place_expected Dump input at a = a
place_expected Restore input at a = absurd a

unfit_answer : (r : Result Schedule ℕ) (n : ℕ) (name : List ℕ) → AnswersBy r (Err (Unfit n name)) → ⊥
unfit_answer (Ok s) n name a = a
unfit_answer (Err m) n name a = cc

unfit_shown : (r : Result Values SettingsFault) (n : ℕ) (name : List ℕ) → Err (Unfit n name) ≡ shown r → ⊥
unfit_shown (Ok v) n name e = cc
unfit_shown (Err fault) n name e = cc

unfit_expected : (c : Command) (input : List ℕ) (n : ℕ) (name : List ℕ) → Answers c input (Err (Unfit n name)) → Expected c input (statuses.Unfit n name)
unfit_expected DrillCommand input n name a = absurd (unfit_answer (schedule_of input) n name a)
unfit_expected Audit input n name a = absurd a
unfit_expected SettingsCommand input n name a = absurd (unfit_shown (json_settings input) n name a)
unfit_expected Timers input n name a = absurd a
unfit_expected Dump input n name a = absurd a
unfit_expected Restore input n name a = a

-- what is due for a known command
due : (words : List (List ℕ)) (c : Command) (s : FromSource) (status : Status) (text : List ℕ) → command_of words ≡ Some c → Meant words s status text → Due c s status text
due words c s status text is m = subst (λ (o : Option Command). DueBy o s status text) is m

-- all that was there is answered so
answered_all : (c : Command) (s : FromSource) (r : Result (List ℕ) Refusal) (input : List ℕ) → s.left ≡ Some input → IsAnswered c s r → Answers c input r
answered_all c s r input e a = subst (λ (x : List ℕ). Answers c x r) (is_input s a.0 input a.1 e) a.2

pub complete : (words : List (List ℕ)) (s : FromSource) (k : FromSink) (result : Status) → Said words s k result → IsComplete words s k result
complete words s k statuses.Ok d c is no_read no_write input e fits =
    inl (ok_expected c input d.0 (answered_all c s (Ok d.0) input e (due words c s statuses.Ok d.0 is d.1)))
complete words s k (statuses.BadLine n) d c is no_read no_write input e fits =
    inl (line_expected c input n (answered_all c s (Err (Line n)) input e (due words c s (statuses.BadLine n) d.0 is d.1).0))
complete words s k (statuses.Settings fault) d c is no_read no_write input e fits =
    inl (settings_expected c input fault (answered_all c s (Err (Settings fault)) input e (due words c s (statuses.Settings fault) d.0 is d.1).0))
complete words s k statuses.InputLong d c is no_read no_write input e fits =
    let came = (due words c s statuses.InputLong d.0 is d.1).0 in
    absurd (omega (arith, part_of s.left_new came.0 input (subst (λ l. Consumes l s.left_new came.0) e came.1), came.2.0, fits))
complete words s k (statuses.No at) d c is no_read no_write input e fits =
    inl (place_expected c input at (answered_all c s (Err (Place at)) input e (due words c s (statuses.No at) d.0 is d.1).0))
complete words s k (statuses.Unfit n name) d c is no_read no_write input e fits =
    inl (unfit_expected c input n name (answered_all c s (Err (Unfit n name)) input e (due words c s (statuses.Unfit n name) d.0 is d.1).0))
complete words s k statuses.Usage d c is no_read no_write input e fits = absurd (due words c s statuses.Usage d.0 is d.1)
complete words s k statuses.ReadFault d c is no_read no_write input e fits = absurd (no_read (due words c s statuses.ReadFault d.0 is d.1).1)
complete words s k statuses.WriteFault d c is no_read no_write input e fits = absurd (no_write d.3.1)
complete words s k statuses.OutOfMemory d c is no_read no_write input e fits = inr refl

-- ---- refusals

-- the status and the text of a refused input are right
pub refused_due : (c : Command) (s : FromSource) (refusal : Refusal) (status : Status) (text : List ℕ) → IsAnswered c s (Err refusal) → status ≡ refusal_status refusal → text ≡ refusal_text refusal
    → Due c s status text
refused_due c s (Line n) status text came is t = subst (λ (x : Status). Due c s x text) (sym is) (came, t)
refused_due c s (Settings fault) status text came is t = subst (λ (x : Status). Due c s x text) (sym is) (came, t)
refused_due c s (Place at) status text came is t = subst (λ (x : Status). Due c s x text) (sym is) (came, t)
refused_due c s (Unfit n name) status text came is t = subst (λ (x : Status). Due c s x text) (sym is) (came, t)
