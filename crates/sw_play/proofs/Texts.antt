-- What is printed is the text of a right record.
use Rattle.std.proofs.Common.{◌≡◌, ℕ, List, Bool, true, false, Option, Some, None, Result, Ok, Err, refl, subst}
use Rattle.std.specs.Prelude.{IfOk}
use Rattle.sw_base.specs.declared.out_of_memory.OutOfMemory.{OutOfMemory}
use Rattle.sw_answer.specs.declared.refusal.Refusal.{Refusal}
use Rattle.sw_http_worker.specs.declared.worker.HttpWorker.{HttpWorker}
use Rattle.sw_record_text.specs.Record.{record_text}
use Rattle.sw_world_crew.specs.declared.recorded.Recorded.{Recorded}
use Rattle.sw_world_crew.specs.Recorded.{recorded_acts}
use Rattle.sw_world_state.specs.declared.state.State.{State}
use Rattle.sw_world_make.specs.Made.{IsMade}
use Rattle.sw_world.specs.Run.{Ran}
use Rattle.sw_world.specs.Account.{record_of}
use Rattle.sw_world.specs.Right.{IsRightBehindRuns}
use Rattle.sw_http_worker.specs.Worker.{Works}
use Rattle.sw_script.specs.declared.script.Script.{Script}
use Rattle.sw_settings.specs.declared.values.Values.{Values}
use Rattle.sw_settings.specs.Values.{values_of}
use Rattle.sw_settings.specs.declared.faults.SettingsFault.{SettingsFault}
use Rattle.sw_settings.specs.Faults.{fault_of}
use Rattle.sw_answer.specs.Seen.{text_seen}
use Rattle.sw_schedule.specs.declared.schedule.Line.{Line}
use Rattle.sw_schedule.specs.declared.schedule.Schedule.{Schedule}
use Rattle.sw_schedule.specs.Draft.{schedule_of}
use Rattle.sw_following.specs.declared.following.Following.{Following}
use Rattle.sw_following.specs.Following.{AreFresh, AreFreshWorkers, following_acts}
use Rattle.sw_following.specs.Asked.{AreFreshAskedWorkers}
use Rattle.sw_hand.specs.Ports.{Acting}
use Rattle.sw_play.specs.Steps.{steps_of}
use Rattle.sw_play.specs.Played.{IsRightlyPlayed}
use Rattle.sw_play.specs.Drilled.{IsPlain, IsAsked, IsRun, IsRunBy}
use Rattle.sw_play.specs.Answers.{IsSettled, IsWritten, AnswersFor, AnswersBy, Answers}
use Rattle.sw_play.specs.Rightly.{IsOfRight, IsOfRightBy, IsRightText, PrintsRight}

of_played : {H T : Type 0} (acts : Acting H) (does : Acting T) (v : Values) (given : List (List H)) (tasks : List T) (lines : List Line) (text : List ℕ) → IsRightlyPlayed acts does v given tasks lines text → IsOfRight H T v text
of_played acts does v given tasks lines text r = record { state = r.played.last; printed = r.played.printed; right = r.right }

of_run : (b : Bool) (s : Script) (v : Values) (lines : List Line) (text : List ℕ) → IsRunBy b s v lines text → IsOfRightBy b v text
of_run false s v lines text r = of_played following_acts following_acts v r.given r.tasks lines text r.run
of_run true s v lines text r = of_played (Works following_acts) following_acts v r.given r.tasks lines text r.run

by_read : (input text : List ℕ) (r : Result Schedule ℕ) → schedule_of input ≡ r → AnswersBy r (Ok text) → IsRightText input text
by_read input text (Err n) e a = absurd (cc)
by_read input text (Ok s) e a =
    record { schedule = s; read = e; settled = a.0; right = of_run (values_of s.pairs).open_http_protocol s.script (values_of s.pairs) s.lines text a.1 }

-- the text that a drill is answered by
pub right_text : (input text : List ℕ) → Answers input (Ok text) → IsRightText input text
right_text input text a = by_read input text (schedule_of input) refl a

pub prints_right : (input : List ℕ) (r : Result (List ℕ) Refusal) → Answers input r → PrintsRight input r
prints_right input (Ok text) a = right_text input text a
prints_right input (Err refusal) a = tt

-- ---- a run

-- the record behind the lines' steps is right
pub played_so : {H T S : Type 0} (acts : Acting H) (does : Acting T) (v : Values) (given : List (List H)) (tasks : List T) (lines : List Line) (first last : State (Recorded H) (Recorded T)) (view : S → List ℕ) (r : Result S OutOfMemory)
    → IsMade v given tasks first → Ran (recorded_acts acts) (recorded_acts does) first (steps_of v lines) last
    → IfOk r (λ t. view t ≡ record_text (record_of last)) → IfOk r (λ t. IsRightBehindRuns acts does last) → IfOk r (λ t. IsRightlyPlayed acts does v given tasks lines (view t))
played_so acts does v given tasks lines first last view (Ok t) made ran printed right =
    record { played = record { first = first; last = last; made = made; ran = ran; printed = printed }; right = right v given tasks first (steps_of v lines) made ran }
played_so acts does v given tasks lines first last view (Err e) made ran printed right = tt

-- ---- with the handlers of a schedule, whose numbers are those of the settings

pub plain_so : {S : Type 0} (s : Script) (v : Values) (given : List (List Following)) (tasks : List Following) (lines : List Line) (view : S → List ℕ) (r : Result S OutOfMemory) (w k generations : ℕ) → w ≡ v.worker_num → k ≡ v.task_worker_num → generations ≡ v.generation_num
    → AreFreshWorkers s w generations given → AreFresh s k tasks
    → IfOk r (λ t. IsRightlyPlayed following_acts following_acts v given tasks lines (view t)) → IfOk r (λ t. IsPlain s v lines (view t))
plain_so s v given tasks lines view (Ok t) w k generations ew ek eg workers taskers run =
    record {
      given = given;
      tasks = tasks;
      workers = subst (λ (n : ℕ). AreFreshWorkers s n v.generation_num given) ew (subst (λ (n : ℕ). AreFreshWorkers s w n given) eg workers);
      taskers = subst (λ (n : ℕ). AreFresh s n tasks) ek taskers;
      run = run;
    }
plain_so s v given tasks lines view (Err e) w k generations ew ek eg workers taskers run = tt

pub asked_so : {S : Type 0} (s : Script) (v : Values) (given : List (List (HttpWorker Following))) (tasks : List Following) (lines : List Line) (view : S → List ℕ) (r : Result S OutOfMemory) (max w k generations : ℕ) → max ≡ v.package_max_length → w ≡ v.worker_num → k ≡ v.task_worker_num → generations ≡ v.generation_num
    → AreFreshAskedWorkers s max w generations given → AreFresh s k tasks
    → IfOk r (λ t. IsRightlyPlayed (Works following_acts) following_acts v given tasks lines (view t)) → IfOk r (λ t. IsAsked s v lines (view t))
asked_so s v given tasks lines view (Ok t) max w k generations em ew ek eg workers taskers run =
    record {
      given = given;
      tasks = tasks;
      workers =
          subst (λ (n : ℕ). AreFreshAskedWorkers s n v.worker_num v.generation_num given) em
          (subst (λ (n : ℕ). AreFreshAskedWorkers s max n v.generation_num given) ew (subst (λ (n : ℕ). AreFreshAskedWorkers s max w n given) eg workers));
      taskers = subst (λ (n : ℕ). AreFresh s n tasks) ek taskers;
      run = run;
    }
asked_so s v given tasks lines view (Err e) max w k generations em ew ek eg workers taskers run = tt

-- whole requests are asked for or not
pub run_so : {S : Type 0} (b : Bool) (s : Script) (v : Values) (lines : List Line) (view : S → List ℕ) (r : Result S OutOfMemory) → b ≡ v.open_http_protocol → IfOk r (λ t. IsRunBy b s v lines (view t)) → IfOk r (λ t. IsRun s v lines (view t))
run_so b s v lines view (Ok t) is run = subst (λ (c : Bool). IsRunBy c s v lines (view t)) is run
run_so b s v lines view (Err e) is run = tt

-- ---- for a schedule, and for a text

written_by : {S : Type 0} (view : S → List ℕ) (s : Schedule) (v : Values) (r : Result (Result S Refusal) OutOfMemory) → fault_of s.pairs ≡ None → v ≡ values_of s.pairs → IfOk r (λ x. IsWritten s.script v s.lines (text_seen view x)) → IfOk r (λ x. AnswersFor s (text_seen view x))
written_by view s v (Ok (Ok t)) free is h = (free, subst (λ (w : Values). IsRun s.script w s.lines (view t)) is h)
written_by view s v (Ok (Err f)) free is h = absurd h
written_by view s v (Err e) free is h = tt

-- the settings are these
pub written_so : {S : Type 0} (view : S → List ℕ) (s : Schedule) (v : Values) (made : Result Values SettingsFault) (r : Result (Result S Refusal) OutOfMemory) → IsSettled s.pairs made → made ≡ Ok v → IfOk r (λ x. IsWritten s.script v s.lines (text_seen view x)) → IfOk r (λ x. AnswersFor s (text_seen view x))
written_so view s v made r settled is h =
    let so : IsSettled s.pairs (Ok v) = subst (λ (m : Result Values SettingsFault). IsSettled s.pairs m) is settled in
    written_by view s v r so.0 so.1 h

-- the settings have this fault
pub fault_so : (s : Schedule) (fault : SettingsFault) (made : Result Values SettingsFault) → IsSettled s.pairs made → made ≡ Err fault → fault_of s.pairs ≡ Some fault
fault_so s fault made settled is = subst (λ (m : Result Values SettingsFault). IsSettled s.pairs m) is settled

-- what was read is this
pub said_so : {S : Type 0} (view : S → List ℕ) (said other : Result Schedule ℕ) (r : Result (Result S Refusal) OutOfMemory) → said ≡ other → IfOk r (λ x. AnswersBy said (text_seen view x)) → IfOk r (λ x. AnswersBy other (text_seen view x))
said_so view said other (Ok x) is h = subst (λ (q : Result Schedule ℕ). AnswersBy q (text_seen view x)) is h
said_so view said other (Err e) is h = tt

pub right_so : {S : Type 0} (view : S → List ℕ) (input : List ℕ) (r : Result (Result S Refusal) OutOfMemory) → IfOk r (λ x. Answers input (text_seen view x)) → IfOk r (λ x. PrintsRight input (text_seen view x))
right_so view input (Ok x) h = prints_right input (text_seen view x) h
right_so view input (Err e) h = tt
