-- The text of the record of a run with the handlers that a schedule asks for.
use Rattle.std.specs.Prelude.{ℕ, List, Bool, true, false}
use Rattle.sw_http_worker.specs.declared.worker.HttpWorker.{HttpWorker}
use Rattle.sw_http_worker.specs.Worker.{Works}
use Rattle.sw_settings.specs.declared.values.Values.{Values}
use Rattle.sw_script.specs.declared.script.Script.{Script}
use Rattle.sw_schedule.specs.declared.schedule.Line.{Line}
use Rattle.sw_following.specs.declared.following.Following.{Following}
use Rattle.sw_following.specs.Following.{AreFresh, AreFreshWorkers, following_acts}
use Rattle.sw_following.specs.Asked.{AreFreshAskedWorkers}
use Rattle.sw_play.specs.Played.{IsRightlyPlayed}

-- each worker has `generation_num` handlers and each task worker has one; each follows the rules, or is an echo without rules
pub record IsPlain (s : Script) (v : Values) (lines : List Line) (text : List ℕ) : Type 0 where
  pub given : List (List Following)
  pub tasks : List Following
  pub workers : AreFreshWorkers s v.worker_num v.generation_num given
  pub taskers : AreFresh s v.task_worker_num tasks
  pub run : IsRightlyPlayed following_acts following_acts v given tasks lines text

-- the same, where each handler of a worker stands inside one of whole HTTP requests of at most `package_max_length` bytes
pub record IsAsked (s : Script) (v : Values) (lines : List Line) (text : List ℕ) : Type 0 where
  pub given : List (List (HttpWorker Following))
  pub tasks : List Following
  pub workers : AreFreshAskedWorkers s v.package_max_length v.worker_num v.generation_num given
  pub taskers : AreFresh s v.task_worker_num tasks
  pub run : IsRightlyPlayed (Works following_acts) following_acts v given tasks lines text

abbrev pub IsRunBy : Bool → Script → Values → List Line → List ℕ → Type 0
IsRunBy false s v lines text = IsPlain s v lines text
IsRunBy true s v lines text = IsAsked s v lines text

-- whole requests are given where `open_http_protocol` is true
abbrev pub IsRun : Script → Values → List Line → List ℕ → Type 0
IsRun s v lines text = IsRunBy v.open_http_protocol s v lines text
