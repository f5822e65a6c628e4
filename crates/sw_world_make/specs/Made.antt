-- A core that was made of settings, as the laws have it.
use Rattle.std.specs.Prelude.{◌≡◌, ◌+◌, ◌<◌, ◌^◌, List, [], map, replicate, false}
use Rattle.sw_port_board.specs.PlainBoard.{PlainWords, plain_words, no_counts}
use Rattle.sw_record.specs.Terms.{Terms}
use Rattle.sw_join.specs.Legal.{LegalFor}
use Rattle.sw_settings.specs.declared.values.Values.{Values}
use Rattle.sw_world_laws.specs.Runs.{IsServer}
use Rattle.sw_world_steps.specs.Server.{IsServed}
use Rattle.sw_world_crew.specs.declared.recorded.Recorded.{Recorded}
use Rattle.sw_world_crew.specs.Recorded.{log_of}
use Rattle.sw_world_whole.specs.Whole.{IsNewCore}
use Rattle.sw_world_state.specs.declared.state.State.{State}
use Rattle.sw_world_state.specs.State.{parts_of, views}
use Rattle.sw_world_goes.specs.Ready.{Ready}
use Rattle.sw_world_make.specs.Terms.{terms_of, shape_of}
use Rattle.sw_world_make.specs.Handlers.{crews_of, handlers_of, handler_of}

-- a board without marks and counts
abbrev pub new_board : Terms → PlainWords
new_board t = plain_words (record { workers = t.worker_num; taskers = t.tasker_num; actors = t.worker_num + t.tasker_num + t.reactor_num + 1 }) 0 (replicate (t.worker_num + t.tasker_num) false) false (replicate (t.worker_num + t.tasker_num + t.reactor_num + 1) no_counts)

-- it is new code under settings that a server may have, ready for its first step, with these handlers, which were told nothing yet
pub record IsMade {H T : Type 0} (v : Values) (given : List (List H)) (tasks : List T) (s : State (Recorded H) (Recorded T)) : Type 0 where
  pub server : IsServer (terms_of v)
  pub served : IsServed (terms_of v)
  pub last : v.session_last < 2 ^ 32
  pub legal : LegalFor (shape_of v) []
  pub starts : IsNewCore (terms_of v) (crews_of v given) (shape_of v) (views log_of log_of) (parts_of s)
  pub ready : Ready (terms_of v) s
  pub handlers : map handlers_of s.crew.workers ≡ given
  pub task_handlers : map handler_of s.crew.taskers ≡ tasks
