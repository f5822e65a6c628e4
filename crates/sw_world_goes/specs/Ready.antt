-- The core's code is ready for a step, and stands for a core.
use Rattle.std.specs.Prelude.{◌≡◌, ◌⊎◌, ℕ, ◌+◌, ◌<◌, ◌≤◌, ◌^◌, length, slice_get, Some}
use Rattle.sw_record.specs.Words.{Log}
use Rattle.sw_record.specs.Terms.{Terms}
use Rattle.sw_table_laws.specs.Table.{Shape}
use Rattle.sw_world_laws.specs.World.{Core}
use Rattle.sw_world_hands.specs.Hands.{Crews}
use Rattle.sw_world_steps.specs.Server.{IsServed, AState}
use Rattle.sw_world_reactors.specs.declared.owner.Owner.{Owner}
use Rattle.sw_world_reactors.specs.Owners.{IsReadyOwner}
use Rattle.sw_world_whole.specs.Whole.{IsStep}
use Rattle.sw_world_state.specs.declared.state.State.{State}
use Rattle.sw_world_state.specs.State.{parts_of, views}

-- the parts are as many as the settings say, few enough for 32 bits, and each reactor is ready for a turn
pub record Ready {H T : Type 0} (t : Terms) (s : State H T) : Type 0 where
  pub slots : s.max_conn ≡ t.max_conn
  pub some : 1 ≤ t.reactor_num
  pub few : t.worker_num + t.tasker_num + t.reactor_num + 1 ≤ 2 ^ 32
  pub reactors : length s.reactors ≡ t.reactor_num
  pub workers : length s.crew.workers ≡ t.worker_num
  pub taskers : length s.crew.taskers ≡ t.tasker_num
  pub owners : (n : ℕ) (o : Owner) → slice_get s.reactors n ≡ Some o → IsReadyOwner o

-- what the code came to is a step of the core, and it is ready again
pub record Goes {H T : Type 0} (t : Terms) (served : IsServed t) (crews : Crews) (shape : Shape) (worker : H → Log) (tasker : T → Log) (c : Core AState) (n : State H T) : Type 0 where
  pub step : IsStep t served crews shape (views worker tasker) c (parts_of n)
  pub ready : Ready t n
