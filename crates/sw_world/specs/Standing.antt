-- The core as its callers see it.
use Rattle.std.specs.Prelude.{Bool}
use Rattle.sw_record.specs.Terms.{Terms}
use Rattle.sw_table_laws.specs.Table.{Shape}
use Rattle.sw_world_laws.specs.World.{Core}
use Rattle.sw_world_hands.specs.Hands.{Crews}
use Rattle.sw_world_steps.specs.Server.{IsServed, AState}
use Rattle.sw_world_crew.specs.Recorded.{log_of}
use Rattle.sw_world_crew.specs.declared.recorded.Recorded.{Recorded}
use Rattle.sw_world_laws.specs.Runs.{IsServer}
use Rattle.sw_world_whole.specs.Whole.{Stands}
use Rattle.sw_world_state.specs.declared.state.State.{State}
use Rattle.sw_world_state.specs.State.{parts_of, views}
use Rattle.sw_world_goes.specs.Ready.{Ready}

-- its code, and whether a step wanted memory
pub record CoreCode (H T : Type 0) : Type 0 where
  pub state : State (Recorded H) (Recorded T)
  pub lost : Bool

abbrev pub code_of : {H T : Type 0} → State (Recorded H) (Recorded T) → Bool → CoreCode H T
code_of state lost = record { state = state; lost = lost }

-- under some settings it stands for a core that keeps its law, and is ready for a step
pub record Standing {H T : Type 0} (s : State (Recorded H) (Recorded T)) : Type 0 where
  pub terms : Terms
  pub server : IsServer terms
  pub served : IsServed terms
  pub crews : Crews
  pub shape : Shape
  pub core : Core AState
  pub stands : Stands terms served crews shape (views log_of log_of) (parts_of s) core
  pub ready : Ready terms s
