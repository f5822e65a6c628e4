-- The text of the record of a run.
use Rattle.std.specs.Prelude.{◌≡◌, ℕ, List}
use Rattle.sw_hand.specs.Ports.{Acting}
use Rattle.sw_record_text.specs.Record.{record_text}
use Rattle.sw_settings.specs.declared.values.Values.{Values}
use Rattle.sw_schedule.specs.declared.schedule.Line.{Line}
use Rattle.sw_world_crew.specs.declared.recorded.Recorded.{Recorded}
use Rattle.sw_world_crew.specs.Recorded.{recorded_acts}
use Rattle.sw_world_state.specs.declared.state.State.{State}
use Rattle.sw_world_make.specs.Terms.{terms_of, shape_of}
use Rattle.sw_world_make.specs.Made.{IsMade}
use Rattle.sw_world.specs.Run.{Ran}
use Rattle.sw_world.specs.Account.{record_of}
use Rattle.sw_world.specs.Right.{IsRight}
use Rattle.sw_play.specs.Steps.{steps_of}

-- a core is made of the settings with these handlers, which were told nothing yet; the steps of the lines lead it on, one after the
-- other; and the text is that of its record then
pub record IsPlayed {H T : Type 0} (acts : Acting H) (does : Acting T) (v : Values) (given : List (List H)) (tasks : List T) (lines : List Line) (text : List ℕ) : Type 0 where
  pub first : State (Recorded H) (Recorded T)
  pub last : State (Recorded H) (Recorded T)
  pub made : IsMade v given tasks first
  pub ran : Ran (recorded_acts acts) (recorded_acts does) first (steps_of v lines) last
  pub printed : text ≡ record_text (record_of last)

-- and this record is right by the settings
pub record IsRightlyPlayed {H T : Type 0} (acts : Acting H) (does : Acting T) (v : Values) (given : List (List H)) (tasks : List T) (lines : List Line) (text : List ℕ) : Type 0 where
  pub played : IsPlayed acts does v given tasks lines text
  pub right : IsRight (terms_of v) (shape_of v) played.last
