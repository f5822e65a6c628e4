-- What a user relies on, of the record that is printed.
use Rattle.std.specs.Prelude.{◌≡◌, ℕ, List, Bool, true, false, None, Result, Ok, Err}
use Rattle.sw_answer.specs.declared.refusal.Refusal.{Refusal}
use Rattle.sw_http_worker.specs.declared.worker.HttpWorker.{HttpWorker}
use Rattle.sw_record_text.specs.Record.{record_text}
use Rattle.sw_settings.specs.declared.values.Values.{Values}
use Rattle.sw_settings.specs.Values.{values_of}
use Rattle.sw_settings.specs.Faults.{fault_of}
use Rattle.sw_schedule.specs.declared.schedule.Schedule.{Schedule}
use Rattle.sw_schedule.specs.Draft.{schedule_of}
use Rattle.sw_following.specs.declared.following.Following.{Following}
use Rattle.sw_world_crew.specs.declared.recorded.Recorded.{Recorded}
use Rattle.sw_world_state.specs.declared.state.State.{State}
use Rattle.sw_world_make.specs.Terms.{terms_of, shape_of}
use Rattle.sw_world.specs.Account.{record_of}
use Rattle.sw_world.specs.Right.{IsRight}

-- the text is that of the record of a core whose handlers are of these kinds, and this record is right by the settings
pub record IsOfRight (H T : Type 0) (v : Values) (text : List ℕ) : Type 0 where
  pub state : State (Recorded H) (Recorded T)
  pub printed : text ≡ record_text (record_of state)
  pub right : IsRight (terms_of v) (shape_of v) state

-- workers' handlers stand inside handlers of whole requests where these are asked for
abbrev pub IsOfRightBy : Bool → Values → List ℕ → Type 0
IsOfRightBy false v text = IsOfRight Following Following v text
IsOfRightBy true v text = IsOfRight (HttpWorker Following) Following v text

-- the text that a drill prints for an input: the input is a schedule whose settings have no fault, and the text is that of a right
-- record
pub record IsRightText (input text : List ℕ) : Type 0 where
  pub schedule : Schedule
  pub read : schedule_of input ≡ Ok schedule
  pub settled : fault_of schedule.pairs ≡ None
  pub right : IsOfRightBy (values_of schedule.pairs).open_http_protocol (values_of schedule.pairs) text

-- what is printed is such a text
abbrev pub PrintsRight : List ℕ → Result (List ℕ) Refusal → Type 0
PrintsRight input (Ok text) = IsRightText input text
PrintsRight input (Err refusal) = Unit {0}
