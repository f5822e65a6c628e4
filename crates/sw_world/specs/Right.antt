-- What holds of the record of a core that was made of settings.
use Rattle.std.specs.Prelude.{◌≡◌, ℕ, Bool, true, List, slice_get, Some}
use Rattle.sw_step.specs.declared.actor.ActorId.{ActorId}
use Rattle.sw_step.specs.declared.step.Step.{Step}
use Rattle.sw_data.specs.declared.messages.Ask.TheVariants.{Finished}
use Rattle.sw_hand.specs.Ports.{Acting}
use Rattle.sw_settings.specs.declared.values.Values.{Values}
use Rattle.sw_link.specs.declared.memory_link.MemoryLink.{MemoryLink}
use Rattle.sw_record.specs.declared.record.LinkRecord.{LinkRecord}
use Rattle.sw_record.specs.Terms.{Terms, Outside, session_of}
use Rattle.sw_record.specs.Sessions.{accepted, SessionsRise}
use Rattle.sw_record.specs.Right.{Right}
use Rattle.sw_record.specs.Drained.{Drained}
use Rattle.sw_record.specs.AfterSeen.{AfterSeen}
use Rattle.sw_table_laws.specs.Table.{Shape}
use Rattle.sw_join.specs.Legal.{LegalFor}
use Rattle.sw_world_laws.specs.World.{there}
use Rattle.sw_world_fits.specs.Board.{number_of}
use Rattle.sw_world_places.specs.declared.place.Next.TheVariants.{Asked}
use Rattle.sw_world_places.specs.declared.place.Place.{Place}
use Rattle.sw_world_reactors.specs.declared.owner.Owner.{Owner}
use Rattle.sw_world_reactor_fits.specs.Plain.{memory_tells, EndTold}
use Rattle.sw_world_crew.specs.declared.recorded.Recorded.{Recorded}
use Rattle.sw_world_crew.specs.Recorded.{recorded_acts}
use Rattle.sw_world_state.specs.declared.state.State.{State}
use Rattle.sw_world_make.specs.Terms.{terms_of, shape_of}
use Rattle.sw_world_make.specs.Made.{IsMade}
use Rattle.sw_world.specs.Run.{Ran}
use Rattle.sw_world.specs.Account.{record_of}

-- all actors are finished
abbrev pub AllFinished : {H T : Type 0} → Terms → State H T → Type 0
AllFinished t s = (y : ActorId) → there t y ≡ true → (q : Place) → slice_get s.places.all (number_of t y) ≡ Some q → q.next ≡ Asked Finished

-- the link of this number ended, and its script has told this
pub record IsTold {H T : Type 0} (s : State (Recorded H) (Recorded T)) (at : ℕ) (tells : MemoryLink → Bool) : Type 0 where
  pub link : LinkRecord
  pub shown : slice_get (record_of s).links at ≡ Some link
  pub session : ℕ
  pub drew : session_of link.state ≡ Some session
  pub reactor : ℕ
  pub owner : Owner
  pub kept : slice_get s.reactors reactor ≡ Some owner
  pub told : EndTold owner.ends.kept session tells

-- what the links told is told by their scripts: a read that answered End, and a call that failed
pub record IsOutside {H T : Type 0} (s : State (Recorded H) (Recorded T)) (out : Outside) : Type 0 where
  pub at_end : (at : ℕ) → slice_get out.at_end at ≡ Some true → IsTold s at (λ l. l.at_end)
  pub failed : (at : ℕ) → slice_get out.failed at ≡ Some true → IsTold s at memory_tells.failed

-- the record is right by these settings and by the Table's shape, and drained once all actors are finished; answers that a session is
-- gone come only once it was seen, and sessions rise in the order in which the links were accepted
pub record IsRight {H T : Type 0} (t : Terms) (shape : Shape) (s : State (Recorded H) (Recorded T)) : Type 0 where
  pub out : Outside
  pub outside : IsOutside s out
  pub right : Right t (LegalFor shape) (record_of s) out (accepted (record_of s))
  pub drained : AllFinished t s → Drained t (record_of s)
  pub seen : AfterSeen (record_of s)
  pub rise : SessionsRise (record_of s)

-- the same of code that any steps lead to from a core that was made of settings, by these
abbrev pub IsRightBehindRuns : {H T : Type 0} → Acting H → Acting T → State (Recorded H) (Recorded T) → Type 0
IsRightBehindRuns {H} {T} acts does s =
    (v : Values) (given : List (List H)) (tasks : List T) (first : State (Recorded H) (Recorded T)) (steps : List Step) →
    IsMade v given tasks first → Ran (recorded_acts acts) (recorded_acts does) first steps s → IsRight (terms_of v) (shape_of v) s
