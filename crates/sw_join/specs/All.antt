-- All that actors keep and that what they share keeps.
use Rattle.std.specs.Prelude.{◌≡◌, ℕ, ◌≤◌, List}
use Rattle.sw_step.specs.declared.actor.ActorId.{ActorId}
use Rattle.sw_record.specs.Terms.{Terms, Outside}
use Rattle.sw_record.specs.declared.record.Record.{Record}
use Rattle.sw_record.specs.Causes.{LinksShow}
use Rattle.sw_record.specs.Places.{Ran}
use Rattle.sw_past.specs.Past.{Past}
use Rattle.sw_join.specs.Laws.{Aim, Ending, Locals, Joint}
use Rattle.sw_join.specs.Shown.{IsShown}
use Rattle.sw_join.specs.Tasks.{TaskLocals}
use Rattle.sw_join.specs.Sessions.{WordLaws}
use Rattle.sw_join.specs.Causes.{Looks, CauseLaws}
use Rattle.sw_join.specs.Counts.{CountLaws}
use Rattle.sw_join.specs.Uids.{UidLaws}
use Rattle.sw_join.specs.Places.{TableLaws}
use Rattle.sw_join.specs.Drained.{FinishedLaws}
use Rattle.sw_join.specs.Rounds.{RoundLaws}

-- at every moment
pub record AllLaws (t : Terms) (legal : List Ran → Type 0) (aimed : Aim) (whole : Ending) (h : Past) (r : Record) (out : Outside) : Type 0 where
  pub locals : Locals t aimed whole h
  pub joint : Joint t h
  -- the record shows the histories, and each link that ended its cause
  pub shown : IsShown t h r
  pub shows : LinksShow t r out
  pub tasks : TaskLocals t h
  -- the sessions that each reactor released
  pub released : ℕ → List ℕ
  pub words : WordLaws t h released
  pub looks : Looks
  pub causes : CauseLaws t h looks
  pub counts : CountLaws t h r
  pub uids : UidLaws t h
  -- what each hand's seat of the Table did
  pub seat : ActorId → List (ℕ × Ran)
  pub table : TableLaws t legal h seat

-- once all actors are finished
pub record EndLaws (t : Terms) (h : Past) (r : Record) : Type 0 where
  pub some_reactor : 1 ≤ t.reactor_num
  pub some_worker : 1 ≤ t.worker_num
  pub finished : FinishedLaws t h
  pub rounds : t.mode ≡ 1 → RoundLaws t h r
