-- What a user relies on, as one predicate on the record.
use Rattle.std.specs.Prelude.{◌≡◌, true, List}
use Rattle.sw_record.specs.Causes.{CausesRight}
use Rattle.sw_record.specs.Counts.{CountsRight}
use Rattle.sw_record.specs.Dialogue.{Dialogues}
use Rattle.sw_record.specs.Fits.{AnswersFit}
use Rattle.sw_record.specs.Orderly.{Orderly}
use Rattle.sw_record.specs.Places.{Ran, Placed}
use Rattle.sw_record.specs.Tasks.{TasksRight}
use Rattle.sw_record.specs.Terms.{Terms, HasLogs, Outside, keeps, IsSpread}
use Rattle.sw_record.specs.Uids.{UidsRight}
use Rattle.sw_record.specs.Whole.{Whole, WholeKept, WholeUid, WholeScattered}
use Rattle.sw_record.specs.declared.record.LinkRecord.{LinkRecord}
use Rattle.sw_record.specs.declared.record.Record.{Record}

-- all of a link at its end was told as the dispatch mode says
pub data ToldWhole (t : Terms) (r : Record) : Type 0 where
  KeptWhole : keeps t.mode ≡ true → WholeKept t r → ToldWhole t r
  UidWhole : t.mode ≡ 5 → WholeUid t r → ToldWhole t r
  SpreadWhole : IsSpread t.mode → WholeScattered t r → ToldWhole t r

-- the record is right: by what a legal history of the Table is, by what the links told, and by the links in the order in
-- which the net gave them
pub record Right (t : Terms) (legal : List Ran → Type 0) (r : Record) (out : Outside) (net : List LinkRecord) : Type 0 where
  pub has_logs : HasLogs t r
  -- handlers were given events and answers as they should, and each answer fits its act
  pub dialogues : Dialogues r
  pub fits : AnswersFit t r
  -- packets reach their workers in order, every byte was sent for its own session, sessions are drawn once
  pub orderly : Orderly t r net
  -- calls of the Table have their places in one legal history
  pub placed : Placed t legal r
  pub tasks : TasksRight r
  -- causes, counts and uids have what they rest on
  pub causes : CausesRight t r out orderly.own
  pub counts : CountsRight r
  pub uids : UidsRight t r
  -- nothing is missing of a link at its end
  pub whole : Whole t r orderly.own
  pub told_whole : ToldWhole t r
