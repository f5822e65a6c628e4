-- What the law of a mode must give, by what was pushed of a connection.
use Rattle.std.specs.Prelude.{◌≡◌, ◌⊎◌, ℕ, ◌%◌, ◌==◌, if◌then◌else◌, List, [], ◌∷◌, ◌++◌, Option, Some}
use Rattle.sw_conn.specs.declared.conn.Phase.{Phase}
use Rattle.sw_step.specs.declared.actor.ActorId.{ActorId}
use Rattle.sw_record.specs.Words.{Cause, PeerEnd, Stop, Ended}
use Rattle.sw_record.specs.declared.record.LinkState.TheVariants.{Live, Over}
use Rattle.sw_record.specs.declared.record.LinkRecord.{LinkRecord}
use Rattle.sw_record.specs.Terms.{Terms}
use Rattle.sw_past.specs.Messages.{Message}
use Rattle.sw_past.specs.Past.{Mail}
use Rattle.sw_past.specs.Views.{story_in}
use Rattle.sw_reactor_table.specs.Conn.{Conn, account, over_link}
use Rattle.sw_reactor_table.specs.Quiet.{Tale, TaleOf, IsOver}

-- a live link, whatever its count shows (it is one behind where a push is not noted yet)
abbrev pub shown_link : Terms → ℕ → ℕ → ℕ → ℕ → List (List ℕ) → List ℕ → ℕ → LinkRecord
shown_link t ip s uid split pieces written d =
    record {
      ip = ip;
      state = Live (record { session = Some s; fd = s % t.max_conn; ip = ip; uid = uid; dispatched = d; split = (if uid == 0 then d else split); cause = PeerEnd });
      pieces = pieces;
      written = written;
    }

-- a link that comes back from a run that could not start
abbrev pub back_link : Terms → ℕ → ℕ → ℕ → ℕ → List (List ℕ) → List ℕ → ℕ → LinkRecord
back_link t ip s uid split pieces written d =
    record {
      ip = ip;
      state = Over (record { session = Some s; fd = s % t.max_conn; ip = ip; uid = uid; dispatched = d; split = (if uid == 0 then d else split); cause = Stop });
      pieces = pieces;
      written = written;
    }

-- a uid that was seen is the one that the release of the ticket answers
abbrev pub IsReleased : Terms → Conn → ℕ → Type 0
IsReleased t c u = t.mode ≡ 5 → (c.uid ≡ 0) ⊎ (u ≡ c.uid)

-- what a mode says of a live link, of one that comes back and of one that ended, by what was pushed of its connection
pub record ModeLaws (t : Terms) (aimed : ℕ → LinkRecord → Mail → Type 0) (whole : ℕ → LinkRecord → Ended → Mail → Type 0) : Type 0 where
  pub live : (ip s uid split : ℕ) (pieces : List (List ℕ)) (taken n : ℕ) (cause : Option Cause) (phase : Phase) (pushed : Mail) → Tale t ip s uid split pieces taken n cause phase pushed → (written : List ℕ) (d : ℕ) → aimed s (shown_link t ip s uid split pieces written d) pushed
  pub back : (ip s uid split : ℕ) (pieces : List (List ℕ)) (taken n : ℕ) (cause : Option Cause) (phase : Phase) (pushed : Mail) → Tale t ip s uid split pieces taken n cause phase pushed → (written : List ℕ) (d : ℕ) → aimed s (back_link t ip s uid split pieces written d) pushed
  pub over : (c : Conn) (pushed : Mail) → TaleOf t c pushed → (e : Cause) → IsOver t c e → (u : ℕ) → IsReleased t c u → aimed c.session (over_link t c u e) pushed × whole c.session (over_link t c u e) (account t c u e) pushed
  pub skip_aim : (s : ℕ) (l : LinkRecord) (pushed : Mail) (x : ActorId × Message) → story_in s x.1 ≡ [] → aimed s l pushed → aimed s l (pushed ++ x ∷ [])
  pub skip_whole : (s : ℕ) (l : LinkRecord) (e : Ended) (pushed : Mail) (x : ActorId × Message) → story_in s x.1 ≡ [] → whole s l e pushed → whole s l e (pushed ++ x ∷ [])
