-- The record of code that steps lead to from code that was made is right.
use Rattle.std.proofs.Common.{◌≡◌, ℕ, true, List, ap, subst, Some, slice_get, Result, Ok, Err}
use Rattle.std.specs.Prelude.{IfOk}
use Rattle.sw_hand.specs.Ports.{Acting}
use Rattle.sw_record.specs.Terms.{Terms}
use Rattle.sw_record.specs.Sessions.{accepted, SessionsRise}
use Rattle.sw_record.specs.Right.{Right}
use Rattle.sw_record.specs.Drained.{Drained}
use Rattle.sw_record.specs.AfterSeen.{AfterSeen}
use Rattle.sw_record.specs.declared.record.Record.{Record}
use Rattle.sw_table_laws.specs.Table.{Shape}
use Rattle.sw_join.specs.Legal.{LegalFor}
use Rattle.sw_world_laws.specs.World.{Core, start}
use Rattle.sw_world_laws.specs.Account.{outside}
use Rattle.sw_world_laws.specs.Runs.{IsServer}
use Rattle.sw_world_hands.specs.Hands.{Crews}
use Rattle.sw_world_steps.specs.Server.{IsServed, server, AState}
use Rattle.sw_world_crew.specs.declared.recorded.Recorded.{Recorded}
use Rattle.sw_world_crew.specs.Recorded.{log_of}
use Rattle.sw_world_whole.specs.Whole.{Stands}
use Rattle.sw_world_whole.proofs.Told.{record_holds, all_done}
use Rattle.sw_world_state.specs.declared.state.State.{State}
use Rattle.sw_world_state.specs.State.{parts_of, views}
use Rattle.sw_world_goes.specs.Ready.{Ready}
use Rattle.sw_world_make.specs.Terms.{terms_of, shape_of}
use Rattle.sw_world_make.specs.Handlers.{crews_of}
use Rattle.sw_world.specs.Right.{IsRight, IsRightBehindRuns}
use Rattle.sw_world.proofs.Running.{made_stands, ran_stands}
use Rattle.sw_world.proofs.Accounts.{record_same}
use Rattle.sw_world.proofs.Telling.{outside_told}

standing_right : {H T : Type 0} (t : Terms) (is : IsServer t) (served : IsServed t) (crews : Crews) (shape : Shape) (s : State (Recorded H) (Recorded T)) (c : Core AState) → Stands t served crews shape (views log_of log_of) (parts_of s) c → Ready t s → IsRight t shape s
standing_right t is served crews shape s c st ready =
    let same = record_same t served crews shape s c st ready in
    let holds = record_holds t served crews shape (views log_of log_of) (parts_of s) c st is in
    record {
      out = outside t (server t served crews) c;
      outside = outside_told t served crews shape s c st ready;
      right = subst (λ (r : Record). Right t (LegalFor shape) r (outside t (server t served crews) c) (accepted r)) same holds.right;
      drained = λ finished. subst (Drained t) same (holds.drained (all_done t served crews shape (views log_of log_of) (parts_of s) c st finished));
      seen = subst AfterSeen same holds.seen;
      rise = subst SessionsRise same holds.rise;
    }

pub right_behind_runs : {H T : Type 0} (acts : Acting H) (does : Acting T) (s : State (Recorded H) (Recorded T)) → IsRightBehindRuns acts does s
right_behind_runs acts does s v given tasks first steps m ran =
    let k = ran_stands acts does (terms_of v) m.served (crews_of v given) (shape_of v) steps first s (start (terms_of v) (server (terms_of v) m.served (crews_of v given))) (made_stands v given tasks first m) m.ready ran in
    standing_right (terms_of v) m.server m.served (crews_of v given) (shape_of v) s k.0 k.1.0 k.1.1

-- what holds in any case holds of each answer
pub whatever : {A E : Type 0} (P : Type 0) → P → (r : Result A E) → IfOk r (λ x. P)
whatever P p (Ok x) = p
whatever P p (Err e) = tt
