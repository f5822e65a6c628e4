-- Any step.
use Rattle.std.proofs.Common.{◌≡◌, sym, subst}
use Rattle.sw_step.specs.declared.step.Step.{Step}
use Rattle.sw_step.specs.declared.step.Step.TheVariants as steps
use Rattle.sw_link.specs.declared.memory_link.LinkStep.TheVariants as scripts
use Rattle.sw_record.specs.Words.{Log}
use Rattle.sw_record.specs.Terms.{Terms}
use Rattle.sw_table_laws.specs.Table.{Shape}
use Rattle.sw_world_laws.specs.World.{Core}
use Rattle.sw_hand.specs.Ports.{Acting}
use Rattle.sw_world_hands.specs.Hands.{Crews}
use Rattle.sw_world_hand_fits.specs.Hands.{Numbers, Tells}
use Rattle.sw_world_front.specs.Front.{arrived, net_ended}
use Rattle.sw_world_steps.specs.Server.{IsServed, AState}
use Rattle.sw_world_whole.specs.Whole.{Stands}
use Rattle.sw_world_whole.proofs.Coming.{arrives, net_ends}
use Rattle.sw_world_state.specs.declared.state.State.{State}
use Rattle.sw_world_state.specs.State.{parts_of, views}
use Rattle.sw_world_state.specs.Steps.{Steps}
use Rattle.sw_world_goes.specs.Ready.{Ready, Goes}
use Rattle.sw_world_goes.proofs.Scripted.{front_ready, script_goes}
use Rattle.sw_world_goes.proofs.Went.{actor_goes}

pub step_goes : {H T : Type 0} (acts : Acting H) (does : Acting T) (t : Terms) (served : IsServed t) (crews : Crews) (shape : Shape) (worker : H → Log) (tasker : T → Log) → Numbers acts → Numbers does → Tells worker acts → Tells tasker does → (c : Core AState) (s n : State H T) →
    Stands t served crews shape (views worker tasker) (parts_of s) c → Ready t s → (step : Step) → Steps acts does s step n → Goes t served crews shape worker tasker c n
step_goes acts does t served crews shape worker tasker num nums tells told c s n st ready (steps.Arrive ip) h =
    subst (Goes t served crews shape worker tasker c) (sym h)
    (record { step = arrives t served crews shape (views worker tasker) (parts_of s) c st ip; ready = front_ready t s (arrived ip s.front) ready })
step_goes acts does t served crews shape worker tasker num nums tells told c s n st ready (steps.Piece link bytes) h = script_goes t served crews shape worker tasker c s n st ready link (scripts.Piece bytes) h
step_goes acts does t served crews shape worker tasker num nums tells told c s n st ready (steps.End link) h = script_goes t served crews shape worker tasker c s n st ready link scripts.End h
step_goes acts does t served crews shape worker tasker num nums tells told c s n st ready (steps.Wait link k) h = script_goes t served crews shape worker tasker c s n st ready link (scripts.Wait k) h
step_goes acts does t served crews shape worker tasker num nums tells told c s n st ready (steps.Room link k) h = script_goes t served crews shape worker tasker c s n st ready link (scripts.Room k) h
step_goes acts does t served crews shape worker tasker num nums tells told c s n st ready (steps.FailRead link k) h = script_goes t served crews shape worker tasker c s n st ready link (scripts.FailRead k) h
step_goes acts does t served crews shape worker tasker num nums tells told c s n st ready (steps.FailWrite link k) h = script_goes t served crews shape worker tasker c s n st ready link (scripts.FailWrite k) h
step_goes acts does t served crews shape worker tasker num nums tells told c s n st ready steps.NetEnd h =
    subst (Goes t served crews shape worker tasker c) (sym h)
    (record { step = net_ends t served crews shape (views worker tasker) (parts_of s) c st; ready = front_ready t s (net_ended s.front) ready })
step_goes acts does t served crews shape worker tasker num nums tells told c s n st ready (steps.Turn y) h = actor_goes t served crews shape worker tasker acts does num nums tells told c s st ready y n h
