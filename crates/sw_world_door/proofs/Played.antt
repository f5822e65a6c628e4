-- A run that was played: a link arrives, the door reads the stop word, accepts and pushes the link to its reactor. So what
-- the theorems ask of a run can be met.
use Rattle.std.proofs.Common.{◌≡◌, true, false, List, [], ◌∷◌, refl, arith, inl}
use Rattle.sw_frame.specs.declared.framing.Framing.TheVariants.{Raw}
use Rattle.sw_step.specs.declared.actor.ActorId.{ActorId}
use Rattle.sw_step.specs.declared.actor.ActorId.TheVariants.{Door, Reactor, Worker, Tasker}
use Rattle.sw_record.specs.Words.{AcceptedCount}
use Rattle.sw_record.specs.declared.record.LinkState.TheVariants.{Live}
use Rattle.sw_record.specs.Terms.{Terms}
use Rattle.sw_record.specs.Right.{Right}
use Rattle.sw_record.specs.Sessions.{accepted}
use Rattle.sw_past.specs.Claims.{Drew}
use Rattle.sw_past.specs.Messages.{FreshMsg}
use Rattle.sw_world_ports.specs.Calls.{Accepts, SeesStop, Adds}
use Rattle.sw_world_laws.specs.Turns.{AskPush, AskNothing}
use Rattle.sw_world_laws.specs.Actors.{Actors}
use Rattle.sw_world_laws.specs.World.{Step, Goes, Arrive, start, MayRun}
use Rattle.sw_world_laws.specs.Account.{untouched, coming, account, outside}
use Rattle.sw_world_laws.specs.Runs.{ran}
use Rattle.sw_world_laws.proofs.Mix.{mix}
use Rattle.sw_world_laws.proofs.Right.{run_right}
use Rattle.sw_world_door.specs.Doors.{new_door, Reads, Draws}
use Rattle.sw_world_door.proofs.Family.{doors}
use Rattle.sw_world_door.proofs.Resting.{resting}

abbrev terms : Terms
terms = record { framing = Raw; mode = 2; worker_num = 1; tasker_num = 0; reactor_num = 2; max_conn = 4; session_last = 0; buffer_size = 8; pipe_capacity = 1; columns = []; table_last_call = 0; start_fault = false; listen_fault = false }

abbrev family : Actors terms
family = mix terms (doors terms) (resting terms)

abbrev played : List (Step (family).State)
played =
    Arrive 7
    ∷ Goes Door (record { dids = SeesStop false ∷ []; state = inl (record new_door { accepts = true }); ask = AskNothing; fails = false })
    ∷ Goes Door (record { dids = Accepts 7 (Drew 1) ∷ Adds AcceptedCount ∷ []; state = inl (record new_door { accepts = false; to = Reactor 1 }); ask = AskPush (Reactor 1) (FreshMsg 7 1); fails = false })
    ∷ Goes Door (record { dids = []; state = inl new_door; ask = AskNothing; fails = false })
    ∷ []

may : MayRun terms (λ h. Unit {0}) family (start terms family) played
may = ((λ q. tt), ((λ q e. ((refl, Reads false refl refl refl refl refl), (refl, tt))), ((λ q e. ((refl, Draws 7 1 refl refl refl refl refl), ((([], refl), refl), (tt, tt)))), ((λ q e. tt), tt))))

mine : (y : ActorId) → (family).mine y ≡ true
mine Door = refl
mine (Reactor n) = refl
mine (Worker n) = refl
mine (Tasker n) = refl

-- it is in its reactor's pipe, and the record shows it on its way
in_pipe : (ran terms family played).pipes (Reactor 1) ≡ FreshMsg 7 1 ∷ []
in_pipe = refl

shown : (account terms family (ran terms family played)).links ≡ untouched 7 (Live (coming terms 7 1)) ∷ []
shown = refl

-- and the record is right
pub played_right : Right terms (λ h. Unit {0}) (account terms family (ran terms family played)) (outside terms family (ran terms family played)) (accepted (account terms family (ran terms family played)))
played_right = run_right terms (λ h. Unit {0}) family played (record { server = record { low = omega arith; high = omega arith; reactors = omega arith; workers = omega arith }; all = mine; last = omega arith; empty = tt; may = may }) refl
