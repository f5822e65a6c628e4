-- Runs: any list of steps from the start.
use Rattle.std.specs.Prelude.{◌≡◌, ◌<◌, ◌≤◌, ◌^◌, true, List, []}
use Rattle.sw_step.specs.declared.actor.ActorId.{ActorId}
use Rattle.sw_record.specs.Terms.{Terms}
use Rattle.sw_record.specs.Places.{Ran}
use Rattle.sw_world_laws.specs.Turns.{AskFinished}
use Rattle.sw_world_laws.specs.Actors.{Actors}
use Rattle.sw_world_laws.specs.World.{Waits, Core, Step, there, start, run, MayRun}

-- the settings have a mode there is, and a reactor and a worker at least
pub record IsServer (t : Terms) : Type 0 where
  pub low : 1 ≤ t.mode
  pub high : t.mode ≤ 5
  pub reactors : 1 ≤ t.reactor_num
  pub workers : 1 ≤ t.worker_num

-- steps that may be made from the start, where the first numbers are left and a Table without calls is legal
pub record IsRun (t : Terms) (legal : List Ran → Type 0) (p : Actors t) (steps : List (Step p.State)) : Type 0 where
  pub server : IsServer t
  pub all : (y : ActorId) → p.mine y ≡ true
  pub last : t.session_last < 2 ^ 32
  pub empty : legal []
  pub may : MayRun t legal p (start t p) steps

-- the world behind them
abbrev pub ran : (t : Terms) (p : Actors t) → List (Step p.State) → Core p.State
ran t p steps = run t p steps (start t p)

-- all actors are finished
abbrev pub AllDone : (t : Terms) (p : Actors t) → Core p.State → Type 0
AllDone t p c = (y : ActorId) → there t y ≡ true → c.nexts y ≡ Waits AskFinished
