-- The hands of the core beside the family's states.
use Rattle.std.specs.Prelude.{◌≡◌, ℕ, ◌<◌, List, length, slice_get, Some}
use Rattle.sw_step.specs.declared.actor.ActorId.TheVariants.{Worker, Tasker}
use Rattle.sw_record.specs.Words.{Log}
use Rattle.sw_record.specs.Terms.{Terms}
use Rattle.sw_hand.specs.Hand.{HasRow}
use Rattle.sw_hand.specs.declared.hand.Hand.{Hand as CodeHand}
use Rattle.sw_worker.specs.Generations.{Line}
use Rattle.sw_world_hands.specs.Hands.{HandState, Crews}
use Rattle.sw_world_hand_fits.specs.Hands.{TaskerIs, WorkerIs, Numbered, LineTells}

-- a worker's code has this state, is about sessions other than 0, has a row with the Table's columns, and its handlers tell its log
pub record WorkerStands {H : Type 0} (told : H → Log) (t : Terms) (crews : Crews) (n : ℕ) (h : CodeHand (Line H)) (s : HandState) : Type 0 where
  pub is : WorkerIs t crews (Worker n) h s
  pub numbered : Numbered s.stage
  pub row : HasRow t.columns h.house h.row
  pub tells : LineTells told s.hand h.handler

-- the same of the worker of this number, and of so many
abbrev pub WorkerAt : {H : Type 0} → (H → Log) → Terms → Crews → List (CodeHand (Line H)) → ℕ → HandState → Type 0
WorkerAt {H} told t crews all n s = (h : CodeHand (Line H)) × ((slice_get all n ≡ Some h) × WorkerStands told t crews n h s)

pub record WorkersStand {H : Type 0} (told : H → Log) (t : Terms) (crews : Crews) (count : ℕ) (all : List (CodeHand (Line H))) (states : ℕ → HandState) : Type 0 where
  pub many : length all ≡ count
  pub each : (n : ℕ) → n < count → WorkerAt told t crews all n (states n)

-- a task worker's code
pub record TaskerStands {T : Type 0} (told : T → Log) (t : Terms) (n : ℕ) (h : CodeHand T) (s : HandState) : Type 0 where
  pub is : TaskerIs t (Tasker n) h s
  pub numbered : Numbered s.stage
  pub row : HasRow t.columns h.house h.row
  pub tells : told h.handler ≡ s.hand.log

-- the same of the task worker of this number, and of so many
abbrev pub TaskerAt : {T : Type 0} → (T → Log) → Terms → List (CodeHand T) → ℕ → HandState → Type 0
TaskerAt {T} told t all n s = (h : CodeHand T) × ((slice_get all n ≡ Some h) × TaskerStands told t n h s)

pub record TaskersStand {T : Type 0} (told : T → Log) (t : Terms) (count : ℕ) (all : List (CodeHand T)) (states : ℕ → HandState) : Type 0 where
  pub many : length all ≡ count
  pub each : (n : ℕ) → n < count → TaskerAt told t all n (states n)
