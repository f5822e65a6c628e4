-- The handlers that are given, and what a core has of them.
use Rattle.std.specs.Prelude.{◌≡◌, ℕ, zero, suc, ◌-◌, List, [], ◌∷◌, ◌++◌, length, map, replicate}
use Rattle.sw_step.specs.declared.actor.ActorId.{ActorId}
use Rattle.sw_step.specs.declared.actor.ActorId.TheVariants.{Door, Reactor, Worker, Tasker}
use Rattle.sw_settings.specs.declared.values.Values.{Values}
use Rattle.sw_world_crew.specs.declared.recorded.Recorded.{Recorded}
use Rattle.sw_world_crew.specs.Recorded.{inner_of, log_of}
use Rattle.sw_hand.specs.declared.hand.Hand.{Hand as CodeHand}
use Rattle.sw_worker.specs.Generations.{Line}
use Rattle.sw_world_hands.specs.Hands.{Crews, new_hand}
use Rattle.sw_world_crew_fits.specs.Stand.{WorkersStand, TaskersStand}
use Rattle.sw_world_make.specs.Terms.{terms_of}

-- how many handlers follow the first one of a worker, by how many each worker is given
abbrev pub left_of : List ℕ → ℕ → ℕ
left_of [] n = 0
left_of (k ∷ ks) zero = k - 1
left_of (k ∷ ks) (suc n) = left_of ks n

-- no other actor has more than one
abbrev pub left_by : List ℕ → ActorId → ℕ
left_by ks (Worker n) = left_of ks n
left_by ks (Tasker n) = 0
left_by ks (Reactor n) = 0
left_by ks Door = 0

-- the same, with how many events a handler is given that another follows
abbrev pub crews_by : ℕ → List ℕ → Crews
crews_by limit ks = record { limit = limit; left = left_by ks }

abbrev pub crews_of : {H : Type 0} → Values → List (List H) → Crews
crews_of {H} v given = crews_by v.max_request (map (λ (hs : List H). length hs) given)

-- handlers with logs: these, and each was told nothing yet
abbrev pub AreRecorded : {H : Type 0} → List H → List (Recorded H) → Type 0
AreRecorded given all = (map inner_of all ≡ given) × (map log_of all ≡ replicate (length all) [])

-- so many workers before their first turns, by how many handlers each has
abbrev pub WorkersNew : {H : Type 0} → Values → List ℕ → ℕ → List (CodeHand (Line (Recorded H))) → Type 0
WorkersNew v ks count all = WorkersStand log_of (terms_of v) (crews_by v.max_request ks) count all (λ n. new_hand (left_of ks n))

-- a worker's handlers without their logs
abbrev pub handlers_of : {H : Type 0} → CodeHand (Line (Recorded H)) → List H
handlers_of h = map inner_of h.handler.items

-- workers before their first turns with these handlers, which were told nothing yet
pub record AreWorkers {H : Type 0} (v : Values) (given : List (List H)) (all : List (CodeHand (Line (Recorded H)))) : Type 0 where
  pub stand : WorkersNew v (map (λ (hs : List H). length hs) given) (length given) all
  pub handlers : map handlers_of all ≡ given

-- one worker more, behind any that were given so
abbrev pub AddsWorker : {H : Type 0} → Values → List H → List (CodeHand (Line (Recorded H))) → List (CodeHand (Line (Recorded H))) → Type 0
AddsWorker {H} v handlers all more = (given : List (List H)) → AreWorkers v given all → AreWorkers v (given ++ handlers ∷ []) more

-- a task worker's handler without its log
abbrev pub handler_of : {T : Type 0} → CodeHand (Recorded T) → T
handler_of h = inner_of h.handler

-- task workers before their first turns with these handlers
pub record AreTaskers {T : Type 0} (v : Values) (given : List T) (all : List (CodeHand (Recorded T))) : Type 0 where
  pub stand : TaskersStand log_of (terms_of v) (length given) all (λ n. new_hand 0)
  pub handlers : map handler_of all ≡ given

abbrev pub AddsTasker : {T : Type 0} → Values → T → List (CodeHand (Recorded T)) → List (CodeHand (Recorded T)) → Type 0
AddsTasker {T} v handler all more = (given : List T) → AreTaskers v given all → AreTaskers v (given ++ handler ∷ []) more
