-- A new worker and a new task worker are the family's first states.
use Rattle.std.proofs.Common.{◌≡◌, ℕ, zero, suc, ◌+◌, List, length, replicate, slice_index_or, refl, ap, arith, None, inr}
use Rattle.sw_step.specs.declared.actor.ActorId.TheVariants.{Worker, Tasker}
use Rattle.sw_base.specs.declared.table.Value.{Value}
use Rattle.sw_record.specs.Terms.{Terms}
use Rattle.sw_hand.specs.House.{IsHouse}
use Rattle.sw_hand.specs.Hand.{own_room}
use Rattle.sw_hand.specs.declared.house.House.{House}
use Rattle.sw_hand.specs.declared.house.Kind.TheVariants as kinds
use Rattle.sw_worker.specs.Worker.{started as worker_started}
use Rattle.sw_tasker.specs.Tasker.{started as tasker_started}
use Rattle.sw_hand_fits.specs.Matches.{HouseFits, own_of, BothIdle}
use Rattle.sw_world_hands.specs.Hands.{Crews, new_hand}
use Rattle.sw_world_hand_fits.specs.Hands.{TaskerIs, WorkerIs}

-- no session stands anywhere
none_there : (n fd : ℕ) → None ≡ own_of (slice_index_or (replicate n 0) fd 0)
none_there zero fd = refl
none_there (suc n) zero = refl
none_there (suc n) (suc fd) = none_there n fd

room_length : (n : ℕ) → length {A = ℕ} (replicate n 0) ≡ n
room_length zero = refl
room_length (suc n) = ap (λ k. suc k) (room_length n)

pub tasker_starts : {T : Type 0} (t : Terms) (k left : ℕ) (handler : T) (row : List Value) (house : House) → IsHouse house → HouseFits t house → TaskerIs t (Tasker k) (tasker_started k handler row house) (new_hand left)
tasker_starts t k left handler row house is fits = record {
  code = record { house = is; own = refl; out = omega arith; ended = omega arith; stage = tt };
  matches = record { house = fits; kind = refl; own_is = λ keep fd lt. none_there 0 fd; next_is = refl; out_is = refl; ended_is = omega arith; kept = refl };
  stage = BothIdle;
}

pub worker_starts : {H : Type 0} (t : Terms) (crews : Crews) (w : ℕ) (handlers : List H) (row : List Value) (house : House) → IsHouse house → HouseFits t house → length handlers ≡ crews.left (Worker w) + 1 → WorkerIs t crews (Worker w) (worker_started 0 w handlers crews.limit row house) (new_hand (crews.left (Worker w)))
worker_starts t crews w handlers row house is fits q = record {
  hand = record {
    code = record { house = is; own = room_length (own_room house (kinds.Worker w)); out = omega arith; ended = omega arith; stage = tt };
    matches = record { house = fits; kind = refl; own_is = λ keep fd lt. none_there (own_room house (kinds.Worker w)) fd; next_is = refl; out_is = refl; ended_is = omega arith; kept = refl };
    stage = BothIdle;
  };
  line = record { most = refl; at = refl; left = omega (arith, q); events = omega arith; few = inr (inr (omega arith)) };
}
