-- What the seats of the Table show together.
use Rattle.std.specs.Prelude.{◌≡◌, ℕ, ◌<◌, [], List, length, slice_get, Some}
use Rattle.sw_lists.specs.Lists.{collect, Each, Has}
use Rattle.sw_lists.specs.Numbers.{Rises}
use Rattle.sw_step.specs.declared.actor.ActorId.{ActorId}
use Rattle.sw_record.specs.Answers.{answers_of}
use Rattle.sw_record.specs.Places.{Ran, placed, places, busy_in, spent_in}
use Rattle.sw_record.specs.Terms.{Terms}
use Rattle.sw_past.specs.Past.{Past}
use Rattle.sw_past.specs.Routes.{IsHand}

-- what the Table's seats show together at its close, and each hand's log its seat's list
pub record TableLaws (t : Terms) (legal : List Ran → Type 0) (h : Past) (seat : ActorId → List (ℕ × Ran)) : Type 0 where
  pub logged : (y : ActorId) → IsHand t y → placed (h.log y) ≡ seat y
  pub history : List Ran
  pub is_legal : legal history
  pub each : (y : ActorId) → Each (λ (p : ℕ × Ran). slice_get history p.0 ≡ Some p.1) (seat y)
  pub rise : (y : ActorId) → Rises (places (seat y))
  pub once : (y z : ActorId) → ¬ (y ≡ z) → Each (λ n. Each (λ m. ¬ (n ≡ m)) (places (seat z))) (places (seat y))
  pub all : (n : ℕ) → n < length history → (y : ActorId) × (IsHand t y × Has n (places (seat y)))
  -- local: a hand tries a call again that a lock was in the way of, and says that places are spent where its seat said so
  pub no_busy : (y : ActorId) → IsHand t y → collect busy_in (answers_of (h.log y)) ≡ []
  pub spent : (y : ActorId) → IsHand t y → Each (λ n. (n ≡ t.table_last_call) × (length history ≡ n)) (collect spent_in (answers_of (h.log y)))
