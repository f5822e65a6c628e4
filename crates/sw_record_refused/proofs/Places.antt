-- Wrong places are refused.
use Rattle.std.proofs.Common.{◌≡◌, ℕ, ◌<◌, List, [], ◌∷◌, refl, arith}
use Rattle.sw_record.specs.Words.{Connect, Done, Any, Posted}
use Rattle.sw_record_refused.specs.Wrong.{in_mode, told, answered, live, with_logs, calls, busy, spent, at_place, call_at, calls_fall, call_refused, saw_five, saw_three}
use Rattle.sw_record.specs.Places.{Placed}
use Rattle.sw_record.specs.AfterSeen.{AfterSeen}
use Rattle.sw_record_refused.specs.Refused.{AnyLegal, RefusedPlaces}

twice : Placed (in_mode 2) AnyLegal (with_logs (live 2) (call_at 0) (call_at 0) []) → ⊥
twice h = (h.once 0 1 (call_at 0) (call_at 0) refl refl (λ q. (let x : ◌≡◌ {A = ℕ} 0 1 = q in omega arith))).0.0 refl

falling : Placed (in_mode 2) AnyLegal (with_logs (live 2) calls_fall [] []) → ⊥
falling h = let e : 1 < 0 = (h.rise 0 calls_fall refl).0.0 in omega arith

was_busy : Placed (in_mode 2) AnyLegal (with_logs (live 2) (call_refused busy) [] []) → ⊥
was_busy h = let e : ◌≡◌ {A = List ℕ} (0 ∷ []) [] = h.no_busy 0 (call_refused busy) refl in cc

too_early : Placed (in_mode 2) AnyLegal (with_logs (live 2) (call_refused (spent 5)) [] []) → ⊥
too_early h = let e : ◌≡◌ {A = ℕ} 5 1 = (h.spent 0 (call_refused (spent 5)) refl).0.0 in omega arith

unseen : AfterSeen (with_logs (live 2) saw_five [] saw_three) → ⊥
unseen h =
    let e : 5 < 3 = (h.task 0 0 saw_five saw_three refl refl 0 (97 ∷ []) calls [] (at_place 3 Done ∷ []) (told (Connect 2) calls ∷ []) (answered (Posted 0) Done ∷ []) (at_place 5 Done).0 refl
    (record { dst = Any; bytes = 97 ∷ []; split = refl; next = refl })).0.0 in
    omega arith

pub places : RefusedPlaces
places = record { twice = twice; falling = falling; busy = was_busy; spent = too_early; unseen = unseen }
