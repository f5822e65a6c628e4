-- Where no number is refused, all numbers are right.
use Rattle.std.proofs.Common.{◌≡◌, ℕ, zero, suc, ◌<◌, ◌==◌, Bool, true, false, if◌then◌else◌, List, [], ◌∷◌, length, map, All, Option, Some, None, refl, ap, ◌∙◌, sym, arith}
use Rattle.std.proofs.lemmas.List.{length-map}
use Rattle.std.proofs.lemmas.List.Elements.{All-nil, All-cons}
use Rattle.sw_lists.proofs.Lists.{eq_is, eq_same}
use Rattle.sw_settings.specs.declared.values.Values.{Values}
use Rattle.sw_world_make.specs.declared.fault.Part.{Part}
use Rattle.sw_world_make.specs.declared.fault.Part.TheVariants.{Workers, Taskers, Generations}
use Rattle.sw_world_make.specs.declared.fault.WorldFault.{WorldFault}
use Rattle.sw_world_make.specs.declared.fault.WorldFault.TheVariants.{Count}
use Rattle.sw_world_make.specs.Faults.{or_next, unhandled, count_fault}

is_next : (part : Part) (need given : ℕ) (next : Option WorldFault) → or_next part need given next ≡ None → (given ≡ need) × (next ≡ None)
is_next part need given next e = pick (given == need) refl e
  where
    pick : (b : Bool) → (given == need) ≡ b → (if b then next else Some (Count part need given)) ≡ None → (given ≡ need) × (next ≡ None)
    pick true q h = (eq_is given need q, h)
    pick false q h = absurd (cc)

pub counted : {H : Type 0} (v : Values) (workers : List (List H)) (taskers : ℕ) → count_fault v workers taskers ≡ None → (length workers ≡ v.worker_num) × ((taskers ≡ v.task_worker_num) × (unhandled workers ≡ None))
counted v workers taskers e =
    let first = is_next Workers v.worker_num (length workers) (or_next Taskers v.task_worker_num taskers (unhandled workers)) e in
    let second = is_next Taskers v.task_worker_num taskers (unhandled workers) first.1 in
    (first.0, (second.0, second.1))

some_handler : (n : ℕ) → (n == 0) ≡ false → 0 < n
some_handler zero e = absurd (let q : (zero == 0) ≡ true = eq_same zero 0 refl in cc)
some_handler (suc n) e = omega arith

handled_first : {X H : Type 0} (items : X → List H) (x : X) (xs : List X) (b : Bool) → (length (items x) == 0) ≡ b → (if b then Some (Count Generations 1 0) else unhandled (map items xs)) ≡ None → (unhandled (map items xs) ≡ None → All (λ y. 0 < length (items y)) xs) → All (λ y. 0 < length (items y)) (x ∷ xs)
handled_first items x xs true q h rest = absurd (cc)
handled_first {X} items x xs false q h rest = All-cons (λ (y : X). 0 < length (items y)) x xs (some_handler (length (items x)) q) (rest h)

-- a handler in each list
pub handled : {X H : Type 0} (items : X → List H) (xs : List X) → unhandled (map items xs) ≡ None → All (λ x. 0 < length (items x)) xs
handled {X} items [] e = All-nil (λ (x : X). 0 < length (items x))
handled items (x ∷ xs) e = handled_first items x xs (length (items x) == 0) refl e (λ h. handled items xs h)

-- what is counted
pub counts : {X H : Type 0} (items : X → List H) (v : Values) (workers : List X) (taskers w k many more : ℕ) (lists tasks first : Option WorldFault) → many ≡ length workers → more ≡ taskers → w ≡ v.worker_num → k ≡ v.task_worker_num → lists ≡ unhandled (map items workers) → tasks ≡ or_next Taskers k more lists → first ≡ or_next Workers w many tasks → first ≡ count_fault v (map items workers) taskers
counts items v workers taskers w k many more lists tasks first em er ew ek el et ef =
    ef
    ∙ ap (λ (n : ℕ). or_next Workers w n tasks) em
    ∙ ap (λ (x : Option WorldFault). or_next Workers w (length workers) x) et
    ∙ ap (λ (n : ℕ). or_next Workers w (length workers) (or_next Taskers k n lists)) er
    ∙ ap (λ (x : Option WorldFault). or_next Workers w (length workers) (or_next Taskers k taskers x)) el
    ∙ ap (λ (n : ℕ). or_next Workers w (length workers) (or_next Taskers n taskers (unhandled (map items workers)))) ek
    ∙ ap (λ (n : ℕ). or_next Workers n (length workers) (or_next Taskers v.task_worker_num taskers (unhandled (map items workers)))) ew
    ∙ ap (λ (n : ℕ). or_next Workers v.worker_num n (or_next Taskers v.task_worker_num taskers (unhandled (map items workers)))) (sym (length-map workers items))
