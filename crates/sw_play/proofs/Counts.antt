-- As many handlers as the settings ask for are refused by no core.
use Rattle.std.proofs.Common.{◌≡◌, ◌∙◌, ℕ, zero, suc, ◌<◌, ◌≤◌, ◌==◌, Bool, true, false, if◌then◌else◌, List, [], ◌∷◌, length, Option, Some, None, refl, sym, subst, arith}
use Rattle.std.specs.List.{All}
use Rattle.std.proofs.lemmas.Bool.{eq-eqb}
use Rattle.std.proofs.lemmas.List.Elements.{All-head, All-tail, All-weaker}
use Rattle.sw_lists.proofs.Lists.{eq_other}
use Rattle.sw_settings.specs.declared.values.Values.{Values}
use Rattle.sw_world_make.specs.declared.fault.Part.{Part}
use Rattle.sw_world_make.specs.declared.fault.Part.TheVariants.{Workers, Taskers}
use Rattle.sw_world_make.specs.declared.fault.WorldFault.{WorldFault}
use Rattle.sw_world_make.specs.Faults.{or_next, unhandled, count_fault}
use Rattle.sw_following.specs.Following.{Many}

equal : (part : Part) (need given : ℕ) (next : Option WorldFault) → given ≡ need → or_next part need given next ≡ next
equal part need given next e = rw (eq-eqb given need e) refl

some : (n : ℕ) → 0 < n → (n == 0) ≡ false
some n h = eq_other n 0 (λ e. omega (arith, e, h))

handled : {H : Type 0} (given : List (List H)) → All (λ (hs : List H). 0 < length hs) given → unhandled given ≡ None
handled [] h = refl
handled {H} (hs ∷ rest) h =
    rw (some (length hs) (All-head (λ (ks : List H). 0 < length ks) hs rest h)) (handled rest (All-tail (λ (ks : List H). 0 < length ks) hs rest h))

-- a list for each worker, with so many in each, and one for each task worker
pub enough : {H T : Type 0} (P : H → Type 0) (v : Values) (given : List (List H)) (tasks : List T) (w k generations : ℕ) → w ≡ v.worker_num → k ≡ v.task_worker_num → 1 ≤ generations → Many (Many P generations) w given → length tasks ≡ k
    → count_fault v given (length tasks) ≡ None
enough {H} {T} P v given tasks w k generations ew ek least lists counts =
    let each : All (λ (hs : List H). 0 < length hs) given = All-weaker (Many P generations) (λ (hs : List H). 0 < length hs) (λ hs many. omega (arith, many.0, least)) given lists.1 in
    equal Workers v.worker_num (length given) (or_next Taskers v.task_worker_num (length tasks) (unhandled given)) (lists.0 ∙ ew)
    ∙ equal Taskers v.task_worker_num (length tasks) (unhandled given) (counts ∙ ek)
    ∙ handled given each
