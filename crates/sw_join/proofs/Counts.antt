-- Counts by sender: what is said of all together is said of each, where each is bounded.
use Rattle.std.proofs.Common.{◌≡◌, ◌⊎◌, ℕ, ◌+◌, ◌<◌, ◌≤◌, Bool, true, false, if◌then◌else◌, List, [], ◌∷◌, ◌++◌, length, refl, ap, ◌∙◌, sym, arith, inl, inr, zero, suc}
use Rattle.sw_lists.proofs.Lists.{equal_or_not, length_append}
use Rattle.sw_lists.specs.Lists.{collect, Each, when}
use Rattle.sw_lists.specs.Numbers.{sum_below}
use Rattle.sw_step.specs.Actors.{is}
use Rattle.sw_step.specs.declared.actor.ActorId.{ActorId}
use Rattle.sw_step.specs.declared.actor.ActorId.TheVariants.{Worker}
use Rattle.sw_record.specs.Terms.{Terms}
use Rattle.sw_past.specs.Messages.{Message}
use Rattle.sw_past.specs.Past.{Mail, bare, of}
use Rattle.sw_past.specs.Routes.{IsWorker}
use Rattle.sw_join.proofs.Routes.{is_other, is_refl, is_same}
use Rattle.sw_lists.proofs.Sums.{sum_same, sum_add}

-- what is counted at one worker
abbrev at : ActorId → ℕ → ℕ → ℕ
at y c k = if is y (Worker k) then c else 0

at_other : (y : ActorId) (c n : ℕ) → ((k : ℕ) → k < n → ¬ (y ≡ Worker k)) → sum_below (at y c) n ≡ 0
at_other y c zero h = refl
at_other y c (suc n) h =
    let a : sum_below (at y c) n ≡ 0 = at_other y c n (λ k lt. h k (omega arith)) in
    let b : at y c n ≡ 0 = rw (is_other y (Worker n) (h n (omega arith))) refl in
    omega arith

at_most : (y : ActorId) (c n : ℕ) → sum_below (at y c) n ≤ c
at_most y c zero = omega arith
at_most y c (suc n) = pick (is y (Worker n)) refl (at_most y c n)
  where
    pick : (b : Bool) → is y (Worker n) ≡ b → sum_below (at y c) n ≤ c → sum_below (at y c) n + at y c n ≤ c
    pick true q i =
        let a : sum_below (at y c) n ≡ 0 = at_other y c n (λ k lt e. let f : Worker k ≡ Worker n = sym e ∙ is_same y (Worker n) q in let g : k ≡ n = cc in absurd (omega arith)) in
        let b : at y c n ≡ c = rw q refl in
        omega arith
    pick false q i = let b : at y c n ≡ 0 = rw q refl in omega arith

at_least : (c k n : ℕ) → k < n → c ≤ sum_below (at (Worker k) c) n
at_least c k zero lt = absurd (omega arith)
at_least c k (suc n) lt =
    elim (equal_or_not k n) [
      | inl e ↦ (let b : at (Worker k) c n ≡ c = rw (sym e, is_refl (Worker k)) refl in omega arith)
      | inr other ↦ (let r : c ≤ sum_below (at (Worker k) c) n = at_least c k n (omega (arith, other)) in omega arith)
    ]

-- how many of these come of a worker
abbrev pub count_of : {B : Type 0} → (Message → List B) → Mail → ℕ → ℕ
count_of f ms k = length (collect f (of (Worker k) ms))

count_head : {B : Type 0} (f : Message → List B) (e : ActorId × Message) (ms : Mail) (k : ℕ) → count_of f (e ∷ ms) k ≡ at e.0 (length (f e.1)) k + count_of f ms k
count_head f e ms k = pick (is e.0 (Worker k))
  where
    pick : (b : Bool) → length (collect f (when b e.1 ++ of (Worker k) ms)) ≡ (if b then length (f e.1) else 0) + count_of f ms k
    pick true = length_append (f e.1) (collect f (of (Worker k) ms))
    pick false = omega arith

pub counts_most : {B : Type 0} (f : Message → List B) (ms : Mail) (n : ℕ) → sum_below (count_of f ms) n ≤ length (collect f (bare ms))
counts_most f [] n = none n
  where
    none : (m : ℕ) → sum_below (count_of f []) m ≤ 0
    none zero = omega arith
    none (suc m) = let a : sum_below (count_of f []) m ≤ 0 = none m in omega arith
counts_most f (e ∷ ms) n =
    let a : sum_below (count_of f (e ∷ ms)) n ≡ sum_below (λ k. at e.0 (length (f e.1)) k + count_of f ms k) n = sum_same (count_of f (e ∷ ms)) (λ k. at e.0 (length (f e.1)) k + count_of f ms k) n (count_head f e ms) in
    let b : sum_below (λ k. at e.0 (length (f e.1)) k + count_of f ms k) n ≡ sum_below (at e.0 (length (f e.1))) n + sum_below (count_of f ms) n = sum_add (at e.0 (length (f e.1))) (count_of f ms) n in
    let c : sum_below (at e.0 (length (f e.1))) n ≤ length (f e.1) = at_most e.0 (length (f e.1)) n in
    let d : sum_below (count_of f ms) n ≤ length (collect f (bare ms)) = counts_most f ms n in
    omega (arith, length_append (f e.1) (collect f (bare ms)))

pub counts_least : {B : Type 0} (f : Message → List B) (t : Terms) (ms : Mail) → Each (λ (e : ActorId × Message). (f e.1 ≡ []) ⊎ IsWorker t e.0) ms → length (collect f (bare ms)) ≤ sum_below (count_of f ms) t.worker_num
counts_least f t [] h = omega arith
counts_least f t (e ∷ ms) h =
    let n : ℕ = t.worker_num in
    let a : sum_below (count_of f (e ∷ ms)) n ≡ sum_below (λ k. at e.0 (length (f e.1)) k + count_of f ms k) n = sum_same (count_of f (e ∷ ms)) (λ k. at e.0 (length (f e.1)) k + count_of f ms k) n (count_head f e ms) in
    let b : sum_below (λ k. at e.0 (length (f e.1)) k + count_of f ms k) n ≡ sum_below (at e.0 (length (f e.1))) n + sum_below (count_of f ms) n = sum_add (at e.0 (length (f e.1))) (count_of f ms) n in
    let d : length (collect f (bare ms)) ≤ sum_below (count_of f ms) n = counts_least f t ms h.1 in
    let c : length (f e.1) ≤ sum_below (at e.0 (length (f e.1))) n = head h.0 in
    omega (arith, length_append (f e.1) (collect f (bare ms)))
  where
    head : ((f e.1 ≡ []) ⊎ IsWorker t e.0) → length (f e.1) ≤ sum_below (at e.0 (length (f e.1))) t.worker_num
    head (inl none) = let z : length (f e.1) ≡ 0 = ap (λ xs. length xs) none in omega arith
    head (inr w) = rw w.1.1 (at_least (length (f e.1)) w.0 t.worker_num w.1.0)
