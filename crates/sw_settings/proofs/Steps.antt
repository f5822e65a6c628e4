use Rattle.std.proofs.Common.{◌≡◌, ℕ, ◌+◌, ◌<◌, ◌≤◌, Bool, true, false, cond, List, length, get_or, drop, Option, Some, None, sym, ap, ◌∙◌}
use Rattle.std.specs.Str.{bytes_eq}
use Rattle.std.proofs.lemmas.List.{at_drop_more, drop_all}
use Rattle.sw_settings.specs.declared.pair.SetValue.{SetValue}
use Rattle.sw_settings.specs.declared.pair.Pair.{Pair}
use Rattle.sw_settings.specs.declared.checks.Check.{Check}
use Rattle.sw_settings.specs.Checks.{first_with, first_behind}
use Rattle.sw_settings.specs.Given.{given}

-- ---- the value that pairs give

given_at : (name : List ℕ) (ps : List Pair) (i : ℕ) (p : Pair) (t : Bool) → i < length ps → p ≡ get_or ps i p → bytes_eq p.name name ≡ t → given name (drop i ps) ≡ cond t (Some p.value) (given name (drop (i + 1) ps))
unfolding given
given_at name ps i p t lt is test =
    let step : given name (drop i ps) ≡ cond (bytes_eq (get_or ps i p).name name) (Some (get_or ps i p).value) (given name (drop (i + 1) ps)) = at_drop_more (given name) ps i p lt in
    let here : given name (drop i ps) ≡ cond (bytes_eq p.name name) (Some p.value) (given name (drop (i + 1) ps)) = rw (← is) at step in
    rw test at here

pub given_next : (name : List ℕ) (ps : List Pair) (i : ℕ) (p : Pair) (t : Bool) (total : Option SetValue) → i < length ps → p ≡ get_or ps i p → t ≡ bytes_eq p.name name → t ≡ false → given name (drop i ps) ≡ total → given name (drop (i + 1) ps) ≡ total
given_next name ps i p t total lt is test other so_far = sym (given_at name ps i p false lt is (sym test ∙ other)) ∙ so_far

pub given_here : (name : List ℕ) (ps : List Pair) (i : ℕ) (p : Pair) (t : Bool) (total : Option SetValue) → i < length ps → p ≡ get_or ps i p → t ≡ bytes_eq p.name name → t ≡ true → given name (drop i ps) ≡ total → Some p.value ≡ total
given_here name ps i p t total lt is test same so_far = sym (given_at name ps i p true lt is (sym test ∙ same)) ∙ so_far

pub given_done : (name : List ℕ) (ps : List Pair) (i : ℕ) (total : Option SetValue) → length ps ≤ i → given name (drop i ps) ≡ total → None ≡ total
unfolding given
given_done name ps i total le so_far = rw (drop_all i ps le) at so_far

-- ---- the first key that a check refuses

pub first_next : (check : Check) (first next : Option (List ℕ)) (ps : List Pair) (i : ℕ) (p : Pair) (total : Option (List ℕ)) → i < length ps → p ≡ get_or ps i p → next ≡ first_with check first p → first_behind check first (drop i ps) ≡ total → first_behind check next (drop (i + 1) ps) ≡ total
unfolding first_behind
first_next check first next ps i p total lt is made so_far =
    let step : first_behind check first (drop i ps) ≡ first_behind check (first_with check first (get_or ps i p)) (drop (i + 1) ps) = at_drop_more (first_behind check first) ps i p lt in
    let here : first_behind check first (drop i ps) ≡ first_behind check (first_with check first p) (drop (i + 1) ps) = rw (← is) at step in
    ap (λ (o : Option (List ℕ)). first_behind check o (drop (i + 1) ps)) made ∙ sym here ∙ so_far

pub first_done : (check : Check) (first : Option (List ℕ)) (ps : List Pair) (i : ℕ) (total : Option (List ℕ)) → length ps ≤ i → first_behind check first (drop i ps) ≡ total → first ≡ total
unfolding first_behind
first_done check first ps i total le so_far = rw (drop_all i ps le) at so_far
