-- The texts of a list, item by item.
use Rattle.std.proofs.Common.{◌≡◌, ℕ, ◌+◌, ◌<◌, ◌≤◌, List, [], ◌++◌, length, get_or, drop, ap, sym, ◌∙◌, append_assoc}
use Rattle.std.proofs.lemmas.List.{append-nil, at_drop_more, drop_all}
use Rattle.sw_record_text.specs.Links.{each_text}

-- one item more is printed
pub each_next : {A : Type 0} (text : ℕ → A → List ℕ) (xs : List A) (n : ℕ) (x : A) (old out new : List ℕ) → n < length xs → x ≡ get_or xs n x → out ++ each_text text n (drop n xs) ≡ old ++ each_text text 0 xs → new ≡ out ++ text n x
    → new ++ each_text text (n + 1) (drop (n + 1) xs) ≡ old ++ each_text text 0 xs
unfolding each_text
each_next {A} text xs n x old out new lt is so_far more =
    let step : each_text text n (drop n xs) ≡ text n (get_or xs n x) ++ each_text text (n + 1) (drop (n + 1) xs) = at_drop_more (each_text text n) xs n x lt in
    let step2 : each_text text n (drop n xs) ≡ text n x ++ each_text text (n + 1) (drop (n + 1) xs) = rw (← is) at step in
    rw more (append_assoc out (text n x) (each_text text (n + 1) (drop (n + 1) xs)) ∙ ap (λ (t : List ℕ). out ++ t) (sym step2) ∙ so_far)

-- all are printed
pub each_done : {A : Type 0} (text : ℕ → A → List ℕ) (xs : List A) (n : ℕ) (old out : List ℕ) → length xs ≤ n → out ++ each_text text n (drop n xs) ≡ old ++ each_text text 0 xs → out ≡ old ++ each_text text 0 xs
unfolding each_text
each_done {A} text xs n old out le so_far =
    let all : out ++ each_text text n [] ≡ old ++ each_text text 0 xs = rw (drop_all n xs le) at so_far in
    sym (append-nil out) ∙ all
