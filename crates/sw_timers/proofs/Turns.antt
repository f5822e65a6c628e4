-- Turns in a heap: the first is the soonest, and what comes in and goes out.
use Rattle.std.proofs.Common.{◌≡◌, ℕ, zero, suc, ◌<◌, ◌⊎◌, inl, inr, Bool, true, false, cond, List, [], ◌∷◌, length, get_or, Option, Some, None, refl, ap, sym, subst, ◌∙◌, true≢false, arith}
use Rattle.std.specs.Prelude.{All, Contains, IsPermutation, IfSome, IfNone, IsOk, OnOk, Result, Ok, Err, nat_lt, ◌==◌}
use Rattle.std.specs.List.{AllByRecursion, filter}
use Rattle.std.specs.Ordering.{nat_cmp, ordering_then, is_lt}
use Rattle.std.specs.declared.cmp.Ordering.TheVariants.{Less, Equal, Greater}
use Rattle.std.specs.BinaryHeap.{IsUpperBound}
use Rattle.std.proofs.lemmas.List.Elements.{All-from_recursion}
use Rattle.std.proofs.lemmas.List.Sorted.{Contains-permutation}
use Rattle.std.proofs.lemmas.Bool.Decides.{nat_tests}
use Rattle.sw_timers.specs.Queued.{Turn, IsSooner, soonest_cmp, head_of}

-- ---- the order

below : (x y : ℕ) → x < y → nat_lt x y ≡ true
below x y lt = grind (arith, nat_tests)

less : (x y : ℕ) → x < y → nat_cmp x y ≡ Less
less x y lt = ap (λ b. cond b Less (cond (x == y) Equal Greater)) (below x y lt)

not_below : (x : ℕ) → nat_lt x x ≡ false
not_below x = grind (arith, nat_tests)

itself : (x : ℕ) → (x == x) ≡ true
itself x = grind (arith, nat_tests)

tied : (x : ℕ) → nat_cmp x x ≡ Equal
tied x = ap (λ b. cond b Less (cond (x == x) Equal Greater)) (not_below x) ∙ ap (λ b. cond b Equal Greater) (itself x)

equal : (x y : ℕ) → x ≡ y → nat_cmp x y ≡ Equal
equal x y e = subst (λ z. nat_cmp x z ≡ Equal) e (tied x)

no_sooner : (t r : ℕ × ℕ) → is_lt (ordering_then (nat_cmp t.0 r.0) (nat_cmp t.1 r.1)) ≡ false → IsSooner t r → ⊥
no_sooner t r e (inl lt) = true≢false (sym (ap (λ o. is_lt (ordering_then o (nat_cmp t.1 r.1))) (less t.0 r.0 lt)) ∙ e)
no_sooner t r e (inr (same, lt)) = true≢false (sym (ap (λ o. is_lt (ordering_then o (nat_cmp t.1 r.1))) (equal t.0 r.0 same) ∙ ap is_lt (less t.1 r.1 lt)) ∙ e)

least : (x : Turn) (xs : List Turn) → IsUpperBound soonest_cmp x xs → AllByRecursion (λ (t : Turn). ¬ IsSooner t.0 x.0) xs
least x [] h = tt
least x (t ∷ ts) h = (no_sooner t.0 x.0 h.0, least x ts h.1)

-- what no item is greater than is the soonest
pub least_of : (x : Turn) (xs : List Turn) → IsUpperBound soonest_cmp x xs → All (λ (t : Turn). ¬ IsSooner t.0 x.0) xs
least_of x xs h = All-from_recursion (λ (t : Turn). ¬ IsSooner t.0 x.0) xs (least x xs h)

pub ok_gives : {A B : Type 0} (r : Result A B) (P : Type 0) → IsOk r → OnOk r P → P
ok_gives (Ok x) P e p = p
ok_gives (Err x) P e p = absurd (true≢false (sym e))

-- ---- the first one

pub head_is : (xs : List Turn) (x : Turn) → 0 < length xs → x ≡ get_or xs 0 x → head_of xs ≡ Some x.0
head_is [] x some e = absurd (omega (arith, some))
head_is (y ∷ ys) x some e = ap (λ (t : Turn). Some t.0) (sym e)

pub no_head : (xs : List Turn) → length xs ≡ 0 → head_of xs ≡ None
no_head [] e = refl
no_head (x ∷ xs) e = absurd (omega (arith, e))

-- ---- what comes in and goes out

first_or_rest : (x : Turn) (xs : List Turn) (t : Turn) → Contains (x ∷ xs) t → (x ≡ t) ⊎ Contains xs t
first_or_rest x xs t (zero, lt, is) = inl is
first_or_rest x xs t (suc k, lt, is) = inr (k, omega (arith, lt), is)

some_in : (xs : List Turn) (t : Turn) → Contains xs t → 0 < length xs
some_in xs t (k, lt, is) = omega (arith, lt)

pub popped : (old new : List Turn) (x t : Turn) → x ≡ get_or old 0 x → 0 < length old → IsPermutation old (x ∷ new) → Contains old t → (head_of old ≡ Some t.0) ⊎ Contains new t
popped old new x t top some same c = elim (first_or_rest x new t (Contains-permutation old (x ∷ new) t same c)) [
  | inl e ↦ inl (head_is old x some top ∙ ap (λ (r : Turn). Some r.0) e)
  | inr h ↦ inr h
]

-- the same, of what a pop answers
pub popped_by : (old new : List Turn) (o : Option Turn) (m n : ℕ) → IfSome o (λ x. x ≡ get_or old 0 x) → IfSome o (λ x. IsPermutation old (x ∷ new)) → IfNone o ((new ≡ old) × (m ≡ n)) → (t : Turn) → Contains old t → (head_of old ≡ Some t.0) ⊎ Contains new t
popped_by old new None m n top same none t c = inr (subst (λ (l : List Turn). Contains l t) (sym none.0) c)
popped_by old new (Some x) m n top same none t c = popped old new x t top (some_in old t c) same c

pub pushed : (old new : List Turn) (x : Turn) → IsPermutation (x ∷ old) new → Contains new x
pushed old new x same = Contains-permutation (x ∷ old) new x same (0, omega arith, refl)

pub pushed_beside : (old new : List Turn) (x t : Turn) → IsPermutation (x ∷ old) new → Contains old t → Contains new t
pushed_beside old new x t same (k, lt, is) = Contains-permutation (x ∷ old) new t same (suc k, omega (arith, lt), is)

behind : (x : Turn) (xs : List Turn) (t : Turn) → Contains xs t → Contains (x ∷ xs) t
behind x xs t (k, lt, is) = (suc k, omega (arith, lt), is)

maybe_behind : (b : Bool) (x : Turn) (xs : List Turn) (t : Turn) → Contains xs t → Contains (cond b (x ∷ xs) xs) t
maybe_behind true x xs t c = behind x xs t c
maybe_behind false x xs t c = c

in_front : (b : Bool) (x : Turn) (xs : List Turn) (t : Turn) → b ≡ true → x ≡ t → Contains (cond b (x ∷ xs) xs) t
in_front true x xs t e is = (0, omega arith, is)
in_front false x xs t e is = absurd (true≢false (sym e))

in_filter : (p : Turn → Bool) (xs : List Turn) (t : Turn) → p t ≡ true → Contains xs t → Contains (filter p xs) t
in_filter p [] t e (k, lt, is) = absurd (omega (arith, lt))
in_filter p (x ∷ xs) t e (zero, lt, is) = in_front (p x) x (filter p xs) t (ap p is ∙ e) is
in_filter p (x ∷ xs) t e (suc k, lt, is) = maybe_behind (p x) x (filter p xs) t (in_filter p xs t e (k, omega (arith, lt), is))

pub retained : (p : Turn → Bool) (old kept new : List Turn) (t : Turn) → kept ≡ filter p old → IsPermutation kept new → Contains old t → p t ≡ true → Contains new t
retained p old kept new t e same c is = Contains-permutation kept new t same (subst (λ (l : List Turn). Contains l t) (sym e) (in_filter p old t is c))
