-- Lists, sums and functions of which one place changes.
use Rattle.std.proofs.Common.{◌≡◌, ◌≢◌, ◌<◌, ◌≤◌, ◌+◌, ◌⊎◌, inl, inr, ℕ, zero, suc, Bool, cond, eqb, eq-eqb, ne_eqb, List, [], ◌∷◌, ◌++◌, length, set, sym, refl, ap, subst, ⊎_elim, arith}
use mathlib.Core.Option.{some, some-injective, some-ne-none}
use mathlib.Core.Logic.{dite}
use native.Mathlib.Decide.{ℕ_discrete}
use lib.ListN.{get_elem?}
use Rattle.atomic_table.proofs.Lists.{at_set}
use Rattle.sw_port_board.specs.Board.{In}
use Rattle.sw_board.specs.declared.rule.View.{View}
use Rattle.sw_board.specs.Rule.{total, sum_below}

module _ {A : Type 0} where
  pub at_snoc : (l : List A) (a b : A) (j : ℕ) → get_elem? (l ++ a ∷ []) j ≡ some b → (get_elem? l j ≡ some b) ⊎ ((j ≡ length l) × (a ≡ b))
  at_snoc [] a b zero e = inr (refl, some-injective a b e)
  at_snoc [] a b (suc j) e = absurd (some-ne-none b (sym e))
  at_snoc (x ∷ xs) a b zero e = inl e
  at_snoc (x ∷ xs) a b (suc j) e = ⊎_elim (λ t. inl t) (λ t. inr (ap suc t.0, t.1)) (at_snoc xs a b j e)

  pub at_below : (l : List A) (i : ℕ) (a : A) → get_elem? l i ≡ some a → i < length l
  at_below [] i a e = absurd (some-ne-none a (sym e))
  at_below (x ∷ xs) zero a e = omega arith
  at_below (x ∷ xs) (suc i) a e = let r = at_below xs i a e in omega (arith, r)

  -- f with another value at i
  abbrev pub put : (ℕ → A) → ℕ → A → ℕ → A
  put f i x k = cond (eqb i k) x (f k)

  pub put_here : (f : ℕ → A) (i : ℕ) (x : A) (k : ℕ) → i ≡ k → put f i x k ≡ x
  put_here f i x k e = ap (λ (t : Bool). cond t x (f k)) (eq-eqb i k e)

  pub put_else : (f : ℕ → A) (i : ℕ) (x : A) (k : ℕ) → i ≢ k → put f i x k ≡ f k
  put_else f i x k e = ap (λ (t : Bool). cond t x (f k)) (ne_eqb i k e)

  pub in_snoc : (x y : A) (ys : List A) → In x (ys ++ y ∷ []) → In x ys ⊎ (x ≡ y)
  in_snoc x y [] h = ⊎_elim (λ t. inr t) (λ t. absurd t) h
  in_snoc x y (z ∷ zs) h = ⊎_elim (λ t. inl (inl t)) (λ t. ⊎_elim (λ s. inl (inr s)) (λ s. inr s) (in_snoc x y zs t)) h

  pub in_longer : (x : A) (xs ys : List A) → In x xs → In x (xs ++ ys)
  in_longer x [] ys h = absurd h
  in_longer x (z ∷ zs) ys h = ⊎_elim (λ t. inl t) (λ t. inr (in_longer x zs ys t)) h

  pub in_behind : (x : A) (xs ys : List A) → In x ys → In x (xs ++ ys)
  in_behind x [] ys h = h
  in_behind x (z ∷ zs) ys h = inr (in_behind x zs ys h)

  pub in_last : (x : A) (xs : List A) → In x (xs ++ x ∷ [])
  in_last x xs = in_behind x xs (x ∷ []) (inl refl)

  pub in_append : (x : A) (xs ys : List A) → In x (xs ++ ys) → In x xs ⊎ In x ys
  in_append x [] ys h = inr h
  in_append x (z ∷ zs) ys h = ⊎_elim (λ t. inl (inl t)) (λ t. ⊎_elim (λ s. inl (inr s)) (λ s. inr s) (in_append x zs ys t)) h

pub total_set : (f : View → ℕ) (views : List View) (j : ℕ) (v w : View) → get_elem? views j ≡ some v → total f (set views j w) + f v ≡ total f views + f w
total_set f [] j v w e = absurd (some-ne-none v (sym e))
total_set f (x ∷ xs) zero v w e = let s : f x ≡ f v = ap f (some-injective x v e) in omega (arith, s)
total_set f (x ∷ xs) (suc j) v w e = let s = total_set f xs j v w e in omega (arith, s)

pub total_snoc : (f : View → ℕ) (views : List View) (w : View) → total f (views ++ w ∷ []) ≡ total f views + f w
total_snoc f [] w = omega arith
total_snoc f (x ∷ xs) w = let s = total_snoc f xs w in omega (arith, s)

-- one view's share is no more than all
pub total_at : (f : View → ℕ) (views : List View) (j : ℕ) (v : View) → get_elem? views j ≡ some v → f v ≤ total f views
total_at f [] j v e = absurd (some-ne-none v (sym e))
total_at f (x ∷ xs) zero v e = let s : f x ≡ f v = ap f (some-injective x v e) in omega (arith, s)
total_at f (x ∷ xs) (suc j) v e = let s = total_at f xs j v e in omega (arith, s)

-- where one view has all, each other has nothing
pub total_all : (f : View → ℕ) (views : List View) (i j : ℕ) (v w : View) → get_elem? views i ≡ some v → f v ≡ total f views → get_elem? views j ≡ some w → j ≢ i → f w ≡ 0
total_all f [] i j v w a e b ne = absurd (some-ne-none v (sym a))
total_all f (x ∷ xs) zero zero v w a e b ne = absurd (ne refl)
total_all f (x ∷ xs) zero (suc j) v w a e b ne = let s : f x ≡ f v = ap f (some-injective x v a) in let t = total_at f xs j w b in omega (arith, s, t, e)
total_all f (x ∷ xs) (suc i) zero v w a e b ne = let s : f x ≡ f w = ap f (some-injective x w b) in let t = total_at f xs i v a in omega (arith, s, t, e)
total_all f (x ∷ xs) (suc i) (suc j) v w a e b ne =
    let t = total_at f xs i v a in total_all f xs i j v w a (omega (arith, t, e)) b (λ s. ne (ap suc s))

-- g has its values where f has its own: f is 0 elsewhere
pub total_only : (g : View → ℕ) (views : List View) (i : ℕ) (v : View) → get_elem? views i ≡ some v → ((j : ℕ) (w : View) → get_elem? views j ≡ some w → j ≢ i → g w ≡ 0) → total g views ≡ g v
total_only g [] i v a none_else = absurd (some-ne-none v (sym a))
total_only g (x ∷ xs) zero v a none_else =
    let s : g x ≡ g v = ap g (some-injective x v a) in
    let t : total g xs ≡ 0 = nothing xs (λ j w b. none_else (suc j) w b (λ e. omega (arith, e))) in omega (arith, s, t)
  where
    nothing : (l : List View) → ((j : ℕ) (w : View) → get_elem? l j ≡ some w → g w ≡ 0) → total g l ≡ 0
    nothing [] h = refl
    nothing (y ∷ ys) h = let a = h 0 y refl in let b = nothing ys (λ j w e. h (suc j) w e) in omega (arith, a, b)
total_only g (x ∷ xs) (suc i) v a none_else =
    let s : g x ≡ 0 = none_else 0 x refl (λ e. omega (arith, e)) in
    let t = total_only g xs i v a (λ j w b ne. none_else (suc j) w b (λ e. ne (omega (arith, e)))) in omega (arith, s, t)

-- what holds of each seat, after one view changed
pub each_set : (P : ℕ → View → Type 0) (views : List View) (id : ℕ) (w : View) → P id w → ((j : ℕ) (u : View) → j ≢ id → get_elem? views j ≡ some u → P j u)
    → (j : ℕ) (u : View) → get_elem? (set views id w) j ≡ some u → P j u
each_set P views id w mine others j u e =
    ⊎_elim (λ (t : (j ≡ id) × (w ≡ u)). subst (λ (y : ℕ × View). P y.0 y.1) (λ i. (sym t.0 i, t.1 i)) mine) (λ (t : (j ≢ id) × (get_elem? views j ≡ some u)). others j u t.0 t.1) (at_set views id j w u e)

-- and after a new one came
pub each_snoc : (P : ℕ → View → Type 0) (views : List View) (r : View) → P (length views) r → ((j : ℕ) (u : View) → get_elem? views j ≡ some u → P j u)
    → (j : ℕ) (u : View) → get_elem? (views ++ r ∷ []) j ≡ some u → P j u
each_snoc P views r mine others j u e =
    ⊎_elim (λ (t : get_elem? views j ≡ some u). others j u t) (λ (t : (j ≡ length views) × (r ≡ u)). subst (λ (y : ℕ × View). P y.0 y.1) (λ i. (sym t.0 i, t.1 i)) mine) (at_snoc views r u j e)

-- the sum of what agrees below n
pub sum_same : (f g : ℕ → ℕ) (n : ℕ) → ((k : ℕ) → k < n → f k ≡ g k) → sum_below f n ≡ sum_below g n
sum_same f g zero h = refl
sum_same f g (suc n) h = let s = sum_same f g n (λ k lt. h k (omega (arith, lt))) in let t = h n (omega arith) in omega (arith, s, t)

-- the sum where one value changes
pub sum_put : (f g : ℕ → ℕ) (n i : ℕ) → i < n → ((k : ℕ) → k ≢ i → g k ≡ f k) → sum_below g n + f i ≡ sum_below f n + g i
sum_put f g zero i lt h = absurd (omega (arith, lt))
sum_put f g (suc n) i lt h = dite (ℕ_discrete i n)
    (λ is. let s = sum_same g f n (λ k low. h k (λ e. omega (arith, low, e, is))) in let a : f i ≡ f n = ap f is in let b : g i ≡ g n = ap g is in omega (arith, s, a, b))
    (λ other. let s = sum_put f g n i (omega (arith, lt, other)) h in let t = h n (λ e. other (sym e)) in omega (arith, s, t))
