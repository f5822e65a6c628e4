-- Lemmas on histories, and on what seats have seen of them.
use Rattle.std.proofs.Common.{◌≡◌, ◌≢◌, ◌<◌, ◌≤◌, ◌+◌, ◌⊎◌, inl, inr, ℕ, zero, suc, Bool, cond, eqb, eq-eqb, ne_eqb, List, [], ◌∷◌, ◌++◌, length, drop, set, replicate, All, sym, refl, ap, ◌∙◌, subst, ⊎_elim, append_assoc, length-append, arith}
use Rattle.std.proofs.lemmas.List.Elements.{All-append, All-replicate}
use mathlib.Core.Option.{some, some-injective, some-ne-none}
use lib.ListN.{get_elem?}
use Rattle.sw_rowlock.specs.Rule.{total}
use Rattle.sw_rowlock.specs.History.{below, calls, others, owns, Begins, AllBegin, Each, times_drawn, merged, draws_from, draws_of, placed_from, DrewAll, after}

-- 1 where p is n
abbrev pub here : ℕ → ℕ → ℕ
here zero zero = 1
here zero (suc n) = 0
here (suc p) zero = 0
here (suc p) (suc n) = here p n

module _ {A : Type 0} where
  pub total_set : (f : A → ℕ) (views : List A) (j : ℕ) (v w : A) → get_elem? views j ≡ some v → total f (set views j w) + f v ≡ total f views + f w
  total_set f [] j v w e = absurd (some-ne-none v (sym e))
  total_set f (x ∷ xs) zero v w e = let s : f x ≡ f v = ap f (some-injective x v e) in omega (arith, s)
  total_set f (x ∷ xs) (suc j) v w e = let s = total_set f xs j v w e in omega (arith, s)

  pub total_snoc : (f : A → ℕ) (views : List A) (w : A) → total f (views ++ w ∷ []) ≡ total f views + f w
  total_snoc f [] w = omega arith
  total_snoc f (x ∷ xs) w = let s = total_snoc f xs w in omega (arith, s)

  pub part_of : (f : A → ℕ) (views : List A) (j : ℕ) (v : A) → get_elem? views j ≡ some v → f v ≤ total f views
  part_of f [] j v at = absurd (some-ne-none v (sym at))
  part_of f (x ∷ xs) zero v at = let p : f x ≡ f v = ap f (some-injective x v at) in omega (arith, p)
  part_of f (x ∷ xs) (suc j) v at = let p = part_of f xs j v at in omega (arith, p)

  pub two_of : (f : A → ℕ) (views : List A) (i j : ℕ) (v w : A) → get_elem? views i ≡ some v → get_elem? views j ≡ some w → i ≢ j → f v + f w ≤ total f views
  two_of f [] i j v w a b ne = absurd (some-ne-none v (sym a))
  two_of f (x ∷ xs) zero zero v w a b ne = absurd (ne refl)
  two_of f (x ∷ xs) zero (suc j) v w a b ne = let p : f x ≡ f v = ap f (some-injective x v a) in let q = part_of f xs j w b in omega (arith, p, q)
  two_of f (x ∷ xs) (suc i) zero v w a b ne = let p : f x ≡ f w = ap f (some-injective x w b) in let q = part_of f xs i v a in omega (arith, p, q)
  two_of f (x ∷ xs) (suc i) (suc j) v w a b ne = let q = two_of f xs i j v w a b (λ e. ne (ap suc e)) in omega (arith, q)

  none_of : (g f : A → ℕ) (views : List A) → ((j : ℕ) (u : A) → get_elem? views j ≡ some u → g u ≡ 0 → f u ≡ 0) → total g views ≡ 0 → total f views ≡ 0
  none_of g f [] idle e = refl
  none_of g f (x ∷ xs) idle e = let a = idle zero x refl (omega (arith, e)) in let b = none_of g f xs (λ j u at z. idle (suc j) u at z) (omega (arith, e)) in omega (arith, a, b)

  -- where one has all of g, it has all of f
  pub all_of : (g f : A → ℕ) (views : List A) (j : ℕ) (v : A) → ((i : ℕ) (u : A) → get_elem? views i ≡ some u → g u ≡ 0 → f u ≡ 0) → get_elem? views j ≡ some v → total g views ≡ g v → total f views ≡ f v
  all_of g f [] j v idle at e = absurd (some-ne-none v (sym at))
  all_of g f (x ∷ xs) zero v idle at e =
      let p : g x ≡ g v = ap g (some-injective x v at) in let c : f x ≡ f v = ap f (some-injective x v at) in
      let b = none_of g f xs (λ i u a z. idle (suc i) u a z) (omega (arith, e, p)) in omega (arith, b, c)
  all_of g f (x ∷ xs) (suc j) v idle at e =
      let k = part_of g xs j v at in
      let a = idle zero x refl (omega (arith, e, k)) in
      let b = all_of g f xs j v (λ i u t z. idle (suc i) u t z) at (omega (arith, e, k)) in omega (arith, a, b)

  pub at_snoc : (l : List A) (a b : A) (j : ℕ) → get_elem? (l ++ a ∷ []) j ≡ some b → (get_elem? l j ≡ some b) ⊎ ((j ≡ length l) × (a ≡ b))
  at_snoc [] a b zero e = inr (refl, some-injective a b e)
  at_snoc [] a b (suc j) e = absurd (some-ne-none b (sym e))
  at_snoc (x ∷ xs) a b zero e = inl e
  at_snoc (x ∷ xs) a b (suc j) e = ⊎_elim (λ t. inl t) (λ t. inr (ap suc t.0, t.1)) (at_snoc xs a b j e)

  pub at_below : (l : List A) (i : ℕ) (a : A) → get_elem? l i ≡ some a → i < length l
  at_below [] i a e = absurd (some-ne-none a (sym e))
  at_below (x ∷ xs) zero a e = omega arith
  at_below (x ∷ xs) (suc i) a e = let r = at_below xs i a e in omega (arith, r)

pub below_suc : (p n : ℕ) → below p (suc n) ≡ below p n + here p n
below_suc zero zero = omega arith
below_suc zero (suc n) = omega arith
below_suc (suc p) zero = omega arith
below_suc (suc p) (suc n) = below_suc p n

pub below_one : (p n : ℕ) → below p n ≤ 1
below_one p zero = omega arith
below_one zero (suc n) = omega arith
below_one (suc p) (suc n) = below_one p n

module _ {Q : Type 0} where
  each_more : (P : ℕ → Q → Type 0) (n : ℕ) (qs : List Q) (q : Q) → Each P n qs → P (n + length qs) q → Each P n (qs ++ q ∷ [])
  each_more P n [] q e p = (subst (λ (z : ℕ). P z q) (zero_more n) p, tt)
    where
      zero_more : (n : ℕ) → n + 0 ≡ n
      zero_more n = omega arith
  each_more P n (x ∷ qs) q e p = (e.0, each_more P (suc n) qs q e.1 (subst (λ (z : ℕ). P z q) (one_more n (length qs)) p))
    where
      one_more : (n m : ℕ) → n + suc m ≡ suc n + m
      one_more n m = omega arith

  -- a further call at the end
  pub each_all : (P : ℕ → Q → Type 0) (qs : List Q) (q : Q) → Each P 0 qs → P (length qs) q → Each P 0 (qs ++ q ∷ [])
  each_all P qs q e p = each_more P 0 qs q e (subst (λ (z : ℕ). P z q) (none_more (length qs)) p)
    where
      none_more : (n : ℕ) → n ≡ 0 + n
      none_more n = omega arith

  pub mark_others : (p : ℕ) (qs : List Q) → times_drawn p (others qs) ≡ 0
  mark_others p [] = refl
  mark_others zero (q ∷ qs) = refl
  mark_others (suc p) (q ∷ qs) = mark_others p qs

  pub mark_more : (p : ℕ) (xs : List (ℕ × Q)) (qs : List Q) → times_drawn p (xs ++ others qs) ≡ times_drawn p xs
  mark_more p [] qs = mark_others p qs
  mark_more zero (x ∷ xs) qs = refl
  mark_more (suc p) (x ∷ xs) qs = mark_more p xs qs

  mark_last : (p : ℕ) (qs : List Q) (q : Q) → times_drawn p (others qs ++ (1, q) ∷ []) ≡ here p (length qs)
  mark_last zero [] q = refl
  mark_last (suc p) [] q = refl
  mark_last zero (r ∷ qs) q = refl
  mark_last (suc p) (r ∷ qs) q = mark_last p qs q

  pub mark_draw : (p : ℕ) (xs : List (ℕ × Q)) (qs : List Q) (q : Q) → times_drawn p (xs ++ (others qs ++ (1, q) ∷ [])) ≡ times_drawn p xs + here p (length (calls xs ++ qs))
  mark_draw p [] qs q = let m = mark_last p qs q in omega (arith, m)
  mark_draw zero (x ∷ xs) qs q = omega arith
  mark_draw (suc p) (x ∷ xs) qs q = mark_draw p xs qs q

  pub begins_split : (xs : List (ℕ × Q)) (log : List Q) → Begins xs log → log ≡ calls xs ++ drop (length xs) log
  begins_split [] log b = refl
  begins_split (x ∷ xs) [] b = absurd b
  begins_split (x ∷ xs) (q ∷ qs) b = λ k. sym b.0 k ∷ begins_split xs qs b.1 k

  pub begins_more : (xs : List (ℕ × Q)) (log : List Q) (q : Q) → Begins xs log → Begins xs (log ++ q ∷ [])
  begins_more [] log q b = tt
  begins_more (x ∷ xs) [] q b = absurd b
  begins_more (x ∷ xs) (r ∷ qs) q b = (b.0, begins_more xs qs q b.1)

  begins_all : (log : List Q) → Begins (others log) log
  begins_all [] = tt
  begins_all (q ∷ qs) = (refl, begins_all qs)

  pub begins_look : (xs : List (ℕ × Q)) (log : List Q) → Begins xs log → Begins (xs ++ others (drop (length xs) log)) log
  begins_look [] log b = begins_all log
  begins_look (x ∷ xs) [] b = absurd b
  begins_look (x ∷ xs) (q ∷ qs) b = (b.0, begins_look xs qs b.1)

  begins_end : (log : List Q) (q : Q) → Begins (others log ++ (1, q) ∷ []) (log ++ q ∷ [])
  begins_end [] q = (refl, tt)
  begins_end (r ∷ qs) q = (refl, begins_end qs q)

  pub begins_draw : (xs : List (ℕ × Q)) (log : List Q) (q : Q) → Begins xs log → Begins (xs ++ (others (drop (length xs) log) ++ (1, q) ∷ [])) (log ++ q ∷ [])
  begins_draw [] log q b = begins_end log q
  begins_draw (x ∷ xs) [] q b = absurd b
  begins_draw (x ∷ xs) (r ∷ qs) q b = (b.0, begins_draw xs qs q b.1)

  pub begins_others : (xs : List (ℕ × Q)) (log : List Q) → Begins xs log → Begins (others (calls xs)) log
  begins_others [] log b = tt
  begins_others (x ∷ xs) [] b = absurd b
  begins_others (x ∷ xs) (q ∷ qs) b = (b.0, begins_others xs qs b.1)

  pub begins_merged : (xs ys : List (ℕ × Q)) (log : List Q) → Begins xs log → Begins ys log → Begins (merged xs ys) log
  begins_merged [] ys log b c = c
  begins_merged (x ∷ xs) [] log b c = b
  begins_merged (x ∷ xs) (y ∷ ys) [] b c = absurd b
  begins_merged (x ∷ xs) (y ∷ ys) (q ∷ qs) b c = (b.0, begins_merged xs ys qs b.1 c.1)

  pub mark_merged : (p : ℕ) (xs ys : List (ℕ × Q)) → times_drawn p (merged xs ys) ≡ times_drawn p xs + times_drawn p ys
  mark_merged p [] ys = omega arith
  mark_merged p (x ∷ xs) [] = omega arith
  mark_merged zero (x ∷ xs) (y ∷ ys) = refl
  mark_merged (suc p) (x ∷ xs) (y ∷ ys) = mark_merged p xs ys

  pub all_more : (xss : List (List Q)) (log : List Q) (q : Q) → AllBegin xss log → AllBegin xss (log ++ q ∷ [])
  all_more [] log q a = tt
  all_more (xs ∷ xss) log q a = (begins_more (others xs) log q a.0, all_more xss log q a.1)

  -- what two seats had learnt, and what the other one had seen
  pub all_join : (xss yss : List (List Q)) (zs log : List Q) → AllBegin xss log → AllBegin yss log → Begins (others zs) log → AllBegin (xss ++ (yss ++ zs ∷ [])) log
  all_join [] [] zs log a b c = (c, tt)
  all_join [] (ys ∷ yss) zs log a b c = (b.0, all_join [] yss zs log tt b.1 c)
  all_join (xs ∷ xss) yss zs log a b c = (a.0, all_join xss yss zs log a.1 b c)

  -- where all places are marked, all the log was seen, and is one's own
  pub all_owned : (xs : List (ℕ × Q)) (log : List Q) → Begins xs log → ((p : ℕ) → times_drawn p xs ≡ below p (length log)) → (calls xs ≡ log) × (xs ≡ owns (calls xs))
  all_owned [] [] b f = (refl, refl)
  all_owned [] (q ∷ qs) b f = let z : 0 ≡ 1 = f zero in absurd (omega (arith, z))
  all_owned (x ∷ xs) [] b f = absurd b
  all_owned (x ∷ xs) (q ∷ qs) b f =
      let r = all_owned xs qs b.1 (λ p. f (suc p)) in
      let t : x.0 ≡ 1 = f zero in ((λ k. b.0 k ∷ r.0 k), (λ k. (t k, x.1) ∷ r.1 k))

  pub drop_all : (xs : List (ℕ × Q)) (log : List Q) → calls xs ≡ log → drop (length xs) log ≡ []
  drop_all xs log e = subst (λ l. drop (length xs) l ≡ []) e (go xs)
    where
      go : (xs : List (ℕ × Q)) → drop (length xs) (calls xs) ≡ []
      go [] = refl
      go (x ∷ xs) = go xs

module _ {Q : Type 0} where
  draws_all : (n : ℕ) (qs : List Q) → draws_from n (owns qs) ≡ placed_from n qs
  draws_all n [] = refl
  draws_all n (q ∷ qs) = ap (λ (l : List (ℕ × Q)). (n, q) ∷ l) (draws_all (n + 1) qs)

  -- who drew every call of the history has its places, each once
  pub drew_whole : (seen : List (ℕ × Q)) (history : List Q) → calls seen ≡ history → seen ≡ owns (calls seen) → DrewAll seen history
  drew_whole seen history all own = record {
    seen_all = all;
    drew_all = ap (λ (l : List (ℕ × Q)). draws_from 0 l) own ∙ draws_all 0 (calls seen) ∙ ap (λ (l : List Q). placed_from 0 l) all;
  }

  draws_last : (n : ℕ) (qs : List Q) (q : Q) → draws_from n (others qs ++ (1, q) ∷ []) ≡ (n + length qs, q) ∷ []
  draws_last n [] q = let e : n ≡ n + length {A = Q} [] = omega arith in (λ k. (e k, q) ∷ [])
  draws_last n (r ∷ qs) q = let e : n + 1 + length qs ≡ n + length (r ∷ qs) = omega arith in draws_last (n + 1) qs q ∙ (λ k. (e k, q) ∷ [])

  -- a draw adds its place behind those that the seat had
  draws_more : (n : ℕ) (xs : List (ℕ × Q)) (qs : List Q) (q : Q) → draws_from n (xs ++ (others qs ++ (1, q) ∷ [])) ≡ draws_from n xs ++ (n + length (calls xs ++ qs), q) ∷ []
  draws_more n [] qs q = draws_last n qs q
  draws_more n (x ∷ xs) qs q =
      let e : n + 1 + length (calls xs ++ qs) ≡ n + length (calls (x ∷ xs) ++ qs) = omega arith in
      let s = draws_more (n + 1) xs qs q ∙ (λ k. draws_from (n + 1) xs ++ (e k, q) ∷ []) in
      ap (λ (l : List (ℕ × Q)). replicate x.0 (n, x.1) ++ l) s ∙ sym (append_assoc (replicate x.0 (n, x.1)) (draws_from (n + 1) xs) ((n + length (calls (x ∷ xs) ++ qs), q) ∷ []))

  pub draws_grow : (xs : List (ℕ × Q)) (qs : List Q) (q : Q) → draws_of (xs ++ (others qs ++ (1, q) ∷ [])) ≡ draws_of xs ++ (length (calls xs ++ qs), q) ∷ []
  draws_grow xs qs q = let e : 0 + length (calls xs ++ qs) ≡ length (calls xs ++ qs) = omega arith in draws_more 0 xs qs q ∙ (λ k. draws_from 0 xs ++ (e k, q) ∷ [])

  draws_below : (n m : ℕ) (xs : List (ℕ × Q)) → n + length xs ≤ m → All (λ (d : ℕ × Q). d.0 < m) (draws_from n xs)
  draws_below n m [] h = λ k d lt. absurd (omega (arith, lt))
  draws_below n m (x ∷ xs) h = All-append (λ (d : ℕ × Q). d.0 < m) (replicate x.0 (n, x.1)) (draws_from (n + 1) xs)
      (All-replicate (λ (d : ℕ × Q). d.0 < m) x.0 (n, x.1) (omega (arith, h))) (draws_below (n + 1) m xs (omega (arith, h)))

  reaches : (xs : List (ℕ × Q)) (qs : List Q) → length xs ≤ length (calls xs ++ qs)
  reaches [] qs = omega arith
  reaches (x ∷ xs) qs = let r = reaches xs qs in omega (arith, r)

  -- a place behind what was seen is above the places of the draws
  pub draws_under : (xs : List (ℕ × Q)) (qs : List Q) (at : ℕ) → at ≡ length (calls xs ++ qs) → All (λ (d : ℕ × Q). d.0 < at) (draws_of xs)
  draws_under xs qs at e = let r = reaches xs qs in draws_below 0 at xs (omega (arith, r, e))

  pub calls_look : (s : List (ℕ × Q)) (b : List Q) → calls (s ++ others b) ≡ calls s ++ b
  calls_look [] [] = refl
  calls_look [] (q ∷ b) = ap (λ (z : List Q). q ∷ z) (calls_look [] b)
  calls_look (x ∷ s) b = ap (λ (z : List Q). x.1 ∷ z) (calls_look s b)

  pub others_append : (a b : List Q) → others (a ++ b) ≡ others a ++ others b
  others_append [] b = refl
  others_append (q ∷ a) b = ap (λ (z : List (ℕ × Q)). (0, q) ∷ z) (others_append a b)

  pub none_between : (xs b : List Q) → xs ≡ xs ++ b → b ≡ []
  none_between xs [] e = refl
  none_between xs (y ∷ b) e = let l = length-append xs (y ∷ b) in let m : length xs ≡ length (xs ++ y ∷ b) = ap (λ (z : List Q). length z) e in absurd (omega (arith, l, m))

module _ {Q T : Type 0} (effect : Q → T → T) where
  pub after_snoc : (t : T) (qs : List Q) (q : Q) → after effect t (qs ++ q ∷ []) ≡ effect q (after effect t qs)
  after_snoc t [] q = refl
  after_snoc t (r ∷ qs) q = after_snoc (effect r t) qs q

pub same_eqb : (n p : ℕ) {A : Type 0} (a b : A) → n ≡ p → cond (eqb n p) a b ≡ a
same_eqb n p a b e = ap (λ (t : Bool). cond t a b) (eq-eqb n p e)

pub else_eqb : (n p : ℕ) {A : Type 0} (a b : A) → n ≢ p → cond (eqb n p) a b ≡ b
else_eqb n p a b e = ap (λ (t : Bool). cond t a b) (ne_eqb n p e)
