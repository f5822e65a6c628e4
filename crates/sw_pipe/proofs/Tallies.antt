-- Each step keeps the rule of a pipe's counter.
use Rattle.std.proofs.Common.{◌≡◌, ◌≢◌, ◌<◌, ◌≤◌, ◌+◌, ◌-◌, ◌%◌, ◌^◌, ℕ, zero, suc, eqb, eq-eqb, ne_eqb, add-one, List, [], ◌∷◌, ◌++◌, set, max, sym, refl, ap, ◌∙◌, subst, ⊎_elim, le_trans, le_refl, replicate, slice_index, slice_set, arith}
use Rattle.std.proofs.Math.Nat.{mod-le}
use Rattle.std.proofs.lemmas.List.{get_or-set_other, set-get_or}
use mathlib.Core.Option.{some, some-injective, some-ne-none}
use mathlib.Core.Logic.{dite}
use native.Mathlib.Decide.{ℕ_discrete}
use lib.ListN.{get_elem?}
use Rattle.atomic_table.specs.Table.{State, Me, keeps, Allows, Splits, Joins, opening}
use Rattle.atomic_table.proofs.Lists.{at_set, at_snoc, set_else}
use Rattle.sw_pipe.specs.declared.tally.Tally.{Tally}
use Rattle.sw_pipe.specs.Rule.{one_if}
use Rattle.sw_pipe.specs.Tallies.{tally, joined, word_of, total, sum_below, Counted}

total_set : (f : Tally → ℕ) (views : List Tally) (j : ℕ) (v w : Tally) → get_elem? views j ≡ some v → total f (set views j w) + f v ≡ total f views + f w
total_set f [] j v w e = absurd (some-ne-none v (sym e))
total_set f (x ∷ xs) zero v w e = let s : f x ≡ f v = ap f (some-injective x v e) in omega (arith, s)
total_set f (x ∷ xs) (suc j) v w e = let s = total_set f xs j v w e in omega (arith, s)

total_snoc : (f : Tally → ℕ) (views : List Tally) (w : Tally) → total f (views ++ w ∷ []) ≡ total f views + f w
total_snoc f [] w = omega arith
total_snoc f (x ∷ xs) w = let s = total_snoc f xs w in omega (arith, s)

part_of : (views : List Tally) (j : ℕ) (v : Tally) → get_elem? views j ≡ some v → v.parts ≤ total (λ u. u.parts) views
part_of [] j v at = absurd (some-ne-none v (sym at))
part_of (x ∷ xs) zero v at = let p : x.parts ≡ v.parts = ap (λ (u : Tally). u.parts) (some-injective x v at) in omega (arith, p)
part_of (x ∷ xs) (suc j) v at = let p = part_of xs j v at in omega (arith, p)

none_counted : (views : List Tally) → ((j : ℕ) (v : Tally) → get_elem? views j ≡ some v → v.parts ≡ 0 → v.count ≡ 0) → total (λ u. u.parts) views ≡ 0 → total (λ u. u.count) views ≡ 0
none_counted [] idle e = refl
none_counted (x ∷ xs) idle e = let a = idle zero x refl (omega (arith, e)) in let b = none_counted xs (λ j v at p. idle (suc j) v at p) (omega (arith, e)) in omega (arith, a, b)

-- where one share has every part, the others counted nothing
all_counted : (views : List Tally) (j : ℕ) (v : Tally) → ((i : ℕ) (u : Tally) → get_elem? views i ≡ some u → u.parts ≡ 0 → u.count ≡ 0) → get_elem? views j ≡ some v → total (λ u. u.parts) views ≡ v.parts → total (λ u. u.count) views ≡ v.count
all_counted [] j v idle at e = absurd (some-ne-none v (sym at))
all_counted (x ∷ xs) zero v idle at e =
    let p : x.parts ≡ v.parts = ap (λ (u : Tally). u.parts) (some-injective x v at) in let c : x.count ≡ v.count = ap (λ (u : Tally). u.count) (some-injective x v at) in
    let b = none_counted xs (λ i u a q. idle (suc i) u a q) (omega (arith, e, p)) in omega (arith, b, c)
all_counted (x ∷ xs) (suc j) v idle at e =
    let k = part_of xs j v at in
    let a = idle zero x refl (omega (arith, e, k)) in
    let b = all_counted xs j v (λ i u a q. idle (suc i) u a q) at (omega (arith, e, k)) in omega (arith, a, b)

-- sums of more, or of larger numbers
sum_up : (n m : ℕ) (counts : ℕ → ℕ) → n ≤ m → sum_below n counts ≤ sum_below m counts
sum_up n zero counts le = let none : 0 ≡ n = omega (arith, le) in subst (λ (k : ℕ). sum_below k counts ≤ 0) none (le_refl 0)
sum_up n (suc m) counts le = dite (ℕ_discrete n (suc m))
    (λ is. subst (λ (k : ℕ). sum_below n counts ≤ sum_below k counts) is (le_refl (sum_below n counts)))
    (λ other. let s = sum_up n m counts (omega (arith, le, other)) in omega (arith, s))

sum_larger : (n : ℕ) (counts counts' : ℕ → ℕ) → ((p : ℕ) → counts p ≤ counts' p) → sum_below n counts ≤ sum_below n counts'
sum_larger zero counts counts' h = le_refl 0
sum_larger (suc n) counts counts' h = let s = sum_larger n counts counts' h in let t = h n in omega (arith, s, t)

sum_none : (n : ℕ) → sum_below n (λ _. 0) ≡ 0
sum_none zero = refl
sum_none (suc n) = let s = sum_none n in omega (arith, s)

-- one more at the place q
abbrev bumped : (ℕ → ℕ) → ℕ → ℕ → ℕ
bumped counts q p = counts p + one_if (eqb p q)

bumped_here : (counts : ℕ → ℕ) (q p : ℕ) → p ≡ q → bumped counts q p ≡ counts p + 1
bumped_here counts q p e = ap (λ b. counts p + one_if b) (eq-eqb p q e)

bumped_else : (counts : ℕ → ℕ) (q p : ℕ) → p ≢ q → bumped counts q p ≡ counts p + 0
bumped_else counts q p e = ap (λ b. counts p + one_if b) (ne_eqb p q e)

sum_same : (n q : ℕ) (counts : ℕ → ℕ) → n ≤ q → sum_below n (bumped counts q) ≡ sum_below n counts
sum_same zero q counts le = refl
sum_same (suc n) q counts le =
    let s = sum_same n q counts (omega (arith, le)) in let t = bumped_else counts q n (λ e. omega (arith, e, le)) in omega (arith, s, t)

sum_one : (n q : ℕ) (counts : ℕ → ℕ) → sum_below n (bumped counts q) ≤ sum_below n counts + 1
sum_one zero q counts = omega arith
sum_one (suc n) q counts = dite (ℕ_discrete n q)
    (λ is. let s = sum_same n q counts (omega (arith, is)) in let t = bumped_here counts q n is in omega (arith, s, t))
    (λ other. let s = sum_one n q counts in let t = bumped_else counts q n other in omega (arith, s, t))

at_most : (words : List ℕ) (i n : ℕ) → slice_index (slice_set words i n) i ≤ n
at_most [] i n = omega arith
at_most (x ∷ xs) zero n = le_refl n
at_most (x ∷ xs) (suc i) n = at_most xs i n

-- a sender's word becomes n
words_set : (words : List ℕ) (counts counts' : ℕ → ℕ) (q n : ℕ) → ((p : ℕ) → slice_index words (word_of p) ≤ counts p) → ((p : ℕ) → counts p ≤ counts' p) → n ≤ counts' q
    → (p : ℕ) → slice_index (slice_set words (word_of q) n) (word_of p) ≤ counts' p
words_set words counts counts' q n h up le p = dite (ℕ_discrete p q)
    (λ is. subst (λ (k : ℕ). slice_index (slice_set words (word_of q) n) (word_of k) ≤ counts' k) (sym is) (le_trans (at_most words (word_of q) n) le))
    (λ other. subst (λ (k : ℕ). k ≤ counts' p) (sym (get_or-set_other words (word_of q) (word_of p) n 0 (λ e. other (omega (arith, e))))) (le_trans (h p) (up p)))

-- a word that was read is as it was
words_read : (words : List ℕ) (counts : ℕ → ℕ) (i : ℕ) → ((p : ℕ) → slice_index words (word_of p) ≤ counts p) → (p : ℕ) → slice_index (slice_set words i (slice_index words i)) (word_of p) ≤ counts p
words_read words counts i h p = subst (λ (l : List ℕ). slice_index l (word_of p) ≤ counts p) (sym (set-get_or words i 0)) (h p)

zeros : (k i : ℕ) → slice_index (replicate k 0) i ≤ 0
zeros zero i = le_refl 0
zeros (suc k) zero = le_refl 0
zeros (suc k) (suc i) = zeros k i

module _ {S : Type 0} where
  -- a share's view becomes w, the words these, and what the senders counted at least as much as before
  steps : (n : ℕ) (s : State S Tally) (id : ℕ) (v w : Tally) (words : List ℕ) (counts : ℕ → ℕ) (h : Counted n s) → get_elem? s.views id ≡ some v → w.parts ≡ v.parts → (w.parts ≡ 0 → w.count ≡ 0)
      → ((p : ℕ) → h.counts p ≤ counts p) → ((p : ℕ) → slice_index words (word_of p) ≤ counts p) → sum_below n counts + v.count ≤ total (λ u. u.count) s.views + w.count → (w.at ≤ n) × (w.seen ≤ sum_below w.at counts)
      → Counted n record { words = words; homes = s.homes; views = set s.views id w }
  steps n s id v w words counts h at same rests up low few sees_it =
      let p = total_set (λ u. u.parts) s.views id v w at in
      let c = total_set (λ u. u.count) s.views id v w at in
      record {
        counts = counts;
        words = low;
        whole = omega (arith, few, c);
        parts = let q = h.parts in omega (arith, p, q, same);
        idle = λ j u e z. ⊎_elim (λ (t : (j ≡ id) × (w ≡ u)). subst (λ (y : Tally). y.parts ≡ 0 → y.count ≡ 0) t.1 rests z) (λ (t : (j ≢ id) × (get_elem? s.views j ≡ some u)). h.idle j u t.1 z) (at_set s.views id j w u e);
        seen = λ j u e. ⊎_elim (λ (t : (j ≡ id) × (w ≡ u)). subst (λ (y : Tally). (y.at ≤ n) × (y.seen ≤ sum_below y.at counts)) t.1 sees_it)
            (λ (t : (j ≢ id) × (get_elem? s.views j ≡ some u)). let old = h.seen j u t.1 in (old.0, le_trans old.1 (sum_larger u.at h.counts counts up))) (at_set s.views id j w u e);
      }

  adds : (n slots id q : ℕ) (me : Me S Tally) → 0 < me.0.parts
      → Allows (Counted n) slots id me (word_of q) (λ r. (r + 1) % 2 ^ 64) (λ r k. k ≡ (tally me.0.parts (me.0.count + 1) me.0.at me.0.seen, me.1))
  adds n slots id q me some_part s h _ at _ =
      let v = me.0 in let w : Tally = tally v.parts (v.count + 1) v.at v.seen in
      let r : ℕ = slice_index s.words (word_of q) in
      let counts : ℕ → ℕ = bumped h.counts q in
      let up : (p : ℕ) → h.counts p ≤ counts p = λ p. omega arith in
      let low : (r + 1) % 2 ^ 64 ≤ counts q = let m = mod-le (r + 1) (2 ^ 64) in let b = h.words q in let o = bumped_here h.counts q q refl in omega (arith, m, b, o) in
      let old = h.seen id v at in (
        w,
        keeps,
        tt,
        steps n s id v w (slice_set s.words (word_of q) ((r + 1) % 2 ^ 64)) counts h at refl (λ z. absurd (omega (arith, z, some_part))) up
            (words_set s.words h.counts counts q ((r + 1) % 2 ^ 64) h.words up low) (let o = sum_one n q h.counts in let b = h.whole in omega (arith, o, b))
            (old.0, le_trans old.1 (sum_larger v.at h.counts counts up)),
        refl,
      )

  pub adds_at : (n slots id q i : ℕ) (me : Me S Tally) → i ≡ word_of q → 0 < me.0.parts
      → Allows (Counted n) slots id me i (λ r. (r + 1) % 2 ^ 64) (λ r k. k ≡ (tally me.0.parts (me.0.count + 1) me.0.at me.0.seen, me.1))
  adds_at n slots id q i me e some_part =
      subst (λ (j : ℕ). Allows (Counted n) slots id me j (λ r. (r + 1) % 2 ^ 64) (λ r k. k ≡ (tally me.0.parts (me.0.count + 1) me.0.at me.0.seen, me.1))) (sym e) (adds n slots id q me some_part)

  -- a word is read, and the share's sum changes
  reads : (n slots id i : ℕ) (me : Me S Tally) (s : State S Tally) (h : Counted n s) → get_elem? s.views id ≡ some me.0 → (at seen : ℕ) → (at ≤ n) × (seen ≤ sum_below at h.counts)
      → Counted n record { words = slice_set s.words i (slice_index s.words i); homes = s.homes; views = set s.views id (tally me.0.parts me.0.count at seen) }
  reads n slots id i me s h here at seen sees_it = steps n s id me.0 (tally me.0.parts me.0.count at seen) (slice_set s.words i (slice_index s.words i)) h.counts h here refl (h.idle id me.0 here) (λ p. le_refl (h.counts p))
      (words_read s.words h.counts i h.words) (let b = h.whole in omega (arith, b)) sees_it

  pub starts : (n slots id i : ℕ) (me : Me S Tally) → Allows (Counted n) slots id me i (λ r. r) (λ r k. k ≡ (tally me.0.parts me.0.count 0 0, me.1))
  starts n slots id i me s h _ here _ = (tally me.0.parts me.0.count 0 0, keeps, tt, reads n slots id i me s h here 0 0 (omega arith, omega arith), refl)

  sees : (n slots id q : ℕ) (me : Me S Tally) → me.0.at ≡ q → q < n → Allows (Counted n) slots id me (word_of q) (λ r. r) (λ r k. k ≡ (tally me.0.parts me.0.count (me.0.at + 1) (me.0.seen + r), me.1))
  sees n slots id q me is lt s h _ here _ =
      let r : ℕ = slice_index s.words (word_of q) in
      let old = h.seen id me.0 here in
      let more : me.0.seen + r ≤ sum_below (suc me.0.at) h.counts = let o = old.1 in let b = h.words q in let e : h.counts q ≡ h.counts me.0.at = ap h.counts (sym is) in omega (arith, o, b, e) in (
        tally me.0.parts me.0.count (me.0.at + 1) (me.0.seen + r),
        keeps,
        tt,
        reads n slots id (word_of q) me s h here (me.0.at + 1) (me.0.seen + r) (omega (arith, is, lt), subst (λ (k : ℕ). me.0.seen + r ≤ sum_below k h.counts) (sym (add-one me.0.at)) more),
        refl,
      )

  pub sees_at : (n slots id q i : ℕ) (me : Me S Tally) → i ≡ word_of q → me.0.at ≡ q → q < n → Allows (Counted n) slots id me i (λ r. r) (λ r k. k ≡ (tally me.0.parts me.0.count (me.0.at + 1) (me.0.seen + r), me.1))
  sees_at n slots id q i me e is lt =
      subst (λ (j : ℕ). Allows (Counted n) slots id me j (λ r. r) (λ r k. k ≡ (tally me.0.parts me.0.count (me.0.at + 1) (me.0.seen + r), me.1))) (sym e) (sees n slots id q me is lt)

  pub settles : (n slots id i : ℕ) (me : Me S Tally) → n ≤ me.0.parts → Allows (Counted n) slots id me i (λ r. r) (λ r k. (k ≡ me) × (me.0.seen ≤ me.0.count))
  settles n slots id i me all s h _ here _ =
      let v = me.0 in
      let old = h.seen id v here in
      let most : v.seen ≤ sum_below n h.counts = le_trans old.1 (sum_up v.at n h.counts old.0) in
      let mine : total (λ u. u.count) s.views ≡ v.count = all_counted s.views id v h.idle here (let k = part_of s.views id v here in let q = h.parts in omega (arith, k, q, all)) in
      (v, keeps, tt, reads n slots id i me s h here v.at v.seen old, (refl, let b = h.whole in omega (arith, most, mine, b)))

  pub splits : (n id : ℕ) (v : Tally) → 0 < v.parts → v.count ≡ 0 → Splits {S = S} (Counted n) id v (tally (v.parts - 1) 0 0 0) (tally 1 0 0 0)
  splits n id v some_part fresh s h at =
      let l : Tally = tally (v.parts - 1) 0 0 0 in let r : Tally = tally 1 0 0 0 in let vs = set s.views id l in
      let p = total_set (λ u. u.parts) s.views id v l at in let c = total_set (λ u. u.count) s.views id v l at in
      let p' = total_snoc (λ u. u.parts) vs r in let c' = total_snoc (λ u. u.count) vs r in
      let sees_none : (0 ≤ n) × (0 ≤ sum_below 0 h.counts) = (omega arith, omega arith) in
      record {
        counts = h.counts;
        words = h.words;
        whole = let b = h.whole in omega (arith, b, c, c', fresh);
        parts = let q = h.parts in omega (arith, p, p', q, some_part);
        idle = λ j u e z. ⊎_elim
            (λ (here : get_elem? vs j ≡ some u). ⊎_elim (λ (t : (j ≡ id) × (l ≡ u)). subst (λ (y : Tally). y.count ≡ 0) t.1 refl)
            (λ (t : (j ≢ id) × (get_elem? s.views j ≡ some u)). h.idle j u t.1 z) (at_set s.views id j l u here))
            (λ (t : r ≡ u). subst (λ (y : Tally). y.count ≡ 0) t refl) (at_snoc vs r u j e);
        seen = λ j u e. ⊎_elim
            (λ (here : get_elem? vs j ≡ some u). ⊎_elim (λ (t : (j ≡ id) × (l ≡ u)). subst (λ (y : Tally). (y.at ≤ n) × (y.seen ≤ sum_below y.at h.counts)) t.1 sees_none)
            (λ (t : (j ≢ id) × (get_elem? s.views j ≡ some u)). h.seen j u t.1) (at_set s.views id j l u here))
            (λ (t : r ≡ u). subst (λ (y : Tally). (y.at ≤ n) × (y.seen ≤ sum_below y.at h.counts)) t sees_none) (at_snoc vs r u j e);
      }

  pub joins : (n id : ℕ) (v : Tally) (other : ℕ) (w : Tally) → 0 < w.parts → Joins {S = S} (Counted n) id v other w (joined v w) (tally 0 0 0 0)
  joins n id v other w some_part s h at two at' =
      let both : Tally = joined v w in let spent : Tally = tally 0 0 0 0 in let vs = set s.views id both in let end = set vs other spent in
      let was : get_elem? s.views other ≡ some w = sym (set_else s.views id other both two) ∙ at' in
      let p = total_set (λ u. u.parts) s.views id v both at in let c = total_set (λ u. u.count) s.views id v both at in
      let p' = total_set (λ u. u.parts) vs other w spent at' in let c' = total_set (λ u. u.count) vs other w spent at' in
      let mine = h.seen id v at in let his = h.seen other w was in
      let top : ℕ = max v.at w.at in
      let mine_up : sum_below v.at h.counts ≤ sum_below top h.counts = sum_up v.at top h.counts (omega arith) in
      let his_up : sum_below w.at h.counts ≤ sum_below top h.counts = sum_up w.at top h.counts (omega arith) in
      let sees_both : (both.at ≤ n) × (both.seen ≤ sum_below both.at h.counts) =
      (let a = mine.0 in let b = his.0 in omega (arith, a, b), let a = mine.1 in let b = his.1 in omega (arith, a, b, mine_up, his_up)) in
      record {
        counts = h.counts;
        words = h.words;
        whole = let b = h.whole in omega (arith, b, c, c');
        parts = let q = h.parts in omega (arith, p, p', q);
        idle = λ j u e z. ⊎_elim (λ (t : (j ≡ other) × (spent ≡ u)). subst (λ (y : Tally). y.count ≡ 0) t.1 refl)
            (λ (o : (j ≢ other) × (get_elem? vs j ≡ some u)). ⊎_elim (λ (t : (j ≡ id) × (both ≡ u)). subst (λ (y : Tally). y.parts ≡ 0 → y.count ≡ 0) t.1 (λ k. absurd (omega (arith, k, some_part))) z)
            (λ (t : (j ≢ id) × (get_elem? s.views j ≡ some u)). h.idle j u t.1 z) (at_set s.views id j both u o.1)) (at_set vs other j spent u e);
        seen = λ j u e. ⊎_elim (λ (t : (j ≡ other) × (spent ≡ u)). subst (λ (y : Tally). (y.at ≤ n) × (y.seen ≤ sum_below y.at h.counts)) t.1 (omega arith, omega arith))
            (λ (o : (j ≢ other) × (get_elem? vs j ≡ some u)). ⊎_elim (λ (t : (j ≡ id) × (both ≡ u)). subst (λ (y : Tally). (y.at ≤ n) × (y.seen ≤ sum_below y.at h.counts)) t.1 sees_both)
            (λ (t : (j ≢ id) × (get_elem? s.views j ≡ some u)). h.seen j u t.1) (at_set s.views id j both u o.1)) (at_set vs other j spent u e);
      }

  pub opens : (n k : ℕ) (words : List ℕ) → words ≡ replicate k 0 → Counted {S = S} n (opening words [] (tally n 0 0 0))
  opens n k words e =
      let v : Tally = tally n 0 0 0 in
      record {
        counts = λ _. 0;
        words = λ p. subst (λ (l : List ℕ). slice_index l (word_of p) ≤ 0) (sym e) (zeros k (word_of p));
        whole = let z = sum_none n in omega (arith, z);
        parts = omega arith;
        idle = λ j u e _. ⊎_elim (λ (t : get_elem? [] j ≡ some u). absurd (some-ne-none u (sym t))) (λ (t : v ≡ u). subst (λ (y : Tally). y.count ≡ 0) t refl) (at_snoc [] v u j e);
        seen = λ j u e. ⊎_elim (λ (t : get_elem? [] j ≡ some u). absurd (some-ne-none u (sym t)))
            (λ (t : v ≡ u). subst (λ (y : Tally). (y.at ≤ n) × (y.seen ≤ sum_below y.at (λ _. 0))) t (omega arith, omega arith)) (at_snoc [] v u j e);
      }
