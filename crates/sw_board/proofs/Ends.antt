-- How the rule begins, and what the seat that has all logs learns.
use Rattle.std.proofs.Common.{◌≡◌, ◌<◌, ◌≤◌, ◌+◌, inl, inr, ℕ, zero, suc, true, false, true≢false, List, [], ◌∷◌, length, sum, replicate, sym, refl, ap, ◌∙◌, subst, ⊎_elim, slice_index, add-one, arith}
use Rattle.std.proofs.lemmas.List.{set-get_or, length-replicate}
use Rattle.std.proofs.lemmas.List.Sums.{sum_by-append}
use mathlib.Core.Option.{some, some-injective, some-ne-none}
use mathlib.Core.Logic.{dite}
use native.Mathlib.Decide.{ℕ_discrete}
use lib.ListN.{get_elem?}
use Rattle.atomic_table.specs.Table.{State, Me, keeps, opening, Allows}
use Rattle.atomic_table.proofs.Lists.{set_again}
use Rattle.sw_base.specs.declared.counter.Counter.{Counter}
use Rattle.sw_port_board.specs.declared.board.BoardStep.{BoardStep}
use Rattle.sw_port_board.specs.declared.board.BoardStep.TheVariants.{Found, SawStop, Read}
use Rattle.sw_port_board.specs.Board.{In, added, knows_stop, AllAgree, reads_from}
use Rattle.sw_board.specs.declared.rule.Log.{Log}
use Rattle.sw_board.specs.declared.rule.View.{View}
use Rattle.sw_board.specs.Rule.{log, dealer, holder, words_of, sum_below, parts, added_in, Told, Has, Fits, Kept, Settled}
use Rattle.sw_board.proofs.Moves.{total_all, total_only}
use Rattle.sw_board.proofs.Logs.{stop_in}

zeros : (n i : ℕ) → slice_index (replicate n 0) i ≡ 0
zeros zero i = refl
zeros (suc n) zero = refl
zeros (suc n) (suc i) = zeros n i

nothing_below : (n : ℕ) → sum_below (λ k. 0) n ≡ 0
nothing_below zero = refl
nothing_below (suc n) = let s = nothing_below n in omega (arith, s)

one_view : (w v : View) (at : ℕ) → get_elem? (w ∷ []) at ≡ some v → (at ≡ 0) × (w ≡ v)
one_view w v zero e = (refl, some-injective w v e)
one_view w v (suc at) e = absurd (some-ne-none v (sym e))

-- a view without parts stands for no actor, and added nothing
empty_has : (v : View) (a : ℕ) (xs : List BoardStep) → parts v ≡ 0 → Has v a xs → ⊥
empty_has v a xs e h = ⊎_elim (λ k. not_in (log a xs) v.logs (omega (arith, e)) k) (λ k. let lo = k.0 in let hi = k.1 in omega (arith, e, lo, hi)) h
  where
    not_in : (l : Log) (ls : List Log) → length ls ≡ 0 → In l ls → ⊥
    not_in l [] z i = i
    not_in l (k ∷ ks) z i = omega (arith, z)

empty_adds : (c : Counter) (v : View) → parts v ≡ 0 → added_in c v.logs ≡ 0
empty_adds c v e = none_of v.logs (omega (arith, e))
  where
    none_of : (ls : List Log) → length ls ≡ 0 → added_in c ls ≡ 0
    none_of [] z = refl
    none_of (k ∷ ks) z = absurd (omega (arith, z))

-- words of which each is at most its actor's count add up to at most the counts
sum_reads : (f : ℕ → ℕ) (c : Counter) (a : ℕ) (words : List ℕ) → ((k n : ℕ) → In (Read c k n) (reads_from c a words) → n ≤ f k) → sum words + sum_below f a ≤ sum_below f (a + length words)
sum_reads f c a [] h = let e : sum_below f (a + 0) ≡ sum_below f a = ap (sum_below f) (let y : a + 0 ≡ a = omega arith in y) in omega (arith, e)
sum_reads f c a (w ∷ ws) h =
    let now = h a w (inl refl) in
    let t = sum_reads f c (a + 1) ws (λ k n i. h k n (inr i)) in
    let e : sum_below f (a + 1) ≡ sum_below f a + f a = ap (sum_below f) (add-one a) in
    let d : sum_below f (a + 1 + length ws) ≡ sum_below f (a + length (w ∷ ws)) = ap (sum_below f) (let y : a + 1 + length ws ≡ a + length (w ∷ ws) = omega arith in y) in
    let s = sum_by-append (λ (n : ℕ). n) (w ∷ []) ws in
    omega (arith, now, t, e, d, s)

module _ {S : Type 0} where
  pub opens : (actors : ℕ) → Kept {S = S} actors (opening (replicate (words_of actors) 0) [] (dealer 0 actors))
  opens actors = record {
    owner = λ b. 0;
    steps = λ b. [];
    stopped = false;
    sized = length-replicate (words_of actors) 0;
    stop = zeros (words_of actors) 0;
    idle = λ a lt. zeros (words_of actors) _;
    count = λ a lt c. zeros (words_of actors) _;
    maker = λ t. absurd (true≢false (sym t));
    heard = λ a lt t. absurd (true≢false (sym t));
    told = λ a lt x i. absurd i;
    agreed = λ a lt. tt;
    shared = omega arith;
    counted = λ c. sym (nothing_below actors);
    there = λ a lt. (dealer 0 actors, refl, inr (omega arith, omega (arith, lt)));
    fits = λ at v e. let t = one_view (dealer 0 actors) v at e in subst (λ (y : ℕ × View). Fits actors (λ b. 0) (λ b. []) y.0 y.1) (λ i. (sym t.0 i, t.1 i))
        (record { mine = λ l i. absurd i; rest = λ b lo hi. (refl, refl); within = omega arith });
  }

  -- where one view has all, an actor's log is there
  all_here : (actors id : ℕ) (ls : List Log) (s : State S View) (h : Kept actors s) → get_elem? s.views id ≡ some (holder ls) → length ls ≡ actors → (a : ℕ) → a < actors → In (log a (h.steps a)) ls
  all_here actors id ls s h at whole a lt =
      let t = h.there a lt in
      dite (ℕ_discrete (h.owner a) id)
      (λ is. let same : holder ls ≡ t.0 = some-injective (holder ls) t.0 (sym at ∙ ap (λ j. get_elem? s.views j) (sym is) ∙ t.1) in
      ⊎_elim (λ k. k) (λ k. let lo = k.0 in let hi = k.1 in absurd (omega (arith, lo, hi))) (subst (λ (z : View). Has z a (h.steps a)) (sym same) t.2))
      (λ other. absurd (empty_has t.0 a (h.steps a) (total_all parts s.views id (h.owner a) (holder ls) t.0 at (let e = h.shared in omega (arith, whole, e)) t.1 other) t.2))

  -- and what the logs added is what the actors did
  all_added : (actors id : ℕ) (ls : List Log) (s : State S View) (h : Kept actors s) → get_elem? s.views id ≡ some (holder ls) → length ls ≡ actors → (c : Counter) → added_in c ls ≡ sum_below (λ a. added c (h.steps a)) actors
  all_added actors id ls s h at whole c =
      sym (total_only (λ z. added_in c z.logs) s.views id (holder ls) at
      (λ j w b ne. empty_adds c w (total_all parts s.views id j (holder ls) w at (let e = h.shared in omega (arith, whole, e)) b ne)))
      ∙ h.counted c

  settled : (actors id : ℕ) (ls : List Log) (s : State S View) (h : Kept actors s) → get_elem? s.views id ≡ some (holder ls) → length ls ≡ actors → Settled actors ls
  settled actors id ls s h at whole =
      let f = h.fits id (holder ls) at in
      let told : (l : Log) → In l ls → (x : BoardStep) → In x l.steps → Told actors h.steps x =
      λ l i x k. let m = f.mine l i in h.told l.actor m.0 x (subst (λ (y : List BoardStep). In x y) m.2 k) in
      record {
        stops = λ l i k.
            let m = f.mine l i in
            let set : h.stopped ≡ true = h.heard l.actor m.0 (subst (λ (y : List BoardStep). knows_stop y ≡ true) m.2 (stop_in (SawStop true) l.steps k refl)) in
            let who = h.maker set in
            (log who.0 (h.steps who.0), all_here actors id ls s h at whole who.0 who.1, who.2);
        idles = λ l a i k. let t = told l i (Found a true) k in (log a (h.steps a), all_here actors id ls s h at whole a t.0, refl, t.1 refl);
        sums = λ l c words i size each.
            let e = all_added actors id ls s h at whole c in
            let t = sum_reads (λ a. added c (h.steps a)) c 0 words (λ a n k. (told l i (Read c a n) (each (Read c a n) k)).1) in
            let z : sum_below (λ a. added c (h.steps a)) (0 + length words) ≡ sum_below (λ a. added c (h.steps a)) actors = ap (sum_below (λ a. added c (h.steps a))) (let y : 0 + length words ≡ actors = omega (arith, size) in y) in
            omega (arith, e, t, z);
        agreed = λ l i. let m = f.mine l i in (m.0, subst (λ (y : List BoardStep). AllAgree l.actor [] y) (sym m.2) (h.agreed l.actor m.0));
      }

  pub settles : (actors slots id : ℕ) (ls : List Log) (m : List (ℕ × S)) → length ls ≡ actors
      → Allows (Kept actors) slots id (holder ls, m) 0 (λ n. n) (λ r n. (◌≡◌ {A = Me S View} n (holder ls, m)) × Settled (length ls) ls)
  settles actors slots id ls m whole s h _ at _ = (
    holder ls,
    keeps,
    tt,
    subst (λ (y : List ℕ × List View). Kept actors record { words = y.0; homes = s.homes; views = y.1 }) (λ i. (sym (set-get_or s.words 0 0) i, sym (set_again s.views id (holder ls) at) i)) h,
    (refl, subst (λ n. Settled n ls) (sym whole) (settled actors id ls s h at whole)),
  )

  pub settles_at : (actors slots id : ℕ) (me : Me S View) (ls : List Log) (m : List (ℕ × S)) → me ≡ (holder ls, m) → length ls ≡ actors
      → Allows (Kept actors) slots id me 0 (λ n. n) (λ r n. (◌≡◌ {A = Me S View} n me) × Settled (length me.0.logs) me.0.logs)
  settles_at actors slots id me ls m e whole =
      subst (λ (y : Me S View). Allows (Kept actors) slots id y 0 (λ n. n) (λ r n. (◌≡◌ {A = Me S View} n y) × Settled (length y.0.logs) y.0.logs)) (sym e) (settles actors slots id ls m whole)
