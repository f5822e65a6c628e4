-- A bind and a release keep the rule.
use Rattle.std.proofs.Common.{◌≡◌, ◌≢◌, ◌<◌, ◌≤◌, ◌+◌, ◌*◌, ◌/◌, ◌%◌, ℕ, zero, suc, true, true≢false, eqb, [], ◌∷◌, ◌++◌, set, sym, refl, ap, ◌∙◌, subst, ⊎_elim, slice_index, slice_set, arith}
use Rattle.std.proofs.lemmas.List.{set-get_or, length-set}
use mathlib.Core.Logic.{dite}
use native.Mathlib.Decide.{ℕ_discrete}
use native.Mathlib.Nat.{mod-lt}
use prog.Atomic.{either}
use Rattle.std.proofs.Math.Nat.{div-add-mod'}
use Rattle.atomic_table.specs.Table.{Me, Act, keeps, Valid, carried_after, stepped, Allows}
use Rattle.atomic_table.proofs.Lists.{exchanged}
use Rattle.sw_port_book.specs.Claims.{In}
use Rattle.sw_port_book.proofs.Members.{in_snoc}
use Rattle.sw_sessions.specs.declared.rule.Call.{Call}
use Rattle.sw_sessions.specs.declared.rule.Call.TheVariants.{Bind, Release}
use Rattle.sw_sessions.specs.declared.rule.View.{View}
use Rattle.sw_sessions.specs.Calls.{Met, one_if, binds, binds_in}
use Rattle.sw_sessions.specs.Rule.{passes_in, once, Holds, Told, Fits, Kept, word_in, passer}
use Rattle.sw_sessions.proofs.Words.{number_in, uid_in, word_after}
use Rattle.sw_sessions.proofs.Moves.{put, put_here, put_else, total_set, total_stay, binds-append, each_set, move, desk_still, at_else, two_slots, told_release, told_bind, binds_it, binds_not}
use Rattle.sw_sessions.proofs.Steps.{heard, at_word}

once_some : (k : ℕ) → k ≢ 0 → once k ≡ 1
once_some zero z = absurd (z refl)
once_some (suc k) z = refl

module _ {S : Type 0} where
  pub binds_to : (max slots id : ℕ) (me : Me S View) (i j old new : ℕ) → j ≡ 8 * i → i < max → old ≡ old / 4294967296 * 4294967296 → new ≡ old + new % 4294967296 → new % 4294967296 ≢ 0 → old / 4294967296 ≢ 0 → (old / 4294967296) % max ≡ i → me.0.pass ≡ true
      → Allows (Kept max) slots id me j (λ n. either (eqb n old) new n)
      (λ r n. n ≡ (passer me.0.max (me.0.calls ++ Bind (old / 4294967296) (new % 4294967296) (word_in r) ∷ []), me.1))
  binds_to max slots id me i j old new is lt whole more some_uid some_number slot pass s h _ at _ =
      let v = me.0 in let r : ℕ = slice_index s.words j in let p : ℕ = old / 4294967296 in let u : ℕ = new % 4294967296 in
      let c : Call = Bind p u (word_in r) in
      let w : View = passer v.max (v.calls ++ c ∷ []) in
      let W = at_word max s h i j is lt in
      let n : r / 4294967296 ≡ h.at i = number_in r (h.at i) (h.uid (h.at i)) W (h.small (h.at i)) in
      let t : r % 4294967296 ≡ h.uid (h.at i) = uid_in r (h.at i) (h.uid (h.at i)) W (h.small (h.at i)) in
      let met : Met h.claimed max (p % max) (r / 4294967296) = subst (λ k. Met h.claimed max k (r / 4294967296)) (sym slot) (subst (λ k. Met h.claimed max i k) (sym n) (h.live i lt)) in
      exchanged r old new (λ x. (w : View) × (a : Act S) × Valid s.homes me.1 a × Kept max (stepped s j x id me.1 w a) × (◌≡◌ {A = Me S View} (w, carried_after me.1 a) (passer v.max (v.calls ++ c ∷ []), me.1)))
      (λ e.
      let here : p ≡ h.at i = sym (ap (λ k. k / 4294967296) e) ∙ n in
      let none_in : r % 4294967296 ≡ 0 = ap (λ k. k % 4294967296) e ∙ uid_in old p 0 (let z : old ≡ p * 4294967296 + 0 = omega (arith, whole) in z) (omega arith) in
      let blank : h.uid p ≡ 0 = ap h.uid here ∙ sym t ∙ none_in in
      let stands : h.at (p % max) ≡ p = ap h.at slot ∙ sym here in
      let listed : In p h.claimed = subst (λ k. In k h.claimed) (sym here) ((h.live i lt (λ z. some_number (here ∙ z))).0) in
      let low : p ≤ h.drawn = (h.drew p listed).1 in
      let count : passes_in (set s.views id w) ≡ passes_in s.views = total_stay (λ y. one_if y.pass) s.views id v w at (ap one_if pass) in (
        w,
        keeps,
        tt,
        record {
          drawn = h.drawn;
          claimed = h.claimed;
          desk = h.desk;
          at = h.at;
          keeper = h.keeper;
          uid = put h.uid p u;
          sized = length-set s.words j new ∙ h.sized;
          word = word_after s.words max i j new (λ k. h.at k * 4294967296 + h.uid (h.at k)) (λ k. h.at k * 4294967296 + put h.uid p u (h.at k)) h.sized is lt h.word
              ((let z : new ≡ p * 4294967296 + u = omega (arith, whole, more) in z) ∙ ap (λ q. q * 4294967296 + u) here ∙ sym (ap (λ q. h.at i * 4294967296 + q) (put_here h.uid p u (h.at i) here)))
              (λ k other below. sym (ap (λ q. h.at k * 4294967296 + q) (put_else h.uid p u (h.at k)
              (λ same. other (sym slot ∙ ap (λ q. q % max) same ∙ (h.live k below (λ z. some_number (same ∙ z))).1)))));
          small = λ q. dite (ℕ_discrete p q) (λ same. subst (λ k. k < 4294967296) (sym (put_here h.uid p u q same)) (mod-lt new (omega arith))) (λ other. subst (λ k. k < 4294967296) (sym (put_else h.uid p u q other)) (h.small q));
          fresh = λ q above. put_else h.uid p u q (λ z. absurd (omega (arith, z, above, low))) ∙ h.fresh q above;
          zero_uid = put_else h.uid p u 0 some_number ∙ h.zero_uid;
          live = h.live;
          drew = h.drew;
          each_once = λ q.
              let sum = total_set (λ y. binds_in q y.calls) s.views id v w at in
              let a = binds-append q v.calls (c ∷ []) in
              let before = h.each_once q in
              dite (ℕ_discrete p q)
              (λ same.
              let one : one_if (binds q c) ≡ 1 = ap one_if (binds_it q p u (word_in r) same (ap (λ k. k / 4294967296) e ∙ same) none_in) in
              let was : once (h.uid q) ≡ 0 = ap once (ap h.uid (sym same) ∙ blank) in
              let becomes : once (put h.uid p u q) ≡ 1 = ap once (put_here h.uid p u q same) ∙ once_some u some_uid in
              omega (arith, sum, a, before, one, was, becomes))
              (λ other.
              let zero_more : one_if (binds q c) ≡ 0 = ap one_if (binds_not q p u (word_in r) (λ b _ _. other b)) in
              let becomes : once (put h.uid p u q) ≡ once (h.uid q) = ap once (put_else h.uid p u q other) in
              omega (arith, sum, a, before, zero_more, becomes));
          fits = each_set (Fits max h.drawn h.claimed h.desk h.at h.keeper (put h.uid p u) (passes_in (set s.views id w))) s.views id w
              (record {
                desks = λ y. absurd (true≢false (sym y));
                held = λ y. absurd (true≢false (sym y));
                paired = λ y. absurd (true≢false (sym y));
                told = λ d y. ⊎_elim (λ (b : In d v.calls). told_bind max p u h.at h.uid h.claimed d stands blank ((h.fits id v at).told d b))
                    (λ (b : d ≡ c). subst (λ (x : Call). Told max h.at (put h.uid p u) h.claimed x) (sym b)
                    ((met, (λ z. absurd (z none_in))), some_uid, (λ _ _. put_here h.uid p u p refl))) (in_snoc d c v.calls y);
                idle = λ _ y. absurd (true≢false y);
              })
              (λ k y ne b. move max h.drawn h.drawn h.claimed h.claimed h.desk h.at h.at h.keeper h.keeper h.uid (put h.uid p u) (passes_in s.views) (passes_in (set s.views id w)) k y (h.fits k y b)
              (λ _ d. desk_still max h.drawn h.claimed h.desk (passes_in s.views) (passes_in (set s.views id w)) k y count d) (λ q x. x)
              (λ d x. told_bind max p u h.at h.uid h.claimed d stands blank x));
        },
        refl,
      ))
      (λ ne.
      let never : r / 4294967296 ≡ p → r % 4294967296 ≡ 0 → ⊥ = λ a b. ne (let z = div-add-mod' r 4294967296 in omega (arith, z, a, b, whole)) in (
        w,
        keeps,
        tt,
        heard max id s v c (slice_set s.words j r) h at pass (set-get_or s.words j 0)
            ((met, (λ _. t ∙ ap h.uid (sym n))), some_uid, (λ a b. absurd (never a b)))
            (λ q. binds_not q p u (word_in r) (λ a b d. never (b ∙ sym a) d)),
        refl,
      ))

  pub releases : (max slots id : ℕ) (me : Me S View) (i j : ℕ) → j ≡ 8 * i → i < max → me.0.pass ≡ true → me.0.holds ≡ true → me.0.number % max ≡ i
      → Allows (Kept max) slots id me j (λ _. 0) (λ r n. n ≡ (passer me.0.max (me.0.calls ++ Release me.0.number (r % 4294967296) ∷ []), me.1))
  releases max slots id me i j is lt pass holds slot s h _ at _ =
      let v = me.0 in let r : ℕ = slice_index s.words j in let p : ℕ = v.number in let c : Call = Release p (r % 4294967296) in
      let w : View = passer v.max (v.calls ++ c ∷ []) in
      let H : Holds max h.at h.keeper id p = ((h.fits id v at).held holds).1 in
      let here : h.at i ≡ p = ap h.at (sym slot) ∙ H.1 in
      let t : r % 4294967296 ≡ h.uid p = uid_in r (h.at i) (h.uid (h.at i)) (at_word max s h i j is lt) (h.small (h.at i)) ∙ ap h.uid here in
      let count : passes_in (set s.views id w) ≡ passes_in s.views = total_stay (λ y. one_if y.pass) s.views id v w at (ap one_if pass) in
      let told : Told max (put h.at i 0) h.uid h.claimed c =
      (subst (λ k. In k h.claimed) here ((h.live i lt (λ z. H.0 (sym here ∙ z))).0), H.0, (λ e. H.0 (sym e ∙ put_here h.at i 0 (p % max) (sym slot))), t) in (
        w,
        keeps,
        tt,
        record {
          drawn = h.drawn;
          claimed = h.claimed;
          desk = h.desk;
          at = put h.at i 0;
          keeper = h.keeper;
          uid = h.uid;
          sized = length-set s.words j 0 ∙ h.sized;
          word = word_after s.words max i j 0 (λ k. h.at k * 4294967296 + h.uid (h.at k)) (λ k. put h.at i 0 k * 4294967296 + h.uid (put h.at i 0 k)) h.sized is lt h.word
              ((let z : 0 ≡ 0 * 4294967296 + h.uid 0 = (let a = h.zero_uid in omega (arith, a)) in z) ∙ sym (ap (λ q. q * 4294967296 + h.uid q) (put_here h.at i 0 i refl)))
              (λ k other _. sym (ap (λ q. q * 4294967296 + h.uid q) (put_else h.at i 0 k other)));
          small = h.small;
          fresh = h.fresh;
          zero_uid = h.zero_uid;
          live = λ k low. dite (ℕ_discrete i k) (λ same. subst (λ q. Met h.claimed max k q) (sym (put_here h.at i 0 k same)) (λ z. absurd (z refl)))
              (λ other. subst (λ q. Met h.claimed max k q) (sym (put_else h.at i 0 k other)) (h.live k low));
          drew = h.drew;
          each_once = λ q. total_stay (λ u. binds_in q u.calls) s.views id v w at (let a = binds-append q v.calls (c ∷ []) in omega (arith, a)) ∙ h.each_once q;
          fits = each_set (Fits max h.drawn h.claimed h.desk (put h.at i 0) h.keeper h.uid (passes_in (set s.views id w))) s.views id w
              (record {
                desks = λ y. absurd (true≢false (sym y));
                held = λ y. absurd (true≢false (sym y));
                paired = λ y. absurd (true≢false (sym y));
                told = λ d y. ⊎_elim (λ (b : In d v.calls). told_release max i h.at h.uid h.claimed d ((h.fits id v at).told d b))
                    (λ (b : d ≡ c). subst (λ (x : Call). Told max (put h.at i 0) h.uid h.claimed x) (sym b) told) (in_snoc d c v.calls y);
                idle = λ _ y. absurd (true≢false y);
              })
              (λ k y ne b. move max h.drawn h.drawn h.claimed h.claimed h.desk h.at (put h.at i 0) h.keeper h.keeper h.uid h.uid (passes_in s.views) (passes_in (set s.views id w)) k y (h.fits k y b)
              (λ _ d. desk_still max h.drawn h.claimed h.desk (passes_in s.views) (passes_in (set s.views id w)) k y count d)
              (λ q x. at_else max h.at h.keeper i 0 k q (λ z. two_slots max h.at h.keeper id k p q H x ne (slot ∙ z)) x)
              (λ d x. told_release max i h.at h.uid h.claimed d x));
        },
        refl,
      )
