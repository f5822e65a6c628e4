-- A look and a try of a claim keep the rule.
use Rattle.std.proofs.Common.{◌≡◌, ◌≢◌, ◌<◌, ◌≤◌, ◌+◌, ◌-◌, ◌*◌, ◌/◌, ◌%◌, ℕ, zero, suc, true, false, true≢false, eqb, List, [], ◌∷◌, ◌++◌, length, set, sym, refl, ap, ◌∙◌, subst, ⊎_elim, slice_index, slice_set, arith}
use Rattle.std.proofs.lemmas.List.{set-get_or, length-set}
use mathlib.Core.Option.{some}
use mathlib.Core.Logic.{dite}
use native.Mathlib.Decide.{ℕ_discrete}
use prog.Atomic.{either}
use lib.ListN.{get_elem?}
use Rattle.atomic_table.specs.Table.{State, Me, Act, keeps, Valid, carried_after, stepped, Allows}
use Rattle.atomic_table.proofs.Lists.{exchanged}
use Rattle.sw_port_book.specs.Claims.{In}
use Rattle.sw_port_book.proofs.Members.{in_snoc, in_longer, in_last}
use Rattle.sw_sessions.specs.declared.rule.Call.{Call}
use Rattle.sw_sessions.specs.declared.rule.Call.TheVariants.{Look}
use Rattle.sw_sessions.specs.declared.rule.View.{View}
use Rattle.sw_sessions.specs.Calls.{Met, one_if, binds, binds_in}
use Rattle.sw_sessions.specs.Rule.{MetIn, passes_in, Told, Fits, Kept, word_in, clerk, claimer, passer, after_claim}
use Rattle.sw_sessions.proofs.Words.{number_in, uid_in, word_after}
use Rattle.sw_sessions.proofs.Moves.{put, put_here, put_else, total_stay, binds-append, each_set, move, desk_still, no_desk, hold_else, free_slot, told_claim}

pub positive : (n : ℕ) → n ≢ 0 → n ≡ suc (n - 1)
positive zero h = absurd (h refl)
positive (suc n) h = ap suc (omega arith)

module _ {S : Type 0} where
  -- the word of slot i, which is word j of the table
  pub at_word : (max : ℕ) (s : State S View) (h : Kept max s) (i j : ℕ) → j ≡ 8 * i → i < max → slice_index s.words j ≡ h.at i * 4294967296 + h.uid (h.at i)
  at_word max s h i j is lt = ap (λ k. slice_index s.words k) is ∙ h.word i lt

  -- one view changes and the words stay; the seat is not the clerk's
  pub heard : (max id : ℕ) (s : State S View) (v : View) (c : Call) (words : List ℕ) (h : Kept max s) → get_elem? s.views id ≡ some v → v.pass ≡ true → words ≡ s.words
      → Told max h.at h.uid h.claimed c → ((p : ℕ) → binds p c ≡ false) → Kept max record { words = words; homes = s.homes; views = set s.views id (passer v.max (v.calls ++ c ∷ [])) }
  heard max id s v c words h at pass same told never =
      let w : View = passer v.max (v.calls ++ c ∷ []) in
      let count : passes_in (set s.views id w) ≡ passes_in s.views = total_stay (λ u. one_if u.pass) s.views id v w at (ap one_if pass) in
      record {
        drawn = h.drawn;
        claimed = h.claimed;
        desk = h.desk;
        at = h.at;
        keeper = h.keeper;
        uid = h.uid;
        sized = ap (λ l. length l) same ∙ h.sized;
        word = λ k lt. ap (λ l. slice_index l (8 * k)) same ∙ h.word k lt;
        small = h.small;
        fresh = h.fresh;
        zero_uid = h.zero_uid;
        live = h.live;
        drew = h.drew;
        each_once = λ p. total_stay (λ u. binds_in p u.calls) s.views id v w at (let a = binds-append p v.calls (c ∷ []) in let z : one_if (binds p c) ≡ 0 = ap one_if (never p) in omega (arith, a, z)) ∙ h.each_once p;
        fits = each_set (Fits max h.drawn h.claimed h.desk h.at h.keeper h.uid (passes_in (set s.views id w))) s.views id w
            (record {
              desks = λ t. absurd (true≢false (sym t));
              held = λ t. absurd (true≢false (sym t));
              paired = λ t. absurd (true≢false (sym t));
              told = λ d i. ⊎_elim (λ (t : In d v.calls). (h.fits id v at).told d t) (λ (t : d ≡ c). subst (λ (y : Call). Told max h.at h.uid h.claimed y) (sym t) told) (in_snoc d c v.calls i);
              idle = λ _ t. absurd (true≢false t);
            })
            (λ j u ne e. move max h.drawn h.drawn h.claimed h.claimed h.desk h.at h.at h.keeper h.keeper h.uid h.uid (passes_in s.views) (passes_in (set s.views id w)) j u (h.fits j u e)
            (λ _ d. desk_still max h.drawn h.claimed h.desk (passes_in s.views) (passes_in (set s.views id w)) j u count d) (λ p k. k) (λ d k. k));
      }

  -- the same state
  pub still : (max : ℕ) (s : State S View) (words : List ℕ) (views : List View) → Kept max s → words ≡ s.words → views ≡ s.views → Kept max record { words = words; homes = s.homes; views = views }
  still max s words views h e d = subst (λ (y : List ℕ × List View). Kept max record { words = y.0; homes = s.homes; views = y.1 }) (λ i. (sym e i, sym d i)) h

  pub looks : (max slots id : ℕ) (me : Me S View) (i j : ℕ) → j ≡ 8 * i → i < max → me.0.pass ≡ true
      → Allows (Kept max) slots id me j (λ n. n) (λ r n. n ≡ (passer me.0.max (me.0.calls ++ Look i (word_in r) ∷ []), me.1))
  looks max slots id me i j is lt pass s h _ at _ =
      let v = me.0 in let r : ℕ = slice_index s.words j in let c : Call = Look i (word_in r) in
      let W = at_word max s h i j is lt in
      let n : r / 4294967296 ≡ h.at i = number_in r (h.at i) (h.uid (h.at i)) W (h.small (h.at i)) in
      let u : r % 4294967296 ≡ h.uid (h.at i) = uid_in r (h.at i) (h.uid (h.at i)) W (h.small (h.at i)) in (
        passer v.max (v.calls ++ c ∷ []),
        keeps,
        tt,
        heard max id s v c (slice_set s.words j r) h at pass (set-get_or s.words j 0)
            (subst (λ k. Met h.claimed max i k) (sym n) (h.live i lt), (λ _. u ∙ ap h.uid (sym n)))
            (λ p. refl),
        refl,
      )

  tried_number : (max slots id : ℕ) (me : Me S View) (i j new : ℕ) → j ≡ 8 * i → i < max → new ≡ new / 4294967296 * 4294967296 → me.0.clerk ≡ true → me.0.pass ≡ false → me.0.calls ≡ [] → me.0.drawn < new / 4294967296
      → (new / 4294967296) % max ≡ i
      → Allows (Kept max) slots id me j (λ n. either (eqb n 0) new n) (λ r n. (n ≡ (after_claim me.0 (new / 4294967296) r, me.1)) × ((new / 4294967296) % me.0.max ≡ i) × MetIn me.0.claimed me.0.max i r)
  tried_number max slots id me i j new is lt whole is_clerk no_pass no_calls above slot s h _ at _ =
      let v = me.0 in let r : ℕ = slice_index s.words j in let num : ℕ = new / 4294967296 in
      let D = (h.fits id v at).desks is_clerk in
      let W : r ≡ h.at i * 4294967296 + h.uid (h.at i) = at_word max s h i j is lt in
      let n : r / 4294967296 ≡ h.at i = number_in r (h.at i) (h.uid (h.at i)) W (h.small (h.at i)) in
      let over : h.drawn < num = subst (λ k. k < num) D.drawn_is above in
      let met : MetIn v.claimed v.max i r = λ some_word.
      (let k : Met v.claimed v.max i (r / 4294967296) = subst (λ k. Met v.claimed v.max i k) (sym n) (subst (λ k. Met v.claimed k i (h.at i)) (sym D.max_is) (subst (λ l. Met l max i (h.at i)) (sym D.claimed_is) (h.live i lt))) in
      k (λ z. let free : h.at i ≡ 0 = sym n ∙ z in let none_bound : h.uid (h.at i) ≡ 0 = ap h.uid free ∙ h.zero_uid in some_word (omega (arith, W, free, none_bound)))) in
      let own : num % v.max ≡ i = ap (λ k. num % k) D.max_is ∙ slot in
      let below : (p : ℕ) → In p h.claimed → p ≤ h.drawn = λ p t. (h.drew p t).1 in
      exchanged r 0 new (λ x. (w : View) × (a : Act S) × Valid s.homes me.1 a × Kept max (stepped s j x id me.1 w a) × ((◌≡◌ {A = Me S View} (w, carried_after me.1 a) (after_claim v num r, me.1)) × (num % v.max ≡ i) × MetIn v.claimed v.max i r))
      (λ e.
      let w : View = claimer v.max num (v.claimed ++ num ∷ []) v.out num in
      let free : h.at i ≡ 0 = omega (arith, e, W) in
      let count : passes_in (set s.views id w) ≡ passes_in s.views = total_stay (λ u. one_if u.pass) s.views id v w at (ap one_if no_pass) in
      let fresh : h.uid num ≡ 0 = h.fresh num over in (
        w,
        keeps,
        tt,
        record {
          drawn = num;
          claimed = h.claimed ++ num ∷ [];
          desk = h.desk;
          at = put h.at i num;
          keeper = put h.keeper i id;
          uid = h.uid;
          sized = length-set s.words j new ∙ h.sized;
          word = word_after s.words max i j new (λ k. h.at k * 4294967296 + h.uid (h.at k)) (λ k. put h.at i num k * 4294967296 + h.uid (put h.at i num k)) h.sized is lt h.word
              ((let z : new ≡ num * 4294967296 + h.uid num = omega (arith, whole, fresh) in z) ∙ sym (ap (λ q. q * 4294967296 + h.uid q) (put_here h.at i num i refl)))
              (λ k other _. sym (ap (λ q. q * 4294967296 + h.uid q) (put_else h.at i num k other)));
          small = h.small;
          fresh = λ p more. h.fresh p (omega (arith, more, over));
          zero_uid = h.zero_uid;
          live = λ k low. dite (ℕ_discrete i k)
              (λ same. subst (λ q. Met (h.claimed ++ num ∷ []) max k q) (sym (put_here h.at i num k same)) (λ _. (in_last num h.claimed, slot ∙ same)))
              (λ other. subst (λ q. Met (h.claimed ++ num ∷ []) max k q) (sym (put_else h.at i num k other)) (λ z. let m = h.live k low z in (in_longer (h.at k) h.claimed (num ∷ []) m.0, m.1)));
          drew = λ p t. ⊎_elim (λ (y : In p h.claimed). let d = h.drew p y in (d.0, let b = d.1 in omega (arith, b, over))) (λ (y : p ≡ num). ((λ z. absurd (omega (arith, z, y, over))), omega (arith, y))) (in_snoc p num h.claimed t);
          each_once = λ p. total_stay (λ u. binds_in p u.calls) s.views id v w at (ap (λ l. binds_in p l) no_calls) ∙ h.each_once p;
          fits = each_set (Fits max num (h.claimed ++ num ∷ []) h.desk (put h.at i num) (put h.keeper i id) h.uid (passes_in (set s.views id w))) s.views id w
              (record {
                desks = λ _. record { only = D.only; max_is = D.max_is; drawn_is = refl; claimed_is = ap (λ l. l ++ num ∷ []) D.claimed_is; counted = D.counted ∙ sym count };
                held = λ _. (D.max_is, ((λ z. absurd (omega (arith, z, over))), put_here h.at i num (num % max) (sym slot), put_here h.keeper i id (num % max) (sym slot)));
                paired = λ t. absurd (true≢false (sym t));
                told = λ d t. absurd t;
                idle = λ t. absurd (true≢false t);
              })
              (λ k u ne e. move max h.drawn num h.claimed (h.claimed ++ num ∷ []) h.desk h.at (put h.at i num) h.keeper (put h.keeper i id) h.uid h.uid (passes_in s.views) (passes_in (set s.views id w)) k u (h.fits k u e)
              (λ _ d. no_desk max h.drawn num h.claimed (h.claimed ++ num ∷ []) h.desk (passes_in s.views) (passes_in (set s.views id w)) id k u D.only ne d)
              (λ p y. hold_else max h.at h.keeper i num id k p (free_slot max h.at h.keeper i k p free y) y)
              (λ d y. told_claim max h.drawn num i h.at h.uid h.claimed d below over y));
        },
        (ap (λ k. (after_claim v num k, me.1)) (sym e), own, met),
      ))
      (λ ne.
      let w : View = clerk v.max num v.claimed v.out in
      let count : passes_in (set s.views id w) ≡ passes_in s.views = total_stay (λ u. one_if u.pass) s.views id v w at (ap one_if no_pass) in (
        w,
        keeps,
        tt,
        record {
          drawn = num;
          claimed = h.claimed;
          desk = h.desk;
          at = h.at;
          keeper = h.keeper;
          uid = h.uid;
          sized = length-set s.words j r ∙ h.sized;
          word = λ k low. ap (λ l. slice_index l (8 * k)) (set-get_or s.words j 0) ∙ h.word k low;
          small = h.small;
          fresh = λ p more. h.fresh p (omega (arith, more, over));
          zero_uid = h.zero_uid;
          live = h.live;
          drew = λ p t. let d = h.drew p t in (d.0, let b = d.1 in omega (arith, b, over));
          each_once = λ p. total_stay (λ u. binds_in p u.calls) s.views id v w at (ap (λ l. binds_in p l) no_calls) ∙ h.each_once p;
          fits = each_set (Fits max num h.claimed h.desk h.at h.keeper h.uid (passes_in (set s.views id w))) s.views id w
              (record {
                desks = λ _. record { only = D.only; max_is = D.max_is; drawn_is = refl; claimed_is = D.claimed_is; counted = D.counted ∙ sym count };
                held = λ t. absurd (true≢false (sym t));
                paired = λ t. absurd (true≢false (sym t));
                told = λ d t. absurd t;
                idle = λ t. absurd (true≢false t);
              })
              (λ k u ne e. move max h.drawn num h.claimed h.claimed h.desk h.at h.at h.keeper h.keeper h.uid h.uid (passes_in s.views) (passes_in (set s.views id w)) k u (h.fits k u e)
              (λ _ d. no_desk max h.drawn num h.claimed h.claimed h.desk (passes_in s.views) (passes_in (set s.views id w)) id k u D.only ne d) (λ p y. y) (λ d y. y));
        },
        (ap (λ k. (after_claim v num k, me.1)) (sym (positive r ne)), own, met),
      ))

  pub claims : (max slots id : ℕ) (me : Me S View) (i j new : ℕ) → j ≡ 8 * i → i < max → new ≡ new / 4294967296 * 4294967296 → me.0.clerk ≡ true → me.0.pass ≡ false → me.0.calls ≡ [] → new / 4294967296 ≡ me.0.drawn + 1
      → (new / 4294967296) % max ≡ i
      → Allows (Kept max) slots id me j (λ n. either (eqb n 0) new n) (λ r n. (n ≡ (after_claim me.0 (me.0.drawn + 1) r, me.1)) × ((me.0.drawn + 1) % me.0.max ≡ i) × MetIn me.0.claimed me.0.max i r)
  claims max slots id me i j new is lt whole is_clerk no_pass no_calls next slot =
      subst (λ (k : ℕ). Allows (Kept max) slots id me j (λ n. either (eqb n 0) new n) (λ r n. (n ≡ (after_claim me.0 k r, me.1)) × (k % me.0.max ≡ i) × MetIn me.0.claimed me.0.max i r)) next
      (tried_number max slots id me i j new is lt whole is_clerk no_pass no_calls (omega (arith, next)) slot)
