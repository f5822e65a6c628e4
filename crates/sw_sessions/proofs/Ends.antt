-- What the clerk learns at the end, what two tickets learn, and the start.
use Rattle.std.proofs.Common.{◌≡◌, ◌≢◌, ◌≤◌, ◌+◌, ◌*◌, ◌%◌, inl, inr, ℕ, zero, suc, Bool, true, false, true≢false, List, [], ◌∷◌, length, set, sym, refl, ap, ◌∙◌, subst, slice_index, slice_set, arith}
use Rattle.std.proofs.lemmas.List.{set-get_or}
use mathlib.Core.Option.{some, some-injective, some-ne-none}
use lib.ListN.{get_elem?}
use Rattle.atomic_table.specs.Table.{Me, keeps, Allows, opening}
use Rattle.sw_sessions.specs.declared.rule.Call.{Call}
use Rattle.sw_sessions.specs.declared.rule.View.{View}
use Rattle.sw_port_book.specs.Claims.{In}
use Rattle.sw_sessions.specs.declared.rule.Call.TheVariants.{Look, Bind, Release}
use Rattle.sw_sessions.specs.Calls.{Met, one_if, binds, binds_in, ok_bind, slot_of, number_found, uid_found, Settled}
use Rattle.sw_sessions.specs.Rule.{total, once, Told, Fits, Kept, clerk}
use Rattle.sw_sessions.proofs.Moves.{each_snoc, is_bind}
use Rattle.std.proofs.Common.{replicate}
use Rattle.atomic_table.proofs.Lists.{set_again}
use Rattle.sw_sessions.proofs.Steps.{still}

-- where f is 0 of each other, f of all is f of this one
only_one : (f : View → ℕ) (views : List View) (j : ℕ) (v : View) → get_elem? views j ≡ some v → ((i : ℕ) (u : View) → i ≢ j → get_elem? views i ≡ some u → f u ≡ 0) → total f views ≡ f v
only_one f [] j v at none_else = absurd (some-ne-none v (sym at))
only_one f (x ∷ xs) zero v at none_else =
    let a : f x ≡ f v = ap f (some-injective x v at) in let b = all_none xs (λ i u e. none_else (suc i) u (λ z. absurd (omega (arith, z))) e) in omega (arith, a, b)
  where
    all_none : (views : List View) → ((i : ℕ) (u : View) → get_elem? views i ≡ some u → f u ≡ 0) → total f views ≡ 0
    all_none [] h = refl
    all_none (x ∷ xs) h = let a = h zero x refl in let b = all_none xs (λ i u e. h (suc i) u e) in omega (arith, a, b)
only_one f (x ∷ xs) (suc j) v at none_else =
    let a = none_else zero x (λ z. absurd (omega (arith, z))) refl in let b = only_one f xs j v at (λ i u ne e. none_else (suc i) u (λ z. ne (omega (arith, z))) e) in omega (arith, a, b)

part_of : (f : View → ℕ) (views : List View) (j : ℕ) (v : View) → get_elem? views j ≡ some v → f v ≤ total f views
part_of f [] j v at = absurd (some-ne-none v (sym at))
part_of f (x ∷ xs) zero v at = let p : f x ≡ f v = ap f (some-injective x v at) in omega (arith, p)
part_of f (x ∷ xs) (suc j) v at = let p = part_of f xs j v at in omega (arith, p)

once_most : (k : ℕ) → once k ≤ 1
once_most zero = omega arith
once_most (suc k) = omega arith

once_is : (k : ℕ) → k ≢ 0 → once k ≡ 1
once_is zero z = absurd (z refl)
once_is (suc k) z = refl

is_none : (b : Bool) → one_if b ≡ 0 → b ≡ false
is_none true e = absurd (omega (arith, e))
is_none false e = refl

false_not : (b : Bool) → (b ≡ true → ⊥) → b ≡ false
false_not true h = absurd (h refl)
false_not false h = refl

-- where there are binds of p, one stands there
find : (p : ℕ) (cs : List Call) → binds_in p cs ≢ 0 → (b : Call) × In b cs × (binds p b ≡ true)
find p [] h = absurd (h refl)
find p (c ∷ cs) h = found (λ z. find p cs z) (binds p c) refl
  where
    found : (binds_in p cs ≢ 0 → (b : Call) × In b cs × (binds p b ≡ true)) → (b : Bool) → binds p c ≡ b → (b : Call) × In b (c ∷ cs) × (binds p b ≡ true)
    found go true e = (c, inl refl, e)
    found go false e = let r = go (λ z. h (let q : one_if (binds p c) ≡ 0 = ap one_if e in omega (arith, q, z))) in (r.0, inr r.1, r.2)

-- what a call found, as it was told
uid_told : (max : ℕ) (at uid : ℕ → ℕ) (claimed : List ℕ) (c : Call) → Told max at uid claimed c → uid_found c ≢ 0 → uid_found c ≡ uid (number_found c)
uid_told max at uid claimed (Look slot word) h = h.1
uid_told max at uid claimed (Bind session asked word) h = h.0.1
uid_told max at uid claimed (Release session found) h = λ _. h.3

number_told : (max : ℕ) (at uid : ℕ → ℕ) (claimed : List ℕ) (c : Call) → Told max at uid claimed c → Met claimed max (slot_of max c) (number_found c)
number_told max at uid claimed (Look slot word) h = h.0
number_told max at uid claimed (Bind session asked word) h = h.0.0
number_told max at uid claimed (Release session found) h = λ _. (h.0, refl)

zeros : (n i : ℕ) → slice_index (replicate n 0) i ≡ 0
zeros zero i = refl
zeros (suc n) zero = refl
zeros (suc n) (suc i) = zeros n i

zeros-length : (n : ℕ) → length {A = ℕ} (replicate n 0) ≡ n
zeros-length zero = refl
zeros-length (suc n) = ap suc (zeros-length n)

module _ {S : Type 0} where
  pub settles : (max slots id : ℕ) (me : Me S View) → me.0.clerk ≡ true → me.0.out ≡ 0 → Allows (Kept max) slots id me 0 (λ n. n) (λ r n. (n ≡ me) × Settled me.0.max me.0.claimed me.0.calls)
  settles max slots id me is_clerk none_out s h _ at _ =
      let v = me.0 in let D = (h.fits id v at).desks is_clerk in
      let no_pass : (j : ℕ) (u : View) → get_elem? s.views j ≡ some u → u.pass ≡ false =
      λ j u e. is_none u.pass (let a = part_of (λ y. one_if y.pass) s.views j u e in let b = D.counted in omega (arith, a, b, none_out)) in
      let no_calls : (j : ℕ) (u : View) → j ≢ id → get_elem? s.views j ≡ some u → u.calls ≡ [] =
      λ j u ne e. (h.fits j u e).idle (false_not u.clerk (λ t. ne (((h.fits j u e).desks t).only ∙ sym D.only))) (no_pass j u e) in
      let all : (p : ℕ) → binds_in p v.calls ≡ once (h.uid p) =
      λ p. sym (only_one (λ u. binds_in p u.calls) s.views id v at (λ j u ne e. ap (λ l. binds_in p l) (no_calls j u ne e))) ∙ h.each_once p in
      let told : (c : Call) → In c v.calls → Told max h.at h.uid h.claimed c = (h.fits id v at).told in
      let asked : (p u : ℕ) → In (ok_bind p u) v.calls → h.uid p ≡ u = λ p u i. (told (ok_bind p u) i).2 refl refl in (
        v,
        keeps,
        tt,
        still max s (slice_set s.words 0 (slice_index s.words 0)) (set s.views id v) h (set-get_or s.words 0 0) (set_again s.views id v at),
        (
          refl,
          record {
            at_most_once = λ p. let a = all p in let b = once_most (h.uid p) in omega (arith, a, b);
            of_bind = λ c i some_uid.
                let seen : uid_found c ≡ h.uid (number_found c) = uid_told max h.at h.uid h.claimed c (told c i) some_uid in
                let one : binds_in (number_found c) v.calls ≡ 1 = all (number_found c) ∙ once_is (h.uid (number_found c)) (λ z. some_uid (seen ∙ z)) in
                let f = find (number_found c) v.calls (λ z. absurd (omega (arith, z, one))) in
                let B = is_bind (number_found c) f.0 f.2 in
                let entry : In (ok_bind (number_found c) B.0) v.calls = subst (λ (b : Call). In b v.calls) B.1 f.1 in
                subst (λ u. In (ok_bind (number_found c) u) v.calls) (sym (asked (number_found c) B.0 entry) ∙ sym seen) entry;
            release = λ session found uid ended bound. (told (Release session found) ended).3 ∙ asked session uid bound;
            numbers = λ c i. subst (λ k. Met v.claimed k (slot_of k c) (number_found c)) (sym D.max_is) (subst (λ l. Met l max (slot_of max c) (number_found c)) (sym D.claimed_is) (number_told max h.at h.uid h.claimed c (told c i)));
          },
        ),
      )

  pub tells : (max slots id : ℕ) (me : Me S View) → me.0.holds ≡ true → me.0.both ≡ true → Allows (Kept max) slots id me 0 (λ n. n) (λ r n. (n ≡ me) × (me.0.number % me.0.max ≢ me.0.other % me.0.max))
  tells max slots id me holds both s h _ at _ =
      let v = me.0 in let H = (h.fits id v at).held holds in let K = (h.fits id v at).paired both in (
        v,
        keeps,
        tt,
        still max s (slice_set s.words 0 (slice_index s.words 0)) (set s.views id v) h (set-get_or s.words 0 0) (set_again s.views id v at),
        (refl, subst (λ k. v.number % k ≢ v.other % k) (sym H.0) K.1),
      )

  pub opens : (max last : ℕ) → Kept {S = S} max (opening (replicate (8 * max) 0) [] (clerk max last [] 0))
  opens max last =
      let v : View = clerk max last [] 0 in
      record {
        drawn = last;
        claimed = [];
        desk = 0;
        at = λ _. 0;
        keeper = λ _. 0;
        uid = λ _. 0;
        sized = zeros-length (8 * max);
        word = λ i lt. zeros (8 * max) (8 * i) ∙ (let z : 0 ≡ 0 * 4294967296 + 0 = omega arith in z);
        small = λ p. omega arith;
        fresh = λ p lt. refl;
        zero_uid = refl;
        live = λ i lt z. absurd (z refl);
        drew = λ p t. absurd t;
        each_once = λ p. refl;
        fits = each_snoc (Fits max last [] 0 (λ _. 0) (λ _. 0) (λ _. 0) 0) [] v
            (record {
              desks = λ _. record { only = refl; max_is = refl; drawn_is = refl; claimed_is = refl; counted = refl };
              held = λ t. absurd (true≢false (sym t));
              paired = λ t. absurd (true≢false (sym t));
              told = λ c t. absurd t;
              idle = λ _ _. refl;
            })
            (λ j u e. absurd (some-ne-none u (sym e)));
      }
