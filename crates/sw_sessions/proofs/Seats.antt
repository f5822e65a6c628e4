-- Seats that are made and taken in keep the rule.
use Rattle.std.proofs.Common.{◌≡◌, ◌≢◌, ◌+◌, ◌-◌, ◌%◌, ℕ, true, false, true≢false, List, [], ◌∷◌, ◌++◌, length, set, sym, refl, ap, ◌∙◌, ⊎_elim, arith}
use mathlib.Core.Option.{some}
use lib.ListN.{get_elem?}
use Rattle.atomic_table.specs.Table.{State, Splits, Joins}
use Rattle.atomic_table.proofs.Lists.{at_set}
use Rattle.sw_sessions.specs.declared.rule.View.{View}
use Rattle.sw_port_book.specs.Claims.{In}
use Rattle.sw_port_book.proofs.Members.{in_append}
use Rattle.sw_sessions.specs.Calls.{one_if, binds_in}
use Rattle.sw_sessions.specs.Rule.{total, passes_in, Holds, Fits, Kept, closer, clerk, ticket, pair, passer, carrier, nobody}
use Rattle.sw_sessions.proofs.Moves.{put, put_here, total_set, total_snoc, binds-append, each_set, each_snoc, move, desk_still, no_desk, keep_else, two_slots}

-- f of all, where one was cut in two
total_split : (f : View → ℕ) (views : List View) (id : ℕ) (v l r : View) → get_elem? views id ≡ some v → total f (set views id l ++ r ∷ []) + f v ≡ total f views + (f l + f r)
total_split f views id v l r at = let a = total_set f views id v l at in let b = total_snoc f (set views id l) r in omega (arith, a, b)

-- f of all, where one took in another
total_join : (f : View → ℕ) (views : List View) (id : ℕ) (v : View) (other : ℕ) (w both spent : View) → get_elem? views id ≡ some v → get_elem? (set views id both) other ≡ some w
    → total f (set (set views id both) other spent) + (f v + f w) ≡ total f views + (f both + f spent)
total_join f views id v other w both spent at at' = let a = total_set f views id v both at in let b = total_set f (set views id both) other w spent at' in omega (arith, a, b)

was_there : (views : List View) (id other : ℕ) (both w : View) → ¬ (other ≡ id) → get_elem? (set views id both) other ≡ some w → get_elem? views other ≡ some w
was_there views id other both w two at = ⊎_elim (λ (t : (other ≡ id) × (both ≡ w)). absurd (two t.0)) (λ (t : (other ≢ id) × (get_elem? views other ≡ some w)). t.1) (at_set views id other both w at)

-- what holds of each seat, after one took in another
each_join : (P : ℕ → View → Type 0) (views : List View) (id other : ℕ) (both spent : View) → P id both → P other spent
    → ((j : ℕ) (u : View) → j ≢ id → j ≢ other → get_elem? views j ≡ some u → P j u) → (j : ℕ) (u : View) → get_elem? (set (set views id both) other spent) j ≡ some u → P j u
each_join P views id other both spent mine gone others =
    each_set P (set views id both) other spent gone (λ j u no e. each_set (λ k y. k ≢ other → P k y) views id both (λ _. mine) (λ k y ne d far. others k y ne far d) j u e no)

blank : (max drawn : ℕ) (claimed : List ℕ) (desk : ℕ) (at keeper uid : ℕ → ℕ) (count seat : ℕ) → Fits max drawn claimed desk at keeper uid count seat nobody
blank max drawn claimed desk at keeper uid count seat = record {
  desks = λ t. absurd (true≢false (sym t));
  held = λ t. absurd (true≢false (sym t));
  paired = λ t. absurd (true≢false (sym t));
  told = λ c t. absurd t;
  idle = λ _ _. refl;
}

is_ticket : (max drawn : ℕ) (claimed : List ℕ) (desk : ℕ) (at keeper uid : ℕ → ℕ) (count seat max' p : ℕ) → max' ≡ max → Holds max at keeper seat p → Fits max drawn claimed desk at keeper uid count seat (ticket max' p)
is_ticket max drawn claimed desk at keeper uid count seat max' p e h = record {
  desks = λ t. absurd (true≢false (sym t));
  held = λ _. (e, h);
  paired = λ t. absurd (true≢false (sym t));
  told = λ c t. absurd t;
  idle = λ _ _. refl;
}

-- a number that a seat holds goes to another seat
moved : (max : ℕ) (at keeper : ℕ → ℕ) (i j p : ℕ) → Holds max at keeper i p → Holds max at (put keeper (p % max) j) j p
moved max at keeper i j p h = (h.0, h.1, put_here keeper (p % max) j (p % max) refl)

module _ {S : Type 0} where
  -- the words stay, and the tickets of some slots change their seats
  redeal : (max : ℕ) (s : State S View) (h : Kept max s) (views : List View) (keeper : ℕ → ℕ) → ((p : ℕ) → total (λ u. binds_in p u.calls) views ≡ total (λ u. binds_in p u.calls) s.views)
      → ((j : ℕ) (u : View) → get_elem? views j ≡ some u → Fits max h.drawn h.claimed h.desk h.at keeper h.uid (passes_in views) j u) → Kept max record { words = s.words; homes = s.homes; views = views }
  redeal max s h views keeper same fits = record {
    drawn = h.drawn;
    claimed = h.claimed;
    desk = h.desk;
    at = h.at;
    keeper = keeper;
    uid = h.uid;
    sized = h.sized;
    word = h.word;
    small = h.small;
    fresh = h.fresh;
    zero_uid = h.zero_uid;
    live = h.live;
    drew = h.drew;
    each_once = λ p. same p ∙ h.each_once p;
    fits = fits;
  }

  pub gives : (max id : ℕ) (v : View) → v.clerk ≡ true → v.pass ≡ false → v.holds ≡ true → v.calls ≡ [] → Splits {S = S} (Kept max) id v (clerk v.max v.drawn v.claimed v.out) (ticket v.max v.number)
  gives max id v is_clerk no_pass holds no_calls s h at =
      let l : View = clerk v.max v.drawn v.claimed v.out in let r : View = ticket v.max v.number in
      let vs = set s.views id l in let views = vs ++ r ∷ [] in
      let H = (h.fits id v at).held holds in let D = (h.fits id v at).desks is_clerk in
      let n : ℕ = length vs in let keeper = put h.keeper (v.number % max) n in
      let count : passes_in views ≡ passes_in s.views = let a = total_split (λ u. one_if u.pass) s.views id v l r at in let b : one_if v.pass ≡ 0 = ap one_if no_pass in omega (arith, a, b) in
      redeal max s h views keeper (λ p. let a = total_split (λ u. binds_in p u.calls) s.views id v l r at in let b : binds_in p v.calls ≡ 0 = ap (λ c. binds_in p c) no_calls in omega (arith, a, b))
      (each_snoc (Fits max h.drawn h.claimed h.desk h.at keeper h.uid (passes_in views)) vs r
      (is_ticket max h.drawn h.claimed h.desk h.at keeper h.uid (passes_in views) n v.max v.number H.0 (moved max h.at h.keeper id n v.number H.1))
      (each_set (Fits max h.drawn h.claimed h.desk h.at keeper h.uid (passes_in views)) s.views id l
      (record {
        desks = λ _. record { only = D.only; max_is = D.max_is; drawn_is = D.drawn_is; claimed_is = D.claimed_is; counted = D.counted ∙ sym count };
        held = λ t. absurd (true≢false (sym t));
        paired = λ t. absurd (true≢false (sym t));
        told = λ c t. absurd t;
        idle = λ _ _. refl;
      })
      (λ j u ne e. move max h.drawn h.drawn h.claimed h.claimed h.desk h.at h.at h.keeper keeper h.uid h.uid (passes_in s.views) (passes_in views) j u (h.fits j u e)
      (λ _ d. no_desk max h.drawn h.drawn h.claimed h.claimed h.desk (passes_in s.views) (passes_in views) id j u D.only ne d)
      (λ q k. keep_else max h.at h.keeper (v.number % max) n j q (two_slots max h.at h.keeper id j v.number q H.1 k ne) k)
      (λ c k. k))))

  pub enrolls : (max id : ℕ) (v : View) → v.clerk ≡ true → v.pass ≡ false → v.calls ≡ [] → Splits {S = S} (Kept max) id v (clerk v.max v.drawn v.claimed (v.out + 1)) (passer v.max [])
  enrolls max id v is_clerk no_pass no_calls s h at =
      let l : View = clerk v.max v.drawn v.claimed (v.out + 1) in let r : View = passer v.max [] in
      let vs = set s.views id l in let views = vs ++ r ∷ [] in
      let D = (h.fits id v at).desks is_clerk in
      let count : passes_in views ≡ passes_in s.views + 1 = let a = total_split (λ u. one_if u.pass) s.views id v l r at in let b : one_if v.pass ≡ 0 = ap one_if no_pass in omega (arith, a, b) in
      redeal max s h views h.keeper (λ p. let a = total_split (λ u. binds_in p u.calls) s.views id v l r at in let b : binds_in p v.calls ≡ 0 = ap (λ c. binds_in p c) no_calls in omega (arith, a, b))
      (each_snoc (Fits max h.drawn h.claimed h.desk h.at h.keeper h.uid (passes_in views)) vs r
      (record {
        desks = λ t. absurd (true≢false (sym t));
        held = λ t. absurd (true≢false (sym t));
        paired = λ t. absurd (true≢false (sym t));
        told = λ c t. absurd t;
        idle = λ _ _. refl;
      })
      (each_set (Fits max h.drawn h.claimed h.desk h.at h.keeper h.uid (passes_in views)) s.views id l
      (record {
        desks = λ _. record { only = D.only; max_is = D.max_is; drawn_is = D.drawn_is; claimed_is = D.claimed_is; counted = ap (λ k. k + 1) D.counted ∙ sym count };
        held = λ t. absurd (true≢false (sym t));
        paired = λ t. absurd (true≢false (sym t));
        told = λ c t. absurd t;
        idle = λ _ _. refl;
      })
      (λ j u ne e. move max h.drawn h.drawn h.claimed h.claimed h.desk h.at h.at h.keeper h.keeper h.uid h.uid (passes_in s.views) (passes_in views) j u (h.fits j u e)
      (λ _ d. no_desk max h.drawn h.drawn h.claimed h.claimed h.desk (passes_in s.views) (passes_in views) id j u D.only ne d) (λ q k. k) (λ c k. k))))

  pub carries : (max id : ℕ) (v : View) (other : ℕ) (w : View) → v.pass ≡ true → w.holds ≡ true → w.pass ≡ false → w.calls ≡ [] → v.max ≡ w.max → Joins {S = S} (Kept max) id v other w (carrier v.max v.calls w.number) nobody
  carries max id v other w pass holds no_pass no_calls one_max s h at two at' =
      let both : View = carrier v.max v.calls w.number in let views = set (set s.views id both) other nobody in
      let was = was_there s.views id other both w two at' in
      let H = (h.fits other w was).held holds in let keeper = put h.keeper (w.number % max) id in
      let count : passes_in views ≡ passes_in s.views =
      let a = total_join (λ u. one_if u.pass) s.views id v other w both nobody at at' in let b : one_if v.pass ≡ 1 = ap one_if pass in let d : one_if w.pass ≡ 0 = ap one_if no_pass in omega (arith, a, b, d) in
      redeal max s h views keeper (λ p. let a = total_join (λ u. binds_in p u.calls) s.views id v other w both nobody at at' in let b : binds_in p w.calls ≡ 0 = ap (λ c. binds_in p c) no_calls in omega (arith, a, b))
      (each_join (Fits max h.drawn h.claimed h.desk h.at keeper h.uid (passes_in views)) s.views id other both nobody
      (record {
        desks = λ t. absurd (true≢false (sym t));
        held = λ _. (one_max ∙ H.0, moved max h.at h.keeper other id w.number H.1);
        paired = λ t. absurd (true≢false (sym t));
        told = (h.fits id v at).told;
        idle = λ _ t. absurd (true≢false t);
      })
      (blank max h.drawn h.claimed h.desk h.at keeper h.uid (passes_in views) other)
      (λ j u ne no e. move max h.drawn h.drawn h.claimed h.claimed h.desk h.at h.at h.keeper keeper h.uid h.uid (passes_in s.views) (passes_in views) j u (h.fits j u e)
      (λ _ d. desk_still max h.drawn h.claimed h.desk (passes_in s.views) (passes_in views) j u count d)
      (λ q k. keep_else max h.at h.keeper (w.number % max) id j q (two_slots max h.at h.keeper other j w.number q H.1 k no) k)
      (λ c k. k)))

  pub retires : (max id : ℕ) (v : View) (other : ℕ) (w : View) → v.clerk ≡ true → v.pass ≡ false → w.pass ≡ true → Joins {S = S} (Kept max) id v other w (closer v.max v.drawn v.claimed (v.out - 1) (w.calls ++ v.calls)) nobody
  retires max id v other w is_clerk no_pass pass s h at two at' =
      let both : View = closer v.max v.drawn v.claimed (v.out - 1) (w.calls ++ v.calls) in let views = set (set s.views id both) other nobody in
      let was = was_there s.views id other both w two at' in
      let D = (h.fits id v at).desks is_clerk in
      let count : passes_in views + 1 ≡ passes_in s.views =
      let a = total_join (λ u. one_if u.pass) s.views id v other w both nobody at at' in let b : one_if w.pass ≡ 1 = ap one_if pass in let d : one_if v.pass ≡ 0 = ap one_if no_pass in omega (arith, a, b, d) in
      redeal max s h views h.keeper (λ p. let a = total_join (λ u. binds_in p u.calls) s.views id v other w both nobody at at' in let b = binds-append p w.calls v.calls in omega (arith, a, b))
      (each_join (Fits max h.drawn h.claimed h.desk h.at h.keeper h.uid (passes_in views)) s.views id other both nobody
      (record {
        desks = λ _. record { only = D.only; max_is = D.max_is; drawn_is = D.drawn_is; claimed_is = D.claimed_is; counted = let a = D.counted in omega (arith, a, count) };
        held = λ t. absurd (true≢false (sym t));
        paired = λ t. absurd (true≢false (sym t));
        told = λ c t. ⊎_elim (λ (y : In c w.calls). (h.fits other w was).told c y) (λ (y : In c v.calls). (h.fits id v at).told c y) (in_append c w.calls v.calls t);
        idle = λ t. absurd (true≢false t);
      })
      (blank max h.drawn h.claimed h.desk h.at h.keeper h.uid (passes_in views) other)
      (λ j u ne no e. move max h.drawn h.drawn h.claimed h.claimed h.desk h.at h.at h.keeper h.keeper h.uid h.uid (passes_in s.views) (passes_in views) j u (h.fits j u e)
      (λ _ d. no_desk max h.drawn h.drawn h.claimed h.claimed h.desk (passes_in s.views) (passes_in views) id j u D.only ne d) (λ q k. k) (λ c k. k)))

  pub leaves : (max id : ℕ) (v : View) → v.holds ≡ true → v.clerk ≡ false → v.pass ≡ false → v.calls ≡ [] → Splits {S = S} (Kept max) id v nobody (ticket v.max v.number)
  leaves max id v holds no_clerk no_pass no_calls s h at =
      let r : View = ticket v.max v.number in
      let vs = set s.views id nobody in let views = vs ++ r ∷ [] in
      let H = (h.fits id v at).held holds in
      let n : ℕ = length vs in let keeper = put h.keeper (v.number % max) n in
      let count : passes_in views ≡ passes_in s.views = let a = total_split (λ u. one_if u.pass) s.views id v nobody r at in let b : one_if v.pass ≡ 0 = ap one_if no_pass in omega (arith, a, b) in
      redeal max s h views keeper (λ p. let a = total_split (λ u. binds_in p u.calls) s.views id v nobody r at in let b : binds_in p v.calls ≡ 0 = ap (λ c. binds_in p c) no_calls in omega (arith, a, b))
      (each_snoc (Fits max h.drawn h.claimed h.desk h.at keeper h.uid (passes_in views)) vs r
      (is_ticket max h.drawn h.claimed h.desk h.at keeper h.uid (passes_in views) n v.max v.number H.0 (moved max h.at h.keeper id n v.number H.1))
      (each_set (Fits max h.drawn h.claimed h.desk h.at keeper h.uid (passes_in views)) s.views id nobody (blank max h.drawn h.claimed h.desk h.at keeper h.uid (passes_in views) id)
      (λ j u ne e. move max h.drawn h.drawn h.claimed h.claimed h.desk h.at h.at h.keeper keeper h.uid h.uid (passes_in s.views) (passes_in views) j u (h.fits j u e)
      (λ _ d. desk_still max h.drawn h.claimed h.desk (passes_in s.views) (passes_in views) j u count d)
      (λ q k. keep_else max h.at h.keeper (v.number % max) n j q (two_slots max h.at h.keeper id j v.number q H.1 k ne) k)
      (λ c k. k))))

  pub pairs : (max id : ℕ) (v : View) (other : ℕ) (w : View) → v.holds ≡ true → v.pass ≡ false → v.calls ≡ [] → w.holds ≡ true → w.pass ≡ false → w.calls ≡ [] → Joins {S = S} (Kept max) id v other w (pair v.max v.number w.number) nobody
  pairs max id v other w holds no_pass no_calls holds' no_pass' no_calls' s h at two at' =
      let both : View = pair v.max v.number w.number in let views = set (set s.views id both) other nobody in
      let was = was_there s.views id other both w two at' in
      let H = (h.fits id v at).held holds in let K = (h.fits other w was).held holds' in let keeper = put h.keeper (w.number % max) id in
      let differ : w.number % max ≢ v.number % max = two_slots max h.at h.keeper other id w.number v.number K.1 H.1 (λ e. two (sym e)) in
      let count : passes_in views ≡ passes_in s.views =
      let a = total_join (λ u. one_if u.pass) s.views id v other w both nobody at at' in let b : one_if v.pass ≡ 0 = ap one_if no_pass in let d : one_if w.pass ≡ 0 = ap one_if no_pass' in omega (arith, a, b, d) in
      redeal max s h views keeper
      (λ p. let a = total_join (λ u. binds_in p u.calls) s.views id v other w both nobody at at' in let b : binds_in p w.calls ≡ 0 = ap (λ c. binds_in p c) no_calls' in let d : binds_in p v.calls ≡ 0 = ap (λ c. binds_in p c) no_calls in omega (arith, a, b, d))
      (each_join (Fits max h.drawn h.claimed h.desk h.at keeper h.uid (passes_in views)) s.views id other both nobody
      (record {
        desks = λ t. absurd (true≢false (sym t));
        held = λ _. (H.0, keep_else max h.at h.keeper (w.number % max) id id v.number differ H.1);
        paired = λ _. (moved max h.at h.keeper other id w.number K.1, λ e. differ (sym e));
        told = λ c t. absurd t;
        idle = λ _ _. refl;
      })
      (blank max h.drawn h.claimed h.desk h.at keeper h.uid (passes_in views) other)
      (λ j u ne no e. move max h.drawn h.drawn h.claimed h.claimed h.desk h.at h.at h.keeper keeper h.uid h.uid (passes_in s.views) (passes_in views) j u (h.fits j u e)
      (λ _ d. desk_still max h.drawn h.claimed h.desk (passes_in s.views) (passes_in views) j u count d)
      (λ q k. keep_else max h.at h.keeper (w.number % max) id j q (two_slots max h.at h.keeper other j w.number q K.1 k no) k)
      (λ c k. k)))

  pub parts : (max id : ℕ) (v : View) → v.holds ≡ true → v.both ≡ true → v.pass ≡ false → v.calls ≡ [] → Splits {S = S} (Kept max) id v (ticket v.max v.number) (ticket v.max v.other)
  parts max id v holds both no_pass no_calls s h at =
      let l : View = ticket v.max v.number in let r : View = ticket v.max v.other in
      let vs = set s.views id l in let views = vs ++ r ∷ [] in
      let H = (h.fits id v at).held holds in let K = (h.fits id v at).paired both in
      let n : ℕ = length vs in let keeper = put h.keeper (v.other % max) n in
      let count : passes_in views ≡ passes_in s.views = let a = total_split (λ u. one_if u.pass) s.views id v l r at in let b : one_if v.pass ≡ 0 = ap one_if no_pass in omega (arith, a, b) in
      redeal max s h views keeper (λ p. let a = total_split (λ u. binds_in p u.calls) s.views id v l r at in let b : binds_in p v.calls ≡ 0 = ap (λ c. binds_in p c) no_calls in omega (arith, a, b))
      (each_snoc (Fits max h.drawn h.claimed h.desk h.at keeper h.uid (passes_in views)) vs r
      (is_ticket max h.drawn h.claimed h.desk h.at keeper h.uid (passes_in views) n v.max v.other H.0 (moved max h.at h.keeper id n v.other K.0))
      (each_set (Fits max h.drawn h.claimed h.desk h.at keeper h.uid (passes_in views)) s.views id l
      (is_ticket max h.drawn h.claimed h.desk h.at keeper h.uid (passes_in views) id v.max v.number H.0 (keep_else max h.at h.keeper (v.other % max) n id v.number (λ e. K.1 (sym e)) H.1))
      (λ j u ne e. move max h.drawn h.drawn h.claimed h.claimed h.desk h.at h.at h.keeper keeper h.uid h.uid (passes_in s.views) (passes_in views) j u (h.fits j u e)
      (λ _ d. desk_still max h.drawn h.claimed h.desk (passes_in s.views) (passes_in views) j u count d)
      (λ q k. keep_else max h.at h.keeper (v.other % max) n j q (two_slots max h.at h.keeper id j v.other q K.0 k ne) k)
      (λ c k. k))))
