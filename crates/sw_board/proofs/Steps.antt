-- What each kind of step may do, and what it tells.
use Rattle.std.proofs.Common.{◌≡◌, ◌<◌, ◌+◌, ◌==◌, ◌⊎◌, inl, inr, ℕ, Bool, true, false, true≢false, List, [], ◌∷◌, ◌++◌, length, set, sym, refl, ap, ◌∙◌, subst, ⊎_elim, slice_index, slice_set, eq-eqb, ne_eqb, arith}
use Rattle.std.proofs.lemmas.List.{set-get_or, get_or-set_same, get_or-set_other, length-set}
use mathlib.Core.Option.{some}
use mathlib.Core.Logic.{dite}
use native.Mathlib.Decide.{ℕ_discrete}
use lib.ListN.{get_elem?}
use Rattle.atomic_table.specs.Table.{State, Me, keeps, Allows}
use Rattle.atomic_table.proofs.Lists.{set_again}
use Rattle.sw_base.specs.declared.counter.Counter.{Counter}
use Rattle.sw_port_board.specs.declared.board.BoardStep.{BoardStep}
use Rattle.sw_port_board.specs.declared.board.BoardStep.TheVariants.{Marked, Found, Stopped, SawStop, Added, Read}
use Rattle.sw_port_board.specs.Board.{In, capped, one_if, adds, added, counter_number, mark_after, mark_from, is_idle_after, shows_stop, knows_stop, Agrees}
use Rattle.sw_board.specs.declared.rule.View.{View}
use Rattle.sw_board.specs.Rule.{log, seat, logged, Matches, actor_of, steps_of, count_word, idle_word, Told, Kept}
use Rattle.sw_board.proofs.Logs.{told_more}
use Rattle.sw_board.proofs.Noted.{noted}
use Rattle.sw_board.proofs.Rows.{number_same, same_row, same_count, same_idle, idle_count, idle_below, count_below, is_one}

-- a mark stands where the last one was idle
marked_in : (b : Bool) (xs : List BoardStep) → mark_from b xs ≡ true → (b ≡ true) ⊎ In (Marked true) xs
marked_in b [] e = inl e
marked_in b (Marked now ∷ xs) e = inr (⊎_elim (λ (t : now ≡ true). inl (ap (λ (k : Bool). Marked k) (sym t))) (λ t. inr t) (marked_in now xs e))
marked_in b (Found a i ∷ xs) e = ⊎_elim (λ t. inl t) (λ t. inr (inr t)) (marked_in b xs e)
marked_in b (Stopped ∷ xs) e = ⊎_elim (λ t. inl t) (λ t. inr (inr t)) (marked_in b xs e)
marked_in b (SawStop i ∷ xs) e = ⊎_elim (λ t. inl t) (λ t. inr (inr t)) (marked_in b xs e)
marked_in b (Added c ∷ xs) e = ⊎_elim (λ t. inl t) (λ t. inr (inr t)) (marked_in b xs e)
marked_in b (Read c a n ∷ xs) e = ⊎_elim (λ t. inl t) (λ t. inr (inr t)) (marked_in b xs e)

idle_marked : (xs : List BoardStep) → is_idle_after xs ≡ true → In (Marked true) xs
idle_marked xs e = ⊎_elim (λ t. absurd (true≢false (sym t))) (λ t. t) (marked_in false xs e)

-- a step that stores nothing
record Quiet (x : BoardStep) : Type 0 where
  marks : (b : Bool) → mark_after b x ≡ b
  adds_none : (c : Counter) → adds c x ≡ 0

module _ {S : Type 0} where
  -- what an actor's own words and steps are
  record Own (actors id a : ℕ) (xs : List BoardStep) (s : State S View) (h : Kept actors s) : Type 0 where
    low : a < actors
    now : xs ≡ h.steps a

  own : (actors id a : ℕ) (xs : List BoardStep) (s : State S View) (h : Kept actors s) → get_elem? s.views id ≡ some (seat a xs) → Own actors id a xs s h
  own actors id a xs s h at = let m = (h.fits id (seat a xs) at).mine (log a xs) (inl refl) in record { low = m.0; now = m.2 }

  idle_now : (actors id a : ℕ) (xs : List BoardStep) (s : State S View) (h : Kept actors s) → Own actors id a xs s h → slice_index s.words (idle_word a) ≡ one_if (is_idle_after xs)
  idle_now actors id a xs s h o = h.idle a o.low ∙ sym (ap (λ (l : List BoardStep). one_if (is_idle_after l)) o.now)

  count_now : (actors id a : ℕ) (xs : List BoardStep) (s : State S View) (h : Kept actors s) → Own actors id a xs s h → (c : Counter) → slice_index s.words (count_word c a) ≡ capped (added c xs)
  count_now actors id a xs s h o c = h.count a o.low c ∙ sym (ap (λ (l : List BoardStep). capped (added c l)) o.now)

  -- where nothing was stored
  read : (actors id a i : ℕ) (s : State S View) (xs : List BoardStep) (x : BoardStep) (h : Kept actors s) → get_elem? s.views id ≡ some (seat a xs) → Quiet x
      → (shows_stop x ≡ true → h.stopped ≡ true) → Told actors h.steps x → Agrees a xs x
      → Kept actors record { words = slice_set s.words i (slice_index s.words i); homes = s.homes; views = set s.views id (seat a (xs ++ x ∷ [])) }
  read actors id a i s xs x h at quiet shown told agrees =
      let o = own actors id a xs s h at in
      let same : set s.words i (slice_index s.words i) ≡ s.words = set-get_or s.words i 0 in
      noted actors id a s xs x (set s.words i (slice_index s.words i)) h.stopped h at
      (record {
        size = ap (λ (l : List ℕ). length l) same;
        own_idle = ap (λ (l : List ℕ). slice_index l (idle_word a)) same ∙ idle_now actors id a xs s h o ∙ sym (ap one_if (quiet.marks (is_idle_after xs)));
        own_count = λ c. ap (λ (l : List ℕ). slice_index l (count_word c a)) same ∙ count_now actors id a xs s h o c ∙ sym (ap capped (let z = quiet.adds_none c in let y : added c xs + adds c x ≡ added c xs = omega (arith, z) in y));
        idle = λ b lt ne. ap (λ (l : List ℕ). slice_index l (idle_word b)) same;
        count = λ b lt ne c. ap (λ (l : List ℕ). slice_index l (count_word c b)) same;
      })
      (record { word = ap (λ (l : List ℕ). slice_index l 0) same ∙ h.stop; stays = λ t. t; cause = λ t. inl t; shown = shown })
      (told_more actors a h.steps xs x x o.now told) agrees

  pub finds : (actors slots id a : ℕ) (xs : List BoardStep) (m : List (ℕ × S)) (b : ℕ) → b < actors
      → Allows (Kept actors) slots id (seat a xs, m) (idle_word b) (λ n. n)
      (λ r n. (k : ℕ) → idle_word b ≡ idle_word k → (n ≡ (logged (seat a xs) (Found k (r == 1)), m)) × Matches (seat a xs) (Found k (r == 1)))
  finds actors slots id a xs m b lt s h _ at _ =
      let r : ℕ = slice_index s.words (idle_word b) in
      let o = own actors id a xs s h at in
      let is : (r == 1) ≡ is_idle_after (h.steps b) = is_one (is_idle_after (h.steps b)) r (h.idle b lt) in
      let x : BoardStep = Found b (r == 1) in
      let agrees : Agrees a xs x = λ e. is ∙ ap (λ (l : List BoardStep). is_idle_after l) (ap h.steps e ∙ sym o.now) in (
        seat a (xs ++ x ∷ []),
        keeps,
        tt,
        read actors id a (idle_word b) s xs x h at (record { marks = λ t. refl; adds_none = λ c. refl }) (λ t. absurd (true≢false (sym t)))
            (lt, λ t. idle_marked (h.steps b) (sym is ∙ t)) agrees,
        λ k e. let q = same_idle b k e in
            (ap {A = ℕ} {B = Me S View} (λ (j : ℕ). (seat a (xs ++ Found j (r == 1) ∷ []), m)) q, subst (λ (j : ℕ). Agrees a xs (Found j (r == 1))) q agrees),
      )

  pub sees : (actors slots id a : ℕ) (xs : List BoardStep) (m : List (ℕ × S))
      → Allows (Kept actors) slots id (seat a xs, m) 0 (λ n. n)
      (λ r n. (n ≡ (logged (seat a xs) (SawStop (r == 1)), m)) × Matches (seat a xs) (SawStop (r == 1)))
  sees actors slots id a xs m s h _ at _ =
      let r : ℕ = slice_index s.words 0 in
      let o = own actors id a xs s h at in
      let is : (r == 1) ≡ h.stopped = is_one h.stopped r h.stop in
      let x : BoardStep = SawStop (r == 1) in
      let agrees : Agrees a xs x = λ t. is ∙ h.heard a o.low (subst (λ (l : List BoardStep). knows_stop l ≡ true) o.now t) in (
        seat a (xs ++ x ∷ []),
        keeps,
        tt,
        read actors id a 0 s xs x h at (record { marks = λ t. refl; adds_none = λ c. refl }) (λ t. sym is ∙ t) tt agrees,
        (refl, agrees),
      )

  pub reads : (actors slots id a : ℕ) (xs : List BoardStep) (m : List (ℕ × S)) (c : Counter) (b : ℕ) → b < actors
      → Allows (Kept actors) slots id (seat a xs, m) (count_word c b) (λ n. n)
      (λ r n. (d : Counter) (k : ℕ) → count_word c b ≡ count_word d k → (n ≡ (logged (seat a xs) (Read d k r), m)) × Matches (seat a xs) (Read d k r))
  reads actors slots id a xs m c b lt s h _ at _ =
      let r : ℕ = slice_index s.words (count_word c b) in
      let o = own actors id a xs s h at in
      let x : BoardStep = Read c b r in
      let is : r ≡ capped (added c (h.steps b)) = h.count b lt c in
      let agrees : Agrees a xs x = λ e. is ∙ ap (λ (l : List BoardStep). capped (added c l)) (ap h.steps e ∙ sym o.now) in (
        seat a (xs ++ x ∷ []),
        keeps,
        tt,
        read actors id a (count_word c b) s xs x h at (record { marks = λ t. refl; adds_none = λ d. refl }) (λ t. absurd (true≢false (sym t))) (lt, omega (arith, is)) agrees,
        λ d k e. let p = same_count c d b k e in let q = same_row c d b k e in (
          (λ i. (seat a (xs ++ Read (p i) (q i) r ∷ []), m)),
          subst (λ (y : Counter × ℕ). Agrees a xs (Read y.0 y.1 r)) (λ i. (p i, q i)) agrees,
        ),
      )

  pub recalls : (actors slots id a : ℕ) (xs : List BoardStep) (m : List (ℕ × S)) (c : Counter)
      → Allows (Kept actors) slots id (seat a xs, m) (count_word c a) (λ n. n)
      (λ r n. (◌≡◌ {A = Me S View} n (seat a xs, m)) × ((d : Counter) → count_word c a ≡ count_word d a → r ≡ capped (added d xs)))
  recalls actors slots id a xs m c s h _ at _ =
      let o = own actors id a xs s h at in (
        seat a xs,
        keeps,
        tt,
        subst (λ (y : List ℕ × List View). Kept actors record { words = y.0; homes = s.homes; views = y.1 }) (λ i. (sym (set-get_or s.words (count_word c a) 0) i, sym (set_again s.views id (seat a xs) at) i)) h,
        (refl, (λ d e. count_now actors id a xs s h o c ∙ ap (λ (k : Counter). capped (added k xs)) (same_count c d a a e))),
      )

  pub marks : (actors slots id a : ℕ) (xs : List BoardStep) (m : List (ℕ × S)) (new : ℕ) → new ≡ one_if (new == 1)
      → Allows (Kept actors) slots id (seat a xs, m) (idle_word a) (λ _. new) (λ _ n. n ≡ (logged (seat a xs) (Marked (new == 1)), m))
  marks actors slots id a xs m new bit s h _ at _ =
      let o = own actors id a xs s h at in
      let x : BoardStep = Marked (new == 1) in
      let i : ℕ = idle_word a in
      let inside : i < length s.words = subst (λ k. i < k) (sym h.sized) (idle_below a actors o.low) in (
        seat a (xs ++ x ∷ []),
        keeps,
        tt,
        noted actors id a s xs x (set s.words i new) h.stopped h at
            (record {
              size = length-set s.words i new;
              own_idle = get_or-set_same s.words i new 0 inside ∙ bit;
              own_count = λ c. get_or-set_other s.words i (count_word c a) new 0 (λ q. idle_count c a a (sym q)) ∙ count_now actors id a xs s h o c ∙ sym (ap capped (let y : added c xs + 0 ≡ added c xs = omega arith in y));
              idle = λ b lt ne. get_or-set_other s.words i (idle_word b) new 0 (λ q. ne (sym (same_idle b a q)));
              count = λ b lt ne c. get_or-set_other s.words i (count_word c b) new 0 (λ q. idle_count c a b (sym q));
            })
            (record { word = get_or-set_other s.words i 0 new 0 (λ q. omega (arith, q)) ∙ h.stop; stays = λ t. t; cause = λ t. inl t; shown = λ t. absurd (true≢false (sym t)) })
            tt tt,
        refl,
      )

  pub stops : (actors slots id a : ℕ) (xs : List BoardStep) (m : List (ℕ × S))
      → Allows (Kept actors) slots id (seat a xs, m) 0 (λ _. 1) (λ _ n. n ≡ (logged (seat a xs) Stopped, m))
  stops actors slots id a xs m s h _ at _ =
      let o = own actors id a xs s h at in
      let x : BoardStep = Stopped in
      let inside : 0 < length s.words = let e = h.sized in omega (arith, e) in (
        seat a (xs ++ x ∷ []),
        keeps,
        tt,
        noted actors id a s xs x (set s.words 0 1) true h at
            (record {
              size = length-set s.words 0 1;
              own_idle = get_or-set_other s.words 0 (idle_word a) 1 0 (λ q. omega (arith, q)) ∙ idle_now actors id a xs s h o;
              own_count = λ c. get_or-set_other s.words 0 (count_word c a) 1 0 (λ q. omega (arith, q)) ∙ count_now actors id a xs s h o c ∙ sym (ap capped (let y : added c xs + 0 ≡ added c xs = omega arith in y));
              idle = λ b lt ne. get_or-set_other s.words 0 (idle_word b) 1 0 (λ q. omega (arith, q));
              count = λ b lt ne c. get_or-set_other s.words 0 (count_word c b) 1 0 (λ q. omega (arith, q));
            })
            (record { word = get_or-set_same s.words 0 1 0 inside; stays = λ t. refl; cause = λ t. inr refl; shown = λ t. refl })
            tt tt,
        refl,
      )

  pub adds_to : (actors slots id a : ℕ) (xs : List BoardStep) (m : List (ℕ × S)) (c : Counter) (new : ℕ) → new ≡ capped (added c xs + 1)
      → Allows (Kept actors) slots id (seat a xs, m) (count_word c a) (λ _. new) (λ _ n. (d : Counter) → count_word c a ≡ count_word d a → n ≡ (logged (seat a xs) (Added d), m))
  adds_to actors slots id a xs m c new more s h _ at _ =
      let o = own actors id a xs s h at in
      let x : BoardStep = Added c in
      let i : ℕ = count_word c a in
      let inside : i < length s.words = subst (λ k. i < k) (sym h.sized) (count_below c a actors o.low) in (
        seat a (xs ++ x ∷ []),
        keeps,
        tt,
        noted actors id a s xs x (set s.words i new) h.stopped h at
            (record {
              size = length-set s.words i new;
              own_idle = get_or-set_other s.words i (idle_word a) new 0 (λ q. idle_count c a a q) ∙ idle_now actors id a xs s h o;
              own_count = λ d. dite (ℕ_discrete (counter_number d) (counter_number c))
                  (λ e. let q : d ≡ c = number_same d c e in
                  ap (λ (k : Counter). slice_index (set s.words i new) (count_word k a)) q ∙ get_or-set_same s.words i new 0 inside ∙ more
                  ∙ sym (ap capped (let p : added d xs ≡ added c xs = ap (λ (k : Counter). added k xs) q in let y : one_if (counter_number d == counter_number c) ≡ 1 = ap one_if (eq-eqb (counter_number d) (counter_number c) e) in let z : added d xs + one_if (counter_number d == counter_number c) ≡ added c xs + 1 = omega (arith, p, y) in z)))
                  (λ ne. get_or-set_other s.words i (count_word d a) new 0 (λ q. ne (ap counter_number (same_count d c a a q))) ∙ count_now actors id a xs s h o d
                  ∙ sym (ap capped (let y : one_if (counter_number d == counter_number c) ≡ 0 = ap one_if (ne_eqb (counter_number d) (counter_number c) ne) in let z : added d xs + one_if (counter_number d == counter_number c) ≡ added d xs = omega (arith, y) in z)));
              idle = λ b lt ne. get_or-set_other s.words i (idle_word b) new 0 (λ q. idle_count c b a q);
              count = λ b lt ne d. get_or-set_other s.words i (count_word d b) new 0 (λ q. ne (sym (same_row d c b a q)));
            })
            (record { word = get_or-set_other s.words i 0 new 0 (λ q. omega (arith, q)) ∙ h.stop; stays = λ t. t; cause = λ t. inl t; shown = λ t. absurd (true≢false (sym t)) })
            tt tt,
        λ d e. λ j. (seat a (xs ++ Added (same_count c d a a e j) ∷ []), m),
      )

  -- the same of a seat and a word that are known
  pub finds_at : (actors slots id : ℕ) (me : Me S View) (i a : ℕ) (xs : List BoardStep) (m : List (ℕ × S)) → me ≡ (seat a xs, m) → (b : ℕ) → b < actors → i ≡ idle_word b
      → Allows (Kept actors) slots id me i (λ n. n) (λ r n. (k : ℕ) → i ≡ idle_word k → (n ≡ (logged me.0 (Found k (r == 1)), me.1)) × Matches me.0 (Found k (r == 1)))
  finds_at actors slots id me i a xs m e b lt w =
      subst (λ (y : ℕ × Me S View). Allows (Kept actors) slots id y.1 y.0 (λ n. n) (λ r n. (k : ℕ) → y.0 ≡ idle_word k → (n ≡ (logged y.1.0 (Found k (r == 1)), y.1.1)) × Matches y.1.0 (Found k (r == 1)))) (λ j. (sym w j, sym e j)) (finds actors slots id a xs m b lt)

  pub sees_at : (actors slots id : ℕ) (me : Me S View) (a : ℕ) (xs : List BoardStep) (m : List (ℕ × S)) → me ≡ (seat a xs, m)
      → Allows (Kept actors) slots id me 0 (λ n. n) (λ r n. (n ≡ (logged me.0 (SawStop (r == 1)), me.1)) × Matches me.0 (SawStop (r == 1)))
  sees_at actors slots id me a xs m e =
      subst (λ (y : Me S View). Allows (Kept actors) slots id y 0 (λ n. n) (λ r n. (n ≡ (logged y.0 (SawStop (r == 1)), y.1)) × Matches y.0 (SawStop (r == 1)))) (sym e) (sees actors slots id a xs m)

  pub reads_at : (actors slots id : ℕ) (me : Me S View) (i a : ℕ) (xs : List BoardStep) (m : List (ℕ × S)) → me ≡ (seat a xs, m) → (c : Counter) (b : ℕ) → b < actors → i ≡ count_word c b
      → Allows (Kept actors) slots id me i (λ n. n) (λ r n. (d : Counter) (k : ℕ) → i ≡ count_word d k → (n ≡ (logged me.0 (Read d k r), me.1)) × Matches me.0 (Read d k r))
  reads_at actors slots id me i a xs m e c b lt w =
      subst (λ (y : ℕ × Me S View). Allows (Kept actors) slots id y.1 y.0 (λ n. n) (λ r n. (d : Counter) (k : ℕ) → y.0 ≡ count_word d k → (n ≡ (logged y.1.0 (Read d k r), y.1.1)) × Matches y.1.0 (Read d k r))) (λ j. (sym w j, sym e j)) (reads actors slots id a xs m c b lt)

  pub recalls_at : (actors slots id : ℕ) (me : Me S View) (i a : ℕ) (xs : List BoardStep) (m : List (ℕ × S)) → me ≡ (seat a xs, m) → (c : Counter) → i ≡ count_word c a
      → Allows (Kept actors) slots id me i (λ n. n) (λ r n. (◌≡◌ {A = Me S View} n me) × ((d : Counter) → i ≡ count_word d (actor_of me.0) → r ≡ capped (added d (steps_of me.0))))
  recalls_at actors slots id me i a xs m e c w =
      subst (λ (y : ℕ × Me S View). Allows (Kept actors) slots id y.1 y.0 (λ n. n) (λ r n. (◌≡◌ {A = Me S View} n y.1) × ((d : Counter) → y.0 ≡ count_word d (actor_of y.1.0) → r ≡ capped (added d (steps_of y.1.0))))) (λ j. (sym w j, sym e j)) (recalls actors slots id a xs m c)

  pub marks_at : (actors slots id : ℕ) (me : Me S View) (i a : ℕ) (xs : List BoardStep) (m : List (ℕ × S)) → me ≡ (seat a xs, m) → (new : ℕ) → new ≡ one_if (new == 1) → i ≡ idle_word a
      → Allows (Kept actors) slots id me i (λ _. new) (λ _ n. n ≡ (logged me.0 (Marked (new == 1)), me.1))
  marks_at actors slots id me i a xs m e new bit w =
      subst (λ (y : ℕ × Me S View). Allows (Kept actors) slots id y.1 y.0 (λ _. new) (λ _ n. n ≡ (logged y.1.0 (Marked (new == 1)), y.1.1))) (λ j. (sym w j, sym e j)) (marks actors slots id a xs m new bit)

  pub stops_at : (actors slots id : ℕ) (me : Me S View) (a : ℕ) (xs : List BoardStep) (m : List (ℕ × S)) → me ≡ (seat a xs, m)
      → Allows (Kept actors) slots id me 0 (λ _. 1) (λ _ n. n ≡ (logged me.0 Stopped, me.1))
  stops_at actors slots id me a xs m e =
      subst (λ (y : Me S View). Allows (Kept actors) slots id y 0 (λ _. 1) (λ _ n. n ≡ (logged y.0 Stopped, y.1))) (sym e) (stops actors slots id a xs m)

  pub adds_to_at : (actors slots id : ℕ) (me : Me S View) (i a : ℕ) (xs : List BoardStep) (m : List (ℕ × S)) → me ≡ (seat a xs, m) → (c : Counter) (new : ℕ) → new ≡ capped (added c xs + 1) → i ≡ count_word c a
      → Allows (Kept actors) slots id me i (λ _. new) (λ _ n. (d : Counter) → i ≡ count_word d (actor_of me.0) → n ≡ (logged me.0 (Added d), me.1))
  adds_to_at actors slots id me i a xs m e c new more w =
      subst (λ (y : ℕ × Me S View). Allows (Kept actors) slots id y.1 y.0 (λ _. new) (λ _ n. (d : Counter) → y.0 ≡ count_word d (actor_of y.1.0) → n ≡ (logged y.1.0 (Added d), y.1.1))) (λ j. (sym w j, sym e j)) (adds_to actors slots id a xs m c new more)
