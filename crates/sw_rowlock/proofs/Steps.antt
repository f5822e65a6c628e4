-- Each step keeps the rule of the locks.
use Rattle.std.proofs.Common.{◌≡◌, ◌≢◌, ◌<◌, ◌≤◌, ◌+◌, ◌-◌, ◌*◌, ℕ, zero, suc, Bool, true, false, true≢false, cond, eqb, eqb-true, eq-eqb, List, [], ◌∷◌, ◌++◌, length, length-append, length-set, drop, set, get_or-set_same, get_or-set_other, sym, refl, ap, ◌∙◌, subst, ⊎_elim, slice_index, Option, Some, None, arith}
use Rattle.std.proofs.lemmas.List.{set-get_or, length-map}
use Rattle.std.specs.Option.{unwrap_or}
use mathlib.Core.Option.{some, none, some-injective, some-ne-none}
use mathlib.Core.Logic.{dite}
use native.Mathlib.Decide.{ℕ_discrete}
use prog.Atomic.{either}
use lib.ListN.{get_elem?}
use Rattle.atomic_table.specs.Table.{State, Me, Act, keeps, takes, gives, Allows, Splits, Joins, Valid, stepped, carried_after, put_back, opening}
use Rattle.atomic_table.proofs.Lists.{at_set, set_here, set_else, at_longer, at_map}
use Rattle.sw_rowlock.specs.declared.view.View.{View}
use Rattle.sw_rowlock.specs.History.{below, calls, others, owns, Begins, AllBegin, times_drawn, merged, after}
use Rattle.sw_rowlock.specs.Rule.{word_at, total, In, Has, Places, Without, knows, nobody, refused, marks, parts_of, Manned, Fits, Free, Locked, TookOne, Takes, TakesBy, Looked, Looks, DrewOne, Draws, DrawsBy, Touched, Touches}
use Rattle.sw_rowlock.proofs.Histories.{here, total_set, total_snoc, part_of, two_of, all_of, at_snoc, at_below, below_suc, below_one, mark_others, mark_more, mark_draw, begins_split, begins_more, begins_look, begins_draw, begins_others, begins_merged, mark_merged, all_owned, drop_all, each_all, all_more, all_join, after_snoc, same_eqb, else_eqb}

-- the words of two locks are two words
word_other : (i j : ℕ) → i ≢ j → word_at i ≢ word_at j
word_other i j ne e = ne (cancel i j e)
  where
    cancel : (i j : ℕ) → word_at i ≡ word_at j → i ≡ j
    cancel i j e = omega (arith, e)

word_below : (i n : ℕ) → i < n → word_at i ≢ word_at n
word_below i n h e = omega (arith, h, e)

zero_not_suc : (a k : ℕ) → a ≡ 0 → ¬ (a ≡ suc k)
zero_not_suc a k z e = omega (arith, z, e)

suc_same : (a b : ℕ) → suc a ≡ suc b → a ≡ b
suc_same a b e = omega (arith, e)

module _ {S Q T : Type 0} where
  pub manned_set : (views : List (View S Q T)) (id : ℕ) (v w : View S Q T) → get_elem? views id ≡ some v → (0 < v.parts → 0 < w.parts) → (j k : ℕ) → (Has j v.held → Has j w.held)
      → Manned views j k → Manned (set views id w) j k
  manned_set views id v w at some_part j k keep m =
      dite (ℕ_discrete k id)
      (λ e.
      let same : m.0 ≡ v = some-injective m.0 v (sym m.1 ∙ ap (λ (z : ℕ). get_elem? views z) e ∙ at) in
      (w, subst (λ (z : ℕ). get_elem? (set views id w) z ≡ some w) (sym e) (set_here views id w (at_below views id v at)), some_part (subst (λ (u : View S Q T). 0 < u.parts) same m.2), keep (subst (λ (u : View S Q T). Has j u.held) same m.3)))
      (λ ne. (m.0, set_else views id k w ne ∙ m.1, m.2, m.3))

module _ {S Q T : Type 0} (effect : Q → T → T) (cells : T → List S) (count : T → ℕ) (may : T → ℕ → Q → Type 0) where
  -- the seat id knows w, and the history is the same
  pub same_log : (all more locks : ℕ) (start : T) (s : State S (View S Q T)) (h : Locked effect cells count may all locks start s) (id : ℕ) (v w : View S Q T) (words : List ℕ) (owner : ℕ → ℕ)
      (state : State S (View S Q T)) → state.words ≡ words → state.views ≡ set s.views id w
      → get_elem? s.views id ≡ some v
      → length words ≡ suc locks * 8 → length state.homes ≡ locks → slice_index words (word_at locks) ≡ slice_index s.words (word_at locks)
      → more + v.parts ≡ all + w.parts → w.start ≡ v.start → Begins w.seen h.log → AllBegin w.also h.log → ((p : ℕ) → times_drawn p w.seen ≡ times_drawn p v.seen) → (w.parts ≡ 0 → v.parts ≡ 0)
      → ((i : ℕ) → i < locks → owner i ≡ 0 → Free effect cells count may words state.homes h.log start i)
      → ((i k : ℕ) → i < locks → owner i ≡ suc k → (slice_index words (word_at i) ≡ 1) × Manned (set s.views id w) i k)
      → ((i : ℕ) (x : S) → In (i, x) w.held → (owner i ≡ suc id) × (get_elem? (cells (after effect start h.log)) i ≡ some x))
      → ((i k : ℕ) → k ≢ id → h.owner i ≡ suc k → owner i ≡ suc k)
      → Locked effect cells count may more locks start state
  same_log all more locks start s h id v w words owner state is_words is_views at wide long seq wp ws wb wa wm wi free taken holds other =
      let mine : Fits effect cells count may h.log start owner id w = record {
        begins = wb;
        also = wa;
        from = λ t q. (h.fits id v at).from t (sym ws ∙ q);
        holds = holds;
        idle = λ z p. wm p ∙ (h.fits id v at).idle (wi z) p;
      } in
      let made : Locked effect cells count may more locks start record { words = words; homes = state.homes; views = set s.views id w } = record {
        log = h.log;
        allowed = h.allowed;
        owner = owner;
        wide = wide;
        long = long;
        sequence = seq ∙ h.sequence;
        free = free;
        taken = taken;
        fits = λ k u e. ⊎_elim
            (λ (t : (k ≡ id) × (w ≡ u)). subst (λ (y : View S Q T). Fits effect cells count may h.log start owner k y) t.1 (subst (λ (n : ℕ). Fits effect cells count may h.log start owner n w) (sym t.0) mine))
            (λ (t : (k ≢ id) × (get_elem? s.views k ≡ some u)). let f = h.fits k u t.1 in record {
              begins = f.begins;
              also = f.also;
              from = f.from;
              holds = λ j x m. (other j k t.0 (f.holds j x m).0, (f.holds j x m).1);
              idle = f.idle;
            })
            (at_set s.views id k w u e);
        once = λ p. let e = total_set (marks p) s.views id v w at in let o = h.once p in let m = wm p in omega (arith, e, o, m);
        whole = let e = total_set parts_of s.views id v w at in let o = h.whole in omega (arith, e, o, wp);
      } in
      subst (λ (vs : List (View S Q T)). Locked effect cells count may more locks start record { words = state.words; homes = state.homes; views = vs }) (sym is_views)
      (subst (λ (ws : List ℕ). Locked effect cells count may more locks start record { words = ws; homes = state.homes; views = set s.views id w }) (sym is_words) made)

  -- an exchange that found another content: only the seat's refusals change
  pub fails : (all locks : ℕ) (start : T) (s : State S (View S Q T)) → Locked effect cells count may all locks start s → (id i lock found : ℕ) (me : Me S (View S Q T)) → get_elem? s.views id ≡ some me.0
      → Locked effect cells count may all locks start (stepped s i (slice_index s.words i) id me.1 (refused lock found me).0 keeps)
  fails all locks start s h id i lock found me at =
      let v = me.0 in
      let w : View S Q T = (refused lock found me).0 in
      same_log all all locks start s h id v w s.words h.owner (stepped s i (slice_index s.words i) id me.1 w keeps) (set-get_or s.words i 0) refl at h.wide h.long refl refl refl
      (h.fits id v at).begins (h.fits id v at).also (λ p. refl) (λ z. z) h.free
      (λ j k lt e. let g = h.taken j k lt e in (g.0, manned_set s.views id v w at (λ q. q) j k (λ z. z) g.1))
      (h.fits id v at).holds (λ j k ne e. e)

  -- where a seat has every part, the history is what it has seen, all its own
  pub settled : (all locks : ℕ) (start : T) (s : State S (View S Q T)) (h : Locked effect cells count may all locks start s) (id : ℕ) (v : View S Q T) → get_elem? s.views id ≡ some v → v.parts ≡ all
      → (calls v.seen ≡ h.log) × (v.seen ≡ owns (calls v.seen))
  settled all locks start s h id v at whole =
      all_owned v.seen h.log (h.fits id v at).begins (λ p. sym (all_of parts_of (marks p) s.views id v (λ i u a z. (h.fits i u a).idle z p) at (h.whole ∙ sym whole)) ∙ h.once p)

  -- and no other seat holds a lock
  pub none_taken : (all locks : ℕ) (start : T) (s : State S (View S Q T)) (h : Locked effect cells count may all locks start s) (id i : ℕ) (v : View S Q T) → get_elem? s.views id ≡ some v → i < locks → v.parts ≡ all → v.held ≡ []
      → slice_index s.words (word_at i) ≡ 0
  none_taken all locks start s h id i v at near whole empty = go (h.owner i) refl
    where
      go : (o : ℕ) → h.owner i ≡ o → slice_index s.words (word_at i) ≡ 0
      go zero e = (h.free i near e).word
      go (suc k) e =
          let m : Manned s.views i k = (h.taken i k near e).1 in
          dite (ℕ_discrete k id)
          (λ same. let is : m.0 ≡ v = some-injective m.0 v (sym m.1 ∙ ap (λ (z : ℕ). get_elem? s.views z) same ∙ at) in
          let has : Has i [] = subst (λ (l : List (ℕ × S)). Has i l) (ap (λ (u : View S Q T). u.held) is ∙ empty) m.3 in absurd has.1)
          (λ ne. let two = two_of parts_of s.views k id m.0 v m.1 at ne in let w = h.whole in let p = m.2 in absurd (omega (arith, two, w, p, whole)))

  pub takes_lock : (all locks : ℕ) (start : T) (slots id i : ℕ) (me : Me S (View S Q T)) (place : S → List (ℕ × S) → List (ℕ × S)) → i < locks → 0 < me.0.parts → Places i me.0.held place
      → Allows (Locked effect cells count may all locks start) slots id me (word_at i) (λ n. either (eqb n 0) 1 n) (Takes effect cells count may all i place me)
  takes_lock all locks start slots id i me place near some_part pl s h _ at _ = go (eqb (slice_index s.words (word_at i)) 0) refl
    where
      r : ℕ
      r = slice_index s.words (word_at i)

      v : View S Q T
      v = me.0

      alone : (b : Bool) → v.parts ≡ all → v.held ≡ [] → r ≡ 0
      alone b whole empty = none_taken all locks start s h id i v at near whole empty

      apart : (j k : ℕ) → h.owner i ≡ 0 → h.owner j ≡ suc k → j ≢ i
      apart j k z e same = zero_not_suc (h.owner i) k z (ap h.owner (sym same) ∙ e)

      took : r ≡ 0 → h.owner i ≡ 0 → (w : View S Q T) × (a : Act S) × Valid s.homes me.1 a × Locked effect cells count may all locks start (stepped s (word_at i) 1 id me.1 w a) × TakesBy effect cells count may all i place me true r (w, carried_after me.1 a)
      took free_word own =
          let f = h.free i near own in
          let w : View S Q T = knows v.parts v.start v.seen (place f.value v.held) v.refusals v.also in
          let owner : ℕ → ℕ = λ j. cond (eqb j i) (suc id) (h.owner j) in (
            w,
            takes i f.value,
            f.home,
            same_log all all locks start s h id v w (set s.words (word_at i) 1) owner (stepped s (word_at i) 1 id me.1 w (takes i f.value)) refl refl at (length-set s.words (word_at i) 1 ∙ h.wide) (length-set s.homes i none ∙ h.long)
                (get_or-set_other s.words (word_at i) (word_at locks) 1 0 (λ e. word_below i locks near (sym e))) refl refl (h.fits id v at).begins (h.fits id v at).also (λ p. refl) (λ z. z)
                (λ j lt e. dite (ℕ_discrete j i) (λ same. absurd (zero_not_suc (owner j) id e (same_eqb j i (suc id) (h.owner j) same)))
                (λ ne. let g = h.free j lt (sym (else_eqb j i (suc id) (h.owner j) ne) ∙ e) in record { word = get_or-set_other s.words (word_at i) (word_at j) 1 0 (word_other j i ne) ∙ g.word; value = g.value; home = set_else s.homes i j none ne ∙ g.home; fresh = g.fresh }))
                (λ j k lt e. dite (ℕ_discrete j i)
                (λ same. let is : id ≡ k = suc_same id k (sym (same_eqb j i (suc id) (h.owner j) same) ∙ e) in (
                  ap (λ (z : ℕ). slice_index (set s.words (word_at i) 1) (word_at z)) same ∙ get_or-set_same s.words (word_at i) 1 0 (let q = h.wide in omega (arith, q, near)),
                  subst (λ (z : ℕ). Manned (set s.views id w) j z) is (w, set_here s.views id w (at_below s.views id v at), some_part, subst (λ (z : ℕ). Has z w.held) (sym same) (pl.has f.value)),
                ))
                (λ ne. let g = h.taken j k lt (sym (else_eqb j i (suc id) (h.owner j) ne) ∙ e) in
                (get_or-set_other s.words (word_at i) (word_at j) 1 0 (word_other j i ne) ∙ g.0, manned_set s.views id v w at (λ q. q) j k (pl.keeps f.value j) g.1)))
                (λ j x m. ⊎_elim
                (λ (t : (j ≡ i) × (x ≡ f.value)). (same_eqb j i (suc id) (h.owner j) t.0, ap (λ (z : ℕ). get_elem? (cells (after effect start h.log)) z) t.0 ∙ f.fresh ∙ ap some (sym t.1)))
                (λ (t : In (j, x) v.held). let g = (h.fits id v at).holds j x t in (else_eqb j i (suc id) (h.owner j) (apart j id own g.0) ∙ g.0, g.1))
                (pl.is f.value j x m))
                (λ j k ne e. else_eqb j i (suc id) (h.owner j) (apart j k own e) ∙ e),
            (λ t is. let same : start ≡ t = sym ((h.fits id v at).from t is) in (
              subst (λ (z : T). TookOne effect cells count may all i place z me (w, (i, f.value) ∷ me.1)) same record {
                value = f.value;
                so_far = h.log;
                allowed = h.allowed;
                begins = (h.fits id v at).begins;
                also = (h.fits id v at).also;
                left = f.fresh;
                now = refl;
                whole = λ q. settled all locks start s h id v at q;
              },
              λ _ _. free_word,
            )),
          )

      by : r ≡ 0 → (o : ℕ) → h.owner i ≡ o → (w : View S Q T) × (a : Act S) × Valid s.homes me.1 a × Locked effect cells count may all locks start (stepped s (word_at i) 1 id me.1 w a) × TakesBy effect cells count may all i place me true r (w, carried_after me.1 a)
      by free_word zero e = took free_word e
      by free_word (suc k) e = let t = (h.taken i k near e).0 in absurd (omega (arith, t, free_word))

      go : (b : Bool) → eqb r 0 ≡ b → (w : View S Q T) × (a : Act S) × Valid s.homes me.1 a × Locked effect cells count may all locks start (stepped s (word_at i) (either b 1 r) id me.1 w a) × TakesBy effect cells count may all i place me b r (w, carried_after me.1 a)
      go true e = by (eqb-true r 0 e) (h.owner i) refl
      go false e = ((refused i r me).0, keeps, tt, fails all locks start s h id (word_at i) i r me at, λ t is. ((found_one e (h.owner i) refl, refl), alone false))
        where
          found_one : eqb r 0 ≡ false → (o : ℕ) → h.owner i ≡ o → r ≡ 1
          found_one e zero own = absurd (true≢false (sym (eq-eqb r 0 (h.free i near own).word) ∙ e))
          found_one e (suc k) own = (h.taken i k near own).0

  pub gives_lock : (all locks : ℕ) (start : T) (slots id i : ℕ) (v : View S Q T) (c c' : List (ℕ × S)) (x : S) (left : List (ℕ × S)) (then : Me S (View S Q T) → Type 0) → i < locks → 0 < v.parts
      → c ≡ (i, x) ∷ c' → In (i, x) v.held → Without i v.held left → then (knows v.parts v.start v.seen left v.refusals v.also, c')
      → Allows (Locked effect cells count may all locks start) slots id (v, c) (word_at i) (λ _. 0) (λ _ n. then n)
  gives_lock all locks start slots id i v c c' x left then near some_part carried has out told s h _ at _ =
      let w : View S Q T = knows v.parts v.start v.seen left v.refusals v.also in
      let owner : ℕ → ℕ = λ j. cond (eqb j i) 0 (h.owner j) in
      let homes : put_back s.homes c ≡ set s.homes i (some x) = ap (λ (l : List (ℕ × S)). put_back s.homes l) carried in
      let is = (h.fits id v at).holds i x has in
      let was : (j k : ℕ) → owner j ≡ suc k → (j ≢ i) × (h.owner j ≡ suc k) = λ j k e. dite (ℕ_discrete j i) (λ same. absurd (zero_not_suc (owner j) k (same_eqb j i 0 (h.owner j) same) e)) (λ ne. (ne, sym (else_eqb j i 0 (h.owner j) ne) ∙ e)) in (
        w,
        gives,
        tt,
        same_log all all locks start s h id v w (set s.words (word_at i) 0) owner (stepped s (word_at i) 0 id c w gives) refl refl at (length-set s.words (word_at i) 0 ∙ h.wide) (ap (λ (l : List _). length l) homes ∙ length-set s.homes i (some x) ∙ h.long)
            (get_or-set_other s.words (word_at i) (word_at locks) 0 0 (λ e. word_below i locks near (sym e))) refl refl (h.fits id v at).begins (h.fits id v at).also (λ p. refl) (λ z. z)
            (λ j lt e. subst (λ (hs : List _). Free effect cells count may (set s.words (word_at i) 0) hs h.log start j) (sym homes) (dite (ℕ_discrete j i)
            (λ same. record {
              word = ap (λ (z : ℕ). slice_index (set s.words (word_at i) 0) (word_at z)) same ∙ get_or-set_same s.words (word_at i) 0 0 (let q = h.wide in omega (arith, q, near));
              value = x;
              home = ap (λ (z : ℕ). get_elem? (set s.homes i (some x)) z) same ∙ set_here s.homes i (some x) (let q = h.long in omega (arith, q, near));
              fresh = ap (λ (z : ℕ). get_elem? (cells (after effect start h.log)) z) same ∙ is.1;
            })
            (λ ne. let g = h.free j lt (sym (else_eqb j i 0 (h.owner j) ne) ∙ e) in record { word = get_or-set_other s.words (word_at i) (word_at j) 0 0 (word_other j i ne) ∙ g.word; value = g.value; home = set_else s.homes i j (some x) ne ∙ g.home; fresh = g.fresh })))
            (λ j k lt e. let o = was j k e in let g = h.taken j k lt o.1 in
            (get_or-set_other s.words (word_at i) (word_at j) 0 0 (word_other j i o.0) ∙ g.0, manned_set s.views id v w at (λ q. q) j k (λ z. out.keeps j z o.0) g.1))
            (λ j y m. let o = out.is j y m in let g = (h.fits id v at).holds j y o.0 in (else_eqb j i 0 (h.owner j) o.1 ∙ g.0, g.1))
            (λ j k ne e. else_eqb j i 0 (h.owner j) (λ same. ne (suc_same k id (sym e ∙ ap h.owner same ∙ is.0))) ∙ e),
        subst (λ (l : List (ℕ × S)). then (w, carried_after l gives)) (sym carried) told,
      )

  pub looks : (all locks : ℕ) (start : T) (slots id : ℕ) (me : Me S (View S Q T)) → 0 < me.0.parts
      → Allows (Locked effect cells count may all locks start) slots id me (word_at locks) (λ n. n) (Looks effect cells count may all me)
  looks all locks start slots id me some_part s h _ at _ =
      let v = me.0 in
      let b : List Q = drop (length v.seen) h.log in
      let w : View S Q T = knows v.parts v.start (v.seen ++ others b) v.held v.refusals v.also in
      let r = slice_index s.words (word_at locks) in (
        w,
        keeps,
        tt,
        same_log all all locks start s h id v w s.words h.owner (stepped s (word_at locks) r id me.1 w keeps) (set-get_or s.words (word_at locks) 0) refl at h.wide h.long refl refl refl
            (begins_look v.seen h.log (h.fits id v at).begins) (h.fits id v at).also (λ p. mark_more p v.seen b) (λ z. z) h.free
            (λ j k lt e. let g = h.taken j k lt e in (g.0, manned_set s.views id v w at (λ q. q) j k (λ z. z) g.1))
            (h.fits id v at).holds (λ j k ne e. e),
        λ t is. let same : start ≡ t = sym ((h.fits id v at).from t is) in (subst (λ (z : T). Looked effect cells count may all z me r (w, me.1)) same record {
          between = b;
          so_far = h.log;
          allowed = h.allowed;
          splits = begins_split v.seen h.log (h.fits id v at).begins;
          also = (h.fits id v at).also;
          number = h.sequence;
          now = refl;
          whole = λ q. settled all locks start s h id v at q;
        }),
      )

  pub draws_call : (all locks : ℕ) (start : T) (slots id old new : ℕ) (q : Q) (left : List (ℕ × S)) (me : Me S (View S Q T)) → 0 < me.0.parts → ((qs : List Q) → old ≡ length qs * 2097152 + count (after effect start qs) → may start (length qs) q) → Touches effect cells count start q me.0.held left old new
      → Allows (Locked effect cells count may all locks start) slots id me (word_at locks) (λ n. either (eqb n old) new n) (Draws effect cells count may all locks q left old me)
  draws_call all locks start slots id old new q left me some_part fit tch s h _ at _ = go (eqb (slice_index s.words (word_at locks)) old) refl
    where
      r : ℕ
      r = slice_index s.words (word_at locks)

      v : View S Q T
      v = me.0

      b : List Q
      b = drop (length v.seen) h.log

      log : List Q
      log = h.log ++ q ∷ []

      t : T
      t = after effect start h.log

      w : View S Q T
      w = knows v.parts v.start (v.seen ++ (others b ++ (1, q) ∷ [])) left v.refusals v.also

      split : h.log ≡ calls v.seen ++ b
      split = begins_split v.seen h.log (h.fits id v at).begins

      longer : length log ≡ suc (length h.log)
      longer = let e = length-append h.log (q ∷ []) in omega (arith, e)

      then_is : after effect start log ≡ effect q t
      then_is = after_snoc effect start h.log q

      cell_is : (j : ℕ) → get_elem? (cells (after effect start log)) j ≡ get_elem? (cells (effect q t)) j
      cell_is j = ap (λ (z : T). get_elem? (cells z) j) then_is

      mine : (j : ℕ) → Has j v.held → h.owner j ≡ suc id
      mine j m = ((h.fits id v at).holds j m.0 m.1).0

      once_now : (p : ℕ) → total (marks p) (set s.views id w) ≡ below p (length log)
      once_now p =
          let e = total_set (marks p) s.views id v w at in let o = h.once p in
          let m : times_drawn p w.seen ≡ times_drawn p v.seen + here p (length h.log) = mark_draw p v.seen b q ∙ ap (λ (l : List Q). times_drawn p v.seen + here p (length l)) (sym split) in
          let g : below p (length log) ≡ below p (length h.log) + here p (length h.log) = ap (λ (n : ℕ). below p n) longer ∙ below_suc p (length h.log) in
          omega (arith, e, o, m, g)

      drew : r ≡ old → may start (length h.log) q → Touched effect cells count q v.held left t → new ≡ suc (length h.log) * 2097152 + count (effect q t)
          → (u : View S Q T) × (a : Act S) × Valid s.homes me.1 a × Locked effect cells count may all locks start (stepped s (word_at locks) new id me.1 u a) × DrawsBy effect cells count may all locks q left old me true r (u, carried_after me.1 a)
      drew same fits_here touched number = (
        w,
        keeps,
        tt,
        record {
          log = log;
          allowed = each_all (may start) h.log q h.allowed fits_here;
          owner = h.owner;
          wide = length-set s.words (word_at locks) new ∙ h.wide;
          long = h.long;
          sequence = get_or-set_same s.words (word_at locks) new 0 (let e = h.wide in omega (arith, e)) ∙ number ∙ (λ k. sym longer k * 2097152 + count (sym then_is k));
          free = λ j lt e. let g = h.free j lt e in record {
            word = get_or-set_other s.words (word_at locks) (word_at j) new 0 (word_below j locks lt) ∙ g.word;
            value = g.value;
            home = g.home;
            fresh = cell_is j ∙ touched.else_same j (λ m. zero_not_suc (h.owner j) id e (mine j m)) ∙ g.fresh;
          };
          taken = λ j k lt e. let g = h.taken j k lt e in (get_or-set_other s.words (word_at locks) (word_at j) new 0 (word_below j locks lt) ∙ g.0, manned_set s.views id v w at (λ z. z) j k (touched.keeps_all j) g.1);
          fits = λ k u e. ⊎_elim
              (λ (z : (k ≡ id) × (w ≡ u)). subst (λ (y : View S Q T). Fits effect cells count may log start h.owner k y) z.1 (subst (λ (n : ℕ). Fits effect cells count may log start h.owner n w) (sym z.0) record {
                begins = begins_draw v.seen h.log q (h.fits id v at).begins;
                also = all_more v.also h.log q (h.fits id v at).also;
                from = (h.fits id v at).from;
                holds = λ j x m. let g = touched.value j x m in (mine j g.1, cell_is j ∙ g.0);
                idle = λ none_left p. absurd (omega (arith, none_left, some_part));
              }))
              (λ (z : (k ≢ id) × (get_elem? s.views k ≡ some u)). let f = h.fits k u z.1 in record {
                begins = begins_more u.seen h.log q f.begins;
                also = all_more u.also h.log q f.also;
                from = f.from;
                holds = λ j x m. let g = f.holds j x m in (g.0, cell_is j ∙ touched.else_same j (λ o. z.0 (suc_same k id (sym g.0 ∙ mine j o))) ∙ g.1);
                idle = f.idle;
              })
              (at_set s.views id k w u e);
          once = once_now;
          whole = let e = total_set parts_of s.views id v w at in let o = h.whole in omega (arith, e, o);
        },
        λ z is. let at_start : start ≡ z = sym ((h.fits id v at).from z is) in subst (λ (y : T). DrewOne effect cells count may all q left old y me (w, me.1)) at_start record {
          between = b;
          so_far = h.log;
          allowed = h.allowed;
          splits = split;
          also = (h.fits id v at).also;
          number = sym same ∙ h.sequence;
          held = λ i x m. ((h.fits id v at).holds i x m).1;
          now = refl;
          once = λ p. let e = part_of (marks p) (set s.views id w) id w (set_here s.views id w (at_below s.views id v at)) in let o = once_now p in let b = below_one p (length log) in omega (arith, e, o, b);
          whole = λ all_parts. let e = settled all locks start s h id v at all_parts in (e.0, e.1, drop_all v.seen h.log e.0);
        },
      )

      go : (b : Bool) → eqb r old ≡ b → (u : View S Q T) × (a : Act S) × Valid s.homes me.1 a × Locked effect cells count may all locks start (stepped s (word_at locks) (either b new r) id me.1 u a) × DrawsBy effect cells count may all locks q left old me b r (u, carried_after me.1 a)
      go true e =
          let same = eqb-true r old e in
          let g = tch h.log (sym same ∙ h.sequence) (λ i x m. ((h.fits id v at).holds i x m).1) in drew same (fit h.log (sym same ∙ h.sequence)) g.0 g.1
      go false e = ((refused locks r me).0, keeps, tt, fails all locks start s h id (word_at locks) locks r me at, λ z is. refl)

  pub splits_seat : (all locks : ℕ) (start : T) (id k : ℕ) (v : View S Q T) → k ≤ v.parts → (0 < v.parts → k < v.parts)
      → Splits (Locked effect cells count may all locks start) id v (knows (v.parts - k) v.start v.seen v.held v.refusals v.also) (knows k v.start (others (calls v.seen)) [] [] v.also)
  splits_seat all locks start id k v few some_left s h at =
      let l : View S Q T = knows (v.parts - k) v.start v.seen v.held v.refusals v.also in
      let r : View S Q T = knows k v.start (others (calls v.seen)) [] [] v.also in
      let keeps_part : 0 < v.parts → 0 < l.parts = λ p. let lt = some_left p in omega (arith, lt) in
      let g : Locked effect cells count may (all - k) locks start record { words = s.words; homes = s.homes; views = set s.views id l } =
      same_log all (all - k) locks start s h id v l s.words h.owner record { words = s.words; homes = s.homes; views = set s.views id l } refl refl at h.wide h.long refl
      (let p = part_of parts_of s.views id v at in let w = h.whole in omega (arith, few, p, w)) refl (h.fits id v at).begins (h.fits id v at).also (λ p. refl)
      (λ z. dite (ℕ_discrete v.parts 0) (λ e. e) (λ ne. let lt = some_left (omega (arith, ne)) in absurd (omega (arith, z, lt)))) h.free
      (λ j n lt e. let t = h.taken j n lt e in (t.0, manned_set s.views id v l at keeps_part j n (λ z. z) t.1))
      (h.fits id v at).holds (λ j n ne e. e) in
      record {
        log = g.log;
        allowed = g.allowed;
        owner = g.owner;
        wide = g.wide;
        long = g.long;
        sequence = g.sequence;
        free = g.free;
        taken = λ j n lt e. let t = g.taken j n lt e in (t.0, (t.1.0, at_longer (set s.views id l) (r ∷ []) n t.1.0 t.1.1, t.1.2, t.1.3));
        fits = λ n u e. ⊎_elim (λ (t : get_elem? (set s.views id l) n ≡ some u). g.fits n u t)
            (λ (t : (n ≡ length (set s.views id l)) × (r ≡ u)). subst (λ (y : View S Q T). Fits effect cells count may g.log start g.owner n y) t.1 record {
              begins = begins_others v.seen g.log (g.fits id l (set_here s.views id l (at_below s.views id v at))).begins;
              also = (g.fits id l (set_here s.views id l (at_below s.views id v at))).also;
              from = (h.fits id v at).from;
              holds = λ j x m. absurd m;
              idle = λ z p. mark_others p (calls v.seen);
            })
            (at_snoc (set s.views id l) r u n e);
        once = λ p. let e = total_snoc (marks p) (set s.views id l) r in let o = g.once p in let m = mark_others p (calls v.seen) in omega (arith, e, o, m);
        whole = let e = total_snoc parts_of (set s.views id l) r in let o = g.whole in let p = part_of parts_of s.views id v at in let w = h.whole in omega (arith, e, o, few, p, w);
      }

  pub joins_seats : (all locks : ℕ) (start : T) (id : ℕ) (v : View S Q T) (other : ℕ) (w : View S Q T) → w.held ≡ []
      → Joins (Locked effect cells count may all locks start) id v other w (knows (v.parts + w.parts) v.start (merged v.seen w.seen) v.held (v.refusals ++ w.refusals) (v.also ++ (w.also ++ calls w.seen ∷ []))) nobody
  joins_seats all locks start id v other w empty s h at two at' =
      let both : View S Q T = knows (v.parts + w.parts) v.start (merged v.seen w.seen) v.held (v.refusals ++ w.refusals) (v.also ++ (w.also ++ calls w.seen ∷ [])) in
      let vs = set s.views id both in let end = set vs other nobody in
      let was : get_elem? s.views other ≡ some w = ⊎_elim (λ (t : (other ≡ id) × (both ≡ w)). absurd (two t.0)) (λ (t : (other ≢ id) × (get_elem? s.views other ≡ some w)). t.1) (at_set s.views id other both w at') in
      let mark : (p : ℕ) → times_drawn p both.seen ≡ times_drawn p v.seen + times_drawn p w.seen = λ p. mark_merged p v.seen w.seen in
      record {
        log = h.log;
        allowed = h.allowed;
        owner = h.owner;
        wide = h.wide;
        long = h.long;
        sequence = h.sequence;
        free = h.free;
        taken = λ j k lt e. let t = h.taken j k lt e in (
          t.0,
          (
              let m = manned_set s.views id v both at (λ z. omega (arith, z)) j k (λ z. z) t.1 in
              let ne : k ≢ other = λ q.
              let is : m.0 ≡ w = some-injective m.0 w (sym m.1 ∙ ap (λ (z : ℕ). get_elem? vs z) q ∙ at') in
              let none_there : Has j [] = subst (λ (y : List (ℕ × S)). Has j y) (ap (λ (u : View S Q T). u.held) is ∙ empty) m.3 in none_there.1 in
              (m.0, set_else vs other k nobody ne ∙ m.1, m.2, m.3)),
        );
        fits = λ k u e. ⊎_elim
            (λ (t : (k ≡ other) × (nobody ≡ u)). subst (λ (y : View S Q T). Fits effect cells count may h.log start h.owner k y) t.1 record {
              begins = tt;
              also = tt;
              from = λ z is. absurd (none_is_some z is);
              holds = λ j x m. absurd m;
              idle = λ z p. refl;
            })
            (λ (t : (k ≢ other) × (get_elem? vs k ≡ some u)). ⊎_elim
            (λ (o : (k ≡ id) × (both ≡ u)). subst (λ (y : View S Q T). Fits effect cells count may h.log start h.owner k y) o.1 (subst (λ (n : ℕ). Fits effect cells count may h.log start h.owner n both) (sym o.0) record {
              begins = begins_merged v.seen w.seen h.log (h.fits id v at).begins (h.fits other w was).begins;
              also = all_join v.also w.also (calls w.seen) h.log (h.fits id v at).also (h.fits other w was).also (begins_others w.seen h.log (h.fits other w was).begins);
              from = (h.fits id v at).from;
              holds = (h.fits id v at).holds;
              idle = λ z p. let m = mark p in let a = (h.fits id v at).idle (omega (arith, z)) p in let b = (h.fits other w was).idle (omega (arith, z)) p in omega (arith, m, a, b);
            }))
            (λ (o : (k ≢ id) × (get_elem? s.views k ≡ some u)). h.fits k u o.1)
            (at_set s.views id k both u t.1))
            (at_set vs other k nobody u e);
        once = λ p. let a = total_set (marks p) s.views id v both at in let b = total_set (marks p) vs other w nobody at' in let o = h.once p in let m = mark p in omega (arith, a, b, o, m);
        whole = let a = total_set parts_of s.views id v both at in let b = total_set parts_of vs other w nobody at' in let o = h.whole in omega (arith, a, b, o);
      }
    where
      none_is_some : (z : T) → ¬ (None ≡ Some z)
      none_is_some z e = true≢false (sym (ap (λ (o : Option T). is_there o) e))
        where
          is_there : Option T → Bool
          is_there None = false
          is_there (Some y) = true

  pub opens : (all locks : ℕ) (start : T) (words : List ℕ) → length words ≡ suc locks * 8 → ((i : ℕ) → slice_index words i ≡ 0) → length (cells start) ≡ locks → count start ≡ 0
      → Locked effect cells count may all locks start (opening words (cells start) (knows all (Some start) [] [] [] []))
  opens all locks start words wide zeros long none_yet =
      let v : View S Q T = knows all (Some start) [] [] [] [] in
      record {
        log = [];
        allowed = tt;
        owner = λ _. 0;
        wide = wide;
        long = length-map (cells start) some ∙ long;
        sequence = let z = zeros (word_at locks) in omega (arith, z, none_yet);
        free = λ i lt e. let c = there (cells start) i (omega (arith, lt, long)) in record { word = zeros (word_at i); value = c.0; home = at_map some (cells start) i c.0 c.1; fresh = c.1 };
        taken = λ i k lt e. absurd (zero_not_suc 0 k refl e);
        fits = λ j u e. ⊎_elim (λ (t : get_elem? [] j ≡ some u). absurd (some-ne-none u (sym t)))
            (λ (t : (j ≡ 0) × (v ≡ u)). subst (λ (y : View S Q T). Fits effect cells count may [] start (λ _. 0) j y) t.1 record {
              begins = tt;
              also = tt;
              from = λ z is. ap (λ (o : Option T). unwrap_or o z) (sym is);
              holds = λ i x m. absurd m;
              idle = λ z p. refl;
            })
            (at_snoc [] v u j e);
        once = λ p. refl;
        whole = omega arith;
      }
    where
      there : (l : List S) (i : ℕ) → i < length l → (x : S) × (get_elem? l i ≡ some x)
      there [] i h = absurd (omega (arith, h))
      there (x ∷ xs) zero h = (x, refl)
      there (x ∷ xs) (suc i) h = there xs i (omega (arith, h))
