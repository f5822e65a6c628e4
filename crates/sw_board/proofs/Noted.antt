-- One step of an actor keeps the rule.
use Rattle.std.proofs.Common.{◌≡◌, ◌≢◌, ◌<◌, ◌+◌, ◌⊎◌, inl, ℕ, Bool, true, false, List, [], ◌∷◌, ◌++◌, length, set, sym, refl, ap, ◌∙◌, subst, ⊎_elim, slice_index, arith}
use mathlib.Core.Option.{some, some-injective}
use mathlib.Core.Logic.{dite}
use native.Mathlib.Decide.{ℕ_discrete}
use lib.ListN.{get_elem?}
use Rattle.atomic_table.specs.Table.{State}
use Rattle.atomic_table.proofs.Lists.{set_here, set_else}
use Rattle.sw_base.specs.declared.counter.Counter.{Counter}
use Rattle.sw_port_board.specs.declared.board.BoardStep.{BoardStep}
use Rattle.sw_port_board.specs.declared.board.BoardStep.TheVariants.{Stopped}
use Rattle.sw_port_board.specs.Board.{In, capped, one_if, adds, added, mark_after, is_idle_after, shows_stop, knows_stop, Agrees, AllAgree}
use Rattle.sw_board.specs.declared.rule.Log.{Log}
use Rattle.sw_board.specs.declared.rule.View.{View}
use Rattle.sw_board.specs.Rule.{log, seat, count_word, idle_word, parts, added_in, Told, Has, Fits, Kept}
use Rattle.sw_board.proofs.Moves.{at_below, put, put_here, put_else, in_snoc, in_longer, in_last, total_set, each_set, sum_put}
use Rattle.sw_board.proofs.Logs.{added_snoc, mark_snoc, stop_snoc, agree_snoc, told_more}

-- what the words are after the step x of the actor a, which had made the steps xs
pub record WordsAfter (actors a : ℕ) (xs : List BoardStep) (x : BoardStep) (before after : List ℕ) : Type 0 where
  pub size : length after ≡ length before
  pub own_idle : slice_index after (idle_word a) ≡ one_if (mark_after (is_idle_after xs) x)
  pub own_count : (c : Counter) → slice_index after (count_word c a) ≡ capped (added c xs + adds c x)
  pub idle : (b : ℕ) → b < actors → a ≢ b → slice_index after (idle_word b) ≡ slice_index before (idle_word b)
  pub count : (b : ℕ) → b < actors → a ≢ b → (c : Counter) → slice_index after (count_word c b) ≡ slice_index before (count_word c b)

-- and the stop word
pub record StopAfter (x : BoardStep) (was is : Bool) (after : List ℕ) : Type 0 where
  pub word : slice_index after 0 ≡ one_if is
  pub stays : was ≡ true → is ≡ true
  pub cause : is ≡ true → (was ≡ true) ⊎ (x ≡ Stopped)
  pub shown : shows_stop x ≡ true → is ≡ true

module _ {S : Type 0} where
  pub noted : (actors id a : ℕ) (s : State S View) (xs : List BoardStep) (x : BoardStep) (words : List ℕ) (is : Bool) (h : Kept actors s) → get_elem? s.views id ≡ some (seat a xs)
      → WordsAfter actors a xs x s.words words → StopAfter x h.stopped is words
      → Told actors (put h.steps a (xs ++ x ∷ [])) x → Agrees a xs x
      → Kept actors record { words = words; homes = s.homes; views = set s.views id (seat a (xs ++ x ∷ [])) }
  noted actors id a s xs x words is h at w stop told agrees =
      let ys : List BoardStep = xs ++ x ∷ [] in
      let v : View = seat a xs in
      let u : View = seat a ys in
      let own = (h.fits id v at).mine (log a xs) (inl refl) in
      let now : xs ≡ h.steps a = own.2 in
      let steps : ℕ → List BoardStep = put h.steps a ys in
      let here : (b : ℕ) → a ≡ b → steps b ≡ ys = λ b e. put_here h.steps a ys b e in
      let else_ : (b : ℕ) → a ≢ b → steps b ≡ h.steps b = λ b ne. put_else h.steps a ys b ne in
      let below : id < length s.views = at_below s.views id v at in
      record {
        owner = h.owner;
        steps = steps;
        stopped = is;
        sized = w.size ∙ h.sized;
        stop = stop.word;
        idle = λ b lt. dite (ℕ_discrete a b)
            (λ e. ap (λ k. slice_index words (idle_word k)) (sym e) ∙ w.own_idle ∙ sym (ap one_if (mark_snoc false xs x)) ∙ sym (ap (λ (l : List BoardStep). one_if (is_idle_after l)) (here b e)))
            (λ ne. w.idle b lt ne ∙ h.idle b lt ∙ sym (ap (λ (l : List BoardStep). one_if (is_idle_after l)) (else_ b ne)));
        count = λ b lt c. dite (ℕ_discrete a b)
            (λ e. ap (λ k. slice_index words (count_word c k)) (sym e) ∙ w.own_count c ∙ sym (ap capped (added_snoc c xs x)) ∙ sym (ap (λ (l : List BoardStep). capped (added c l)) (here b e)))
            (λ ne. w.count b lt ne c ∙ h.count b lt c ∙ sym (ap (λ (l : List BoardStep). capped (added c l)) (else_ b ne)));
        maker = λ t. ⊎_elim
            (λ was. let m = h.maker was in (
              m.0,
              m.1,
              dite (ℕ_discrete a m.0)
                  (λ e. subst (λ (l : List BoardStep). In Stopped l) (sym (here m.0 e)) (in_longer Stopped xs (x ∷ []) (subst (λ (l : List BoardStep). In Stopped l) (ap h.steps (sym e) ∙ sym now) m.2)))
                  (λ ne. subst (λ (l : List BoardStep). In Stopped l) (sym (else_ m.0 ne)) m.2),
            ))
            (λ (e : x ≡ Stopped). (a, own.0, subst (λ (l : List BoardStep). In Stopped l) (sym (here a refl)) (subst (λ (y : BoardStep). In y ys) e (in_last x xs))))
            (stop.cause t);
        heard = λ b lt t. dite (ℕ_discrete a b)
            (λ e. ⊎_elim (λ k. stop.stays (h.heard a own.0 (subst (λ (l : List BoardStep). knows_stop l ≡ true) now k))) (λ k. stop.shown k) (stop_snoc xs x (subst (λ (l : List BoardStep). knows_stop l ≡ true) (here b e) t)))
            (λ ne. stop.stays (h.heard b lt (subst (λ (l : List BoardStep). knows_stop l ≡ true) (else_ b ne) t)));
        told = λ b lt y i. dite (ℕ_discrete a b)
            (λ e. ⊎_elim (λ k. told_more actors a h.steps xs x y now (h.told a own.0 y (subst (λ (l : List BoardStep). In y l) now k)))
            (λ (k : y ≡ x). subst (λ (z : BoardStep). Told actors steps z) (sym k) told)
            (in_snoc y x xs (subst (λ (l : List BoardStep). In y l) (here b e) i)))
            (λ ne. told_more actors a h.steps xs x y now (h.told b lt y (subst (λ (l : List BoardStep). In y l) (else_ b ne) i)));
        agreed = λ b lt. dite (ℕ_discrete a b)
            (λ e. subst (λ (p : ℕ × List BoardStep). AllAgree p.0 [] p.1) (λ i. (e i, sym (here b e) i))
            (agree_snoc a [] xs x (subst (λ (l : List BoardStep). AllAgree a [] l) (sym now) (h.agreed a own.0)) agrees))
            (λ ne. subst (λ (l : List BoardStep). AllAgree b [] l) (sym (else_ b ne)) (h.agreed b lt));
        shared = (let t = total_set parts s.views id v u at in let e = h.shared in omega (arith, t, e));
        counted = λ c.
            let t = total_set (λ z. added_in c z.logs) s.views id v u at in
            let e = h.counted c in
            let g = added_snoc c xs x in
            let p = sum_put (λ b. added c (h.steps b)) (λ b. added c (steps b)) actors a own.0 (λ k ne. ap (added c) (else_ k (λ q. ne (sym q)))) in
            let q : added c (steps a) ≡ added c ys = ap (added c) (here a refl) in
            let r : added c (h.steps a) ≡ added c xs = ap (added c) (sym now) in
            omega (arith, t, e, g, p, q, r);
        there = λ b lt. dite (ℕ_discrete a b)
            (λ e. (u, ap (λ k. get_elem? (set s.views id u) k) (ap h.owner (sym e) ∙ own.1) ∙ set_here s.views id u below, inl (inl (λ i. log (sym e i) (here b e i)))))
            (λ ne. let t = h.there b lt in (
              t.0,
              set_else s.views id (h.owner b) u (λ q. ne (is_it a b xs (h.steps b) t.0 (some-injective (seat a xs) t.0 (sym at ∙ ap (λ k. get_elem? s.views k) (sym q) ∙ t.1)) t.2)) ∙ t.1,
              subst (λ (l : List BoardStep). Has t.0 b l) (sym (else_ b ne)) t.2,
            ));
        fits = each_set (Fits actors h.owner steps) s.views id u
            (record {
              mine = λ l i. ⊎_elim (λ (e : l ≡ log a ys). subst (λ (k : Log). (k.actor < actors) × (h.owner k.actor ≡ id) × (k.steps ≡ steps k.actor)) (sym e) (own.0, own.1, sym (here a refl))) (λ k. absurd k) i;
              rest = λ b lo hi. absurd (omega (arith, lo, hi));
              within = omega arith;
            })
            (λ j z ne e.
            let f = h.fits j z e in
            let apart : (b : ℕ) → h.owner b ≡ j → a ≢ b = λ b o q. ne (sym o ∙ ap h.owner (sym q) ∙ own.1) in
            record {
              mine = λ l i. let m = f.mine l i in (m.0, m.1, m.2 ∙ sym (else_ l.actor (apart l.actor m.1)));
              rest = λ b lo hi. let r = f.rest b lo hi in (r.0, else_ b (apart b r.0) ∙ r.1);
              within = f.within;
            });
      }
    where
      -- one actor's seat stands for no other
      is_it : (a b : ℕ) (xs zs : List BoardStep) (v : View) → seat a xs ≡ v → Has v b zs → a ≡ b
      is_it a b xs zs v e h = ⊎_elim
          (λ (k : In (log b zs) v.logs). ⊎_elim (λ (t : log b zs ≡ log a xs). sym (ap (λ (l : Log). l.actor) t)) (λ k. absurd k) (subst (λ (l : List Log). In (log b zs) l) (sym (ap (λ (w : View). w.logs) e)) k))
          (λ k. let n : 0 ≡ v.next = ap (λ (w : View). w.next) e in let m : 0 ≡ v.left = ap (λ (w : View). w.left) e in let lo = k.0 in let hi = k.1 in absurd (omega (arith, n, m, lo, hi)))
          h
