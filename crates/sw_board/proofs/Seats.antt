-- Dealing seats and taking them in keeps the rule.
use Rattle.std.proofs.Common.{◌≡◌, ◌≢◌, ◌<◌, ◌+◌, ◌-◌, inl, inr, ℕ, Bool, cond, eqb, eq-eqb, ne_eqb, List, [], ◌∷◌, ◌++◌, length, length-append, set, sym, refl, ap, ◌∙◌, subst, ⊎_elim, arith}
use mathlib.Core.Option.{some, some-injective}
use mathlib.Core.Logic.{dite}
use native.Mathlib.Decide.{ℕ_discrete}
use lib.ListN.{get_elem?}
use Rattle.std.proofs.lemmas.List.{length-set}
use Rattle.atomic_table.specs.Table.{Splits, Joins}
use Rattle.atomic_table.proofs.Lists.{at_longer, at_last, set_here, set_else}
use Rattle.sw_base.specs.declared.counter.Counter.{Counter}
use Rattle.sw_board.specs.declared.rule.Log.{Log}
use Rattle.sw_board.specs.declared.rule.View.{View}
use Rattle.sw_board.specs.Rule.{log, dealer, holder, seat, parts, added_in, Has, Fits, Kept}
use Rattle.sw_board.proofs.Moves.{at_below, put, put_here, put_else, in_longer, in_behind, in_append, total_set, total_snoc, each_set, each_snoc}

added_both : (c : Counter) (ks ls : List Log) → added_in c (ks ++ ls) ≡ added_in c ks + added_in c ls
added_both c [] ls = omega arith
added_both c (k ∷ ks) ls = let s = added_both c ks ls in omega (arith, s)

module _ {S : Type 0} where
  pub deals : (actors id n k : ℕ) → 0 < k → Splits {S = S} (Kept actors) id (dealer n k) (dealer (n + 1) (k - 1)) (seat n [])
  deals actors id n k some_left s h at =
      let v : View = dealer n k in
      let u : View = dealer (n + 1) (k - 1) in
      let w : View = seat n [] in
      let f = h.fits id v at in
      let fresh = length s.views in
      let below : id < fresh = at_below s.views id v at in
      let first = f.rest n (omega arith) (omega (arith, some_left)) in
      let owner : ℕ → ℕ = put h.owner n fresh in
      let views : List View = set s.views id u ++ w ∷ [] in
      let size : length (set s.views id u) ≡ fresh = length-set s.views id u in
      record {
        owner = owner;
        steps = h.steps;
        stopped = h.stopped;
        sized = h.sized;
        stop = h.stop;
        idle = h.idle;
        count = h.count;
        maker = h.maker;
        heard = h.heard;
        told = h.told;
        agreed = h.agreed;
        shared = (let a = total_snoc parts (set s.views id u) w in let b = total_set parts s.views id v u at in let e = h.shared in omega (arith, a, b, e, some_left));
        counted = λ c. (let a = total_snoc (λ z. added_in c z.logs) (set s.views id u) w in let b = total_set (λ z. added_in c z.logs) s.views id v u at in let e = h.counted c in omega (arith, a, b, e));
        there = λ b lt. dite (ℕ_discrete n b)
            (λ e. (w, ap (λ j. get_elem? views j) (put_here h.owner n fresh b e) ∙ at_last (set s.views id u) w fresh size, inl (inl (λ i. log (sym e i) ((ap h.steps (sym e) ∙ first.1) i)))))
            (λ ne. let t = h.there b lt in dite (ℕ_discrete (h.owner b) id)
            (λ is. let mine : v ≡ t.0 = some-injective v t.0 (sym at ∙ ap (λ j. get_elem? s.views j) (sym is) ∙ t.1) in (
              u,
              ap (λ j. get_elem? views j) (put_else h.owner n fresh b ne ∙ is) ∙ at_longer (set s.views id u) (w ∷ []) id u (set_here s.views id u below),
              inr (⊎_elim (λ k. absurd k) (λ k. let lo = k.0 in let hi = k.1 in (omega (arith, lo, ne), omega (arith, lo, hi, ne))) (subst (λ (z : View). Has z b (h.steps b)) (sym mine) t.2)),
            ))
            (λ other. (t.0, ap (λ j. get_elem? views j) (put_else h.owner n fresh b ne) ∙ at_longer (set s.views id u) (w ∷ []) (h.owner b) t.0 (set_else s.views id (h.owner b) u other ∙ t.1), t.2)));
        fits = each_snoc (Fits actors owner h.steps) (set s.views id u) w
            (record {
              mine = λ l i. ⊎_elim (λ (e : l ≡ log n []). subst (λ (z : Log). (z.actor < actors) × (owner z.actor ≡ length (set s.views id u)) × (z.steps ≡ h.steps z.actor)) (sym e)
                  ((let m = f.within in omega (arith, m, some_left)), put_here h.owner n fresh n refl ∙ sym size, sym first.1)) (λ q. absurd q) i;
              rest = λ b lo hi. absurd (omega (arith, lo, hi));
              within = omega arith;
            })
            (each_set (Fits actors owner h.steps) s.views id u
            (record {
              mine = λ l i. absurd i;
              rest = λ b lo hi. let r = f.rest b (omega (arith, lo)) (omega (arith, hi, some_left, lo)) in (put_else h.owner n fresh b (λ e. omega (arith, e, lo)) ∙ r.0, r.1);
              within = let m = f.within in omega (arith, m, some_left);
            })
            (λ j z ne e.
            let g = h.fits j z e in
            let apart : (b : ℕ) → h.owner b ≡ j → n ≢ b = λ b o q. ne (sym o ∙ ap h.owner (sym q) ∙ first.0) in
            record {
              mine = λ l i. let m = g.mine l i in (m.0, put_else h.owner n fresh l.actor (apart l.actor m.1) ∙ m.1, m.2);
              rest = λ b lo hi. let r = g.rest b lo hi in (put_else h.owner n fresh b (apart b r.0) ∙ r.0, r.1);
              within = g.within;
            }));
      }

  pub gathers : (actors id other : ℕ) (ls ks : List Log) → Joins {S = S} (Kept actors) id (holder ls) other (holder ks) (holder (ks ++ ls)) (holder [])
  gathers actors id other ls ks s h at ne at_both =
      let v : View = holder ls in
      let w : View = holder ks in
      let u : View = holder (ks ++ ls) in
      let gone : View = holder [] in
      let his : get_elem? s.views other ≡ some w = sym (set_else s.views id other u ne) ∙ at_both in
      let f = h.fits id v at in
      let g = h.fits other w his in
      let owner : ℕ → ℕ = λ b. cond (eqb (h.owner b) other) id (h.owner b) in
      let moved : (b : ℕ) → h.owner b ≡ other → owner b ≡ id = λ b e. ap (λ (t : Bool). cond t id (h.owner b)) (eq-eqb (h.owner b) other e) in
      let stays : (b : ℕ) → h.owner b ≢ other → owner b ≡ h.owner b = λ b e. ap (λ (t : Bool). cond t id (h.owner b)) (ne_eqb (h.owner b) other e) in
      let first : List View = set s.views id u in
      let views : List View = set first other gone in
      let below : id < length s.views = at_below s.views id v at in
      let at_id : get_elem? views id ≡ some u = set_else first other id gone (λ e. ne (sym e)) ∙ set_here s.views id u below in
      record {
        owner = owner;
        steps = h.steps;
        stopped = h.stopped;
        sized = h.sized;
        stop = h.stop;
        idle = h.idle;
        count = h.count;
        maker = h.maker;
        heard = h.heard;
        told = h.told;
        agreed = h.agreed;
        shared = (let a = total_set parts first other w gone at_both in let b = total_set parts s.views id v u at in let l = length-append ks ls in let e = h.shared in omega (arith, a, b, l, e));
        counted = λ c. (let a = total_set (λ z. added_in c z.logs) first other w gone at_both in let b = total_set (λ z. added_in c z.logs) s.views id v u at in let l = added_both c ks ls in let e = h.counted c in omega (arith, a, b, l, e));
        there = λ b lt. let t = h.there b lt in dite (ℕ_discrete (h.owner b) other)
            (λ is. let same : w ≡ t.0 = some-injective w t.0 (sym his ∙ ap (λ j. get_elem? s.views j) (sym is) ∙ t.1) in (
              u,
              ap (λ j. get_elem? views j) (moved b is) ∙ at_id,
              inl (⊎_elim (λ k. in_longer (log b (h.steps b)) ks ls k) (λ k. let lo = k.0 in let hi = k.1 in absurd (omega (arith, lo, hi))) (subst (λ (z : View). Has z b (h.steps b)) (sym same) t.2)),
            ))
            (λ not_his. dite (ℕ_discrete (h.owner b) id)
            (λ is. let same : v ≡ t.0 = some-injective v t.0 (sym at ∙ ap (λ j. get_elem? s.views j) (sym is) ∙ t.1) in (
              u,
              ap (λ j. get_elem? views j) (stays b not_his ∙ is) ∙ at_id,
              inl (⊎_elim (λ k. in_behind (log b (h.steps b)) ks ls k) (λ k. let lo = k.0 in let hi = k.1 in absurd (omega (arith, lo, hi))) (subst (λ (z : View). Has z b (h.steps b)) (sym same) t.2)),
            ))
            (λ else_. (t.0, ap (λ j. get_elem? views j) (stays b not_his) ∙ set_else first other (h.owner b) gone not_his ∙ set_else s.views id (h.owner b) u else_ ∙ t.1, t.2)));
        fits = each_set (Fits actors owner h.steps) first other gone
            (record { mine = λ l i. absurd i; rest = λ b lo hi. absurd (omega (arith, lo, hi)); within = omega arith })
            (λ j z not_other e. each_set (λ (p : ℕ) (y : View). p ≢ other → Fits actors owner h.steps p y) s.views id u
            (λ _. record {
              mine = λ l i. ⊎_elim
                  (λ k. let m = g.mine l k in (m.0, moved l.actor m.1, m.2))
                  (λ k. let m = f.mine l k in (m.0, stays l.actor (λ q. ne (sym q ∙ m.1)) ∙ m.1, m.2))
                  (in_append l ks ls i);
              rest = λ b lo hi. absurd (omega (arith, lo, hi));
              within = omega arith;
            })
            (λ p y not_id at_p not_his.
            let q = h.fits p y at_p in
            record {
              mine = λ l i. let m = q.mine l i in (m.0, stays l.actor (λ o. not_his (sym m.1 ∙ o)) ∙ m.1, m.2);
              rest = λ b lo hi. let r = q.rest b lo hi in (stays b (λ o. not_his (sym r.0 ∙ o)) ∙ r.0, r.1);
              within = q.within;
            })
            j z e not_other);
      }

  -- the same of seats that are known
  pub deals_at : (actors id n k : ℕ) (v : View) → v ≡ dealer n k → 0 < k → Splits {S = S} (Kept actors) id v (dealer (v.next + 1) (v.left - 1)) (seat v.next [])
  deals_at actors id n k v e lt = subst (λ (y : View). Splits {S = S} (Kept actors) id y (dealer (y.next + 1) (y.left - 1)) (seat y.next [])) (sym e) (deals actors id n k lt)

  pub gathers_at : (actors id other : ℕ) (ls ks : List Log) (v w : View) → v ≡ holder ls → w ≡ holder ks → Joins {S = S} (Kept actors) id v other w (holder (w.logs ++ v.logs)) (holder [])
  gathers_at actors id other ls ks v w e d = subst (λ (y : View × View). Joins {S = S} (Kept actors) id y.0 other y.1 (holder (y.1.logs ++ y.0.logs)) (holder [])) (λ i. (sym e i, sym d i)) (gathers actors id other ls ks)
