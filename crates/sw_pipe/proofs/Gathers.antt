-- What the closing taker knows as it takes in the senders, one by one, and which number is missing where they are too few.
use Rattle.std.proofs.Common.{◌≡◌, ◌≢◌, ◌<◌, ◌≤◌, ◌+◌, ◌-◌, ◌||◌, ◌⊎◌, ℕ, zero, suc, Bool, true, false, true≢false, List, [], ◌∷◌, length, map, max, inl, inr, sym, refl, ap, ◌∙◌, subst, arith, ⊎_elim, cond, eqb, eq-eqb, ne_eqb}
use mathlib.Core.Logic.{dite}
use native.Mathlib.Decide.{ℕ_discrete}
use Rattle.crossbeam_queue.specs.Passes.{Pass, view, IsPassOf}
use Rattle.atomic_table.specs.declared.shared.Seat.{Seat}
use Rattle.sw_pipe.specs.declared.mail.Mail.{Mail}
use Rattle.sw_pipe.specs.declared.rule.View.{View}
use Rattle.sw_pipe.specs.declared.tally.Tally.{Tally}
use Rattle.sw_pipe.specs.declared.shared.Shared.{Shared}
use Rattle.sw_pipe.specs.Rule.{taker}
use Rattle.sw_pipe.specs.Tallies.{tally_at, joined, IsShareOf}
use Rattle.sw_pipe.specs.Counters.{counter_id}
use Rattle.sw_pipe.specs.Places.{pipe_of, learnt_at, put_at, got_at, due_at, IsSender, IsTaker}
use Rattle.sw_pipe.specs.Values.{Pushed, pushed, Took, took, pushed_in, any_full, HasNumber}
use Rattle.sw_pipe.proofs.Ends.{pair}

or_true : (a b : Bool) → (a || b) ≡ true → (a ≡ true) ⊎ (b ≡ true)
or_true true b e = inl refl
or_true false b e = inr e

module _ {M : Type 0} {S : Type 0} where
  -- these senders were taken in
  pub record Gathered (shared : Shared M) (place : Pass (Mail M) (View M)) (share : Seat S Tally) (t : Took M) (ended : List (Pushed M)) : Type 0 where
    pub of_queue : IsPassOf shared.line place
    pub pipe : pipe_of shared ≡ t.pipe
    pub knows : view place ≡ taker t.taken t.pipe.senders (t.pipe.senders - length ended) (map pair ended) t.counts
    pub of_counter : IsShareOf (counter_id shared.counter) share
    pub parts : (tally_at share).parts ≡ length ended
    pub counts : (tally_at share).count ≤ pushed_in ended
    pub filled : any_full ended ≡ true → t.pipe.capacity ≤ (tally_at share).seen

  pub gathers_none : (shared : Shared M) (place : Pass (Mail M) (View M)) (share : Seat S Tally) (t : Took M) → IsTaker shared place share → took (pipe_of shared) (got_at place) (due_at place) ≡ t → Gathered shared place share t []
  gathers_none shared place share t h e = subst (λ (u : Took M). Gathered shared place share u []) e (record {
    of_queue = h.of_queue;
    pipe = refl;
    knows = let all : shared.senders ≡ shared.senders - 0 = omega arith in h.knows ∙ ap (λ (n : ℕ). taker (got_at place) shared.senders n [] (due_at place)) all;
    of_counter = h.of_counter;
    parts = ap (λ (v : Tally). v.parts) h.fresh;
    counts = let c : (tally_at share).count ≡ 0 = ap (λ (v : Tally). v.count) h.fresh in omega (arith, c);
    filled = λ f. absurd (true≢false (sym f));
  })

  pub gathers : (shared sh : Shared M) (place place' pass : Pass (Mail M) (View M)) (share share' part : Seat S Tally) (number counted : ℕ) (full : Bool) (t : Took M) (ended : List (Pushed M)) (s : Pushed M)
      → Gathered shared place share t ended → IsSender sh pass part number counted full → pushed (pipe_of sh) number (learnt_at pass) (put_at pass) full ≡ s → s.pipe ≡ t.pipe
      → IsPassOf shared.line place' → view place' ≡ taker (view place).got (view place).made ((view place).out - 1) (((view pass).from, (view pass).put) ∷ (view place).known) (view place).due
      → IsShareOf (counter_id shared.counter) share' → tally_at share' ≡ joined (tally_at share) (tally_at part) → Gathered shared place' share' t (s ∷ ended)
  gathers shared sh place place' pass share share' part number counted full t ended s h his is same of_queue knows of_counter sum =
      let me : Pushed M = pushed (pipe_of sh) number (learnt_at pass) (put_at pass) full in
      let one_pipe : pipe_of sh ≡ t.pipe = ap (λ (x : Pushed M). x.pipe) is ∙ same in
      let less : (t.pipe.senders - length ended) - 1 ≡ t.pipe.senders - length (me ∷ ended) = omega arith in
      subst (λ (x : Pushed M). Gathered shared place' share' t (x ∷ ended)) is (record {
        of_queue = of_queue;
        pipe = h.pipe;
        knows = knows ∙ ap (λ (v : View M). taker v.got v.made (v.out - 1) (((view pass).from, (view pass).put) ∷ v.known) v.due) h.knows
            ∙ ap (λ (v : View M). taker t.taken t.pipe.senders ((t.pipe.senders - length ended) - 1) ((v.from, (view pass).put) ∷ map pair ended) t.counts) his.knows
            ∙ ap (λ (n : ℕ). taker t.taken t.pipe.senders n (map pair (me ∷ ended)) t.counts) less;
        of_counter = of_counter;
        parts = let p : (tally_at share').parts ≡ (tally_at share).parts + (tally_at part).parts = ap (λ (v : Tally). v.parts) sum in let a = h.parts in let b = his.part in omega (arith, p, a, b);
        counts = let p : (tally_at share').count ≡ (tally_at share).count + (tally_at part).count = ap (λ (v : Tally). v.count) sum in
            let a = h.counts in let b = his.counts in let d = his.so_many in omega (arith, p, a, b, d);
        filled = λ f. let p : (tally_at share').seen ≡ max (tally_at share).seen (tally_at part).seen = ap (λ (v : Tally). v.seen) sum in
            let room : sh.capacity ≡ t.pipe.capacity = ap (λ p. p.capacity) one_pipe in
            ⊎_elim (λ (y : any_full ended ≡ true). let a = h.filled y in omega (arith, p, a)) (λ (y : full ≡ true). let b = his.filled y in omega (arith, p, b, room)) (or_true (any_full ended) full f);
      })

module _ {M : Type 0} where
  -- the senders that have another number
  abbrev others : ℕ → List (Pushed M) → List (Pushed M)
  others n [] = []
  others n (s ∷ ss) = cond (eqb n s.number) (others n ss) (s ∷ others n ss)

  others_here : (n : ℕ) (s : Pushed M) (ss : List (Pushed M)) → n ≡ s.number → others n (s ∷ ss) ≡ others n ss
  others_here n s ss e = ap (λ (b : Bool). cond b (others n ss) (s ∷ others n ss)) (eq-eqb n s.number e)

  others_else : (n : ℕ) (s : Pushed M) (ss : List (Pushed M)) → n ≢ s.number → others n (s ∷ ss) ≡ s ∷ others n ss
  others_else n s ss e = ap (λ (b : Bool). cond b (others n ss) (s ∷ others n ss)) (ne_eqb n s.number e)

  has : (n : ℕ) (ss : List (Pushed M)) → HasNumber n ss ⊎ (HasNumber n ss → ⊥)
  has n [] = inr (λ h. h)
  has n (s ∷ ss) = dite (ℕ_discrete n s.number) (λ e. inl (inl e)) (λ other. ⊎_elim (λ (h : HasNumber n ss). inl (inr h)) (λ (h : HasNumber n ss → ⊥). inr (λ y. ⊎_elim (λ (e : n ≡ s.number). other e) (λ (t : HasNumber n ss). h t) y)) (has n ss))

  no_more : (n : ℕ) (ss : List (Pushed M)) → length (others n ss) ≤ length ss
  no_more n [] = omega arith
  no_more n (s ∷ ss) = let r = no_more n ss in dite (ℕ_discrete n s.number)
      (λ e. let l : length (others n (s ∷ ss)) ≡ length (others n ss) = ap (λ (l : List (Pushed M)). length l) (others_here n s ss e) in omega (arith, l, r))
      (λ e. let l : length (others n (s ∷ ss)) ≡ length (s ∷ others n ss) = ap (λ (l : List (Pushed M)). length l) (others_else n s ss e) in omega (arith, l, r))

  fewer : (n : ℕ) (ss : List (Pushed M)) → HasNumber n ss → length (others n ss) < length ss
  fewer n [] h = absurd h
  fewer n (s ∷ ss) h = dite (ℕ_discrete n s.number)
      (λ e. let l : length (others n (s ∷ ss)) ≡ length (others n ss) = ap (λ (l : List (Pushed M)). length l) (others_here n s ss e) in let r = no_more n ss in omega (arith, l, r))
      (λ e. let l : length (others n (s ∷ ss)) ≡ length (s ∷ others n ss) = ap (λ (l : List (Pushed M)). length l) (others_else n s ss e) in
      let r = fewer n ss (⊎_elim (λ (q : n ≡ s.number). absurd (e q)) (λ (t : HasNumber n ss). t) h) in omega (arith, l, r))

  stays : (n p : ℕ) (ss : List (Pushed M)) → p ≢ n → HasNumber p ss → HasNumber p (others n ss)
  stays n p [] other h = h
  stays n p (s ∷ ss) other h = dite (ℕ_discrete n s.number)
      (λ e. subst (λ (l : List (Pushed M)). HasNumber p l) (sym (others_here n s ss e)) (⊎_elim (λ (q : p ≡ s.number). absurd (other (q ∙ sym e))) (λ (t : HasNumber p ss). stays n p ss other t) h))
      (λ e. subst (λ (l : List (Pushed M)). HasNumber p l) (sym (others_else n s ss e)) (⊎_elim (λ (q : p ≡ s.number). inl q) (λ (t : HasNumber p ss). inr (stays n p ss other t)) h))

  -- fewer than n senders leave a number below n out
  pub missing : (n : ℕ) (ss : List (Pushed M)) → length ss < n → (p : ℕ) × (p < n) × (HasNumber p ss → ⊥)
  missing zero ss lt = absurd (omega (arith, lt))
  missing (suc n) ss lt = ⊎_elim
      (λ (h : HasNumber n ss). let f = fewer n ss h in let r = missing n (others n ss) (omega (arith, f, lt)) in let below = r.1 in
      (r.0, omega (arith, below), λ y. r.2 (stays n r.0 ss (λ e. omega (arith, e, below)) y)))
      (λ (h : HasNumber n ss → ⊥). (n, omega arith, h)) (has n ss)
