-- What a refusal tells of a call that wasn't made.
use Rattle.std.proofs.Common.{◌≡◌, ◌≢◌, ℕ, ◌+◌, ◌≤◌, Bool, List, suc, [], ◌∷◌, ◌++◌, length, Option, refl, ap, sym, subst, ◌∙◌, inl, inr, arith}
use Rattle.std.specs.Prelude.{replicate}
use Rattle.sw_rowlock.specs.declared.calls.Contents.{Contents}
use Rattle.sw_rowlock.specs.declared.locks.DrawFault.{DrawFault}
use Rattle.sw_rowlock.specs.declared.locks.DrawFault.TheVariants.{Moved, Spent}
use Rattle.sw_rowlock.specs.History.{calls, others, draws_from, draws_of}
use Rattle.sw_rowlock.specs.Calls.{Done}
use Rattle.sw_rowlock.specs.Faults.{RefusedBy}
use Rattle.sw_rowlock.specs.Seats.{SeatNow}
use Rattle.sw_rowlock_uses.specs.Ready.{NotMade, last_call}

module _ {Q : Type 0} where
  -- calls of others are no draws
  none_more : (n : ℕ) (xs : List (ℕ × Q)) (qs : List Q) → draws_from n (xs ++ others qs) ≡ draws_from n xs
  none_more n [] [] = refl
  none_more n [] (q ∷ qs) = none_more (n + 1) [] qs
  none_more n (x ∷ xs) qs = ap (λ (ys : List (ℕ × Q)). replicate x.0 (n, x.1) ++ ys) (none_more (n + 1) xs qs)

module _ {B P Q : Type 0} where
  -- one refusal more, and nothing else of what was seen
  pub refused_once : (old new : SeatNow B P Q) (at found : ℕ) → new.seen ≡ old.seen → new.refusals ≡ (at, found) ∷ old.refusals → NotMade old new
  refused_once old new at found seen more = record { draws = ap draws_of seen; why = inl (omega (arith, ap length more)) }

module _ {B P Q R : Type 0} (may : Contents B P → ℕ → Q → Type 0) (row_of : Q → Option ℕ) (needs : Q → Option B → Bool) (does : Q → Option B → Option P → ℕ → Done B P R) where
  -- a draw that was refused, before which and behind which locks were taken and given back
  pub draw_refused : (start : Contents B P) (old held new end : SeatNow B P Q) (fault : DrawFault) → held.seen ≡ old.seen → held.refusals ≡ old.refusals → RefusedBy may row_of needs does start held new last_call fault → end.seen ≡ new.seen → end.refusals ≡ new.refusals → NotMade old end
  draw_refused start old held new end (Spent n) seen refusals h seen' refusals' =
      let now : new.seen ≡ old.seen ++ others h.looked.between = ap (λ (s : SeatNow B P Q). s.seen) h.looked.now ∙ ap (λ (xs : List (ℕ × Q)). xs ++ others h.looked.between) seen in
      record {
        draws = ap draws_of (seen' ∙ now) ∙ none_more 0 old.seen h.looked.between;
        why = inr (subst (λ (xs : List (ℕ × Q)). last_call ≤ length (calls xs)) (sym seen') (subst (λ (k : ℕ). last_call ≤ k) h.made h.at_end));
      }
  draw_refused start old held new end (Moved n) seen refusals h seen' refusals' =
      let mid : h.mid.seen ≡ old.seen ++ others h.looked.between = ap (λ (s : SeatNow B P Q). s.seen) h.looked.now ∙ ap (λ (xs : List (ℕ × Q)). xs ++ others h.looked.between) seen in
      let now : new.seen ≡ h.mid.seen = ap (λ (s : SeatNow B P Q). s.seen) h.now in
      let before : length h.mid.refusals ≡ length old.refusals = ap (λ (s : SeatNow B P Q). length s.refusals) h.looked.now ∙ ap length refusals in
      let more : length new.refusals ≡ length h.mid.refusals + 1 = ap (λ (s : SeatNow B P Q). length s.refusals) h.now ∙ one_more (length h.mid.refusals) in
      record {
        draws = ap draws_of (seen' ∙ now ∙ mid) ∙ none_more 0 old.seen h.looked.between;
        why = inl (omega (arith, ap length refusals', more, before));
      }
    where
      one_more : (n : ℕ) → suc n ≡ n + 1
      one_more n = omega arith
