-- What a note adds to what a seat has seen.
use Rattle.std.proofs.Common.{◌≡◌, ℕ, zero, suc, ◌+◌, ◌≤◌, List, [], ◌∷◌, ◌++◌, length, replicate, refl, ap, sym, ◌∙◌, arith}
use Rattle.sw_table_laws.specs.Buckets.{BucketNow, PoolNow}
use Rattle.sw_rowlock.specs.History.{calls, others, merged, draws_from, draws_of}
use Rattle.sw_rowlock.specs.Seats.{LocksNow, new_seat}
use Rattle.sw_table_join.specs.declared.table_call.TableCall.{TableCall}
use Rattle.sw_table_join.specs.Tables.{SeatView}

module _ {Q : Type 0} where
  pub calls_others : (qs : List Q) → calls (others qs) ≡ qs
  calls_others [] = refl
  calls_others (q ∷ qs) = ap (λ (rest : List Q). q ∷ rest) (calls_others qs)

  none_drawn : (n : ℕ) (qs : List Q) → draws_from n (others qs) ≡ []
  none_drawn n [] = refl
  none_drawn n (q ∷ qs) = none_drawn (n + 1) qs

  noted_from : (n : ℕ) (xs : List (ℕ × Q)) (qs : List Q) → draws_from n (merged xs (others qs)) ≡ draws_from n xs
  noted_from n [] qs = none_drawn n qs
  noted_from n (x ∷ xs) [] = refl
  noted_from n (x ∷ xs) (q ∷ qs) =
      let same : x.0 + 0 ≡ x.0 = omega arith in
      ap (λ (k : ℕ). replicate k (n, x.1) ++ draws_from (n + 1) (merged xs (others qs))) same ∙ ap (λ (ds : List (ℕ × Q)). replicate x.0 (n, x.1) ++ ds) (noted_from (n + 1) xs qs)

  -- a note has no draws
  pub draws_noted : (xs ys : List (ℕ × Q)) → ys ≡ others (calls ys) → draws_of (merged xs ys) ≡ draws_of xs
  draws_noted xs ys e = ap (λ (zs : List (ℕ × Q)). draws_of (merged xs zs)) e ∙ noted_from 0 xs (calls ys)

  pub longer : (xs ys : List (ℕ × Q)) → (length (calls xs) ≤ length (calls (merged xs ys))) × (length (calls ys) ≤ length (calls (merged xs ys)))
  longer [] ys = (omega arith, omega arith)
  longer (x ∷ xs) [] = (omega arith, omega arith)
  longer (x ∷ xs) (y ∷ ys) = let rest = longer xs ys in let a = rest.0 in let b = rest.1 in (omega (arith, a), omega (arith, b))

pub append_none : {A : Type 0} (xs : List A) → xs ++ [] ≡ xs
append_none [] = refl
append_none (x ∷ xs) = ap (λ ys. x ∷ ys) (append_none xs)

-- a further seat: it has no calls of its own, and has seen what another one has
pub seat_made : (l : LocksNow BucketNow PoolNow) (rest from s n new : SeatView) → rest.seen ≡ [] → rest.also ≡ [] → s ≡ new_seat l 1 (others (calls rest.seen)) rest.also → n ≡ new_seat l 0 (others (calls from.seen)) from.also
    → new ≡ record s { parts = s.parts + n.parts; seen = merged s.seen n.seen; refusals = s.refusals ++ n.refusals; also = s.also ++ (n.also ++ calls n.seen ∷ []) }
    → new ≡ new_seat l 1 (others (calls from.seen)) (from.also ++ calls from.seen ∷ [])
seat_made l rest from s n new seen also es en e =
    let bare : s ≡ new_seat l 1 [] [] = es ∙ (λ i. new_seat l 1 (others (calls (seen i))) (also i)) in
    let both : record s { parts = s.parts + n.parts; seen = merged s.seen n.seen; refusals = s.refusals ++ n.refusals; also = s.also ++ (n.also ++ calls n.seen ∷ []) }
    ≡ new_seat l 1 (others (calls from.seen)) (from.also ++ calls (others (calls from.seen)) ∷ []) =
    λ i. record (bare i) { parts = (bare i).parts + (en i).parts; seen = merged (bare i).seen (en i).seen; refusals = (bare i).refusals ++ (en i).refusals; also = (bare i).also ++ ((en i).also ++ calls (en i).seen ∷ []) } in
    e ∙ both ∙ ap (λ (qs : List TableCall). new_seat l 1 (others (calls from.seen)) (from.also ++ qs ∷ [])) (calls_others (calls from.seen))
