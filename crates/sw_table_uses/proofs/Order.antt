-- How many calls a seat has seen, and the place of its next one.
use Rattle.std.proofs.Common.{◌≡◌, ◌<◌, ◌≤◌, ◌+◌, ℕ, List, [], ◌∷◌, ◌++◌, length, refl, ap, ◌∙◌, arith}
use Rattle.sw_base.specs.declared.table.Value.{Value}
use Rattle.sw_base.specs.declared.table.Reply.{Reply}
use Rattle.sw_base.specs.declared.table.Call.{Call}
use Rattle.sw_rowlock.specs.History.{calls, others}
use Rattle.sw_rowlock.specs.Seats.{new_seat}
use Rattle.sw_table_join.specs.declared.table_call.TableCall.{TableCall}
use Rattle.sw_table_join.specs.Tables.{SharedNow, SeatView, call_on}
use Rattle.sw_table_join.specs.Answers.{Answered}
use Rattle.sw_table.proofs.Notes.{calls_others}

module _ {Q : Type 0} where
  own_only : (b : List Q) (q : Q) → length (calls (others b ++ (1, q) ∷ [])) ≡ length b + 1
  own_only [] q = refl
  own_only (x ∷ b) q = let rest = own_only b q in omega (arith, rest)

  own_last : (s : List (ℕ × Q)) (b : List Q) (q : Q) → length (calls (s ++ (others b ++ (1, q) ∷ []))) ≡ length (calls s ++ b) + 1
  own_last [] b q = own_only b q
  own_last (x ∷ s) b q = let rest = own_last s b q in omega (arith, rest)

  seen_before : (s : List (ℕ × Q)) (b : List Q) → length (calls s) ≤ length (calls s ++ b)
  seen_before [] b = omega arith
  seen_before (x ∷ s) b = let rest = seen_before s b in omega (arith, rest)

module _ {t : SharedNow} {old new : SeatView} {call : Call} {row row' : List Value} {at : ℕ} {reply : Reply} (a : Answered t old new call row row' at reply) where
  -- a call is the last that its seat has seen
  pub place_last : length (calls new.seen) ≡ at + 1
  place_last =
      let is = a.place in
      let grown = ap (λ (s : List (ℕ × TableCall)). length (calls s)) a.seen ∙ own_last old.seen a.between (call_on t call) in
      omega (arith, is, grown)

  -- it stands behind all that the seat had seen before
  pub place_behind : length (calls old.seen) ≤ at
  place_behind = let is = a.place in let before = seen_before old.seen a.between in omega (arith, is, before)

-- a seat that learnt a note has seen at least as many calls as the note's seat had
pub told : (t : SharedNow) (from note new : SeatView) → note ≡ new_seat t.locks 0 (others (calls from.seen)) from.also → length (calls note.seen) ≤ length (calls new.seen) → length (calls from.seen) ≤ length (calls new.seen)
told t from note new is more =
    let same = ap (λ (s : SeatView). length (calls s.seen)) is ∙ ap (λ (qs : List TableCall). length qs) (calls_others (calls from.seen)) in
    omega (arith, same, more)

-- the call of the seat that was told stands behind the call that it was told of
pub behind : (at at' seen told : ℕ) → seen ≡ at + 1 → seen ≤ told → told ≤ at' → at < at'
behind at at' seen told e a b = omega (arith, e, a, b)
