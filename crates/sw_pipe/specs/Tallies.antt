-- The rule of a pipe's counter: a word for each sender, and what the shares of the counter know.
use Rattle.std.specs.Prelude.{◌≡◌, ℕ, zero, suc, ◌+◌, ◌*◌, ◌≤◌, max, List, [], ◌∷◌, slice_index}
use mathlib.Core.Option.{some}
use lib.ListN.{get_elem?}
use Rattle.atomic_table.specs.Table.{State}
use Rattle.atomic_table.specs.Seated.{TableId}
use Rattle.atomic_table.specs.declared.shared.Seat.{Seat}
use Rattle.sw_pipe.specs.declared.tally.Tally.{Tally}

abbrev pub tally : ℕ → ℕ → ℕ → ℕ → Tally
tally parts count at seen = record { parts = parts; count = count; at = at; seen = seen }

-- two shares as one
abbrev pub joined : Tally → Tally → Tally
joined v w = tally (v.parts + w.parts) (v.count + w.count) (max v.at w.at) (max v.seen w.seen)

-- where a sender's word lies: with at least 64 bytes of the block on its left and 56 on its right, so that no other word is on its cache line
abbrev pub word_of : ℕ → ℕ
word_of p = 16 * p + 8

-- f of each, added up
abbrev pub total : (Tally → ℕ) → List Tally → ℕ
total f [] = 0
total f (v ∷ vs) = f v + total f vs

-- the first n of these numbers, added up
abbrev pub sum_below : ℕ → (ℕ → ℕ) → ℕ
sum_below zero counts = 0
sum_below (suc n) counts = sum_below n counts + counts n

-- Each word is at most what its sender counted, and these together are what the shares counted. A share's sum is at most what the senders that it has added up counted
pub record Counted {S : Type 0} (senders : ℕ) (s : State S Tally) : Type 0 where
  pub counts : ℕ → ℕ
  pub words : (p : ℕ) → slice_index s.words (word_of p) ≤ counts p
  pub whole : sum_below senders counts ≤ total (λ v. v.count) s.views
  pub parts : total (λ v. v.parts) s.views ≡ senders
  pub idle : (j : ℕ) (v : Tally) → get_elem? s.views j ≡ some v → v.parts ≡ 0 → v.count ≡ 0
  pub seen : (j : ℕ) (v : Tally) → get_elem? s.views j ≡ some v → (v.at ≤ senders) × (v.seen ≤ sum_below v.at counts)

abbrev pub tally_at : {S : Type 0} → Seat S Tally → Tally
tally_at share = share.me.0

-- it is a share of this counter
abbrev pub IsShareOf : {S : Type 0} → TableId → Seat S Tally → Type 0
IsShareOf id share = (share.table_id ≡ id) × (share.me.1 ≡ [])
