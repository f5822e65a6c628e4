-- What comes first in bytes that a mark cuts into packets, of which none is longer than `max` bytes.
use Rattle.std.specs.Prelude.{◌≡◌, ℕ, suc, ◌+◌, ◌<◌, ◌≤◌, nat_le, if◌then◌else◌, List, [], ◌∷◌, ◌++◌, length, take, drop, Option, Some, None, option_map}
use Rattle.std.specs.Str.{bytes_eq}
use Rattle.sw_cut.specs.declared.First.{First}
use Rattle.sw_cut.specs.declared.First.TheVariants.{Packet, More, TooLong, BadLength}

-- the bytes end with the mark
abbrev pub EndsWith : List ℕ → List ℕ → Type 0
EndsWith mark bytes = (front : List ℕ) × (bytes ≡ front ++ mark)

-- n is the least length of a prefix of the bytes that ends with the mark
pub record IsLeastEnd (mark bytes : List ℕ) (n : ℕ) : Type 0 where
  pub within : n ≤ length bytes
  pub ends : EndsWith mark (take n bytes)
  pub least : (k : ℕ) → k < n → ¬ EndsWith mark (take k bytes)

-- the mark stands at a place of the bytes
pub record StandsAt (mark bytes : List ℕ) (at : ℕ) : Type 0 where
  pub later : List ℕ
  pub is : drop at bytes ≡ mark ++ later

-- the least length of a prefix that ends with the mark, or none where no prefix does
abbrev pub IsFirstEnd : List ℕ → List ℕ → Option ℕ → Type 0
IsFirstEnd mark bytes (Some n) = IsLeastEnd mark bytes n
IsFirstEnd mark bytes None = (n : ℕ) → ¬ EndsWith mark (take n bytes)

-- no such n is at most max
abbrev pub NoEndWithin : List ℕ → ℕ → List ℕ → Type 0
NoEndWithin mark max bytes = (n : ℕ) → IsLeastEnd mark bytes n → ¬ (n ≤ max)

-- what comes first, by cases
abbrev pub IsFirst : List ℕ → ℕ → List ℕ → First → Type 0
IsFirst mark max bytes (Packet n) = IsLeastEnd mark bytes n × (n ≤ max)
IsFirst mark max bytes More = NoEndWithin mark max bytes × (length bytes < max)
IsFirst mark max bytes (TooLong limit) = NoEndWithin mark max bytes × (max ≤ length bytes) × (limit ≡ max)
IsFirst mark max bytes (BadLength _) = ⊥

-- the first place in the bytes where the mark stands
abbrev pub mark_at : List ℕ → List ℕ → Option ℕ
mark_at mark [] = None
mark_at mark (b ∷ bs) =
    if bytes_eq (take (length mark) (b ∷ bs)) mark then Some 0 else option_map suc (mark_at mark bs)

-- what comes first, if the mark stands at this place within the first max bytes, or doesn't
abbrev pub first_by : List ℕ → ℕ → List ℕ → Option ℕ → First
first_by mark max bytes (Some at) = Packet (at + length mark)
first_by mark max bytes None = if nat_le max (length bytes) then TooLong max else More

-- what comes first: IsFirst says what it is
unfoldable pub first_in : List ℕ → ℕ → List ℕ → First
first_in mark max bytes = first_by mark max bytes (mark_at mark (take max bytes))
