-- Decimal numbers.
use Rattle.std.specs.Prelude.{ℕ, ◌+◌, ◌*◌, ◌-◌, ◌<◌, List, [], ◌∷◌, Option, Some, None, ℤ, pos, negsuc, nat_eq, nat_lt, if◌then◌else◌}
use Rattle.sw_text.specs.Then.{◌>>=◌}

-- the number with one more digit, if it is one and the number fits 64 bits
abbrev pub digit_more : ℕ → ℕ → Option ℕ
digit_more n b = if nat_lt b 48 then None else if nat_lt 57 b then None else if nat_lt 18446744073709551615 (10 * n + (b - 48)) then None else Some (10 * n + (b - 48))

-- the number with these digits more
unfoldable pub digits_behind : Option ℕ → List ℕ → Option ℕ
digits_behind None bs = None
digits_behind (Some n) [] = Some n
digits_behind (Some n) (b ∷ bs) = digits_behind (digit_more n b) bs

-- a first digit, and others: a 0 stands alone
abbrev pub number_behind : ℕ → List ℕ → Option ℕ
number_behind b [] = digits_behind (Some 0) (b ∷ [])
number_behind b (c ∷ bs) = if nat_eq b 48 then None else digits_behind (Some 0) (b ∷ c ∷ bs)

-- the number that a text is, in decimal digits without a leading zero, if it fits 64 bits
abbrev pub number_of : List ℕ → Option ℕ
number_of [] = None
number_of (b ∷ bs) = number_behind b bs

-- a number in these bounds
abbrev pub within : ℕ → ℕ → ℕ → Option ℕ
within least most n = if nat_lt n least then None else if nat_lt most n then None else Some n

abbrev pub number_within : ℕ → ℕ → List ℕ → Option ℕ
number_within least most text = do
  n ← number_of text
  within least most n

-- the number with this size, from 0 up
abbrev pub positive : ℕ → Option ℤ
positive n = if nat_lt 9223372036854775807 n then None else Some (pos n)

-- the number with this size, below 0
abbrev pub negative : ℕ → Option ℤ
negative n = if nat_eq n 0 then None else if nat_lt 9223372036854775808 n then None else Some (negsuc (n - 1))

abbrev pub signed_behind : ℕ → List ℕ → Option ℤ
signed_behind b bs = if nat_eq b 45 then (number_of bs >>= negative) else (number_of (b ∷ bs) >>= positive)

-- the number that a text is, with a sign where it is below 0, if it fits 64 bits
abbrev pub signed_of : List ℕ → Option ℤ
signed_of [] = None
signed_of (b ∷ bs) = signed_behind b bs

-- a number that fits 64 bits with its sign
abbrev pub FitsSigned : ℤ → Type 0
FitsSigned (pos n) = n < 9223372036854775808
FitsSigned (negsuc n) = n < 9223372036854775808
