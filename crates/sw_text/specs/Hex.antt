-- Bytes as two digits each.
use Rattle.std.specs.Prelude.{ℕ, ◌+◌, ◌*◌, ◌-◌, ◌/◌, ◌%◌, List, [], ◌∷◌, ◌++◌, Option, Some, None, nat_lt, if◌then◌else◌}
use Rattle.std.specs.List.{flat_map}

-- a hexadecimal digit of lower case, and its number
abbrev pub hex_digit : ℕ → ℕ
hex_digit n = if nat_lt n 10 then 48 + n else 87 + n

abbrev pub hex_byte : ℕ → List ℕ
hex_byte b = hex_digit (b / 16) ∷ hex_digit (b % 16) ∷ []

-- two digits for each byte
abbrev pub hex : List ℕ → List ℕ
hex bs = flat_map hex_byte bs

abbrev pub digit_of : ℕ → Option ℕ
digit_of b = if nat_lt b 48 then None else if nat_lt b 58 then Some (b - 48) else if nat_lt b 97 then None else if nat_lt b 103 then Some (b - 87) else None

-- the byte that two digits are
abbrev pub pair_of : Option ℕ → Option ℕ → Option ℕ
pair_of None low = None
pair_of (Some high) None = None
pair_of (Some high) (Some low) = Some (high * 16 + low)

abbrev pub pushed : List ℕ → Option ℕ → Option (List ℕ)
pushed out None = None
pushed out (Some b) = Some (out ++ b ∷ [])

-- the bytes so far, and those that the pairs of digits spell
unfoldable pub unhex : Option (List ℕ) → List ℕ → Option (List ℕ)
unhex None text = None
unhex (Some out) [] = Some out
unhex (Some out) (a ∷ []) = None
unhex (Some out) (a ∷ b ∷ rest) = unhex (pushed out (pair_of (digit_of a) (digit_of b))) rest

-- the bytes that one or more pairs of digits spell
abbrev pub bytes_of : List ℕ → Option (List ℕ)
bytes_of [] = None
bytes_of (a ∷ rest) = unhex (Some []) (a ∷ rest)

-- what is printed for some bytes: pairs of digits, or a dash where there is no byte
abbrev pub bytes_text : List ℕ → List ℕ
bytes_text [] = 45 ∷ []
bytes_text (b ∷ bs) = hex (b ∷ bs)
