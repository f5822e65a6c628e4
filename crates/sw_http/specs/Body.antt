-- What the fields of a head say of the body behind it.
use Rattle.std.specs.Prelude.{ℕ, ◌+◌, ◌-◌, ◌*◌, List, [], ◌∷◌, length, map, codes, Bool, nat_eq, nat_lt, Option, Some, None, option_map, if◌then◌else◌}
use Rattle.std.specs.List.{list_all, list_any}
use Rattle.std.specs.Char.{to_ascii_lowercase, is_ascii_digit}
use Rattle.std.specs.Str.{bytes_eq}

-- a field's name and its value
abbrev pub Pair : Type 0
Pair = List ℕ × List ℕ

-- two names are one, in any ASCII case
abbrev pub is_named : List ℕ → List ℕ → Bool
is_named wanted name = bytes_eq (map to_ascii_lowercase name) (map to_ascii_lowercase wanted)

-- the field names a transfer coding
abbrev pub is_coding : Pair → Bool
is_coding p = is_named (codes "transfer-encoding") p.0

-- the field names a length
abbrev pub is_length : Pair → Bool
is_length p = is_named (codes "content-length") p.0

-- the body is in a transfer coding
abbrev pub has_coding : List Pair → Bool
has_coding ps = list_any is_coding ps

-- the number that digits write behind others
abbrev pub number_after : ℕ → List ℕ → ℕ
number_after n [] = n
number_after n (b ∷ bs) = number_after (10 * n + (b - 48)) bs

-- the number that 1 to 18 digits write
abbrev pub length_of : List ℕ → Option ℕ
length_of text = if nat_eq (length text) 0 then None
    else if nat_lt 18 (length text) then None
    else if list_all is_ascii_digit text then Some (number_after 0 text)
    else None

-- the length so far, and one that a field names beside it
abbrev pub same_length : Option ℕ → Option ℕ → Option (Option ℕ)
same_length before None = None
same_length None (Some n) = Some (Some n)
same_length (Some m) (Some n) = if nat_eq m n then Some (Some m) else None

abbrev pub more_length : Option ℕ → Pair → Option (Option ℕ)
more_length before p = if is_length p then same_length before (length_of p.1) else Some before

-- the length that these fields name behind others, if they agree
unfoldable pub lengths_in : Option (Option ℕ) → List Pair → Option (Option ℕ)
lengths_in None ps = None
lengths_in (Some before) [] = Some before
lengths_in (Some before) (p ∷ ps) = lengths_in (more_length before p) ps

-- none is no bytes
abbrev pub length_or : Option ℕ → ℕ
length_or None = 0
length_or (Some n) = n

-- the length of the body, if the fields agree on one
abbrev pub body_of : List Pair → Option ℕ
body_of ps = option_map length_or (lengths_in (Some None) ps)
