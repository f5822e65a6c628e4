-- What may be wrong with a pair alone, and which key has it first.
use Rattle.std.specs.Prelude.{◌≡◌, ◌⊎◌, ℕ, List, [], ◌∷◌, length, Bool, true, false, not, ◌&&◌, nat_lt, nat_le, Option, Some, None, is_some, if◌then◌else◌, ℤ, pos, negsuc}
use Rattle.std.specs.List.{AllByRecursion}
use Rattle.std.specs.Ordering.{nat_cmp, is_lt}
use Rattle.std.specs.Cmp.Lexicographic.{slice_cmp}
use Rattle.sw_settings.specs.declared.pair.SetValue.{SetValue}
use Rattle.sw_settings.specs.declared.pair.SetValue.TheVariants as values
use Rattle.sw_settings.specs.declared.pair.Pair.{Pair}
use Rattle.sw_settings.specs.declared.checks.Check.{Check}
use Rattle.sw_settings.specs.declared.checks.Check.TheVariants.{Known, Kind, Range}
use Rattle.sw_settings.specs.declared.keys.Rule.{Rule}
use Rattle.sw_settings.specs.declared.keys.Rule.TheVariants.{Truth, Number, Text, Letter, Columns}
use Rattle.sw_settings.specs.Keys.{rule_of, letter_of}
use Rattle.sw_settings.specs.Columns.{are_columns}

-- ---- what a check refuses

-- a number that fits 64 bits, without a sign or with one
abbrev pub fits_word : ℤ → Bool
fits_word (pos n) = nat_lt n 18446744073709551616
fits_word (negsuc n) = nat_lt n 9223372036854775808

abbrev pub is_word : SetValue → Bool
is_word (values.Number n) = fits_word n
is_word (values.Truth b) = false
is_word (values.Text t) = false

abbrev pub is_truth : SetValue → Bool
is_truth (values.Number n) = false
is_truth (values.Truth b) = true
is_truth (values.Text t) = false

abbrev pub is_text : SetValue → Bool
is_text (values.Number n) = false
is_text (values.Truth b) = false
is_text (values.Text t) = true

abbrev pub is_letter : SetValue → Bool
is_letter (values.Number n) = false
is_letter (values.Truth b) = false
is_letter (values.Text t) = is_some (letter_of t)

abbrev pub is_columns : SetValue → Bool
is_columns (values.Number n) = false
is_columns (values.Truth b) = false
is_columns (values.Text t) = are_columns t

-- the value is of the rule's kind: a letter is one of the five, and columns are in their grammar
abbrev pub is_of_kind : Rule → SetValue → Bool
is_of_kind Truth v = is_truth v
is_of_kind (Number least most default) v = is_word v
is_of_kind (Text least most) v = is_text v
is_of_kind Letter v = is_letter v
is_of_kind Columns v = is_columns v

abbrev pub in_bounds : ℕ → ℕ → ℤ → Bool
in_bounds least most (pos n) = nat_le least n && nat_le n most
in_bounds least most (negsuc n) = false

abbrev pub number_within : ℕ → ℕ → SetValue → Bool
number_within least most (values.Number n) = in_bounds least most n
number_within least most (values.Truth b) = true
number_within least most (values.Text t) = true

abbrev pub length_within : ℕ → ℕ → SetValue → Bool
length_within least most (values.Number n) = true
length_within least most (values.Truth b) = true
length_within least most (values.Text t) = nat_le least (length t) && nat_le (length t) most

-- the number, or the number of the text's bytes, is in the rule's range; values of another kind have none
abbrev pub is_in_range : Rule → SetValue → Bool
is_in_range Truth v = true
is_in_range (Number least most default) v = number_within least most v
is_in_range (Text least most) v = length_within least most v
is_in_range Letter v = true
is_in_range Columns v = true

abbrev pub is_of_no_key : Check → Bool
is_of_no_key Known = true
is_of_no_key Kind = false
is_of_no_key Range = false

abbrev pub breaks : Check → Rule → Pair → Bool
breaks Known r p = false
breaks Kind r p = not (is_of_kind r p.value)
breaks Range r p = not (is_in_range r p.value)

abbrev pub fails_by : Check → Option Rule → Pair → Bool
fails_by check None p = is_of_no_key check
fails_by check (Some r) p = breaks check r p

-- the check refuses the pair: its name is no key, its value isn't of the key's kind, or isn't in the key's range
unfoldable pub fails : Check → Pair → Bool
fails check p = fails_by check (rule_of p.name) p

-- ---- the first key that a check refuses

-- the first text comes before the second in byte order
unfoldable pub is_before : List ℕ → List ℕ → Bool
is_before a b = is_lt (slice_cmp nat_cmp a b)

abbrev pub earlier : List ℕ → List ℕ → List ℕ
earlier first name = if is_before name first then name else first

abbrev pub earlier_or : Option (List ℕ) → List ℕ → List ℕ
earlier_or None name = name
earlier_or (Some first) name = earlier first name

-- the same key, or that of the pair where the check refuses it and it comes first
abbrev pub first_with : Check → Option (List ℕ) → Pair → Option (List ℕ)
first_with check first p = if fails check p then Some (earlier_or first p.name) else first

-- the first in byte order of this key and those of the pairs that the check refuses
unfoldable pub first_behind : Check → Option (List ℕ) → List Pair → Option (List ℕ)
first_behind check first [] = first
first_behind check first (p ∷ ps) = first_behind check (first_with check first p) ps

-- the first key, in byte order, of the pairs that the check refuses
abbrev pub first_key : Check → List Pair → Option (List ℕ)
first_key check ps = first_behind check None ps

-- ---- what that key is

-- the check refuses one of the pairs, which has this key
abbrev pub HasFailing : Check → List ℕ → List Pair → Type 0
HasFailing check key [] = ⊥
HasFailing check key (p ∷ ps) = ((fails check p ≡ true) × (p.name ≡ key)) ⊎ HasFailing check key ps

-- the check refuses no pair whose name comes before this key
abbrev pub NoneBefore : Check → List ℕ → List Pair → Type 0
NoneBefore check key ps = AllByRecursion (λ (p : Pair). fails check p ≡ true → is_before p.name key ≡ false) ps

-- a first key is one of a pair that the check refuses, and none comes before it; without one the check refuses no pair
abbrev pub IsFirstKey : Check → List Pair → Option (List ℕ) → Type 0
IsFirstKey check ps None = AllByRecursion (λ (p : Pair). fails check p ≡ false) ps
IsFirstKey check ps (Some key) = HasFailing check key ps × NoneBefore check key ps
