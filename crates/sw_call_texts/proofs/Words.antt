-- The bytes of which the words of a line are made: digits, letters, `_` and `-`.
use Rattle.std.proofs.Common.{◌≡◌, ℕ, ◌+◌, ◌/◌, ◌%◌, ◌<◌, ◌≤◌, Bool, true, false, cond, ◌&&◌, List, [], ◌∷◌, ◌++◌, length, zero, suc, refl, sym, arith, ltb, leb, eqb, inl, inr, ℤ, pos, negsuc}
use Rattle.std.specs.Prelude.{◌⊎◌, ◌||◌, slice_index}
use Rattle.std.specs.Fmt.{decimal, signed_decimal}
use Rattle.std.specs.List.{AllByRecursion, list_all}
use Rattle.std.proofs.lemmas.Bool.{eqb-true, leb-true, lt-ltb, le-ltb, cases_lt}
use Rattle.std.proofs.lemmas.Fmt.{digits_decimal}
use Rattle.std.proofs.lemmas.Str.{IsUtf8-from_ascii}
use Rattle.sw_text.specs.Hex.{hex_digit, hex}
use Rattle.sw_text.specs.Numbers.{FitsSigned}
use Rattle.sw_text.proofs.NumberLaw.{AreDigits, own}
use Rattle.sw_base.specs.declared.table.Value.{Value}
use Rattle.sw_base.specs.declared.table.Value.TheVariants.{Int, Text}
use Rattle.sw_column.specs.Columns.{is_name, is_name_byte}
use Rattle.sw_log_text.specs.Values.{value_text}
use Rattle.sw_log_text.specs.Calls.{name_text}
use Rattle.sw_log_text.proofs.Names.{name_of_text}
use Rattle.sw_call_texts.specs.Spelled.{IsValue}
use Rattle.sw_call_texts.proofs.Cuts.{Without}

abbrev pub WordByte : ℕ → Type 0
WordByte b = (45 ≤ b) × ((b ≤ 57) ⊎ (65 ≤ b))

abbrev pub IsWord : List ℕ → Type 0
IsWord xs = AllByRecursion WordByte xs

-- such a byte is none of the separators
other_low : (sep b : ℕ) → sep < 45 → WordByte b → ¬ (b ≡ sep)
other_low sep b low w e = let at = w.0 in omega (arith, low, at, e)

other_mid : (sep b : ℕ) → 57 < sep → sep < 65 → WordByte b → ¬ (b ≡ sep)
other_mid sep b low high (least, inl le) e = omega (arith, low, le, e)
other_mid sep b low high (least, inr ge) e = omega (arith, high, ge, e)

pub without_low : (sep : ℕ) (xs : List ℕ) → sep < 45 → IsWord xs → Without sep xs
without_low sep [] low w = tt
without_low sep (b ∷ bs) low w = (other_low sep b low w.0, without_low sep bs low w.1)

pub without_mid : (sep : ℕ) (xs : List ℕ) → 57 < sep → sep < 65 → IsWord xs → Without sep xs
without_mid sep [] low high w = tt
without_mid sep (b ∷ bs) low high w = (other_mid sep b low high w.0, without_mid sep bs low high w.1)

-- ---- numbers

digits_word : (ds : List ℕ) → AreDigits ds → IsWord ds
digits_word [] d = tt
digits_word (b ∷ bs) d = let low = d.0 in let high = d.1 in ((omega (arith, low), inl high), digits_word bs d.2)

pub number_word : (n : ℕ) → n < 18446744073709551616 → IsWord (decimal n)
number_word n lt = digits_word (decimal n) (digits_decimal own n (omega (arith, lt)))

pub signed_word : (z : ℤ) → FitsSigned z → IsWord (signed_decimal z)
signed_word (pos n) fits = number_word n (omega (arith, fits))
signed_word (negsuc n) fits = ((omega arith, inl (omega arith)), number_word (suc n) (omega (arith, fits)))

-- ---- digits of bytes

digit_word : (n : ℕ) → n < 16 → WordByte (hex_digit n)
digit_word n lt = elim (cases_lt n 10) [
  | inl low ↦ rw (lt-ltb n 10 low) (omega arith, inl (omega (arith, low)))
  | inr high ↦ rw (le-ltb n 10 high) (omega arith, inr (omega (arith, high)))
]

pub hex_word : (bs : List ℕ) → AllByRecursion (λ b. b < 256) bs → IsWord (hex bs)
hex_word [] fits = tt
hex_word (b ∷ bs) fits = let lt = fits.0 in (digit_word (b / 16) (omega (arith, lt)), (digit_word (b % 16) (omega arith), hex_word bs fits.1))

pub value_word : (v : Value) → IsValue v → IsWord (value_text v)
value_word (Int n) fits = signed_word n fits
value_word (Text t) fits = ((omega arith, inr (omega arith)), hex_word t fits)

-- ---- names

both_true : (a b : Bool) → (a && b) ≡ true → (a ≡ true) × (b ≡ true)
both_true true b e = (refl, e)
both_true false b e = absurd cc

one_true : (a b : Bool) → (a || b) ≡ true → (a ≡ true) ⊎ (b ≡ true)
one_true true b e = inl refl
one_true false b e = inr e

between : (low b high : ℕ) → (leb low b && leb b high) ≡ true → (low ≤ b) × (b ≤ high)
between low b high e = let t = both_true (leb low b) (leb b high) e in (leb-true low b t.0, leb-true b high t.1)

name_byte : (b : ℕ) → is_name_byte b ≡ true → WordByte b
name_byte b e = elim (one_true (((leb 97 b && leb b 122) || (leb 65 b && leb b 90)) || (leb 48 b && leb b 57)) (eqb b 95) e) [
  | inr h ↦ let same = eqb-true b 95 h in (omega (arith, same), inr (omega (arith, same)))
  | inl f ↦ elim (one_true ((leb 97 b && leb b 122) || (leb 65 b && leb b 90)) (leb 48 b && leb b 57) f) [
    | inr h ↦ let t = between 48 b 57 h in let low = t.0 in let high = t.1 in (omega (arith, low), inl high)
    | inl g ↦ elim (one_true (leb 97 b && leb b 122) (leb 65 b && leb b 90) g) [
      | inl h ↦ let t = between 97 b 122 h in let low = t.0 in (omega (arith, low), inr (omega (arith, low)))
      | inr h ↦ let t = between 65 b 90 h in let low = t.0 in (omega (arith, low), inr low)
    ]
  ]
]

bytes_word : (bs : List ℕ) → list_all is_name_byte bs ≡ true → IsWord bs
bytes_word [] e = tt
bytes_word (b ∷ bs) e = let t = both_true (is_name_byte b) (list_all is_name_byte bs) e in (name_byte b t.0, bytes_word bs t.1)

pub name_word : (name : List ℕ) → is_name name ≡ true → IsWord name
name_word name e = let t = both_true (leb 1 (length name) && leb (length name) 63) (list_all is_name_byte name) e in bytes_word name t.1

byte_low : (b : ℕ) → is_name_byte b ≡ true → b < 128
byte_low b e = elim (one_true (((leb 97 b && leb b 122) || (leb 65 b && leb b 90)) || (leb 48 b && leb b 57)) (eqb b 95) e) [
  | inr h ↦ let same = eqb-true b 95 h in omega (arith, same)
  | inl f ↦ elim (one_true ((leb 97 b && leb b 122) || (leb 65 b && leb b 90)) (leb 48 b && leb b 57) f) [
    | inr h ↦ let t = between 48 b 57 h in let high = t.1 in omega (arith, high)
    | inl g ↦ elim (one_true (leb 97 b && leb b 122) (leb 65 b && leb b 90) g) [
      | inl h ↦ let t = between 97 b 122 h in let high = t.1 in omega (arith, high)
      | inr h ↦ let t = between 65 b 90 h in let high = t.1 in omega (arith, high)
    ]
  ]
]

ascii : (bs : List ℕ) (i : ℕ) → list_all is_name_byte bs ≡ true → slice_index bs i < 128
ascii [] zero e = omega arith
ascii [] (suc i) e = omega arith
ascii (b ∷ bs) zero e = let t = both_true (is_name_byte b) (list_all is_name_byte bs) e in byte_low b t.0
ascii (b ∷ bs) (suc i) e = let t = both_true (is_name_byte b) (list_all is_name_byte bs) e in ascii bs i t.1

-- a name is text, and so printed as it is
pub name_plain : (name : List ℕ) → is_name name ≡ true → name_text name ≡ name
name_plain name e =
    let t = both_true (leb 1 (length name) && leb (length name) 63) (list_all is_name_byte name) e in
    name_of_text name (IsUtf8-from_ascii name (λ (i : ℕ). ascii name i t.1))
