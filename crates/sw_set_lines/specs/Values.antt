-- The two fields of a `set` line.
use Rattle.std.specs.Prelude.{ℕ, List, [], ◌∷◌, codes, length, Bool, true, false, ◌&&◌, ◌||◌, Option, Some, None, nat_eq, nat_le, if◌then◌else◌, pos}
use Rattle.std.specs.List.{list_all}
use Rattle.std.specs.Str.{bytes_eq}
use Rattle.sw_text.specs.Then.{◌>>=◌}
use Rattle.sw_text.specs.Hex.{bytes_of}
use Rattle.sw_text.specs.Numbers.{number_of}
use Rattle.sw_text.specs.Parts.{part_at}
use Rattle.sw_settings.specs.declared.pair.SetValue.{SetValue}
use Rattle.sw_settings.specs.declared.pair.SetValue.TheVariants as values

-- a letter a to z, or _
abbrev pub is_name_byte : ℕ → Bool
is_name_byte b = (nat_le 97 b && nat_le b 122) || nat_eq b 95

-- one or more of them
abbrev pub is_setting_name : List ℕ → Bool
is_setting_name text = nat_le 1 (length text) && list_all is_name_byte text

-- a text as pairs of hexadecimal digits
unfoldable pub hex_value : List ℕ → Option SetValue
hex_value digits = do
  bytes ← bytes_of digits
  Some (values.Text bytes)

abbrev pub unparted : List ℕ → Option (List ℕ × List ℕ) → Option SetValue
unparted text None = Some (values.Text text)
unparted text (Some parts) = None

-- a text without a space
unfoldable pub text_value : List ℕ → Option SetValue
text_value text = unparted text (part_at 32 text)

-- true, false, or a number that fits 64 bits
unfoldable pub plain_value : List ℕ → Option SetValue
plain_value text = if bytes_eq text (codes "true") then Some (values.Truth true)
    else if bytes_eq text (codes "false") then Some (values.Truth false)
    else do
      n ← number_of text
      Some (values.Number (pos n))

abbrev pub value_behind : ℕ → List ℕ → Option SetValue
value_behind b bs = if nat_eq b 120 then hex_value bs else if nat_eq b 61 then text_value bs else plain_value (b ∷ bs)

-- what a key is set to: x stands in front of hexadecimal digits, = in front of a text
abbrev pub value_of : List ℕ → Option SetValue
value_of [] = plain_value []
value_of (b ∷ bs) = value_behind b bs
