-- A name that is text, and one that isn't.
use Rattle.std.proofs.Common.{◌≡◌, ℕ, Bool, true, false, List, refl}
use Rattle.std.specs.Prelude.{IsUtf8}
use Rattle.std.specs.Str.{is_utf8}
use Rattle.std.proofs.lemmas.Str.{IsUtf8-from_is_utf8, is_utf8-from_IsUtf8}
use Rattle.sw_text.specs.Hex.{bytes_text}
use Rattle.sw_log_text.specs.Calls.{name_text}

pub name_of_text : (name : List ℕ) → IsUtf8 name → name_text name ≡ name
unfolding name_text
name_of_text name valid = rw (is_utf8-from_IsUtf8 name valid) refl

digits_by : (name : List ℕ) (t : Bool) → is_utf8 name ≡ t → ¬ (IsUtf8 name) → name_text name ≡ bytes_text name
unfolding name_text
digits_by name true is not_valid = absurd (not_valid (IsUtf8-from_is_utf8 name is))
digits_by name false is not_valid = rw is refl

pub name_of_bytes : (name : List ℕ) → ¬ (IsUtf8 name) → name_text name ≡ bytes_text name
name_of_bytes name not_valid = digits_by name (is_utf8 name) refl not_valid
