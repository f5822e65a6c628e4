-- The pairs of a text that is UTF-8, and of one that isn't.
use Rattle.std.proofs.Common.{◌≡◌, ℕ, Bool, true, false, List, None, refl}
use Rattle.std.specs.Prelude.{IsUtf8, option_and_then}
use Rattle.std.specs.Str.{is_utf8}
use Rattle.std.proofs.lemmas.Str.{IsUtf8-from_is_utf8, is_utf8-from_IsUtf8}
use Rattle.serde_json.specs.Read.{read}
use Rattle.sw_settings_json.specs.Json.{pairs_in, json_pairs}

pub pairs_of_valid : (text : List ℕ) → IsUtf8 text → json_pairs text ≡ option_and_then pairs_in (read text)
unfolding json_pairs
pairs_of_valid text valid = rw (is_utf8-from_IsUtf8 text valid) refl

none_by : (text : List ℕ) (t : Bool) → is_utf8 text ≡ t → ¬ (IsUtf8 text) → json_pairs text ≡ None
unfolding json_pairs
none_by text true is not_valid = absurd (not_valid (IsUtf8-from_is_utf8 text is))
none_by text false is not_valid = rw is refl

pub pairs_of_invalid : (text : List ℕ) → ¬ (IsUtf8 text) → json_pairs text ≡ None
pairs_of_invalid text not_valid = none_by text (is_utf8 text) refl not_valid
