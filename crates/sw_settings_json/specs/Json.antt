-- What a JSON text sets keys to.
use Rattle.std.specs.Prelude.{ℕ, List, [], ◌∷◌, Option, Some, None, Result, Ok, Err, option_map, option_and_then, if◌then◌else◌, pos}
use Rattle.std.specs.Str.{is_utf8}
use Rattle.serde_json.specs.Data.{Num, unsigned, negative, float, Data, null, boolean, number, string, array, object, Members, no_members, member}
use Rattle.serde_json.specs.Find.{as_object}
use Rattle.serde_json.specs.Read.{read}
use Rattle.sw_settings.specs.declared.pair.SetValue.{SetValue}
use Rattle.sw_settings.specs.declared.pair.SetValue.TheVariants.{Number, Truth, Text}
use Rattle.sw_settings.specs.declared.pair.Pair.{Pair}
use Rattle.sw_settings.specs.declared.values.Values.{Values}
use Rattle.sw_settings.specs.declared.faults.SettingsFault.{SettingsFault}
use Rattle.sw_settings.specs.declared.faults.SettingsFault.TheVariants.{NotJson}
use Rattle.sw_settings.specs.Values.{values_of}
use Rattle.sw_settings.specs.Faults.{fault_of}

-- ---- what it means

abbrev pub settled : List Pair → Option SettingsFault → Result Values SettingsFault
settled ps None = Ok (values_of ps)
settled ps (Some fault) = Err fault

-- ---- how the pairs are read

-- a number that fits 64 bits neither without a sign nor with one, which is of no key's kind
abbrev pub of_no_kind : SetValue
of_no_kind = Number (pos 18446744073709551616)

abbrev pub number_value : Num → SetValue
number_value (unsigned n) = Number (pos n)
number_value (negative z) = Number z
number_value (float x) = of_no_kind

-- what a member sets its key to: a whole number of 64 bits, true or false, a text, or a value of no key's kind
abbrev pub value_of : Data → SetValue
value_of null = of_no_kind
value_of (boolean b) = Truth b
value_of (number n) = number_value n
value_of (string text) = Text text
value_of (array ds) = of_no_kind
value_of (object ms) = of_no_kind

-- a pair for each member; the reader's map has each key once, with the last value that the text gives it
abbrev pub pairs_of : Members → List Pair
pairs_of no_members = []
pairs_of (member key d ms) = record { name = key; value = value_of d } ∷ pairs_of ms

abbrev pub pairs_in : Data → Option (List Pair)
pairs_in d = option_map pairs_of (as_object d)

-- the pairs that a text is, if it is a JSON object
unfoldable pub json_pairs : List ℕ → Option (List Pair)
json_pairs text = if is_utf8 text then option_and_then pairs_in (read text) else None

-- the settings that a text is, or the first refusal that applies
abbrev pub settled_by : Option (List Pair) → Result Values SettingsFault
settled_by None = Err NotJson
settled_by (Some ps) = settled ps (fault_of ps)

abbrev pub json_settings : List ℕ → Result Values SettingsFault
json_settings text = settled_by (json_pairs text)
