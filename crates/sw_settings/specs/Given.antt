-- What pairs set a key to.
use Rattle.std.specs.Prelude.{◌≡◌, ℕ, ◌≤◌, ◌<◌, ◌==◌, List, [], ◌∷◌, codes, Bool, true, false, Option, Some, None, if◌then◌else◌, ℤ, pos, negsuc}
use Rattle.std.specs.Str.{bytes_eq}
use Rattle.sw_settings.specs.declared.pair.SetValue.{SetValue}
use Rattle.sw_settings.specs.declared.pair.SetValue.TheVariants as values
use Rattle.sw_settings.specs.declared.pair.Pair.{Pair}
use Rattle.sw_settings.specs.declared.keys.Rule.{Rule}
use Rattle.sw_settings.specs.declared.keys.Rule.TheVariants.{Number}
use Rattle.sw_settings.specs.Keys.{rule_of}
use Rattle.sw_settings.specs.Checks.{is_of_kind, is_in_range}

-- the value that the pairs give to a key, if one of them has its name
unfoldable pub given : List ℕ → List Pair → Option SetValue
given name [] = None
given name (p ∷ ps) = if bytes_eq p.name name then Some p.value else given name ps

-- ---- a truth: the pair's value where there is one, and else false

abbrev pub truth_in : SetValue → Bool
truth_in (values.Number n) = false
truth_in (values.Truth b) = b
truth_in (values.Text t) = false

abbrev pub truth_or : Option SetValue → Bool
truth_or None = false
truth_or (Some v) = truth_in v

unfoldable pub truth_of : List ℕ → List Pair → Bool
truth_of name ps = truth_or (given name ps)

-- ---- a number: the pair's value where there is one, and else the key's default

abbrev pub natural : ℤ → ℕ
natural (pos n) = n
natural (negsuc n) = 0

abbrev pub natural_in : SetValue → ℕ
natural_in (values.Number n) = natural n
natural_in (values.Truth b) = 0
natural_in (values.Text t) = 0

abbrev pub natural_or : ℕ → Option SetValue → ℕ
natural_or default None = default
natural_or default (Some v) = natural_in v

abbrev pub number_by : Option Rule → Option SetValue → ℕ
number_by (Some (Number least most default)) v = natural_or default v
number_by _ v = 0

unfoldable pub number_of : List ℕ → List Pair → ℕ
number_of name ps = number_by (rule_of name) (given name ps)

-- dispatch modes 2 and 4 keep each connection at one worker
abbrev pub keeps : ℕ → Bool
keeps mode = if mode == 2 then true else mode == 4

-- the dispatch mode that is set does so
unfoldable pub keeps_set : List Pair → Bool
keeps_set ps = keeps (number_of (codes "dispatch_mode") ps)

-- ---- a text: the pair's value where there is one, and else none

abbrev pub text_in : SetValue → Option (List ℕ)
text_in (values.Number n) = None
text_in (values.Truth b) = None
text_in (values.Text t) = Some t

abbrev pub text_or : Option SetValue → Option (List ℕ)
text_or None = None
text_or (Some v) = text_in v

unfoldable pub text_of : List ℕ → List Pair → Option (List ℕ)
text_of name ps = text_or (given name ps)

-- ---- what holds of pairs without a fault

-- the number is in the range of the rule; it is 0 where the rule isn't one of numbers
abbrev pub InBounds : Option Rule → ℕ → Type 0
InBounds (Some (Number least most default)) n = (least ≤ n) × (n ≤ most)
InBounds _ n = n ≡ 0

-- a rule of numbers that fit 32 bits
abbrev pub IsSmall : Option Rule → Type 0
IsSmall (Some (Number least most default)) = most < 4294967296
IsSmall _ = ⊥

-- the value is of the rule's kind and in its range
abbrev pub MeetsRule : Option Rule → SetValue → Type 0
MeetsRule None v = Unit {0}
MeetsRule (Some rule) v = (is_of_kind rule v ≡ true) × (is_in_range rule v ≡ true)
