-- Where a head can end: at an empty line behind a byte that is no line end.
use Rattle.std.specs.Prelude.{◌≡◌, ℕ, ◌-◌, ◌<◌, ◌≤◌, List, [], ◌∷◌, length, take, Bool, true, false, ◌||◌, nat_eq, if◌then◌else◌}
use Rattle.sw_http.specs.declared.ending.Ending.{Ending}
use Rattle.sw_http.specs.declared.ending.Ending.TheVariants.{Blank, Line, Feed, Return, Empty}
use Rattle.sw_http.specs.declared.scan.Scan.{Scan}

-- how bytes end, with one byte more
abbrev pub ending_behind : Ending → ℕ → Ending
ending_behind Blank b = if nat_eq b 10 || nat_eq b 13 then Blank else Line
ending_behind Line b = if nat_eq b 10 then Feed else Line
ending_behind Feed b = if nat_eq b 10 then Empty else if nat_eq b 13 then Return else Line
ending_behind Return b = if nat_eq b 10 then Empty else Line
ending_behind Empty b = if nat_eq b 10 then Empty else if nat_eq b 13 then Return else Line

unfoldable pub ending_from : Ending → List ℕ → Ending
ending_from e [] = e
ending_from e (b ∷ bs) = ending_from (ending_behind e b) bs

-- how bytes end
abbrev pub ending_of : List ℕ → Ending
ending_of bytes = ending_from Blank bytes

-- behind an empty line
abbrev pub is_end : Ending → Bool
is_end Blank = false
is_end Line = false
is_end Feed = false
is_end Return = false
is_end Empty = true

-- none of the first bytes, more than from and at most to, ends with an empty line
abbrev pub HasNoEnd : List ℕ → ℕ → ℕ → Type 0
HasNoEnd bytes from to = (k : ℕ) → from < k → k ≤ to → ¬ (ending_of (take k bytes) ≡ Empty)

-- the first bytes were looked at
pub record IsScanned (bytes : List ℕ) (scan : Scan) : Type 0 where
  pub within : scan.at ≤ length bytes
  pub ending : scan.ending ≡ ending_of (take scan.at bytes)

abbrev pub unscanned : Scan
unscanned = record { at = 0; ending = Blank }

-- a search from one place to another stopped behind an empty line, or came to the end; it passed none
abbrev pub IsStopped : List ℕ → ℕ → ℕ → Bool → Type 0
IsStopped bytes from to true = (from < to) × HasNoEnd bytes from (to - 1)
IsStopped bytes from to false = (to ≡ length bytes) × (from ≤ to) × HasNoEnd bytes from to
