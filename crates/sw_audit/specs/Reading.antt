-- What a whole text is by what reading it answers.
use Rattle.std.specs.Prelude.{◌≡◌, ℕ, ◌+◌, List, [], ◌∷◌, ◌++◌, length, Some, None, Result, Ok, Err, ◌⊎◌}
use Rattle.sw_text.specs.Parts.{lines_of}
use Rattle.sw_column.specs.declared.column.Column.{Column}
use Rattle.sw_audit.specs.Grammar.{head_of, line_of}
use Rattle.sw_audit.specs.declared.trace.Trace.{Trace}
use Rattle.sw_audit.specs.declared.trace.TraceLine.{TraceLine}

-- each of the lines is in the grammar, and these are the calls that they tell of
abbrev pub AreRead : List Column → List (List ℕ) → List TraceLine → Type 0
AreRead schema [] [] = Unit {0}
AreRead schema [] (e ∷ es) = ⊥
AreRead schema (l ∷ ls) [] = ⊥
AreRead schema (l ∷ ls) (e ∷ es) = (line_of schema l ≡ Some e) × AreRead schema ls es

abbrev pub no_lines : Trace → Trace
no_lines t = record t { lines = [] }

-- the first line is missing, or isn't in the grammar
abbrev pub IsHeadOut : List (List ℕ) → Type 0
IsHeadOut [] = Unit {0}
IsHeadOut (l ∷ ls) = head_of l ≡ None

-- the first line is in the grammar, and the line behind the next ones, which are too, is the first one that isn't
abbrev pub IsLineOut : List (List ℕ) → List (List ℕ) → Type 0
IsLineOut ls front = (head : List ℕ) × (t : Trace) × (es : List TraceLine) × (l : List ℕ) × (rest : List (List ℕ))
    × (ls ≡ head ∷ (front ++ l ∷ rest)) × (head_of head ≡ Some t) × AreRead t.schema front es × (line_of t.schema l ≡ None)

-- what reading answers: the Table of the first line and the calls of all others, or the number of the first line that isn't in
-- the grammar or is missing
abbrev pub AreTrace : List (List ℕ) → Result Trace ℕ → Type 0
AreTrace ls (Ok t) = (head : List ℕ) × (rest : List (List ℕ)) × (ls ≡ head ∷ rest) × (head_of head ≡ Some (no_lines t)) × AreRead t.schema rest t.lines
AreTrace ls (Err n) = (IsHeadOut ls × (n ≡ 1)) ⊎ ((front : List (List ℕ)) × IsLineOut ls front × (n ≡ 2 + length front))

abbrev pub IsRead : List ℕ → Result Trace ℕ → Type 0
IsRead text r = AreTrace (lines_of text) r
