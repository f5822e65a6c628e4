-- The grammar of the texts of timers.
use Rattle.std.specs.Prelude.{ℕ, ◌+◌, List, [], ◌∷◌, codes, Option, Some, None, Result, Ok, Err, if◌then◌else◌}
use Rattle.std.specs.Str.{bytes_eq}
use Rattle.sw_text.specs.Then.{◌>>=◌}
use Rattle.sw_text.specs.Numbers.{number_of, number_within}
use Rattle.sw_text.specs.Parts.{part_at}
use Rattle.sw_timers_text.specs.declared.line.Line.{Line}
use Rattle.sw_timers_text.specs.declared.line.Line.TheVariants.{After, Tick, Clear, Due}

-- two numbers with a space between them
unfoldable pub moments : List ℕ → Option (ℕ × ℕ)
moments text = do
  p ← part_at 32 text
  now ← number_of p.0
  span ← number_of p.1
  Some (now, span)

-- NOW DELAY
unfoldable pub after_line : List ℕ → Option Line
after_line text = do
  m ← moments text
  Some (After m.0 m.1)

-- NOW EVERY
unfoldable pub tick_line : List ℕ → Option Line
tick_line text = do
  m ← moments text
  Some (Tick m.0 m.1)

-- ID
unfoldable pub clear_line : List ℕ → Option Line
clear_line text = do
  id ← number_of text
  Some (Clear id)

-- NOW N, with N from 1 to 1,000
unfoldable pub due_line : List ℕ → Option Line
due_line text = do
  p ← part_at 32 text
  now ← number_of p.0
  most ← number_within 1 1000 p.1
  Some (Due now most)

abbrev pub by_verb : List ℕ → List ℕ → Option Line
by_verb verb rest =
    if bytes_eq verb (codes "after") then after_line rest
    else (if bytes_eq verb (codes "tick") then tick_line rest
    else (if bytes_eq verb (codes "clear") then clear_line rest
    else (if bytes_eq verb (codes "due") then due_line rest else None)))

-- after NOW DELAY, tick NOW EVERY, clear ID, or due NOW N
unfoldable pub line_of : List ℕ → Option Line
line_of text = do
  p ← part_at 32 text
  by_verb p.0 p.1

abbrev pub with_line : Line → Result (List Line) ℕ → Result (List Line) ℕ
with_line e (Ok es) = Ok (e ∷ es)
with_line e (Err n) = Err n

abbrev pub behind_line : ℕ → Option Line → Result (List Line) ℕ → Result (List Line) ℕ
behind_line n None rest = Err n
behind_line n (Some e) rest = with_line e rest

-- what lines say, the first of which has this number, or the number of the first one that isn't in the grammar
unfoldable pub lines_from : ℕ → List (List ℕ) → Result (List Line) ℕ
lines_from n [] = Ok []
lines_from n (l ∷ ls) = behind_line n (line_of l) (lines_from (n + 1) ls)
