-- What a whole text is by what reading it answers.
use Rattle.std.specs.Prelude.{◌≡◌, ℕ, ◌+◌, List, length, Result, Ok, Err}
use Rattle.sw_text.specs.Parts.{lines_of}
use Rattle.sw_lines.specs.Lines.{Leads, IsFirstOut}
use Rattle.sw_schedule.specs.Draft.{line_read, fresh}
use Rattle.sw_schedule.specs.declared.draft.Draft.{Draft}
use Rattle.sw_schedule.specs.declared.schedule.Schedule.{Schedule}

-- what a text is, by what reading it answers: a schedule where each line is in the grammar, and else the number of the first line
-- that is out of it
abbrev pub IsRead : List ℕ → Result Schedule ℕ → Type 0
IsRead text (Ok x) = (d : Draft) × Leads line_read fresh (lines_of text) d × (x ≡ record { pairs = d.pairs; script = d.script; lines = d.lines })
IsRead text (Err n) = (front : List (List ℕ)) × IsFirstOut line_read fresh (lines_of text) front × (n ≡ 1 + length front)
