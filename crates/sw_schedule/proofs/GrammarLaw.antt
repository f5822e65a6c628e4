-- What reading a text answers, in terms of its lines alone.
use Rattle.std.proofs.Common.{◌≡◌, ℕ, List, Result, Ok, Err, refl}
use Rattle.sw_text.specs.Parts.{lines_of}
use Rattle.sw_lines.specs.Lines.{lines_read, IsRead as AreRead}
use Rattle.sw_lines.proofs.LinesLaw.{read_so}
use Rattle.sw_schedule.specs.Draft.{line_read, fresh, finished, schedule_of}
use Rattle.sw_schedule.specs.Grammar.{IsRead}
use Rattle.sw_schedule.specs.declared.draft.Draft.{Draft}

so_read : (text : List ℕ) (r : Result Draft ℕ) → AreRead line_read 1 fresh (lines_of text) r → IsRead text (finished r)
so_read text (Ok d) t = (d, t, refl)
so_read text (Err n) t = t

pub is_read : (text : List ℕ) → IsRead text (schedule_of text)
is_read text = so_read text (lines_read line_read 1 (Ok fresh) (lines_of text)) (read_so line_read 1 fresh (lines_of text))
