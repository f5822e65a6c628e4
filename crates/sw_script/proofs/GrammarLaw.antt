-- What reading a text answers, in terms of its lines alone.
use Rattle.std.proofs.Common.{ℕ, List}
use Rattle.sw_text.specs.Parts.{lines_of}
use Rattle.sw_lines.proofs.LinesLaw.{read_so}
use Rattle.sw_script.specs.Script.{line_read, no_rules, script_of, IsRead}

pub is_read : (text : List ℕ) → IsRead text (script_of text)
is_read text = read_so line_read 1 no_rules (lines_of text)
