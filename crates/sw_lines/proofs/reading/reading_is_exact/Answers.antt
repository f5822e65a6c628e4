use Rattle.sw_lines.proofs.LinesLaw.{read_so}
use Rattle.sw_lines.proofs.reading.reading_is_exact.Goals as goal

pub returns : goal.returns
returns g c = read_so g.R.LineReader.with_line
