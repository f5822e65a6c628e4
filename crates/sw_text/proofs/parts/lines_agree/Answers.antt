use Rattle.sw_text.proofs.LineLaw.{are_lines}
use Rattle.sw_text.proofs.parts.lines_agree.Goals as goal

pub returns : goal.returns
returns c = are_lines
