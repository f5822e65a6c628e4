use Rattle.std.proofs.Common.{sym, ◌∙◌}
use Rattle.sw_text.specs.Parts.{lines_of}
use Rattle.sw_audit.proofs.LineSteps.{head_out}
use Rattle.sw_audit.proofs.reading.read.Goals as goal

pub returns-in-None-2-clause-value : goal.returns-in-None-2-clause-value
returns-in-None-2-clause-value c = head_out c.in-Some.line.now (lines_of c.in-Some.rest.now) c.args.text.now (sym c.in_ok-head-in-Some.ensures.value ∙ c.in-None-2.is) c.in-Some.ensures.line
