use Rattle.std.proofs.Common.{ℕ, List, ◌∷◌, None, Some, length, rules, ap, sym, ◌∙◌}
use Rattle.std.proofs.lemmas.Bool.{eqb-true}
use Rattle.sw_text.proofs.LineSteps.{first_line, no_lines, no_lines_in}
use Rattle.sw_text.proofs.parts.next_line.Goals as goal

pub returns-then-is_empty-clause-none : goal.returns-then-is_empty-clause-none
returns-then-is_empty-clause-none c = no_lines_in c.args.text.now (eqb-true (length c.args.text.now) 0 (sym c.is_empty.ensures ∙ c.if-is_empty.true))

pub returns-in-None-clause-line : goal.returns-in-None-clause-line
returns-in-None-clause-line c = first_line c.args.text.now c.cut.result.0.now None (search rules) (search rules) ∙ ap (λ (ls : List (List ℕ)). c.cut.result.0.now ∷ ls) (sym no_lines)

pub returns-in-Some-clause-line : goal.returns-in-Some-clause-line
returns-in-Some-clause-line c = first_line c.args.text.now c.cut.result.0.now (Some c.in-Some.rest.now) (search rules) (search rules)
