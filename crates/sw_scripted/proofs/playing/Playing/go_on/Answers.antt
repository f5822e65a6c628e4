use Rattle.std.proofs.Common.{◌≡◌, Some, sym, ◌∙◌}
use Rattle.sw_log_text.specs.Answers.{answer_text}
use Rattle.sw_scripted.specs.Scripted.{rule_at, rest_of}
use Rattle.sw_scripted.specs.Steps.{first_due}
use Rattle.sw_scripted.proofs.Steps.{gone_on}
use Rattle.sw_scripted.proofs.playing.Playing.go_on.Goals as goal

pub returns-in-Some : goal.returns-in-Some
returns-in-Some c =
    let p = c.args.self.now in
    let due : Some (c.in-Some.act, c.in-Some.made) ≡ first_due p.made (rest_of p (rule_at c.args.script.now p)) (answer_text c.args.answer.now) = sym c.in-Some.is ∙ c.in_ok-due.ensures in
    gone_on p c.in-Some.made c.in-Some.act (answer_text c.args.answer.now) (rule_at c.args.script.now p) due
