use Rattle.std.proofs.Common.{◌≡◌, ◌-◌}
use Rattle.sw_script.specs.Rules.{acts_of}
use Rattle.sw_script.proofs.ActSteps.{behind}
use Rattle.sw_script.proofs.rule.acts.Given as goal

-- the acts so far, and those of the text that is left
abbrev pub invariant-loop : goal.invariant-loop
invariant-loop l = behind l.moves (acts_of (64 - l.counter) l.own l.rest) ≡ acts_of 64 l.own l.text
