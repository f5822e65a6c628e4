use Rattle.std.proofs.Common.{◌≡◌, ◌+◌, ◌-◌, ◌++◌, ◌∷◌, [], Some, None, sym, ◌∙◌, arith}
use Rattle.std.specs.Option.{option_copied}
use Rattle.sw_script.specs.Moves.{move_of}
use Rattle.sw_script.specs.Parts.{first_act}
use Rattle.sw_script.specs.Rules.{acts_of}
use Rattle.sw_script.proofs.ActSteps.{behind, acts_none, acts_bad, acts_last, acts_next, acts_out}
use Rattle.sw_script.proofs.rule.acts.Goals as goal

pub returns-in_default : goal.returns-in_default
returns-in_default c =
    let none : first_act c.loop.rest.now ≡ None = sym c.in_default.ensures in
    acts_none c.loop.moves 64 c.loop.counter c.args.own c.loop.rest.now (acts_of 64 c.args.own c.args.text.now) (omega (arith, c.loop-test.true)) none c.loop.invariant

pub returns-in-None : goal.returns-in-None
returns-in-None c =
    let first : first_act c.loop.rest.now ≡ Some (c.in-Some.act.now, option_copied c.in-Some.after) = sym c.in-Some.ensures in
    let bad : move_of c.args.own c.in-Some.act.now ≡ None = sym c.in_ok-made.ensures ∙ c.in-None.is in
    acts_bad c.loop.moves 64 c.loop.counter c.args.own c.loop.rest.now c.in-Some.act.now (option_copied c.in-Some.after) (acts_of 64 c.args.own c.args.text.now) (omega (arith, c.loop-test.true)) first bad c.loop.invariant

pub returns-in-None-after : goal.returns-in-None-after
returns-in-None-after c =
    let first : first_act c.loop.rest.now ≡ Some (c.in-Some.act.now, option_copied c.in-Some.after) = sym c.in-Some.ensures in
    let last : first_act c.loop.rest.now ≡ Some (c.in-Some.act.now, None) = rw c.in-None-after.is at first in
    let made : move_of c.args.own c.in-Some.act.now ≡ Some c.in-Some-2.one = sym c.in_ok-made.ensures ∙ c.in-Some-2.is in
    let all : Some (c.loop.moves ++ c.in-Some-2.one ∷ []) ≡ acts_of 64 c.args.own c.args.text.now = acts_last c.loop.moves 64 c.loop.counter c.args.own c.loop.rest.now c.in-Some.act.now c.in-Some-2.one (acts_of 64 c.args.own c.args.text.now) (omega (arith, c.loop-test.true)) last made c.loop.invariant in
    rw c.in_ok-push-in-Some-2.ensures.ok all

pub loop-preserved : goal.loop-preserved
loop-preserved c =
    let first : first_act c.loop.rest.now ≡ Some (c.in-Some.act.now, option_copied c.in-Some.after) = sym c.in-Some.ensures in
    let next : first_act c.loop.rest.now ≡ Some (c.in-Some.act.now, Some c.in-Some-after.more.now) = rw c.in-Some-after.is at first in
    let made : move_of c.args.own c.in-Some.act.now ≡ Some c.in-Some-2.one = sym c.in_ok-made.ensures ∙ c.in-Some-2.is in
    let all : behind (c.loop.moves ++ c.in-Some-2.one ∷ []) (acts_of (64 - (c.loop.counter + 1)) c.args.own c.in-Some-after.more.now) ≡ acts_of 64 c.args.own c.args.text.now = acts_next c.loop.moves 64 c.loop.counter c.args.own c.loop.rest.now c.in-Some.act.now c.in-Some-after.more.now c.in-Some-2.one (acts_of 64 c.args.own c.args.text.now) (omega (arith, c.loop-test.true)) next made c.loop.invariant in
    rw c.in_ok-push-in-Some-2.ensures.ok all

pub returns : goal.returns
returns c = acts_out c.loop.moves 64 c.loop.counter c.args.own c.loop.rest.now (acts_of 64 c.args.own c.args.text.now) (omega (arith, c.loop-test.false)) c.loop.invariant
