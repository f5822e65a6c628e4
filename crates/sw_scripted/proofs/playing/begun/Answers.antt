use Rattle.std.proofs.Common.{◌≡◌, ◌<◌, [], Some, length, drop, get_or, sym, ap, refl, ◌∙◌}
use Rattle.std.specs.Prelude.{slice_get}
use Rattle.std.proofs.lemmas.Option.{slice_get_read}
use Rattle.sw_script.specs.Script.{rules_on}
use Rattle.sw_scripted.specs.Fitting.{kind_of, bytes_of, first_fit}
use Rattle.sw_scripted.specs.Scripted.{moves_by}
use Rattle.sw_scripted.specs.Steps.{first_due, kept}
use Rattle.sw_scripted.proofs.Steps.{begun_so}
use Rattle.sw_scripted.proofs.playing.begun.Goals as goal

pub returns-in_ok-kept-in-Some-2 : goal.returns-in_ok-kept-in-Some-2
returns-in_ok-kept-in-Some-2 c =
    let s = c.args.script.now in
    let e = c.args.event.now in
    let rules = rules_on (kind_of e) s in
    let rules_are : c.as_slice-rules.result.now ≡ rules = c.as_slice-rules.ensures ∙ c.rules.ensures ∙ ap (λ on. rules_on on s) c.kind_of-on.ensures in
    let fits : first_fit rules (bytes_of e) ≡ Some c.in-Some.at = rw (rules_are, c.bytes_of.ensures) at (sym c.in-Some.ensures.value) in
    let within : c.in-Some.at < length rules = rw rules_are at c.in-Some.ensures.within in
    let read : c.index-rules-at.result ≡ get_or rules c.in-Some.at c.index-rules-at.result = rw rules_are at c.index-rules-at.is in
    let is : slice_get rules c.in-Some.at ≡ Some c.index-rules-at.result = slice_get_read rules (length rules) c.in-Some.at c.index-rules-at.result refl within read in
    let due : Some (c.in-Some-2.act, c.in-Some-2.made) ≡ first_due 0 (moves_by e (Some c.index-rules-at.result)) [] = sym c.in-Some-2.is ∙ c.in_ok-first.ensures in
    let keeps : c.in_ok-kept-in-Some-2.field-0 ≡ kept (drop 1 c.index-rules-at.result.moves) (bytes_of e) = rw c.bytes_of-in-Some-2.ensures at c.in_ok-kept-in-Some-2.ensures in
    rw (c.kind_of-on.ensures, c.session_of.ensures) (begun_so s e c.in-Some.at c.index-rules-at.result c.in-Some-2.act c.in-Some-2.made c.in_ok-kept-in-Some-2.field-0 fits is due keeps)
