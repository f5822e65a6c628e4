use Rattle.std.proofs.Common.{◌≡◌, Some, sym, ap, ◌∙◌}
use Rattle.std.specs.Prelude.{option_map, option_and_then}
use Rattle.serde_json.specs.View.{view}
use Rattle.serde_json.specs.Read.{read}
use Rattle.sw_settings_json.specs.Json.{pairs_in, json_pairs}
use Rattle.sw_settings_json.proofs.Texts.{pairs_of_valid, pairs_of_invalid}
use Rattle.sw_settings_json.proofs.reading.pairs.Goals as goal

pub returns-in_default : goal.returns-in_default
returns-in_default c = sym (pairs_of_invalid c.args.text.now c.in_default.ensures.cases.0)

pub returns-in-Some : goal.returns-in-Some
returns-in-Some c =
    let same = c.in-Ok.ensures.cases in
    let is : read c.args.text.now ≡ Some (view c.in-Some.value) = ap read (sym same.0) ∙ sym c.in_ok-value.ensures ∙ ap (option_map view) c.in-Some.is in
    let all : json_pairs c.args.text.now ≡ pairs_in (view c.in-Some.value) = pairs_of_valid c.args.text.now same.1 ∙ ap (option_and_then pairs_in) is in
    rw all c.pairs_in.ensures
