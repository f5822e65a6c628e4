use Rattle.std.proofs.Common.{◌≡◌, ◌++◌, [], ◌∷◌, not, sym, ap, ◌∙◌}
use Rattle.sw_settings.specs.declared.pair.Pair.{Pair}
use Rattle.sw_set_lines.specs.Pairs.{has_name}
use Rattle.sw_set_lines.proofs.NameLaw.{names_more, names_has, taken, new_pair}
use Rattle.sw_set_lines.proofs.pairs.add.Goals as goal

pub returns-then-not-branch-clause-ok : goal.returns-then-not-branch-clause-ok
returns-then-not-branch-clause-ok c =
    let has : has_name c.args.items.now.items c.args.name.now ≡ not c.in_ok-insert.field-0 = names_has c.args.names.now.keys c.args.items.now.items c.in_ok-text.text c.args.name.now c.in_ok-insert.field-0 c.requires c.in_ok-text.ensures.items c.in_ok-insert.ensures.added in
    taken c.args.items.now.items c.args.name.now c.args.value (has ∙ ap not c.if-not-branch.true)

pub returns-clause-names : goal.returns-clause-names
returns-clause-names c =
    let p : Pair = record { name = c.of.result; value = c.args.value } in
    let pushes : c.push_reserved.new.self.items ≡ c.args.items.now.items ++ p ∷ [] = rw c.reserve.ensures.items at c.push_reserved.ensures.items in
    names_more c.args.names.now.keys c.insert.new.self.keys c.in_ok-text.text c.args.items.now.items c.push_reserved.new.self.items p c.requires c.in_ok-insert.ensures.keys (c.in_ok-text.ensures.items ∙ sym (c.of.ensures ∙ c.in_ok-bytes.ensures.items)) pushes

pub returns-clause-ok : goal.returns-clause-ok
returns-clause-ok c =
    let has : has_name c.args.items.now.items c.args.name.now ≡ not c.in_ok-insert.field-0 = names_has c.args.names.now.keys c.args.items.now.items c.in_ok-text.text c.args.name.now c.in_ok-insert.field-0 c.requires c.in_ok-text.ensures.items c.in_ok-insert.ensures.added in
    let named : c.of.result ≡ c.args.name.now = c.of.ensures ∙ c.in_ok-bytes.ensures.items in
    let pushes : c.push_reserved.new.self.items ≡ c.args.items.now.items ++ record { name = c.args.name.now; value = c.args.value } ∷ [] = rw (c.reserve.ensures.items, named) at c.push_reserved.ensures.items in
    new_pair c.args.items.now.items c.push_reserved.new.self.items c.args.name.now c.args.value (has ∙ ap not c.if-not-branch.false) pushes
