use Rattle.std.proofs.Common.{◌≡◌, ◌-◌, List, length, take, ap, sym, subst, ◌∙◌, arith, vec_len}
use Rattle.std.specs.Prelude.{All, remove}
use Rattle.sw_tmodel.specs.declared.plain_row.PlainRow.{PlainRow}
use Rattle.sw_tmodel.specs.PlainRows.{RowList, IsShaped}
use Rattle.sw_tmodel.proofs.RowSteps.{row_removed, replaced}
use Rattle.sw_tmodel.proofs.rows.Rows.remove.Goals as goal

pub invariant_of-self : goal.invariant_of-self
invariant_of-self c =
    let count : length c.move_behind.new.rows ≡ vec_len c.self.inside.rows = omega (arith, c.move_behind.auto.rows, c.deref_mut.ensures.len) in
    (omega (arith, c.self.invariant.0), subst (All (IsShaped c.self.inside.schema)) (sym (replaced (vec_len c.self.inside.rows) c.move_behind.new.rows c.self.inside.rows.items count)) (c.move_behind.ensures.shaped c.self.inside.schema (subst (All (IsShaped c.self.inside.schema)) (sym c.deref_mut.ensures.value) c.self.invariant.1)))

pub returns : goal.returns
returns c =
    let count : length c.move_behind.new.rows ≡ vec_len c.self.inside.rows = omega (arith, c.move_behind.auto.rows, c.deref_mut.ensures.len) in
    let columns = ap (λ (r : RowList). r.columns) c.self.view_is in
    let room = ap (λ (r : RowList). r.room) c.self.view_is in
    let entries = ap (λ (r : RowList). r.entries) c.self.view_is in
    let shown = ap (take (c.self.inside.len - 1)) (replaced (vec_len c.self.inside.rows) c.move_behind.new.rows c.self.inside.rows.items count) ∙ c.move_behind.ensures.shown ∙ ap (λ (xs : List PlainRow). remove (take c.self.inside.len xs) c.args.at) c.deref_mut.ensures.value in
    let left = row_removed c.self.inside.rows.items _ c.self.inside.len (c.self.inside.len - 1) c.args.at c.args.self.now.entries entries shown in
    λ i. record { columns = columns i; entries = left i; room = room i }
