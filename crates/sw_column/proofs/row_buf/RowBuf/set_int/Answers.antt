use Rattle.std.proofs.Common.{◌≡◌, ◌∙◌, subst, sym, ap, arith}
use Rattle.std.proofs.lemmas.Int.{ints}
use Rattle.std.specs.Prelude.{IsTrue}
use Rattle.sw_column.specs.Cells.{is_roomy, with_int}
use Rattle.sw_column.specs.declared.cell.Cell.{Cell}
use Rattle.sw_column.proofs.CellLaws.{set_roomy, int_roomy, int_set}
use Rattle.sw_column.proofs.row_buf.RowBuf.set_int.Goals as goal

pub invariant_of-self : goal.invariant_of-self
invariant_of-self c =
    let made : c.put_int.new.self ≡ with_int c.index_mut.result.now c.args.n = c.put_int.ensures ∙ ap (with_int c.index_mut.result.now) (omega (arith, ints)) in
    set_roomy c.self.inside.cells.items c.args.at c.index_mut.result.now c.put_int.new.self c.index_mut.ensures.value
    (λ h. subst (λ (x : Cell). IsTrue (is_roomy x)) (sym made) (int_roomy c.index_mut.result.now c.args.n h)) c.self.invariant

pub returns : goal.returns
returns c =
    let made : c.put_int.new.self ≡ with_int c.index_mut.result.now c.args.n = c.put_int.ensures ∙ ap (with_int c.index_mut.result.now) (omega (arith, ints)) in
    int_set c.self.inside.cells.items c.args.at c.index_mut.result.now c.put_int.new.self c.args.n c.args.self.now c.self.view_is c.index_mut.ensures.value made c.requires
