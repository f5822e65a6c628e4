use Rattle.sw_column.proofs.CellLaws.{set_roomy, text_roomy, text_set}
use Rattle.std.proofs.Common.{subst, sym}
use Rattle.std.specs.Prelude.{IsTrue}
use Rattle.sw_column.specs.Cells.{is_roomy}
use Rattle.sw_column.specs.declared.cell.Cell.{Cell}
use Rattle.sw_column.proofs.row_buf.RowBuf.set_text.Goals as goal

pub invariant_of-self : goal.invariant_of-self
invariant_of-self c = set_roomy c.self.inside.cells.items c.args.at c.index_mut.result.now c.put_text.new.self c.index_mut.ensures.value
    (λ h. subst (λ (x : Cell). IsTrue (is_roomy x)) (sym c.put_text.ensures) (text_roomy c.index_mut.result.now c.args.text.now h)) c.self.invariant

pub returns : goal.returns
returns c = text_set c.self.inside.cells.items c.args.at c.index_mut.result.now c.put_text.new.self c.args.text.now c.args.self.now c.self.invariant c.self.view_is c.index_mut.ensures.value c.put_text.ensures c.requires.place c.requires.room
