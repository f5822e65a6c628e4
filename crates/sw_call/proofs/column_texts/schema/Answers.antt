use Rattle.std.proofs.Common.{◌≡◌, ◌∷◌, [], ◌++◌, Some, None, Err, ap, ◌∙◌}
use Rattle.sw_column.specs.Columns.{column_fault}
use Rattle.sw_call.specs.Columns.{schema_of}
use Rattle.sw_call.proofs.SchemaSteps.{column_joins, column_refused, columns_done, refused_by}
use Rattle.sw_call.proofs.column_texts.schema.Goals as goal

pub loop-c-preserved : goal.loop-c-preserved
loop-c-preserved c =
    let cs = c.as_slice-c-items.result.now in
    let e = c.c-item.result in
    let s = c.loop-c.schema in
    let none : column_fault s e.name e.kind e.size ≡ None = rw c.bytes.ensures at c.in-Ok.ensures.ok in
    let added : c.column.new.self ≡ s ++ e ∷ [] = rw c.bytes.ensures at c.in-Ok.ensures.added in
    rw added (column_joins s cs c.loop-c.c-index e (schema_of cs) c.loop-c-test.true c.c-item.is none c.loop-c.invariant)

pub returns-in-Err : goal.returns-in-Err
returns-in-Err c =
    let cs = c.as_slice-c-items.result.now in
    let e = c.c-item.result in
    let s = c.loop-c.schema in
    let some : column_fault s e.name e.kind e.size ≡ Some c.in-Err.fault = refused_by (column_fault s e.name e.kind e.size) c.in-Err.fault (rw c.bytes.ensures at c.in-Err.ensures.refused) c.in_ok-refused-in-Err.ensures.other in
    ap Err c.in_ok-refused-in-Err.ensures.value ∙ column_refused s cs c.loop-c.c-index e c.in-Err.fault (schema_of cs) c.loop-c-test.true c.c-item.is some c.loop-c.invariant ∙ ap schema_of c.as_slice-c-items.ensures

pub returns : goal.returns
returns c =
    let cs = c.as_slice-c-items.result.now in
    columns_done c.loop-c.schema cs c.loop-c.c-index (schema_of cs) c.loop-c-test.false c.loop-c.invariant ∙ ap schema_of c.as_slice-c-items.ensures
