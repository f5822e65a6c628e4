use Rattle.std.proofs.Common.{◌≡◌, ap, ◌∙◌}
use Rattle.std.specs.FinMap as fin
use Rattle.sw_table_join.specs.Tables.{SharedNow}
use Rattle.sw_table.specs.Closing.{plain_of}
use Rattle.sw_table.proofs.closing.room.Goals as goal

pub returns-clause-plain : goal.returns-clause-plain
returns-clause-plain c =
    let i = c.table.inside in
    let same : record { columns = c.in_ok-schema.schema; size = _; percent = i.percent; last_call = i.last_call; calls = 0; state = fin.empty } ≡ _ = λ k. record { columns = c.in_ok-schema.ensures k; size = c.table.invariant.2 k; percent = i.percent; last_call = i.last_call; calls = 0; state = fin.empty } in
    c.in_ok-plain.ensures ∙ same ∙ ap (λ (y : SharedNow). plain_of y 0 fin.empty) c.table.view_is
