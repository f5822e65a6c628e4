use Rattle.std.proofs.Common.{◌≡◌, vec_len}
use Rattle.std.specs.Prelude.{All}
use Rattle.sw_tmodel.specs.PlainRows.{IsShaped}
use Rattle.sw_tmodel.proofs.plain_row.spare_rows.Given as goal

-- so many rows were made, and each has its shape
abbrev pub invariant-loop : goal.invariant-loop
invariant-loop l = record {
  count : vec_len l.rows ≡ l.counter;
  shaped : All (IsShaped l.schema) l.rows.items;
}
