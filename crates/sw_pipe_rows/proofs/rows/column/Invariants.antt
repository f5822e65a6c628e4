use Rattle.std.proofs.Common.{◌≡◌, map, length}
use Rattle.sw_pipe_rows.specs.Rows.{glue}
use Rattle.sw_pipe_rows.proofs.rows.column.Given as goal

abbrev pub invariant-loop-row : goal.invariant-loop-row
invariant-loop-row g l = record {
  glued : map (λ row. row.items) l.yielded ≡ glue (map (λ row. row.items) l.rest.items) l.last.items;
  rests : length l.rest.items ≡ length l.last.items;
  length : length l.last.items ≡ length l.yielded;
}
