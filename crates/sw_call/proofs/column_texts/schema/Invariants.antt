use Rattle.std.proofs.Common.{◌≡◌, Ok, drop}
use Rattle.sw_call.specs.Columns.{schema_with, schema_of}
use Rattle.sw_call.proofs.column_texts.schema.Given as goal

abbrev pub invariant-loop-c : goal.invariant-loop-c
invariant-loop-c l = schema_with (Ok l.schema) (drop l.c-index l.c-items) ≡ schema_of l.c-items
