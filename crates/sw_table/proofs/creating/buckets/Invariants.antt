use Rattle.std.proofs.Common.{◌≡◌, replicate}
use Rattle.sw_table_join.specs.Calls.{empty_bucket}
use Rattle.sw_table.proofs.creating.buckets.Given as goal

-- so many buckets were made, and all are empty
abbrev pub invariant-loop : goal.invariant-loop
invariant-loop l = l.buckets.items ≡ replicate l.counter (empty_bucket l.schema)
