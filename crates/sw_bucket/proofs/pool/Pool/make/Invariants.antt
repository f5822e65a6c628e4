use Rattle.std.proofs.Common.{◌≡◌, vec_len, vec_capacity}
use Rattle.sw_bucket.specs.Rows.{AllAlone}
use Rattle.sw_bucket.proofs.pool.Pool.make.Given as goal

-- so many rows were made, none has a row behind it, and the room is as at the start
abbrev pub invariant-loop : goal.invariant-loop
invariant-loop l = record {
  count : vec_len l.spare ≡ l.counter;
  room : vec_capacity l.spare ≡ l.rows;
  alone : AllAlone l.spare.items;
}
