-- What clauses see of a pipe's counter.
use Rattle.std.specs.Prelude.{ℕ}
use Rattle.atomic_table.specs.Seated.{TableId}
use Rattle.sw_pipe.specs.declared.counter.Counter.{Counter}

abbrev pub counter_id : Counter → TableId
counter_id c = c.table.shared.table_id

abbrev pub counter_senders : Counter → ℕ
counter_senders c = c.senders
