-- Names of nothing, where no server is named.
use Rattle.std.specs.Prelude.{[]}
use Rattle.atomic_table.specs.Seated.{TableId}
use Rattle.sw_board.specs.Values.{BoardId}
use Rattle.sw_rowlock.specs.declared.calls.Contents.{Contents}
use Rattle.sw_rowlock.specs.Seats.{LocksNow}
use Rattle.sw_table_laws.specs.Buckets.{BucketNow, PoolNow}
use Rattle.sw_table_join.specs.Tables.{SharedNow}

-- no words
abbrev pub no_words : TableId
no_words = record { words = 0; slots = 0; slot_names = []; views_name = 0; atom = 0; block = 0; offset = 0 }

-- no board
abbrev pub no_board : BoardId
no_board = record { words = no_words; sizes = record { workers = 0; taskers = 0; actors = 0 } }

-- no rows
abbrev pub no_rows : Contents BucketNow PoolNow
no_rows = record { rows = []; pool = record { spare = 0; room = 0; last_call = 0 }; count = 0 }

abbrev pub no_locks : LocksNow BucketNow PoolNow
no_locks = record { id = no_words; start = no_rows }

-- no Table
abbrev pub no_table : SharedNow
no_table = record { columns = []; size = 0; percent = 0; last_call = 0; locks = no_locks }
