-- The settings as the laws have them.
use Rattle.std.specs.Prelude.{false}
use Rattle.sw_settings.specs.declared.values.Values.{Values}
use Rattle.sw_settings.specs.Columns.{columns_named}
use Rattle.sw_settings.specs.Framings.{framing_of}
use Rattle.sw_record.specs.Terms.{Terms}
use Rattle.sw_table_laws.specs.Table.{Shape}
use Rattle.sw_table_laws.specs.Sizes.{raised, pool_of}

-- what a core's record is judged by: each core starts, and its net doesn't fail
abbrev pub terms_of : Values → Terms
terms_of v = record {
  framing = framing_of v;
  mode = v.dispatch_mode;
  worker_num = v.worker_num;
  tasker_num = v.task_worker_num;
  reactor_num = v.reactor_num;
  max_conn = v.max_conn;
  session_last = v.session_last;
  buffer_size = v.socket_buffer_size;
  pipe_capacity = v.pipe_capacity;
  columns = columns_named v.table_columns;
  table_last_call = v.table_last_call;
  start_fault = false;
  listen_fault = false;
}

-- the columns and the size of its Table
abbrev pub shape_of : Values → Shape
shape_of v = record { columns = columns_named v.table_columns; size = raised v.table_size; pool = pool_of (raised v.table_size) v.table_percent }
