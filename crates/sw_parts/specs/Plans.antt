-- What is shared goes by the settings.
use Rattle.std.specs.Prelude.{◌≡◌, ℕ, List}
use Rattle.sw_column.specs.declared.column.Column.{Column}
use Rattle.sw_port_board.specs.declared.crew.Sizes.{Sizes}
use Rattle.sw_settings.specs.declared.values.Values.{Values}
use Rattle.sw_settings.specs.Columns.{columns_named}

-- session words, board and Table are made as the settings say
pub record IsPlanned (v : Values) (slots : ℕ) (sizes : Sizes) (columns : List Column) : Type 0 where
  pub slots_are : slots ≡ v.max_conn
  pub workers : sizes.workers ≡ v.worker_num
  pub taskers : sizes.taskers ≡ v.task_worker_num
  pub columns_are : columns ≡ columns_named v.table_columns
