use Rattle.sw_base.specs.declared.table.Call.TheVariants.{Count}
use Rattle.sw_table_join.specs.Tables.{call_on}
use Rattle.sw_table.proofs.table.Table.part.Given as goal

abbrev pub ghosts-part_held : goal.ghosts-part_held
ghosts-part_held a = record { made = call_on a.self.now Count }
