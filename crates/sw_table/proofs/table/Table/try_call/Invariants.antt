use Rattle.sw_table_join.specs.Tables.{call_on}
use Rattle.sw_table.proofs.table.Table.try_call.Given as goal

abbrev pub ghosts-count : goal.ghosts-count
ghosts-count a = record { made = call_on a.self.now a.call.now }

abbrev pub ghosts-keyed : goal.ghosts-keyed
ghosts-keyed a = record { made = call_on a.self.now a.call.now }
