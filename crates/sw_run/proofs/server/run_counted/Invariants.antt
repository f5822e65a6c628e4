use Rattle.sw_parts.specs.Boards.{board_of}
use Rattle.std.specs.Arc.{arc_value}
use Rattle.sw_run.proofs.server.run_counted.Given as goal

abbrev pub ghosts-run_named : goal.ghosts-run_named
ghosts-run_named g a = record { book = a.clerk.book; board = board_of a.seats.items; table = arc_value a.table }
