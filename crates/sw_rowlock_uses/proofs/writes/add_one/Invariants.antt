use Rattle.sw_rowlock_uses.proofs.writes.add_one.Given as goal

abbrev pub ghosts-draw_write : goal.ghosts-draw_write
ghosts-draw_write a = record { written = (a.row, a.new) }
