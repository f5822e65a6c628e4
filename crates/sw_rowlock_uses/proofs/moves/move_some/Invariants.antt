use Rattle.sw_rowlock_uses.proofs.moves.move_some.Given as goal

abbrev pub ghosts-move_as : goal.ghosts-move_as
ghosts-move_as a = record { moved = (a.row, a.amount) }
