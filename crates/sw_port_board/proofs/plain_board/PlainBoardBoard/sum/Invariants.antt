use Rattle.std.proofs.Common.{◌≡◌, map, sum, take}
use Rattle.sw_port_board.specs.Board.{capped}
use Rattle.sw_port_board.specs.PlainBoard.{count_of}
use Rattle.sw_port_board.proofs.plain_board.PlainBoardBoard.sum.Given as goal

abbrev pub invariant-loop-counts : goal.invariant-loop-counts
invariant-loop-counts l = l.total ≡ capped (sum (map (count_of l.c) (take l.counts-index l.counts-items)))
