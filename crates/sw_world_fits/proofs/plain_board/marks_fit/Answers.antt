use Rattle.sw_world_fits.proofs.Board.{mark_fits}
use Rattle.sw_world_fits.proofs.plain_board.marks_fit.Goals as goal

pub returns : goal.returns
returns c = λ t b d p y idle st there turn g. mark_fits t b d p y idle st there turn g
