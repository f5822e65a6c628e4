use Rattle.sw_world_fits.proofs.Board.{add_fits}
use Rattle.sw_world_fits.proofs.plain_board.adds_fit.Goals as goal

pub returns : goal.returns
returns c = λ t b d p y c st there turn fits g. add_fits t b d p y c st there turn fits g
