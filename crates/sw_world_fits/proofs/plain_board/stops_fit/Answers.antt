use Rattle.sw_world_fits.proofs.Board.{stop_fits}
use Rattle.sw_world_fits.proofs.plain_board.stops_fit.Goals as goal

pub returns : goal.returns
returns c = λ t b d p y st g. stop_fits t b d p y st g
