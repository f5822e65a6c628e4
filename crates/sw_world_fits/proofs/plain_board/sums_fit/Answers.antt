use Rattle.sw_join.specs.Legal.{LegalFor}
use Rattle.sw_world_fits.proofs.Board.{sum_fits}
use Rattle.sw_world_fits.proofs.plain_board.sums_fit.Goals as goal

pub returns : goal.returns
returns c = λ t shape b d p y c n st g. sum_fits t (LegalFor shape) b d p y c n st g
