use Rattle.sw_join.specs.Legal.{LegalFor}
use Rattle.sw_world_fits.proofs.Board.{stopped_fits}
use Rattle.sw_world_fits.proofs.plain_board.stop_looks_fit.Goals as goal

pub returns : goal.returns
returns c = λ t shape b d p y set st g. stopped_fits t (LegalFor shape) b d p y set st g
