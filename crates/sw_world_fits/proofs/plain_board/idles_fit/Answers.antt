use Rattle.sw_join.specs.Legal.{LegalFor}
use Rattle.sw_world_fits.proofs.Board.{idle_fits}
use Rattle.sw_world_fits.proofs.plain_board.idles_fit.Goals as goal

pub returns : goal.returns
returns c = λ t shape b d p y which from x st less g. idle_fits t (LegalFor shape) b d p y which from x st less g
