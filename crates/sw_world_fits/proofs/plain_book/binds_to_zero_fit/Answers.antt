use Rattle.sw_join.specs.Legal.{LegalFor}
use Rattle.sw_world_fits.proofs.Book.{zero_fits}
use Rattle.sw_world_fits.proofs.plain_book.binds_to_zero_fit.Goals as goal

pub returns : goal.returns
returns c = λ t shape y b p st s n. zero_fits t (LegalFor shape) y b p st s n
