use Rattle.sw_join.specs.Legal.{LegalFor}
use Rattle.sw_world_fits.proofs.Book.{bind_fits}
use Rattle.sw_world_fits.proofs.plain_book.binds_fit.Goals as goal

pub returns : goal.returns
returns c = λ t shape y b p st some s u n nu. bind_fits t (LegalFor shape) y b p st some s u n nu
