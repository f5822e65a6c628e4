use Rattle.sw_join.specs.Legal.{LegalFor}
use Rattle.sw_world_fits.proofs.Book.{release_fits}
use Rattle.sw_world_fits.proofs.plain_book.releases_fit.Goals as goal

pub returns : goal.returns
returns c = λ t shape y b p st some s n own. release_fits t (LegalFor shape) y b p st some s n own
