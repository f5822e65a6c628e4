use Rattle.sw_join.specs.Legal.{LegalFor}
use Rattle.sw_world_fits.proofs.Book.{look_fits}
use Rattle.sw_world_fits.proofs.plain_book.looks_fit.Goals as goal

pub returns : goal.returns
returns c = λ t shape y b p st some s n. look_fits t (LegalFor shape) y b p st some s n
