use Rattle.sw_world_fits.proofs.Book.{claim_fits}
use Rattle.sw_world_fits.proofs.plain_book.claims_fit.Goals as goal

pub returns : goal.returns
returns c = λ t b p st some y ip. claim_fits t b p st some y ip
