use Rattle.sw_join.specs.Legal.{LegalFor}
use Rattle.sw_world_fits.proofs.Table.{refused_fits}
use Rattle.sw_world_fits.proofs.plain_table.refusals_fit.Goals as goal

pub returns : goal.returns
returns c = λ t shape y p ports st call q row new fault is. refused_fits t shape (LegalFor shape) y p ports st call q row new fault is
