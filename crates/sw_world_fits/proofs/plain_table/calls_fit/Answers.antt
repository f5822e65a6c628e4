use Rattle.sw_world_fits.proofs.Table.{placed_fits}
use Rattle.sw_world_fits.proofs.plain_table.calls_fit.Goals as goal

pub returns : goal.returns
returns c = λ t shape y p ports st legal call q row new placed is. placed_fits t shape y p ports st legal call q row new placed is
