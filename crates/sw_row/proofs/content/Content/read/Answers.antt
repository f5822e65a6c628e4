use Rattle.std.proofs.Common.{sym, subst}
use Rattle.sw_column.specs.Values.{IsRow}
use Rattle.sw_row.proofs.Fitting.{all_fit}
use Rattle.sw_row.proofs.content.Content.read.Goals as goal

pub returns-clause-fit : goal.returns-clause-fit
returns-clause-fit c = subst (IsRow c.args.schema.now) (sym c.unpack.ensures.values) (all_fit c.args.schema.now c.self.inside.bytes c.is_sound.ensures.2)
