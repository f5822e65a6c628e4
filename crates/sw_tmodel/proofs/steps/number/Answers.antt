use Rattle.std.proofs.Common.{subst}
use Rattle.sw_tmodel.specs.Steps.{IsFound}
use Rattle.sw_tmodel.proofs.PlaceLaws.{zero_number}
use Rattle.sw_tmodel.proofs.steps.number.Goals as goal

pub returns-in-None : goal.returns-in-None
returns-in-None c = zero_number c.args.store.now c.args.key.now c.args.name.now (subst (λ o. IsFound c.args.store.now c.args.key.now o) c.in-None.is c.requires)
