use Rattle.sw_dump.proofs.CallSteps.{set_fits}
use Rattle.sw_dump.proofs.unfit.refused_in.Goals as goal

pub returns-in-None-clause-none : goal.returns-in-None-clause-none
returns-in-None-clause-none c = set_fits c.args.schema.now c.args.key.now c.args.pairs.now c.requires c.in-None.ensures.none
