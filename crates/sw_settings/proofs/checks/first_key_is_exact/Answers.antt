use Rattle.sw_settings.proofs.FirstLaw.{is_first}
use Rattle.sw_settings.proofs.checks.first_key_is_exact.Goals as goal

pub returns : goal.returns
returns c = is_first c.args.check
