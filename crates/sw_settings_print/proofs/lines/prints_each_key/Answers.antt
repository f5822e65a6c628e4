use Rattle.std.proofs.Common.{refl}
use Rattle.sw_settings_print.specs.Print.{lines}
use Rattle.sw_settings_print.proofs.lines.prints_each_key.Goals as goal

pub returns : goal.returns
unfolding lines
returns c = λ v. refl
