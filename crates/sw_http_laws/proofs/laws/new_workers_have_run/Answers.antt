use Rattle.std.proofs.Common.{refl}
use Rattle.sw_http_laws.proofs.laws.new_workers_have_run.Goals as goal

pub returns : goal.returns
returns g c = λ tell max w fit made empty. record { first = w; fit = fit; made = made; empty = empty; follows = refl }
