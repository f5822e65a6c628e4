use Rattle.std.proofs.Common.{sym, subst}
use Rattle.sw_handler.specs.Log.{inner_of, log_of}
use Rattle.sw_record.specs.Words.{Log}
use Rattle.sw_http_laws.specs.Inside.{Ran}
use Rattle.sw_http_laws.proofs.Runs.{ran_more}
use Rattle.sw_http_laws.proofs.laws.logged_workers_have_run.Goals as goal

pub returns : goal.returns
returns g c = λ tell max old new given act ran acted.
    subst (λ (l : Log). Ran g.H.Handler.acts tell max l (inner_of new)) (sym acted.1)
    (ran_more g.H.Handler.acts tell max (log_of old) (inner_of old) (inner_of new) given act ran acted.0)
