use Rattle.sw_http_laws.proofs.laws.logged_handlers_tell.Goals as goal

pub returns : goal.returns
returns g c = λ old given act new acted. acted.1
