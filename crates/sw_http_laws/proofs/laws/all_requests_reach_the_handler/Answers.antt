use Rattle.sw_join.specs.Legal.{LegalFor}
use Rattle.sw_http_laws.proofs.Link.{given_all}
use Rattle.sw_http_laws.proofs.laws.all_requests_reach_the_handler.Goals as goal

pub returns : goal.returns
returns g c = λ tell tells max t shape r out net s l w web right drained served. given_all g.H.Handler.acts tell tells max t (LegalFor shape) r out net s l w web right drained served
