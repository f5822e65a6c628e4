use Rattle.sw_join.specs.Legal.{LegalFor}
use Rattle.sw_http_laws.proofs.Link.{given_in_order}
use Rattle.sw_http_laws.proofs.laws.requests_reach_the_handler_in_order.Goals as goal

pub returns : goal.returns
returns g c = λ tell tells max t shape r out net s l w web right served. given_in_order g.H.Handler.acts tell tells max t (LegalFor shape) r out net s l w web right served
