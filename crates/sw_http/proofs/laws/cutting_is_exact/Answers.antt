use Rattle.sw_http.proofs.Calls.{exact}
use Rattle.sw_http.proofs.laws.cutting_is_exact.Goals as goal

pub returns : goal.returns
returns c = exact
