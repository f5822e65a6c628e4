use Rattle.sw_http_laws.proofs.Cuts.{cut_begins}
use Rattle.sw_http_laws.proofs.laws.cut_requests_begin_all.Goals as goal

pub returns : goal.returns
returns c = λ max front bytes qs ps rest begins cut all. cut_begins max front bytes qs ps rest begins cut all
