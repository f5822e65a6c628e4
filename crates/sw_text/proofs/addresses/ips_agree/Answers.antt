use Rattle.sw_text.proofs.AddressLaw.{ips}
use Rattle.sw_text.proofs.addresses.ips_agree.Goals as goal

pub returns : goal.returns
returns c = ips
