use Rattle.sw_beat.proofs.Ends.{ends}
use Rattle.sw_beat.proofs.laws.ends_have_causes.Goals as goal

pub returns : goal.returns
returns g c = ends g.L.Link.read_gives g.C.Clock.now_gives
