use Rattle.std.proofs.Common.{map}
use Rattle.std.specs.Prelude.{string_bytes}
use Rattle.sw_play.proofs.Texts.{played_so}
use Rattle.sw_play.proofs.running.run.Goals as goal

pub returns : goal.returns
returns g c = played_so g.H.Handler.acts g.T.Handler.acts c.args.settings.now (map (λ hs. hs.items) c.args.workers.items) c.args.taskers.items c.args.lines c.in_ok-world.world.state c.play.new.world.state string_bytes c.account.result c.in_ok-world.ensures c.in_ok-play.ensures c.account.ensures.printed c.account.ensures.right
