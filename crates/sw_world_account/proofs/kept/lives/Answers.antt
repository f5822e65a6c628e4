use Rattle.std.proofs.Common.{map}
use Rattle.sw_world_account.specs.Kept.{conn_session}
use Rattle.sw_world_account.proofs.Places.{one_more}
use Rattle.sw_world_account.proofs.kept.lives.Goals as goal

pub loop-at-preserved : goal.loop-at-preserved
loop-at-preserved c =
    one_more c.args.sessions.now.items c.loop-at.sessions.items c.push.new.self.items (map conn_session c.args.reactor.now.line.conns) c.loop-at.at c.session_at.result
    c.in_ok-push.ensures.items c.loop-at.invariant c.session_at.ensures
