use Rattle.std.proofs.Common.{◌≡◌, subst}
use Rattle.sw_conn.specs.Conn.{kind_of}
use Rattle.sw_reactor.specs.Serving.{counted}
use Rattle.sw_reactor.specs.Turn.{Pushes}
use Rattle.sw_reactor.proofs.reactor.Reactor.tell.Goals as goal

pub returns-clause-tells : goal.returns-clause-tells
returns-clause-tells g c =
    let counts : c.count_kind.new.self ≡ counted (kind_of c.args.event) c.aim-worker.new.self = rw c.kind_of_event.ensures at c.count_kind.ensures in
    (c.aim-worker.result, (c.aim-worker.new.self, (c.aim-worker.ensures.aims, subst (λ r. Pushes c.aim-worker.result c.args.event r c.push.result c.push.new.self) counts c.push.ensures)))
