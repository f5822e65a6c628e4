use Rattle.std.proofs.Common.{refl, ap, arith}
use Rattle.sw_reactor.proofs.reactor.Reactor.new.Goals as goal

pub returns-clause-ready : goal.returns-clause-ready
returns-clause-ready g c =
    let n = c.in_ok-buffer.ensures.len in
    record {
      workers = c.requires.workers;
      slots = c.requires.slots;
      room = ap (λ l. l.room) c.in_ok-line.ensures;
      buffer = omega (arith, n, c.requires.room, c.in_ok-buffer.buffer.ok.0);
      next = λ p. absurd (omega (arith, p));
      own = rw c.in_ok-line.ensures refl;
    }
