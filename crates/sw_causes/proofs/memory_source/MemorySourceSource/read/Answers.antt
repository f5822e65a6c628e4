use Rattle.std.proofs.Common.{◌≡◌, rules, take, drop, arith}
use Rattle.sw_causes.proofs.Joins.{front_read}
use Rattle.sw_causes.proofs.memory_source.MemorySourceSource.read.Goals as goal

pub returns-clause-tells : goal.returns-clause-tells
returns-clause-tells c =
    let w = c.fill-n.ensures.within in
    let e : take c.fill-n.result c.fill-n.new.buf ≡ take c.fill-n.result (drop c.args.self.now.at c.args.self.now.bytes.items) = search rules in
    (w.0, omega (arith, w.1, c.fill-n.ensures.len), front_read c.args.self.now.bytes.items c.fill-n.new.buf c.args.self.now.at c.fill-n.result e)
