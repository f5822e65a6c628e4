use Rattle.std.proofs.Common.{◌≡◌, ◌∙◌, rules, take, length, ◌++◌, Err, arith, length-append, length-take}
use Rattle.std.proofs.KnownBytes.{Consumes-trans}
use Rattle.sw_causes.specs.declared.whole.InputFault.TheVariants as faults
use Rattle.sw_causes.proofs.whole.read_whole.Goals as goal

pub returns-in_err-extend_from_slice-in-Got-clause-whole : goal.returns-in_err-extend_from_slice-in-Got-clause-whole
returns-in_err-extend_from_slice-in-Got-clause-whole g c =
    let no_memory : c.from_residual.result ≡ Err faults.OutOfMemory = search rules in
    let tells = c.in-Got.ensures.tells in
    rw no_memory (
      (
        c.loop.bytes.items ++ take c.in-Got.n c.read.new.buf,
        Consumes-trans (g.S.Source.left c.args.source.now) (g.S.Source.left c.loop.source) (g.S.Source.left c.read.new.self) c.loop.bytes.items (take c.in-Got.n c.read.new.buf) c.loop.invariant.came tells.2,
        omega (arith, length-append c.loop.bytes.items (take c.in-Got.n c.read.new.buf), length-take c.in-Got.n c.read.new.buf, tells.1, c.in-Got.ensures.len, c.loop.invariant.buf, c.loop.invariant.within),
      ),
      c.in-Got.ensures.counts ∙ c.loop.invariant.faults,
    )
