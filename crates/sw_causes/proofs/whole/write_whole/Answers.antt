use Rattle.std.proofs.Common.{◌∙◌, ap, length, arith}
use Rattle.std.proofs.lemmas.List.{length-drop}
use Rattle.sw_causes.proofs.Joins.{taken_more}
use Rattle.sw_causes.proofs.whole.write_whole.Goals as goal

pub loop-at-preserved : goal.loop-at-preserved
loop-at-preserved g c =
    let w = c.in-Took.ensures.tells in
    record {
      taken = taken_more (g.K.Sink.taken c.args.sink.now) (g.K.Sink.taken c.loop-at.sink) (g.K.Sink.taken c.write.new.self) c.args.bytes.now c.bytes_from.result.now c.loop-at.at c.in-Took.n c.loop-at.invariant.taken c.bytes_from.ensures w.2;
      within = omega (arith, w.1, ap length c.bytes_from.ensures, length-drop c.loop-at.at c.args.bytes.now, c.loop-at-test.true);
      faults = c.in-Took.ensures.counts ∙ c.loop-at.invariant.faults;
    }
