use Rattle.sw_top.specs.Says.{FromSource, FromSink}
use Rattle.sw_top.proofs.Sayings.{said, complete}
use Rattle.sw_top.proofs.RightTexts.{prints_right}
use Rattle.sw_top.proofs.command.tool.Goals as goal

pub returns-clause-says : goal.returns-clause-says
returns-clause-says g c =
    let s : FromSource = record { left = g.S.Source.left c.args.source.now; left_new = g.S.Source.left c.work.new.source; faults = g.S.Source.faults c.args.source.now; faults_new = g.S.Source.faults c.work.new.source; ended = g.S.Source.ended c.work.new.source } in
    let k : FromSink = record { taken = g.K.Sink.taken c.args.sink.now; taken_new = g.K.Sink.taken c.work.new.sink; faults = g.K.Sink.faults c.args.sink.now; faults_new = g.K.Sink.faults c.work.new.sink } in
    said c.args.words.now s k c.work.result c.work.ensures.does

pub returns-clause-right : goal.returns-clause-right
returns-clause-right g c =
    let s : FromSource = record { left = g.S.Source.left c.args.source.now; left_new = g.S.Source.left c.work.new.source; faults = g.S.Source.faults c.args.source.now; faults_new = g.S.Source.faults c.work.new.source; ended = g.S.Source.ended c.work.new.source } in
    let k : FromSink = record { taken = g.K.Sink.taken c.args.sink.now; taken_new = g.K.Sink.taken c.work.new.sink; faults = g.K.Sink.faults c.args.sink.now; faults_new = g.K.Sink.faults c.work.new.sink } in
    prints_right c.args.words.now s k c.work.result (said c.args.words.now s k c.work.result c.work.ensures.does)

pub returns-clause-complete : goal.returns-clause-complete
returns-clause-complete g c =
    let s : FromSource = record { left = g.S.Source.left c.args.source.now; left_new = g.S.Source.left c.work.new.source; faults = g.S.Source.faults c.args.source.now; faults_new = g.S.Source.faults c.work.new.source; ended = g.S.Source.ended c.work.new.source } in
    let k : FromSink = record { taken = g.K.Sink.taken c.args.sink.now; taken_new = g.K.Sink.taken c.work.new.sink; faults = g.K.Sink.faults c.args.sink.now; faults_new = g.K.Sink.faults c.work.new.sink } in
    complete c.args.words.now s k c.work.result (said c.args.words.now s k c.work.result c.work.ensures.does)
