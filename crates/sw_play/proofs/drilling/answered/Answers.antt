use Rattle.std.specs.Prelude.{string_bytes}
use Rattle.sw_play.proofs.Texts.{written_so, fault_so}
use Rattle.sw_play.proofs.drilling.answered.Goals as goal

pub returns-in-Err : goal.returns-in-Err
returns-in-Err c = fault_so c.args.schedule c.in-Err.fault c.in_ok-made.made c.in_ok-made.ensures c.in-Err.is

pub returns : goal.returns
returns c = written_so string_bytes c.args.schedule c.in-Ok.settings c.in_ok-made.made c.written.result c.in_ok-made.ensures c.in-Ok.is c.written.ensures
