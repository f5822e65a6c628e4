use Rattle.std.proofs.Common.{sym, Ok}
use Rattle.std.specs.Prelude.{string_bytes}
use Rattle.sw_play.proofs.Texts.{said_so}
use Rattle.sw_play.proofs.drilling.answer.Goals as goal

pub returns-in-Ok : goal.returns-in-Ok
returns-in-Ok c = said_so string_bytes (Ok c.in-Ok.schedule) c.args.said c.answered.result (sym c.in-Ok.is) c.answered.ensures
