use Rattle.std.specs.Prelude.{string_bytes}
use Rattle.sw_schedule.specs.Draft.{schedule_of}
use Rattle.sw_play.proofs.Texts.{said_so, right_so}
use Rattle.sw_play.proofs.drilling.drilled.Goals as goal

pub returns-clause-answers : goal.returns-clause-answers
returns-clause-answers c = said_so string_bytes c.in_ok-said.said (schedule_of c.args.input.now) c.answer.result c.in_ok-said.ensures c.answer.ensures

pub returns-clause-right : goal.returns-clause-right
returns-clause-right c = right_so string_bytes c.args.input.now c.answer.result (said_so string_bytes c.in_ok-said.said (schedule_of c.args.input.now) c.answer.result c.in_ok-said.ensures c.answer.ensures)
