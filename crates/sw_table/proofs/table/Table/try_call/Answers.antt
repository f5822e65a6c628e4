use Rattle.std.proofs.Common.{◌≡◌, ◌<◌, ◌≤◌, ℕ, List, None, Some, true, false, refl, ap, sym, subst, ◌∙◌, rules}
use Rattle.sw_table.proofs.Drawing.{ended_called}
use Rattle.sw_table.proofs.table.Table.try_call.Goals as goal

pub count-requires-clause-made : goal.count-requires-clause-made
count-requires-clause-made c = refl

pub keyed-requires-clause-made : goal.keyed-requires-clause-made
keyed-requires-clause-made c = refl

pub returns-in-None-clause-call : goal.returns-in-None-clause-call
returns-in-None-clause-call c = ended_called c.args.self.now c.args.seat.now c.count.new.seat c.args.call.now c.args.row.now c.args.row.now c.count.result (search rules) (c.count.ensures.call c.args.row.now)

pub returns-in-Some-clause-call : goal.returns-in-Some-clause-call
returns-in-Some-clause-call c = ended_called c.args.self.now c.args.seat.now c.keyed.new.seat c.args.call.now c.args.row.now c.keyed.new.row c.keyed.result (search rules) c.keyed.ensures.call
