use Rattle.std.proofs.Common.{ap}
use Rattle.sw_port_shelf.specs.declared.shelf.Placed.{Placed}
use Rattle.sw_table_laws.specs.Table.{TStep}
use Rattle.sw_tmodel.specs.Plain.{shape_of}
use Rattle.sw_audit.proofs.ValueLaws.{told_by, step_shown}
use Rattle.sw_audit.proofs.answers.is_told.Goals as goal

pub returns-clause-told : goal.returns-clause-told
returns-clause-told c =
    let p = c.args.plain.now in
    let call = c.args.line.now.call in
    told_by c.args.line.now (TStep (shape_of p) p.state call) c.args.row.now c.call.new.row c.in-Ok.placed.reply c.tells.result
    (ap (λ (x : Placed). x.reply) c.in-Ok.ensures.call.1) c.in-Ok.ensures.call.3 (step_shown (shape_of p) p.state call c.args.row.now) c.tells.ensures
