use Rattle.std.proofs.Common.{◌-◌, refl}
use Rattle.sw_tmodel.proofs.RowSteps.{moved_shown, moved_shaped}
use Rattle.sw_tmodel.proofs.plain_row.move_behind.Goals as goal

pub returns-clause-shown : goal.returns-clause-shown
returns-clause-shown c = moved_shown c.args.rows.now c.args.at c.args.len (c.args.len - c.args.at) (c.args.len - 1) c.rotate_left.new.self c.requires.place c.requires.within refl refl c.rotate_left.ensures.after

pub returns-clause-shaped : goal.returns-clause-shaped
returns-clause-shaped c = λ cs all. moved_shaped cs c.args.rows.now c.args.at (c.args.len - c.args.at) c.rotate_left.new.self c.rotate_left.ensures.after all
