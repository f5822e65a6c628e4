use Rattle.sw_row.proofs.Fitting.{all_kept}
use Rattle.sw_row.proofs.content.Content.write.Goals as goal

pub returns-clause-whole : goal.returns-clause-whole
returns-clause-whole c = λ fit. all_kept c.args.schema.now c.args.from.now c.is_sound.ensures.2 fit
