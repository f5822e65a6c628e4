use Rattle.std.proofs.Common.{◌∙◌}
use Rattle.sw_world_make.proofs.Sharing.{new_table}
use Rattle.sw_world_make.proofs.parts.shelf.Goals as goal

pub returns : goal.returns
returns c = new_table c.args.settings.now _ _ _ _ _ (c.in_ok-schema.ensures ∙ c.schema.ensures) c.table_size.ensures.value c.table_percent.ensures.value c.table_last_call.ensures.value c.in_ok-shelf.ensures
