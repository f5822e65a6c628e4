use Rattle.std.proofs.Common.{◌∙◌}
use Rattle.sw_world_make.proofs.Sharing.{new_reactors}
use Rattle.sw_world_make.proofs.parts.reactors.Goals as goal

pub returns : goal.returns
returns c = new_reactors c.args.settings.now _ _ _ _ _ c.terms-seen.ensures.value (c.of-framing.ensures ∙ c.in_ok-copied.ensures ∙ c.framing.ensures.value) c.reactor_num.ensures.value c.terms-seen.ensures.workers c.in_ok-reactors.ensures
