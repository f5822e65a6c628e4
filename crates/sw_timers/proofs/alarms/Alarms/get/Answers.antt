use Rattle.std.proofs.Common.{ap, sym, ◌∙◌}
use Rattle.std.specs.FinMap as map
use Rattle.sw_timers.proofs.Maps.{get_at}
use Rattle.sw_timers.proofs.alarms.Alarms.get.Goals as goal

pub returns : goal.returns
returns c = c.copied.ensures ∙ c.get.ensures.value ∙ sym (get_at c.self.inside.by_id.entries c.args.id) ∙ ap (λ m. map.get m c.args.id) c.self.view_is
