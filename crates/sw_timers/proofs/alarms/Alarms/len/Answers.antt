use Rattle.std.proofs.Common.{ap, sym, ◌∙◌}
use Rattle.std.specs.FinMap as map
use Rattle.sw_timers.proofs.Maps.{len_at}
use Rattle.sw_timers.proofs.alarms.Alarms.len.Goals as goal

pub returns-clause-value : goal.returns-clause-value
returns-clause-value c = c.len.ensures.len ∙ sym (len_at c.self.inside.by_id.entries c.len.ensures.ordered) ∙ ap map.len c.self.view_is
