use Rattle.std.proofs.Common.{ap, sym, ◌∙◌}
use Rattle.std.specs.Prelude.{is_some}
use Rattle.std.specs.FinMap as map
use Rattle.sw_timers.proofs.Maps.{get_at, taken_at}
use Rattle.sw_timers.proofs.alarms.Alarms.remove.Goals as goal

pub returns-clause-there : goal.returns-clause-there
returns-clause-there c = c.is_some.ensures ∙ ap is_some (c.remove.ensures.value ∙ sym (get_at c.self.inside.by_id.entries c.args.id) ∙ ap (λ m. map.get m c.args.id) c.self.view_is)

pub returns-clause-left : goal.returns-clause-left
returns-clause-left c = taken_at c.self.inside.by_id.entries c.remove.new.self.entries c.args.id c.remove.ensures.updates.0 ∙ ap (λ m. map.remove m c.args.id) c.self.view_is
