use Rattle.std.proofs.Common.{ap, ◌∙◌}
use Rattle.std.specs.FinMap as map
use Rattle.sw_timers.proofs.Maps.{put_at}
use Rattle.sw_timers.proofs.alarms.Alarms.add.Goals as goal

pub returns-clause-ok : goal.returns-clause-ok
returns-clause-ok c = put_at c.self.inside.by_id.entries c.insert.new.self.entries c.args.id c.args.alarm c.in_ok-insert.ensures.updates.0 ∙ ap (λ m. map.insert m c.args.id c.args.alarm) c.self.view_is
