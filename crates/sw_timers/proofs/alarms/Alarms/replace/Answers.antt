use Rattle.std.proofs.Common.{ap, sym, subst, ◌∙◌, true≢false}
use Rattle.std.specs.Prelude.{IsSome}
use Rattle.std.specs.FinMap as map
use Rattle.sw_timers.proofs.Maps.{get_at, put_at}
use Rattle.sw_timers.proofs.alarms.Alarms.replace.Goals as goal

pub unreachable-requires : goal.unreachable-requires
unreachable-requires c = true≢false (sym (subst IsSome (ap (λ m. map.get m c.args.id) (sym c.self.view_is) ∙ get_at c.self.inside.by_id.entries c.args.id ∙ c.in-Err.ensures.absent) c.requires))

pub returns : goal.returns
returns c = put_at c.self.inside.by_id.entries c.insert.new.self.entries c.args.id c.args.alarm c.in-Ok.ensures.updates.0 ∙ ap (λ m. map.insert m c.args.id c.args.alarm) c.self.view_is
