use Rattle.std.proofs.Common.{◌≡◌, ◌∷◌, ◌∙◌, sym, ap, length, map, rules, arith}
use Rattle.std.specs.Vec.Iter.{into_iter_items}
use Rattle.sw_sweep.proofs.Ending.{tasker_more, taskers_all}
use Rattle.sw_sweep.proofs.Taking.{none_mapped, none_taken, one_taken, all_taken}
use Rattle.sw_sweep.proofs.hands.end_taskers.Goals as goal

pub loop-tasker-init : goal.loop-tasker-init
loop-tasker-init g c = (none_taken (into_iter_items c.into_iter-tasker-iterator.result), search rules, none_mapped _ c.new-handlers.result.items c.new-handlers.ensures.items)

pub loop-tasker-preserved : goal.loop-tasker-preserved
loop-tasker-preserved g c =
    let at = c.loop-tasker in
    let was = at.invariant in
    let steps : into_iter_items at.tasker-iterator ≡ c.in-Some.tasker ∷ into_iter_items c.next.new.self = c.in-Some.ensures.steps.0 in (
      one_taken at.yielded c.in-Some.tasker (into_iter_items c.next.new.self) (into_iter_items at.tasker-iterator) (into_iter_items c.into_iter-tasker-iterator.result) steps was.0,
      let many = was.1 in let gone = c.in-Some.ensures.steps.1 in let short = ap length steps in omega arith,
      tasker_more g.T.Handler.made at.handlers.items c.push.new.self.items c.in_ok-one.one at.yielded c.in-Some.tasker c.in_ok-push.ensures.items c.in_ok-one.ensures was.2,
    )

pub returns : goal.returns
returns g c =
    let at = c.loop-tasker in
    let all = all_taken at.yielded (into_iter_items at.tasker-iterator) (into_iter_items c.into_iter-tasker-iterator.result) c.args.taskers.items (sym at.invariant.1 ∙ c.in-None.ensures.steps.0) at.invariant.0 c.into_iter-tasker-iterator.ensures.into_iter_gives.0 in
    taskers_all g.T.Handler.made at.handlers.items at.yielded c.args.taskers.items at.invariant.2 all
