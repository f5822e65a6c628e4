use Rattle.std.proofs.Common.{◌≡◌, ◌∷◌, ◌∙◌, sym, ap, length, map, rules, arith}
use Rattle.std.specs.Vec.Iter.{into_iter_items}
use Rattle.sw_worker.specs.Generations.{made}
use Rattle.sw_sweep.proofs.Ending.{worker_more, workers_all}
use Rattle.sw_sweep.proofs.Taking.{none_mapped, none_taken, one_taken, all_taken}
use Rattle.sw_sweep.proofs.hands.end_workers.Goals as goal

pub loop-worker-init : goal.loop-worker-init
loop-worker-init g c = (none_taken (into_iter_items c.into_iter-worker-iterator.result), search rules, none_mapped _ c.new-handlers.result.items c.new-handlers.ensures.items)

pub loop-worker-preserved : goal.loop-worker-preserved
loop-worker-preserved g c =
    let at = c.loop-worker in
    let was = at.invariant in
    let steps : into_iter_items at.worker-iterator ≡ c.in-Some.worker ∷ into_iter_items c.next.new.self = c.in-Some.ensures.steps.0 in (
      one_taken at.yielded c.in-Some.worker (into_iter_items c.next.new.self) (into_iter_items at.worker-iterator) (into_iter_items c.into_iter-worker-iterator.result) steps was.0,
      let many = was.1 in let gone = c.in-Some.ensures.steps.1 in let short = ap length steps in omega arith,
      worker_more g.H.Handler.made at.handlers.items c.push.new.self.items c.in_ok-some.some at.yielded c.in-Some.worker c.in_ok-push.ensures.items c.in_ok-some.ensures was.2,
    )

pub returns : goal.returns
returns g c =
    let at = c.loop-worker in
    let all = all_taken at.yielded (into_iter_items at.worker-iterator) (into_iter_items c.into_iter-worker-iterator.result) c.args.workers.items (sym at.invariant.1 ∙ c.in-None.ensures.steps.0) at.invariant.0 c.into_iter-worker-iterator.ensures.into_iter_gives.0 in
    workers_all g.H.Handler.made at.handlers.items at.yielded c.args.workers.items at.invariant.2 all
