use Rattle.std.proofs.Common.{◌≡◌, ◌∷◌, ◌∙◌, refl, sym, ap, length, rules, arith}
use Rattle.std.specs.Vec.Iter.{into_iter_items}
use Rattle.sw_world_make.proofs.Taking.{one_taken, all_taken, fewer}
use Rattle.sw_world_make.proofs.Adding.{no_worker, worker_taken, workers_same, workers_many}
use Rattle.sw_world_make.proofs.hands.workers.Goals as goal

pub loop-handlers-init : goal.loop-handlers-init
loop-handlers-init g c = (refl, search rules, no_worker c.args.settings.now _ c.new-all.ensures)

pub add_worker-requires-clause-few : goal.add_worker-requires-clause-few
add_worker-requires-clause-few g c =
    let was = c.loop-handlers.invariant in
    fewer c.loop-handlers.yielded c.in-Some.handlers (into_iter_items c.next.new.self) (into_iter_items c.loop-handlers.handlers-iterator) _ c.args.given.items _ _ (workers_many (λ hs. hs.items) c.args.settings.now c.loop-handlers.yielded _ was.2) c.in-Some.ensures.steps.0 was.0 c.into_iter-handlers-iterator.ensures.into_iter_gives.0 c.requires.few

pub loop-handlers-preserved : goal.loop-handlers-preserved
loop-handlers-preserved g c =
    let at = c.loop-handlers in
    let was = at.invariant in
    let steps : into_iter_items at.handlers-iterator ≡ c.in-Some.handlers ∷ into_iter_items c.next.new.self = c.in-Some.ensures.steps.0 in (
      one_taken at.yielded c.in-Some.handlers (into_iter_items c.next.new.self) (into_iter_items at.handlers-iterator) _ steps was.0,
      let many = was.1 in let gone = c.in-Some.ensures.steps.1 in let short = ap length steps in omega arith,
      worker_taken (λ hs. hs.items) c.args.settings.now at.yielded c.in-Some.handlers _ _ c.in_ok-add_worker.ensures was.2,
    )

pub returns : goal.returns
returns g c =
    let at = c.loop-handlers in
    workers_same (λ hs. hs.items) c.args.settings.now at.yielded c.args.given.items _ (all_taken at.yielded (into_iter_items at.handlers-iterator) _ c.args.given.items (sym at.invariant.1 ∙ c.in-None.ensures.steps.0) at.invariant.0 c.into_iter-handlers-iterator.ensures.into_iter_gives.0) at.invariant.2
