use Rattle.std.proofs.Common.{◌≡◌, ◌∷◌, ◌∙◌, refl, sym, ap, subst, length, rules, arith}
use Rattle.std.specs.Vec.Iter.{into_iter_items}
use Rattle.sw_world_make.specs.Handlers.{AreTaskers}
use Rattle.sw_world_make.proofs.Taking.{one_taken, all_taken, fewer}
use Rattle.sw_world_make.proofs.Adding.{no_tasker}
use Rattle.sw_world_make.proofs.hands.taskers.Goals as goal

pub loop-handler-init : goal.loop-handler-init
loop-handler-init g c = (refl, search rules, no_tasker c.args.settings.now _ c.new-all.ensures)

pub add_tasker-requires : goal.add_tasker-requires
add_tasker-requires g c =
    let was = c.loop-handler.invariant in
    fewer c.loop-handler.yielded c.in-Some.handler (into_iter_items c.next.new.self) (into_iter_items c.loop-handler.handler-iterator) _ c.args.given.items _ _ was.2.stand.many c.in-Some.ensures.steps.0 was.0 c.into_iter-handler-iterator.ensures.into_iter_gives.0 c.requires

pub loop-handler-preserved : goal.loop-handler-preserved
loop-handler-preserved g c =
    let at = c.loop-handler in
    let was = at.invariant in
    let steps : into_iter_items at.handler-iterator ≡ c.in-Some.handler ∷ into_iter_items c.next.new.self = c.in-Some.ensures.steps.0 in (
      one_taken at.yielded c.in-Some.handler (into_iter_items c.next.new.self) (into_iter_items at.handler-iterator) _ steps was.0,
      let many = was.1 in let gone = c.in-Some.ensures.steps.1 in let short = ap length steps in omega arith,
      c.in_ok-add_tasker.ensures at.yielded was.2,
    )

pub returns : goal.returns
returns g c =
    let at = c.loop-handler in
    subst (λ xs. AreTaskers c.args.settings.now xs at.all) (all_taken at.yielded (into_iter_items at.handler-iterator) _ c.args.given.items (sym at.invariant.1 ∙ c.in-None.ensures.steps.0) at.invariant.0 c.into_iter-handler-iterator.ensures.into_iter_gives.0) at.invariant.2
