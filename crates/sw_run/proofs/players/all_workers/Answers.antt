use Rattle.std.proofs.Common.{◌≡◌, ◌∷◌, ◌∙◌, sym, ap, length, rules, arith}
use Rattle.std.specs.Vec.Iter.{into_iter_items}
use Rattle.sw_run.proofs.LiningUp.{worker_more, workers_all}
use Rattle.sw_sweep.proofs.Taking.{none_mapped, none_taken, one_taken, all_taken}
use Rattle.sw_run.proofs.players.all_workers.Goals as goal

pub loop-some-init : goal.loop-some-init
loop-some-init g c = (none_taken (into_iter_items c.into_iter-some-iterator.result), search rules, none_mapped _ c.new-players.result.items c.new-players.ensures.items)

pub loop-some-preserved : goal.loop-some-preserved
loop-some-preserved g c =
    let at = c.loop-some in
    let was = at.invariant in
    let steps : into_iter_items at.some-iterator ≡ c.in-Some.some ∷ into_iter_items c.next.new.self = c.in-Some.ensures.steps.0 in (
      one_taken at.yielded c.in-Some.some (into_iter_items c.next.new.self) (into_iter_items at.some-iterator) (into_iter_items c.into_iter-some-iterator.result) steps was.0,
      let many = was.1 in let gone = c.in-Some.ensures.steps.1 in let short = ap length steps in omega arith,
      worker_more g.H.Handler.made g.T.Handler.made at.players.items c.push.new.self.items c.in_ok-player.player at.yielded c.in-Some.some c.in_ok-push.ensures.items c.in_ok-player.ensures was.2,
    )

pub returns : goal.returns
returns g c =
    let at = c.loop-some in
    let all = all_taken at.yielded (into_iter_items at.some-iterator) (into_iter_items c.into_iter-some-iterator.result) c.args.handlers.items (sym at.invariant.1 ∙ c.in-None.ensures.steps.0) at.invariant.0 c.into_iter-some-iterator.ensures.into_iter_gives.0 in
    workers_all g.H.Handler.made g.T.Handler.made at.players.items at.yielded c.args.handlers.items at.invariant.2 all
