use Rattle.std.proofs.Common.{◌≡◌, ◌∷◌, ◌++◌, ◌∙◌, sym, ap, append-nil, length, rules, arith}
use Rattle.std.specs.Vec.Iter.{into_iter_items}
use Rattle.sw_run.proofs.LiningUp.{one_added}
use Rattle.sw_sweep.proofs.Taking.{none_taken, one_taken, all_taken}
use Rattle.sw_run.proofs.players.add_all.Goals as goal

pub loop-player-init : goal.loop-player-init
loop-player-init g c = (none_taken (into_iter_items c.into_iter-player-iterator.result), search rules, sym (append-nil c.args.players.now.items))

pub loop-player-preserved : goal.loop-player-preserved
loop-player-preserved g c =
    let at = c.loop-player in
    let was = at.invariant in
    let steps : into_iter_items at.player-iterator ≡ c.in-Some.player ∷ into_iter_items c.next.new.self = c.in-Some.ensures.steps.0 in (
      one_taken at.yielded c.in-Some.player (into_iter_items c.next.new.self) (into_iter_items at.player-iterator) (into_iter_items c.into_iter-player-iterator.result) steps was.0,
      let many = was.1 in let gone = c.in-Some.ensures.steps.1 in let short = ap length steps in omega arith,
      one_added c.args.players.now.items at.yielded at.players.items c.push.new.self.items c.in-Some.player c.in_ok-push.ensures.items was.2,
    )

pub returns : goal.returns
returns g c =
    let at = c.loop-player in
    let all = all_taken at.yielded (into_iter_items at.player-iterator) (into_iter_items c.into_iter-player-iterator.result) c.args.more.items (sym at.invariant.1 ∙ c.in-None.ensures.steps.0) at.invariant.0 c.into_iter-player-iterator.ensures.into_iter_gives.0 in
    at.invariant.2 ∙ ap (λ l. c.args.players.now.items ++ l) all
