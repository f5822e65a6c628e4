use Rattle.std.proofs.Common.{◌≡◌, ◌∷◌, ◌∙◌, sym, ap, length, rules, arith}
use Rattle.std.specs.Vec.Iter.{into_iter_items}
use Rattle.sw_sessions.specs.Values.{slots}
use Rattle.sw_sweep.proofs.Sorting.{sorted_none, sorted_more, sorted_all}
use Rattle.sw_sweep.proofs.Taking.{none_taken, one_taken, all_taken}
use Rattle.sw_sweep.proofs.crew.sort.Goals as goal

pub loop-player-init : goal.loop-player-init
loop-player-init g c =
    let new = c.new-crew.ensures in
    (none_taken (into_iter_items c.into_iter-player-iterator.result), search rules, sorted_none (slots g.J.Naming.book) g.J.Naming.board.sizes c.new-crew.result new.doors new.reactors new.workers new.taskers)

pub loop-player-preserved : goal.loop-player-preserved
loop-player-preserved g c =
    let at = c.loop-player in
    let was = at.invariant in
    let steps : into_iter_items at.player-iterator ≡ c.in-Some.player ∷ into_iter_items c.next.new.self = c.in-Some.ensures.steps.0 in (
      one_taken at.yielded c.in-Some.player (into_iter_items c.next.new.self) (into_iter_items at.player-iterator) (into_iter_items c.into_iter-player-iterator.result) steps was.0,
      let many = was.1 in let gone = c.in-Some.ensures.steps.1 in let short = ap length steps in omega arith,
      sorted_more (slots g.J.Naming.book) g.J.Naming.board.sizes at.yielded c.in-Some.player at.crew c.add.new.self was.2 c.in_ok-add.ensures,
    )

pub returns : goal.returns
returns g c =
    let at = c.loop-player in
    let all = all_taken at.yielded (into_iter_items at.player-iterator) (into_iter_items c.into_iter-player-iterator.result) c.args.players.items (sym at.invariant.1 ∙ c.in-None.ensures.steps.0) at.invariant.0 c.into_iter-player-iterator.ensures.into_iter_gives.0 in
    sorted_all (slots g.J.Naming.book) g.J.Naming.board.sizes at.yielded c.args.players.items at.crew all at.invariant.2
