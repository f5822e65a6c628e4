use Rattle.std.proofs.Common.{sym, subst, All}
use Rattle.std.specs.Vec.Iter.{into_iter_items}
use Rattle.sw_sessions.specs.Values.{slots}
use Rattle.sw_sweep.specs.Sorted.{IsAtReactor}
use Rattle.sw_sweep.proofs.Taking.{next_has, rest_have}
use Rattle.sw_sweep.proofs.reactors.end_reactors.Goals as goal

pub loop-reactor-init : goal.loop-reactor-init
loop-reactor-init g c = subst (All (IsAtReactor (slots g.J.Naming.book) g.J.Naming.board.sizes)) (sym c.into_iter-reactor-iterator.ensures.into_iter_gives.0) c.requires

pub end_reactor-requires : goal.end_reactor-requires
end_reactor-requires g c = next_has (IsAtReactor (slots g.J.Naming.book) g.J.Naming.board.sizes) (into_iter_items c.loop-reactor.reactor-iterator) c.in-Some.reactor (into_iter_items c.next.new.self) c.in-Some.ensures.steps.0 c.loop-reactor.invariant

pub loop-reactor-preserved : goal.loop-reactor-preserved
loop-reactor-preserved g c = rest_have (IsAtReactor (slots g.J.Naming.book) g.J.Naming.board.sizes) (into_iter_items c.loop-reactor.reactor-iterator) c.in-Some.reactor (into_iter_items c.next.new.self) c.in-Some.ensures.steps.0 c.loop-reactor.invariant
