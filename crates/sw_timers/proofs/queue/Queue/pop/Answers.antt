use Rattle.std.proofs.Common.{◌≡◌, ◌⊎◌, List, Some, ap, subst}
use Rattle.std.specs.Prelude.{Contains}
use Rattle.sw_timers.specs.Queued.{Turn, Turns, head_of}
use Rattle.sw_timers.proofs.Turns.{popped_by}
use Rattle.sw_timers.proofs.queue.Queue.pop.Goals as goal

pub returns-clause-kept : goal.returns-clause-kept
returns-clause-kept c =
    let turns : c.self.inside.heap.data.items ≡ c.args.self.now.turns = ap (λ (q : Turns). q.turns) c.self.view_is in
    subst (λ (ts : List Turn). (t : Turn) → Contains ts t → (head_of ts ≡ Some t.0) ⊎ Contains c.pop.new.self.data.items t) turns
    (popped_by c.self.inside.heap.data.items c.pop.new.self.data.items c.pop.result _ _ c.pop.ensures.top c.pop.ensures.permutation c.pop.ensures.unchanged)
