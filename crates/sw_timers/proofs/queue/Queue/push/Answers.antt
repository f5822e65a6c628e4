use Rattle.std.proofs.Common.{◌≡◌, ◌<◌, List, ap, subst, rules}
use Rattle.std.specs.Prelude.{Contains}
use Rattle.std.specs.BinaryHeap.{heap_len, heap_capacity}
use Rattle.sw_timers.specs.Queued.{Turn, Turns, turn_of}
use Rattle.sw_timers.proofs.Turns.{ok_gives, pushed, pushed_beside}
use Rattle.sw_timers.proofs.queue.Queue.push.Goals as goal

pub returns-clause-added : goal.returns-clause-added
returns-clause-added c =
    let room : heap_len c.self.inside.heap < heap_capacity c.self.inside.heap = search rules in
    pushed c.self.inside.heap.data.items c.push.new.self.data.items (turn_of c.args.moment c.args.id) (ok_gives c.push.result _ (c.push.ensures.succeeds room) c.push.ensures.permutation)

pub returns-clause-kept : goal.returns-clause-kept
returns-clause-kept c =
    let room : heap_len c.self.inside.heap < heap_capacity c.self.inside.heap = search rules in
    let turns : c.self.inside.heap.data.items ≡ c.args.self.now.turns = ap (λ (q : Turns). q.turns) c.self.view_is in
    subst (λ (ts : List Turn). (t : Turn) → Contains ts t → Contains c.push.new.self.data.items t) turns
    (λ t has. pushed_beside c.self.inside.heap.data.items c.push.new.self.data.items (turn_of c.args.moment c.args.id) t (ok_gives c.push.result _ (c.push.ensures.succeeds room) c.push.ensures.permutation) has)
