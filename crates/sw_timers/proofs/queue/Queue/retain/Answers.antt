use Rattle.std.proofs.Common.{◌≡◌, List, true, ap, subst, rules}
use Rattle.std.specs.Prelude.{Contains}
use Rattle.std.proofs.lemmas.Fn.{filter_same}
use Rattle.sw_timers.specs.Queued.{Turn, Turns, is_kept}
use Rattle.sw_timers.proofs.Turns.{retained}
use Rattle.sw_timers.proofs.queue.Queue.retain.Goals as goal

pub returns : goal.returns
returns c =
    let turns : c.self.inside.heap.data.items ≡ c.args.self.now.turns = ap (λ (q : Turns). q.turns) c.self.view_is in
    let kept = filter_same _ (λ (t : Turn). is_kept c.args.alarms.now t.0) _ (λ x b f' k. search rules) _ _ c.retain.ensures.filtered.1 in
    subst (λ (ts : List Turn). (t : Turn) → Contains ts t → is_kept c.args.alarms.now t.0 ≡ true → Contains c.retain.new.self.data.items t) turns
    (λ t has is. retained (λ (x : Turn). is_kept c.args.alarms.now x.0) c.self.inside.heap.data.items c.retain.ensures.filtered.0 c.retain.new.self.data.items t kept c.retain.ensures.filtered.2 has is)
