use Rattle.std.proofs.Common.{rules, ap, sym, ◌∙◌, ◌≡◌, ◌-◌, length, [], ◌∷◌, ℕ, List, ◌++◌, All, append-nil, append_assoc, subst, arith}
use Rattle.sw_pipe.specs.declared.mail.Mail.{Mail}
use Rattle.sw_pipe.specs.Mails.{of}
use Rattle.sw_pipe.specs.Counters.{counter_id}
use Rattle.sw_pipe.specs.Places.{learnt_at, rest_at}
use Rattle.sw_pipe.specs.Values.{Pushed, left_of, HasNumber}
use Rattle.sw_pipe.proofs.Steps.{retires, shuts, settles}
use Rattle.sw_pipe.proofs.Ends.{all_mid, all_behind, each_number, closes, each_of, none_of_others}
use Rattle.sw_pipe.proofs.Gathers.{gathers_none, gathers}
use Rattle.sw_pipe.proofs.closing.gather.Goals as goal

pub loop-sender-init : goal.loop-sender-init
loop-sender-init g c = ([], sym (append-nil _), gathers_none _ _ _ _ c.taker.invariant c.taker.view_is)

pub absorb-requires-clause-rule : goal.absorb-requires-clause-rule
absorb-requires-clause-rule g c =
    let at = c.loop-sender.invariant.2.knows in retires _ _ _ _ (ap (λ v. v.takes) at) (ap (λ v. v.sends) at) (ap (λ v. v.sends) c.sender.invariant.knows)

pub absorb-requires-clause-queue : goal.absorb-requires-clause-queue
absorb-requires-clause-queue g c =
    let ended : List (Pushed g.row.M.Denot) = c.loop-sender.invariant.0 in
    let all : c.args.senders.items ≡ (c.pop.new.self.items ++ c.in-Some.sender ∷ []) ++ ended = search rules in
    let same : c.in-Some.sender.pipe ≡ c.args.taker.pipe = all_mid (λ (x : Pushed g.row.M.Denot). x.pipe ≡ c.args.taker.pipe) c.args.senders.items c.pop.new.self.items ended c.in-Some.sender c.requires.pipe all in
    let here : c.deref.result.now.line.table.shared.table_id ≡ c.args.taker.pipe.queue = ap (λ s. s.line.table.shared.table_id) c.deref.ensures ∙ ap (λ p. p.queue) c.loop-sender.invariant.2.pipe in
    let his : c.sender.inside.place.table_id ≡ c.args.taker.pipe.queue = c.sender.invariant.of_queue.0 ∙ ap (λ s. s.pipe.queue) c.sender.view_is ∙ ap (λ p. p.queue) same in
    let mine : c.loop-sender.place.table_id ≡ c.args.taker.pipe.queue = c.loop-sender.invariant.2.of_queue.0 ∙ ap (λ p. p.queue) c.loop-sender.invariant.2.pipe in
    ((mine ∙ sym here, c.loop-sender.invariant.2.of_queue.1), (his ∙ sym here, c.sender.invariant.of_queue.1))

pub join-requires-clause-shares : goal.join-requires-clause-shares
join-requires-clause-shares g c =
    let ended : List (Pushed g.row.M.Denot) = c.loop-sender.invariant.0 in
    let all : c.args.senders.items ≡ (c.pop.new.self.items ++ c.in-Some.sender ∷ []) ++ ended = search rules in
    let same : c.in-Some.sender.pipe ≡ c.args.taker.pipe = all_mid (λ (x : Pushed g.row.M.Denot). x.pipe ≡ c.args.taker.pipe) c.args.senders.items c.pop.new.self.items ended c.in-Some.sender c.requires.pipe all in
    let here : counter_id c.deref-in-Some.result.now.counter ≡ c.args.taker.pipe.counter = ap (λ s. counter_id s.counter) c.deref-in-Some.ensures ∙ ap (λ p. p.counter) c.loop-sender.invariant.2.pipe in
    let his : c.sender.inside.share.table_id ≡ c.args.taker.pipe.counter = c.sender.invariant.of_counter.0 ∙ ap (λ s. s.pipe.counter) c.sender.view_is ∙ ap (λ p. p.counter) same in
    let mine : c.loop-sender.share.table_id ≡ c.args.taker.pipe.counter = c.loop-sender.invariant.2.of_counter.0 ∙ ap (λ p. p.counter) c.loop-sender.invariant.2.pipe in
    ((mine ∙ sym here, c.loop-sender.invariant.2.of_counter.1), (his ∙ sym here, c.sender.invariant.of_counter.1))

pub loop-sender-preserved : goal.loop-sender-preserved
loop-sender-preserved g c =
    let ended : List (Pushed g.row.M.Denot) = c.loop-sender.invariant.0 in
    let all : c.args.senders.items ≡ (c.pop.new.self.items ++ c.in-Some.sender ∷ []) ++ ended = search rules in
    let same : c.in-Some.sender.pipe ≡ c.args.taker.pipe = all_mid (λ (x : Pushed g.row.M.Denot). x.pipe ≡ c.args.taker.pipe) c.args.senders.items c.pop.new.self.items ended c.in-Some.sender c.requires.pipe all in
    let before = c.loop-sender.invariant.2 in
    let pass = c.absorb.ensures.queue in let share = c.join.ensures.share in (
      c.in-Some.sender ∷ ended,
      all ∙ append_assoc c.pop.new.self.items (c.in-Some.sender ∷ []) ended,
      gathers _ _ _ _ _ _ _ _ _ _ _ _ _ _ before c.sender.invariant c.sender.view_is same (pass.0 ∙ before.of_queue.0, pass.2 ∙ before.of_queue.1) c.absorb.ensures.rule
          (share.0 ∙ ap (λ s. counter_id s.counter) c.deref-in-Some.ensures, share.1) c.join.ensures.joined,
    )

pub pop_as-first-requires-clause-rule : goal.pop_as-first-requires-clause-rule
pop_as-first-requires-clause-rule g c =
    let at = c.loop-sender.invariant.2.knows in
    let whole : c.args.senders.items ≡ c.loop-sender.invariant.0 = search rules in
    let few = c.requires.count in
    let long : length c.args.senders.items ≡ length c.loop-sender.invariant.0 = ap (λ l. length l) whole in
    let none : c.args.taker.pipe.senders - length c.loop-sender.invariant.0 ≡ 0 = omega (arith, few, long) in
    (shuts _ _ (ap (λ v. v.takes) at) (ap (λ v. v.sends) at) (ap (λ v. v.out) at ∙ none), settles _ _ (ap (λ v. v.takes) at))

pub returns-clause-each : goal.returns-clause-each
returns-clause-each g c =
    let whole : c.args.senders.items ≡ c.loop-sender.invariant.0 = search rules in
    let left : List (ℕ × Mail g.row.M.Denot) = left_of c.pop_as-first.result (learnt_at c.pop_as-first.new.pass) (rest_at c.pop_as-first.new.pass) in
    subst (λ (l : List (Pushed g.row.M.Denot)). All (λ s. s.pushed ≡ of s.number c.args.taker.taken ++ of s.number left) l) (sym whole)
    (each_of _ _ _ _ _ _ _ c.loop-sender.invariant.2.knows (closes _ _ _ c.pop_as-first.ensures.rule))

pub returns-clause-whole : goal.returns-clause-whole
returns-clause-whole g c =
    let whole : c.args.senders.items ≡ c.loop-sender.invariant.0 = search rules in
    let few = c.requires.count in
    let long : length c.args.senders.items ≡ length c.loop-sender.invariant.0 = ap (λ l. length l) whole in
    let none : c.args.taker.pipe.senders - length c.loop-sender.invariant.0 ≡ 0 = omega (arith, few, long) in
    λ p lt. subst (λ (l : List (Pushed g.row.M.Denot)). HasNumber p l) (sym whole)
    (each_number _ _ _ _ _ _ _ c.loop-sender.invariant.2.knows none (closes _ _ _ c.pop_as-first.ensures.rule) p lt)

pub returns-clause-none_else : goal.returns-clause-none_else
returns-clause-none_else g c = none_of_others _ _ _ _ _ _ _ c.loop-sender.invariant.2.knows (closes _ _ _ c.pop_as-first.ensures.rule)

pub returns-clause-behind : goal.returns-clause-behind
returns-clause-behind g c = all_behind _ _ _ _ _ _ _ c.loop-sender.invariant.2.knows (closes _ _ _ c.pop_as-first.ensures.rule)
