use Rattle.std.proofs.Common.{ap, subst, ◌∙◌, ◌≤◌, ◌++◌, ◌∷◌, [], length}
use Rattle.std.specs.Arc.{arc_value}
use Rattle.sw_pipe.specs.Places.{pipe_of, due_at}
use Rattle.sw_pipe.specs.Values.{Took, took}
use Rattle.sw_pipe.proofs.Steps.{gets, empties}
use Rattle.sw_pipe.proofs.taker.Taker.take.Goals as goal

pub pop_as-requires-clause-rule : goal.pop_as-requires-clause-rule
pop_as-requires-clause-rule g c =
    let at = c.self.invariant.knows in
    (gets _ _ (ap (λ v. v.takes) at) (ap (λ v. v.sends) at), empties _ _ (ap (λ v. v.takes) at))

pub returns : goal.returns
returns g c =
    let mail = c.in_ok-mail.mail in
    let done = c.in_ok-mail.ensures.rule in
    let due = due_at c.self.inside.place in (
      mail.from,
      done.0,
      subst (λ (s : Took g.row.M.Denot). done.0 ≤ length s.taken) c.self.view_is done.1,
      ap (λ v. took (pipe_of (arc_value c.self.inside.shared)) v.got v.due) done.2
          ∙ ap (λ s. took s.pipe (s.taken ++ (done.0, mail) ∷ []) s.counts) c.self.view_is,
    )
