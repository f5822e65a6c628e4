use Rattle.std.proofs.Common.{rules, ap, sym, ◌∙◌, ◌≡◌, ◌∷◌, Some}
use Rattle.sw_pipe.specs.Values.{left_of}
use Rattle.sw_pipe.specs.Places.{learnt_at, rest_at}
use Rattle.sw_pipe.proofs.Steps.{goes_on, knows}
use Rattle.sw_pipe.proofs.Ends.{end_at, next_rest}
use Rattle.sw_pipe.proofs.left.Left.next.Goals as goal

pub pop_as-requires-clause-rule : goal.pop_as-requires-clause-rule
pop_as-requires-clause-rule g c =
    let at = end_at c.self.inside.first c.in-Some.mail c.self.inside.place (search rules) c.self.invariant.1 in
    (goes_on _ _ (ap (λ v. v.ends) at) (ap (λ v. v.sends) at), knows _ _ (ap (λ v. v.ends) at))

pub returns-in-Some : goal.returns-in-Some
returns-in-Some g c =
    let first : c.self.inside.first ≡ Some c.in-Some.mail = search rules in
    let learnt = learnt_at c.self.inside.place in (
      c.in-Some.mail.from,
      learnt,
      sym c.self.view_is ∙ ap (λ o. left_of o learnt (rest_at c.self.inside.place)) first
          ∙ ap (λ l. (learnt, c.in-Some.mail) ∷ l) (next_rest _ _ _ c.pop_as.ensures.rule),
    )
