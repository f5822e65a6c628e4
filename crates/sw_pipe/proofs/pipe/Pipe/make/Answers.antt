use Rattle.std.proofs.Common.{◌≡◌, ◌∙◌, List, length, All, ap, sym, subst, arith}
use Rattle.std.specs.Arc.{arc_value}
use Rattle.sw_pipe.specs.Places.{pipe_of}
use Rattle.sw_pipe.specs.Values.{PipeId, Pushed}
use Rattle.sw_pipe.proofs.Steps.{begins, enrolls}
use Rattle.sw_pipe.proofs.Ends.{fresh_of_pipe, fresh-length}
use Rattle.sw_pipe.proofs.pipe.Pipe.make.Goals as goal

pub ruled-requires-clause-rule : goal.ruled-requires-clause-rule
ruled-requires-clause-rule g c = begins

pub another-requires-clause-rule : goal.another-requires-clause-rule
another-requires-clause-rule g c =
    let at = c.loop-number.invariant.knows in enrolls _ _ (ap (λ v. v.takes) at) (ap (λ v. v.sends) at)

pub returns-clause-count : goal.returns-clause-count
returns-clause-count g c =
    let all : c.loop-number.number ≡ c.args.senders = omega (arith, c.loop-number-test.false, c.loop-number.auto.number-end) in
    ap (λ l. length l) c.loop-number.invariant.made ∙ fresh-length _ _ _ ∙ all

pub returns-clause-of_pipe : goal.returns-clause-of_pipe
returns-clause-of_pipe g c =
    let pipe : PipeId = pipe_of (arc_value c.in_ok-shared.shared) in
    subst (λ (l : List (Pushed g.row.M.Denot)). All (λ s. s.pipe ≡ pipe) l) (sym c.loop-number.invariant.made) (fresh_of_pipe pipe c.loop-number.number)
