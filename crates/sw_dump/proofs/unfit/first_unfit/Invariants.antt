use Rattle.sw_dump.specs.Restores.{FitBefore}
use Rattle.sw_dump.proofs.unfit.first_unfit.Given as goal

abbrev pub invariant-loop-at : goal.invariant-loop-at
invariant-loop-at l = FitBefore l.schema l.calls l.at
