use Rattle.sw_dump.specs.Restores.{TakesBefore}
use Rattle.sw_dump.proofs.unfit.first_refused.Given as goal

abbrev pub invariant-loop-at : goal.invariant-loop-at
invariant-loop-at l = TakesBefore l.schema l.pairs l.at
