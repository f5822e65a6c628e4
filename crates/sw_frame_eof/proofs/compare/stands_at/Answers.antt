use Rattle.std.proofs.Common.{arith, refl}
use Rattle.sw_frame_eof.proofs.Marks.{OccursAt-StandsAt}
use Rattle.sw_frame_eof.proofs.compare.stands_at.Goals as goal

pub returns-clause-stands : goal.returns-clause-stands
returns-clause-stands g c =
    (λ _. OccursAt-StandsAt _ _ _ (record { fits = c.requires.room; reads = λ j lt. c.loop-k.invariant.0 j (omega (arith, lt, c.loop-k-test.false)) }), λ _. refl)
