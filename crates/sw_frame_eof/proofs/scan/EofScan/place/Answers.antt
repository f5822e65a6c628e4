use Rattle.std.proofs.Common.{◌<◌, ◌+◌, length, true, false, arith}
use Rattle.sw_frame_eof.proofs.Scans.{scanned_all}
use Rattle.sw_frame_eof.proofs.scan.EofScan.place.Goals as goal
use Rattle.sw_frame_eof.proofs.scan.EofScan.place.Goals.{then-loop-self-test+else-self-mark, else-loop-self-test}

pub returns-then-self-clause-place : goal.returns-then-self-clause-place
returns-then-self-clause-place g c =
    scanned_all _ _ c.loop-self.self true c.if-self.true c.requires.some c.loop-self.invariant.0 (λ is. cc)

pub returns-else-self-clause-place : goal.returns-else-self-clause-place
returns-else-self-clause-place g c =
    let ended : length c.args.bytes.now < c.loop-self.self.passed + length c.args.mark.now =
    elim c.loop-self-test.branch [
      | then-loop-self-test+else-self-mark w ↦ let far = w.if-self-mark.false in omega (arith, far)
      | else-loop-self-test w ↦ let wrong = w.loop-self-test.false in let none = c.if-self.false in absurd cc
    ] in
    scanned_all _ _ c.loop-self.self false c.if-self.false c.requires.some c.loop-self.invariant.0 (λ is. ended)
