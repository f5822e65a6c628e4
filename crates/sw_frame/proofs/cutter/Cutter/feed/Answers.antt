use Rattle.std.proofs.Common.{inl, inr}
use Rattle.sw_frame.specs.declared.framing.Framing.TheVariants.{Eof, Length}
use Rattle.sw_frame.specs.Kept.{IsKept}
use Rattle.sw_frame.proofs.Keeping.{ok_or_err}
use Rattle.sw_frame.proofs.Searched.{IsKept-mark, IsKept-length}
use Rattle.sw_frame.proofs.cutter.Cutter.feed.Goals as goal

pub invariant_of-self-in-Eof : goal.invariant_of-self-in-Eof
invariant_of-self-in-Eof c =
    elim (ok_or_err c.push_bytes.result c.push_bytes.ensures.ok c.push_bytes.ensures.err) [
      | inl pushed ↦
          let kept : IsKept (Eof c.in-Eof.field-0 c.in-Eof.field-1) c.self.inside.kept = rw c.in-Eof.is at c.self.invariant in
          rw c.in-Eof.is (IsKept-mark c.in-Eof.field-0 c.in-Eof.field-1 _ _ _ pushed kept)
      | inr same ↦ rw same c.self.invariant
    ]

pub invariant_of-self-in-Length : goal.invariant_of-self-in-Length
invariant_of-self-in-Length c =
    elim (ok_or_err c.push_bytes-in-Length.result c.push_bytes-in-Length.ensures.ok c.push_bytes-in-Length.ensures.err) [
      | inl pushed ↦
          let kept : IsKept (Length c.in-Length.field-0) c.self.inside.kept = rw c.in-Length.is at c.self.invariant in
          rw c.in-Length.is (IsKept-length c.in-Length.field-0 _ _ _ pushed kept)
      | inr same ↦ rw same c.self.invariant
    ]
