use Rattle.std.proofs.Common.{sym, ap, ◌∙◌}
use Rattle.sw_frame.specs.declared.framing.Framing.{Framing}
use Rattle.sw_frame.specs.Cutting.{next_of}
use Rattle.sw_frame.specs.Kept.{seen}
use Rattle.sw_frame.proofs.Searched.{next_of-raw, next_of-mark, next_of-length}
use Rattle.sw_frame.proofs.cutter.Cutter.next.Goals as goal

pub returns-in-Raw-clause-answer : goal.returns-in-Raw-clause-answer
returns-in-Raw-clause-answer c =
    let due = ap next_of (sym c.self.view_is) ∙ ap (λ (f : Framing). next_of (seen f c.self.inside.kept)) c.in-Raw.is ∙ next_of-raw c.self.inside.kept in
    rw due c.next_piece.ensures.answer

pub returns-in-Eof-clause-answer : goal.returns-in-Eof-clause-answer
returns-in-Eof-clause-answer c =
    let due = ap next_of (sym c.self.view_is) ∙ ap (λ (f : Framing). next_of (seen f c.self.inside.kept)) c.in-Eof.is ∙ next_of-mark c.in-Eof.mark c.in-Eof.max c.self.inside.kept in
    rw due (rw c.bytes.ensures at c.next_mark.ensures.answer)

pub returns-in-Length-clause-answer : goal.returns-in-Length-clause-answer
returns-in-Length-clause-answer c =
    let due = ap next_of (sym c.self.view_is) ∙ ap (λ (f : Framing). next_of (seen f c.self.inside.kept)) c.in-Length.is ∙ next_of-length c.in-Length.rule c.self.inside.kept in
    rw due c.next_length.ensures.answer
