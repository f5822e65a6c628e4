-- The packets of a beginning of the pieces are a beginning of the packets.
use Rattle.std.proofs.Common.{List, ◌∷◌, [], sym}
use Rattle.sw_frame.specs.Cut.{IsFit}
use Rattle.sw_frame.proofs.CutLaws.{cut-more}
use Rattle.sw_record.specs.Terms.{Terms}
use Rattle.sw_reactor_table.specs.Quiet.{Grows}

pub fit_grows : (t : Terms) → IsFit t.framing → Grows t
fit_grows t fit pieces p = (let e = cut-more t.framing fit pieces (p ∷ []) in (e.packets.0, sym e.packets.1))
