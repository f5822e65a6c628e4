use Rattle.std.proofs.Common.{sym, subst}
use Rattle.sw_record.specs.EndsRise.{RiseBySlot}
use Rattle.sw_world_ports.proofs.kept.ends_rise.Goals as goal

pub returns : goal.returns
returns c = λ t shape p dids h n lt ends e. subst (RiseBySlot t.max_conn) (sym e) (h.words.book.rise n lt)
