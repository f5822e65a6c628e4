use Rattle.std.proofs.Common.{rules}
use Rattle.sw_shared.proofs.Endings.{settled_of, short_of}
use Rattle.sw_shared.proofs.closing.close_words.Goals.{in-Ok, in-Err}
use Rattle.sw_shared.proofs.closing.close_words.Goals as goal

pub returns : goal.returns
returns g c = elim c.match-close.branch [
  | in-Ok w ↦ rw w.result-is (settled_of c.args.clerk c.into_clerk.result c.in_ok-passes.passes.items c.args.passes.items c.in_ok-passes.ensures.same c.into_clerk.ensures.same w.in-Ok.ensures.once w.in-Ok.ensures.uids w.in-Ok.ensures.releases w.in-Ok.ensures.numbers w.in-Ok.ensures.count)
  | in-Err w ↦ rw w.result-is (short_of c.args.clerk c.into_clerk.result c.in_ok-passes.passes.items c.args.passes.items c.in_ok-passes.ensures.same c.into_clerk.ensures.same w.in-Err.ensures.count.0)
]
