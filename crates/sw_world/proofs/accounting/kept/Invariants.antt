use Rattle.std.proofs.Common.{take}
use Rattle.sw_world.specs.Account.{AreKept}
use Rattle.sw_world.proofs.accounting.kept.Given as goal

-- the reactors that the loop has passed
abbrev pub invariant-loop-owner : goal.invariant-loop-owner
invariant-loop-owner l = AreKept (take l.owner-index l.owners) l.all.items
