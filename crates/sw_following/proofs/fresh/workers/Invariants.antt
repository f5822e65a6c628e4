use Rattle.std.proofs.Common.{map}
use Rattle.sw_following.specs.Following.{AreFreshWorkers}
use Rattle.sw_following.proofs.fresh.workers.Given as goal

abbrev pub invariant-loop : goal.invariant-loop
invariant-loop l = AreFreshWorkers l.script l.counter l.generations (map (λ hs. hs.items) l.all.items)
