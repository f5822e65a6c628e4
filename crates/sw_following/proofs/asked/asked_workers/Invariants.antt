use Rattle.std.proofs.Common.{map}
use Rattle.sw_following.specs.Asked.{AreFreshAskedWorkers}
use Rattle.sw_following.proofs.asked.asked_workers.Given as goal

abbrev pub invariant-loop : goal.invariant-loop
invariant-loop l = AreFreshAskedWorkers l.script l.max l.counter l.generations (map (λ hs. hs.items) l.all.items)
