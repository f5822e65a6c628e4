use Rattle.sw_following.specs.Following.{AreFresh}
use Rattle.sw_following.proofs.fresh.handlers.Given as goal

abbrev pub invariant-loop : goal.invariant-loop
invariant-loop l = AreFresh l.script l.counter l.all.items
