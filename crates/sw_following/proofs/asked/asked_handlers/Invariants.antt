use Rattle.sw_following.specs.Asked.{AreFreshAsked}
use Rattle.sw_following.proofs.asked.asked_handlers.Given as goal

abbrev pub invariant-loop : goal.invariant-loop
invariant-loop l = AreFreshAsked l.script l.max l.counter l.all.items
