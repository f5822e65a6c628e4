use Rattle.sw_world_reactors.specs.Owners.{AreNew}
use Rattle.sw_world_reactors.proofs.reactors.owners.Given as goal

-- so many were made, all before their first turns
abbrev pub invariant-loop : goal.invariant-loop
invariant-loop l = AreNew l.terms l.framing l.read_size l.counter l.all.items
