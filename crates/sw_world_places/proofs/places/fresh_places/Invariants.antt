use Rattle.std.proofs.Common.{◌≡◌, [], replicate}
use Rattle.sw_world_places.specs.Place.{fresh}
use Rattle.sw_world_places.proofs.places.fresh_places.Given as goal

-- so many places were made, all before their first turns
abbrev pub invariant-loop : goal.invariant-loop
invariant-loop l = l.all.items ≡ replicate l.counter (fresh (record { waiting = []; room = l.room }))
