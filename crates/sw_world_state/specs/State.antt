-- The core's code at one moment, as the laws have it.
use Rattle.sw_record.specs.Words.{Log}
use Rattle.sw_world_reactors.specs.declared.owner.Owner.{Owner}
use Rattle.sw_world_whole.specs.Parts.{Parts, Views}
use Rattle.sw_world_state.specs.declared.state.State.{State}

-- its parts
abbrev pub parts_of : {H T : Type 0} → State H T → Parts Owner H T
parts_of s = record { front = s.front; rows = s.places; book = s.book; board = s.board; shelf = s.shelf; owners = s.reactors; workers = s.crew.workers; taskers = s.crew.taskers }

-- how they are seen, where handlers tell what they were given and did
abbrev pub views : {H T : Type 0} → (H → Log) → (T → Log) → Views Owner H T
views worker tasker = record { reactor = λ o. o.reactor; ends = λ o. o.ends; worker = worker; tasker = tasker }
