-- What the code of the core has at one moment.
use Rattle.std.specs.Prelude.{ℕ, List}
use Rattle.sw_link.specs.declared.memory_link.MemoryLink.{MemoryLink}
use Rattle.sw_port_book.specs.Plain.{Words}
use Rattle.sw_port_board.specs.PlainBoard.{PlainWords}
use Rattle.sw_record.specs.Words.{Log}
use Rattle.sw_tmodel.specs.Plain.{PlainTable}
use Rattle.sw_hand.specs.declared.hand.Hand.{Hand as CodeHand}
use Rattle.sw_worker.specs.Generations.{Line}
use Rattle.sw_reactor.specs.declared.reactor.Reactor.{Reactor as CodeReactor}
use Rattle.sw_world_places.specs.Ends.{Keeping}
use Rattle.sw_world_places.specs.Places.{Rows}
use Rattle.sw_world_front.specs.declared.front.Front.{Front}

-- the front, the places, the ports, the reactors with their ends, the workers and the task workers, each by its number
pub record Parts (O H T : Type 0) : Type 0 where
  pub front : Front
  pub rows : Rows
  pub book : Words
  pub board : PlainWords
  pub shelf : PlainTable
  pub owners : List O
  pub workers : List (CodeHand (Line H))
  pub taskers : List (CodeHand T)

-- how parts are seen: a reactor and its ends, and what handlers tell that they were given and did
pub record Views (O H T : Type 0) : Type 0 where
  pub reactor : O → CodeReactor MemoryLink ℕ
  pub ends : O → Keeping
  pub worker : H → Log
  pub tasker : T → Log
