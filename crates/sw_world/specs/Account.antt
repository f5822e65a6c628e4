-- The record of the core's code.
use Rattle.std.specs.Prelude.{◌≡◌, ℕ, List, [], ◌∷◌, length, map, slice_get, Option, Some, None}
use Rattle.sw_lists.specs.Lists.{collect}
use Rattle.sw_record.specs.Words.{Log}
use Rattle.sw_record.specs.declared.record.LinkRecord.{LinkRecord}
use Rattle.sw_record.specs.declared.record.Record.{Record}
use Rattle.sw_hand.specs.declared.hand.Hand.{Hand as CodeHand}
use Rattle.sw_worker.specs.Generations.{Line}
use Rattle.sw_hand_laws.specs.Generations.{entries}
use Rattle.sw_world_account.specs.Kept.{kept_links}
use Rattle.sw_world_account.specs.declared.kept.Kept.{Kept}
use Rattle.sw_world_account.specs.Accounting.{record_of as link_record, links_of as kept_of}
use Rattle.sw_world_places.specs.Arrived.{Known}
use Rattle.sw_world_reactors.specs.declared.owner.Owner.{Owner}
use Rattle.sw_world_crew.specs.declared.recorded.Recorded.{Recorded}
use Rattle.sw_world_crew.specs.Recorded.{log_of}
use Rattle.sw_world_state.specs.declared.state.State.{State}

-- the links of a reactor: those that live, then those that ended
abbrev pub links_of : Option Owner → List LinkRecord
links_of None = []
links_of (Some o) = kept_links o.reactor.terms o.reactor.line.conns o.ends.kept

-- of the reactor of this number
abbrev pub links_at : List Owner → ℕ → List LinkRecord
links_at owners n = links_of (slice_get owners n)

-- what is kept of each reactor are its own links
abbrev pub AreKept : List Owner → List Kept → Type 0
AreKept [] [] = Unit {0}
AreKept [] (k ∷ ks) = ⊥
AreKept (o ∷ os) [] = ⊥
AreKept (o ∷ os) (k ∷ ks) = (kept_of (Some k) ≡ links_of (Some o)) × AreKept os ks

-- a worker's log: its handlers' logs, one behind the other
abbrev pub worker_log : {H : Type 0} → CodeHand (Line (Recorded H)) → Log
worker_log h = collect entries (map log_of h.handler.items)

-- a task worker's: its handler's
abbrev pub tasker_log : {T : Type 0} → CodeHand (Recorded T) → Log
tasker_log h = log_of h.handler

-- the record of a link, by what its claim answered and by its reactor's links
abbrev pub link_of_code : {H T : Type 0} → State H T → Known → LinkRecord
link_of_code s l = link_record s.max_conn (length s.reactors) (links_at s.reactors) l

-- all links in the order in which they arrived, and the logs of workers and task workers
abbrev pub record_of : {H T : Type 0} → State (Recorded H) (Recorded T) → Record
record_of s = record {
  links = map (link_of_code s) s.front.links.all;
  workers = map worker_log s.crew.workers;
  taskers = map tasker_log s.crew.taskers;
}
