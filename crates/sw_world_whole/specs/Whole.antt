-- The code of the core stands for a world that keeps its law, and its steps are steps of the world.
use Rattle.std.specs.Prelude.{◌≡◌, ◌+◌, true, false, [], replicate, slice_get, Some}
use Rattle.sw_step.specs.declared.actor.ActorId.{ActorId}
use Rattle.sw_step.specs.declared.actor.ActorId.TheVariants.{Door, Reactor, Worker, Tasker}
use Rattle.sw_record.specs.Words.{Log}
use Rattle.sw_record.specs.Terms.{Terms}
use Rattle.sw_record.specs.Sessions.{accepted, SessionsRise}
use Rattle.sw_record.specs.Right.{Right}
use Rattle.sw_record.specs.Drained.{Drained}
use Rattle.sw_record.specs.AfterSeen.{AfterSeen}
use Rattle.sw_table_laws.specs.Table.{Shape}
use Rattle.sw_join.specs.Legal.{LegalFor}
use Rattle.sw_port_book.specs.Plain.{free}
use Rattle.sw_port_board.specs.PlainBoard.{PlainWords, plain_words, no_counts}
use Rattle.sw_world_ports.specs.Ports.{Ports, new_ports}
use Rattle.sw_world_laws.specs.World.{Core, Step, there, next, MayStep}
use Rattle.sw_world_laws.specs.Law.{Law}
use Rattle.sw_world_laws.specs.Account.{account, outside}
use Rattle.sw_world_laws.specs.Runs.{AllDone}
use Rattle.sw_hand.specs.Hand.{HasRow}
use Rattle.sw_hand.specs.declared.hand.Hand.{Hand as CodeHand}
use Rattle.sw_worker.specs.Generations.{Line}
use Rattle.sw_world_fits.specs.Board.{number_of}
use Rattle.sw_world_fits.specs.Table.{TableStands}
use Rattle.sw_world_hands.specs.Hands.{HandState, Crews, new_hand}
use Rattle.sw_world_hand_fits.specs.Hands.{TaskerIs, WorkerIs, LineTells, Numbered}
use Rattle.sw_reactor_table.specs.Reactor.{Reactor as Table, started}
use Rattle.sw_world_reactor_fits.specs.Plain.{ReactorIs}
use Rattle.sw_world_door.specs.Doors.{DoorState, new_door}
use Rattle.sw_world_places.specs.Ends.{HasRoom}
use Rattle.sw_world_places.specs.Pipes.{Asking}
use Rattle.sw_world_places.specs.Places.{Rows, AtRow, new_rows}
use Rattle.sw_world_places.specs.declared.place.Next.TheVariants.{Asked}
use Rattle.sw_world_front.specs.declared.front.Front.{Front}
use Rattle.sw_world_front_fits.specs.Front.{FrontStands}
use Rattle.sw_world_stands.specs.Links.{LinksStand}
use Rattle.sw_world_stands.specs.Rows.{RowsStand}
use Rattle.sw_world_steps.specs.Server.{IsServed, server, AState, of_door, of_reactor, of_hand}
use Rattle.sw_world_steps.specs.Shared.{SharedStands}
use Rattle.sw_world_whole.specs.Parts.{Parts, Views}

-- a worker's code: the family's state, whose sessions are none of number 0, a row with the Table's columns, and the log that its
-- handlers tell
pub record WorkerStands {H : Type 0} (t : Terms) (crews : Crews) (told : H → Log) (y : ActorId) (h : CodeHand (Line H)) (s : HandState) : Type 0 where
  pub is : WorkerIs t crews y h s
  pub numbered : Numbered s.stage
  pub row : HasRow t.columns h.house h.row
  pub tells : LineTells told s.hand h.handler

-- a task worker's
pub record TaskerStands {T : Type 0} (t : Terms) (told : T → Log) (y : ActorId) (h : CodeHand T) (s : HandState) : Type 0 where
  pub is : TaskerIs t y h s
  pub numbered : Numbered s.stage
  pub row : HasRow t.columns h.house h.row
  pub tells : told h.handler ≡ s.hand.log

-- an actor's code, by its number; the door stands with what all share
abbrev pub ActorStands : {O H T : Type 0} → (t : Terms) → Crews → Views O H T → Parts O H T → ActorId → AState → Type 0
ActorStands t crews v P Door x = Unit {0}
ActorStands {O} t crews v P (Reactor n) x = (o : O) × ((slice_get P.owners n ≡ Some o) × ((s : Table) × ((x ≡ of_reactor s) × ReactorIs t (v.reactor o) (v.ends o).kept s)))
ActorStands {O} {H} t crews v P (Worker w) x = (h : CodeHand (Line H)) × ((slice_get P.workers w ≡ Some h) × ((s : HandState) × ((x ≡ of_hand s) × WorkerStands t crews v.worker (Worker w) h s)))
ActorStands {O} {H} {T} t crews v P (Tasker k) x = (h : CodeHand T) × ((slice_get P.taskers k ≡ Some h) × ((s : HandState) × ((x ≡ of_hand s) × TaskerStands t v.tasker (Tasker k) h s)))

-- the whole code; no step wanted memory so far
pub record Stands {O H T : Type 0} (t : Terms) (served : IsServed t) (crews : Crews) (shape : Shape) (v : Views O H T) (P : Parts O H T) (c : Core AState) : Type 0 where
  pub law : Law t (LegalFor shape) (server t served crews) c
  pub sound : c.lost ≡ false
  pub door : DoorState
  pub is : c.states Door ≡ of_door door
  pub shared : SharedStands t shape P.front P.book P.board P.shelf door c.ports
  pub rows : RowsStand t P.rows c.nexts c.pipes
  pub actors : (y : ActorId) → there t y ≡ true → ActorStands t crews v P y (c.states y)

-- a reactor whose links' scripts went on, with room among its ends
pub record GoesOn {O H T : Type 0} (t : Terms) (v : Views O H T) (o o1 : O) : Type 0 where
  pub same : (s : Table) → ReactorIs t (v.reactor o) (v.ends o).kept s → ReactorIs t (v.reactor o1) (v.ends o1).kept s
  pub room : HasRoom (v.ends o1)

-- the front, of whose links steps were taken out
abbrev pub FrontSame : Terms → Front → Front → Type 0
FrontSame t f g = (s : DoorState) (p : Ports) → FrontStands t f s p → FrontStands t g s p

-- the board on an actor's turn
abbrev pub on_turn : Terms → ActorId → PlainWords → PlainWords
on_turn t y o = record o { turn = number_of t y }

-- what an actor asked is next for it
abbrev pub AsksNext : Terms → ActorId → Rows → Asking → Rows → Type 0
AsksNext t y r ask u = AtRow r (number_of t y) (λ a b. b ≡ record a { next = Asked ask }) u

-- what the code came to is a step of the world
pub record IsStep {O H T : Type 0} (t : Terms) (served : IsServed t) (crews : Crews) (shape : Shape) (v : Views O H T) (c : Core AState) (Q : Parts O H T) : Type 0 where
  pub step : Step AState
  pub may : MayStep t (LegalFor shape) (server t served crews) c step
  pub stands : Stands t served crews shape v Q (next t (server t served crews) c step)

-- or one that wanted memory: all actors' states, and the links that were accepted and that wait, are as they were
pub record IsLostStep {O H T : Type 0} (t : Terms) (served : IsServed t) (crews : Crews) (shape : Shape) (P : Parts O H T) (c : Core AState) : Type 0 where
  pub step : Step AState
  pub may : MayStep t (LegalFor shape) (server t served crews) c step
  pub law : Law t (LegalFor shape) (server t served crews) (next t (server t served crews) c step)
  pub lost : (next t (server t served crews) c step).lost ≡ true
  pub states : (z : ActorId) → (next t (server t served crews) c step).states z ≡ c.states z
  pub links : LinksStand t P.front.links (next t (server t served crews) c step).ports.given (next t (server t served crews) c step).ports.waiting

-- what holds of the record of a core that keeps its law
pub record RecordHolds (t : Terms) (served : IsServed t) (crews : Crews) (shape : Shape) (c : Core AState) : Type 0 where
  pub right : Right t (LegalFor shape) (account t (server t served crews) c) (outside t (server t served crews) c) (accepted (account t (server t served crews) c))
  pub drained : AllDone t (server t served crews) c → Drained t (account t (server t served crews) c)
  pub seen : AfterSeen (account t (server t served crews) c)
  pub rise : SessionsRise (account t (server t served crews) c)

-- before any step: the code of an actor before its first turn
abbrev pub ActorIsNew : {O H T : Type 0} → (t : Terms) → Crews → Views O H T → Parts O H T → ActorId → Type 0
ActorIsNew t crews v P Door = Unit {0}
ActorIsNew {O} t crews v P (Reactor n) = (o : O) × ((slice_get P.owners n ≡ Some o) × ReactorIs t (v.reactor o) (v.ends o).kept started)
ActorIsNew {O} {H} t crews v P (Worker w) = (h : CodeHand (Line H)) × ((slice_get P.workers w ≡ Some h) × WorkerStands t crews v.worker (Worker w) h (new_hand (crews.left (Worker w))))
ActorIsNew {O} {H} {T} t crews v P (Tasker k) = (h : CodeHand T) × ((slice_get P.taskers k ≡ Some h) × TaskerStands t v.tasker (Tasker k) h (new_hand (crews.left (Tasker k))))

-- and all of the code: no link, no message, no session, no mark, no count, no call
pub record IsNewCore {O H T : Type 0} (t : Terms) (crews : Crews) (shape : Shape) (v : Views O H T) (P : Parts O H T) : Type 0 where
  pub front : FrontStands t P.front new_door (new_ports t)
  pub rows : P.rows ≡ new_rows t.worker_num t.tasker_num t.reactor_num t.pipe_capacity
  pub book : P.book ≡ record { last = t.session_last; slots = replicate t.max_conn free }
  pub board : P.board ≡ plain_words (record { workers = t.worker_num; taskers = t.tasker_num; actors = t.worker_num + t.tasker_num + t.reactor_num + 1 }) 0 (replicate (t.worker_num + t.tasker_num) false) false (replicate (t.worker_num + t.tasker_num + t.reactor_num + 1) no_counts)
  pub shelf : TableStands t shape P.shelf []
  pub actors : (y : ActorId) → there t y ≡ true → ActorIsNew t crews v P y
