-- All parts together are a new core.
use Rattle.std.proofs.Common.{◌≡◌, ℕ, ◌+◌, ◌<◌, ◌≤◌, ◌^◌, List, [], length, map, replicate, slice_get, Some, true, false, refl, ap, ◌∙◌, sym, subst, arith}
use Rattle.std.proofs.lemmas.Option.{slice_get_within}
use Rattle.std.proofs.lemmas.List.{length-map}
use Rattle.sw_step.specs.declared.actor.ActorId.{ActorId}
use Rattle.sw_step.specs.declared.actor.ActorId.TheVariants.{Door, Reactor, Worker, Tasker}
use Rattle.sw_port_book.specs.Plain.{Words, free}
use Rattle.sw_port_board.specs.PlainBoard.{PlainWords}
use Rattle.sw_settings.specs.declared.values.Values.{Values}
use Rattle.sw_tmodel.specs.Plain.{PlainTable}
use Rattle.sw_world_crew.specs.declared.recorded.Recorded.{Recorded}
use Rattle.sw_world_crew.specs.Recorded.{log_of}
use Rattle.sw_hand.specs.declared.hand.Hand.{Hand as CodeHand}
use Rattle.sw_worker.specs.Generations.{Line}
use Rattle.sw_reactor_table.specs.Reactor.{started}
use Rattle.sw_world_ports.specs.Ports.{new_ports}
use Rattle.sw_world_laws.specs.World.{there}
use Rattle.sw_world_laws.proofs.Locals.{test_lt}
use Rattle.sw_world_fits.specs.Table.{TableStands}
use Rattle.sw_world_door.specs.Doors.{new_door}
use Rattle.sw_world_places.specs.Places.{Rows, new_rows}
use Rattle.sw_world_front.specs.declared.front.Front.{Front}
use Rattle.sw_world_front_fits.specs.Front.{FrontStands}
use Rattle.sw_world_stands.proofs.Gets.{some_same}
use Rattle.sw_world_reactors.specs.declared.owner.Owner.{Owner}
use Rattle.sw_world_reactors.specs.Owners.{IsReadyOwner}
use Rattle.sw_world_reactors_fits.specs.Stand.{ReactorsStand}
use Rattle.sw_world_whole.specs.Parts.{Parts}
use Rattle.sw_world_whole.specs.Whole.{ActorIsNew, IsNewCore}
use Rattle.sw_world_make.specs.Terms.{terms_of, shape_of}
use Rattle.sw_world_make.specs.Handlers.{crews_of, AreWorkers, AreTaskers}
use Rattle.sw_world_state.specs.State.{views}
use Rattle.sw_world_goes.specs.Ready.{Ready}
use Rattle.sw_world_make.specs.Made.{new_board}

pub new_core : {H T : Type 0} (v : Values) (given : List (List H)) (tasks : List T) (front : Front) (rows : Rows) (book : Words) (board : PlainWords) (shelf : PlainTable) (owners : List Owner) (workers : List (CodeHand (Line (Recorded H)))) (taskers : List (CodeHand (Recorded T))) → length given ≡ v.worker_num → length tasks ≡ v.task_worker_num → FrontStands (terms_of v) front new_door (new_ports (terms_of v)) → rows ≡ new_rows v.worker_num v.task_worker_num v.reactor_num v.pipe_capacity → book ≡ record { last = v.session_last; slots = replicate v.max_conn free } → board ≡ new_board (terms_of v) → TableStands (terms_of v) (shape_of v) shelf [] → ReactorsStand (terms_of v) owners (λ n. started) → AreWorkers v given workers → AreTaskers v tasks taskers → IsNewCore (terms_of v) (crews_of v given) (shape_of v) (views log_of log_of) (record { front = front; rows = rows; book = book; board = board; shelf = shelf; owners = owners; workers = workers; taskers = taskers })
new_core {H} {T} v given tasks front rows book board shelf owners workers taskers many more front_is rows_are book_is board_is shelf_is owners_are workers_are taskers_are = record { front = front_is; rows = rows_are; book = book_is; board = board_is; shelf = shelf_is; actors = actors }
  where
    parts : Parts Owner (Recorded H) (Recorded T)
    parts = record { front = front; rows = rows; book = book; board = board; shelf = shelf; owners = owners; workers = workers; taskers = taskers }

    actors : (y : ActorId) → there (terms_of v) y ≡ true → ActorIsNew (terms_of v) (crews_of v given) (views log_of log_of) parts y
    actors Door e = tt
    actors (Reactor n) e = let o = owners_are.each n (test_lt n v.reactor_num e) in (o.0, (o.1.0, o.1.1.is))
    actors (Worker n) e =
        let lt : n < v.worker_num = test_lt n v.worker_num e in
        let here : n < length given = omega (arith, lt, many) in
        let w = workers_are.stand.each n here in
        (w.0, (w.1.0, record { is = w.1.1.is; numbered = w.1.1.numbered; row = w.1.1.row; tells = w.1.1.tells }))
    actors (Tasker n) e =
        let lt : n < v.task_worker_num = test_lt n v.task_worker_num e in
        let here : n < length tasks = omega (arith, lt, more) in
        let k = taskers_are.stand.each n here in
        (k.0, (k.1.0, record { is = k.1.1.is; numbered = k.1.1.numbered; row = k.1.1.row; tells = k.1.1.tells }))

pub ready : {H T : Type 0} (v : Values) (given : List (List H)) (tasks : List T) (front : Front) (rows : Rows) (book : Words) (board : PlainWords) (shelf : PlainTable) (owners : List Owner) (workers : List (CodeHand (Line (Recorded H)))) (taskers : List (CodeHand (Recorded T))) (slots : ℕ) → length given ≡ v.worker_num → length tasks ≡ v.task_worker_num → slots ≡ v.max_conn → 1 ≤ v.reactor_num → v.worker_num + v.task_worker_num + v.reactor_num + 1 ≤ 2 ^ 32 → ReactorsStand (terms_of v) owners (λ n. started) → AreWorkers v given workers → AreTaskers v tasks taskers → Ready {H = Recorded H} {T = Recorded T} (terms_of v) (record { front = front; places = rows; book = book; board = board; shelf = shelf; reactors = owners; crew = record { workers = workers; taskers = taskers }; max_conn = slots })
ready {H} {T} v given tasks front rows book board shelf owners workers taskers slots many more slots_are some few owners_are workers_are taskers_are = record {
  slots = slots_are;
  some = some;
  few = few;
  reactors = owners_are.count;
  workers = workers_are.stand.many ∙ many;
  taskers = taskers_are.stand.many ∙ more;
  owners = λ n o e.
      (let within : n < length owners = slice_get_within owners n o e in
      let count : length owners ≡ v.reactor_num = owners_are.count in
      let here : n < v.reactor_num = omega (arith, within, count) in
      let own = owners_are.each n here in
      subst IsReadyOwner (some_same own.0 o (sym own.1.0 ∙ e)) own.1.1.ready);
}

-- a list for each worker is few enough for 32 bits
pub few_lists : {X H : Type 0} (items : X → List H) (v : Values) (xs : List X) → length (map items xs) ≡ v.worker_num → v.worker_num + v.task_worker_num + v.reactor_num + 1 ≤ 2 ^ 32 → length xs < 2 ^ 32
few_lists items v xs many few = let same : length (map items xs) ≡ length xs = length-map xs items in omega (arith, same, many, few)

pub few_handlers : (v : Values) (n : ℕ) → n ≡ v.task_worker_num → v.worker_num + v.task_worker_num + v.reactor_num + 1 ≤ 2 ^ 32 → n < 2 ^ 32
few_handlers v n more few = omega (arith, more, few)
