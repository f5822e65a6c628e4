-- Where the code stands for a core and is ready, a step may be made.
use Rattle.std.proofs.Common.{◌≡◌, ℕ, ◌+◌, ◌<◌, ◌≤◌, ◌^◌, Bool, true, false, if◌then◌else◌, List, length, refl, ap, ◌∙◌, sym, subst, arith, Option, Some, None, slice_get, slice_set, IfSome}
use Rattle.std.proofs.lemmas.List.{length-set}
use Rattle.sw_step.specs.declared.actor.ActorId.{ActorId}
use Rattle.sw_step.specs.declared.actor.ActorId.TheVariants.{Door, Reactor, Worker, Tasker}
use Rattle.sw_data.specs.declared.ended.Ended.{Ended}
use Rattle.sw_data.specs.declared.messages.Ask.TheVariants as asks
use Rattle.sw_link.specs.declared.memory_link.MemoryLink.{MemoryLink}
use Rattle.sw_port_board.specs.PlainBoard.{PlainWords}
use Rattle.sw_record.specs.Words.{Log}
use Rattle.sw_record.specs.Terms.{Terms}
use Rattle.sw_table_laws.specs.Table.{Shape}
use Rattle.sw_join.specs.Legal.{LegalFor}
use Rattle.sw_world_ports.specs.Ports.{Ports}
use Rattle.sw_world_laws.specs.World.{Core, there}
use Rattle.sw_world_laws.specs.History.{diary_of}
use Rattle.sw_world_laws.proofs.Locals.{test_lt}
use Rattle.sw_world_fits.specs.Board.{number_of, BoardStands}
use Rattle.sw_world_hands.specs.Hands.{HandState, Crews}
use Rattle.sw_reactor.specs.declared.reactor.Reactor.{Reactor as CodeReactor}
use Rattle.sw_reactor.specs.Ready.{IsReady}
use Rattle.sw_reactor_table.specs.Reactor.{Reactor as Table}
use Rattle.sw_world_reactor_fits.specs.Plain.{ReactorIs}
use Rattle.sw_hand.specs.declared.hand.Hand.{Hand as CodeHand}
use Rattle.sw_worker.specs.Generations.{Line}
use Rattle.sw_world_places.specs.Ends.{Puts}
use Rattle.sw_world_places.specs.Pipes.{Asking, Getting}
use Rattle.sw_world_places.specs.Places.{Rows, Calls, GoesBy as RowGoes, Goes as GoesRow}
use Rattle.sw_world_places.specs.declared.place.Next.{Next}
use Rattle.sw_world_places.specs.declared.place.Next.TheVariants as nexts
use Rattle.sw_world_front.specs.declared.front.Front.{Front}
use Rattle.sw_world_reactors.specs.declared.owner.Owner.{Owner}
use Rattle.sw_world_reactors.specs.Owners.{IsReadyOwner, MayTurn as ReactorMay, number}
use Rattle.sw_world_reactors_fits.specs.Stand.{kept_of}
use Rattle.sw_world_reactors_fits.proofs.Apart.{may_turn}
use Rattle.sw_world_reactors_fits.proofs.Changed.{room_keeps}
use Rattle.sw_world_crew.specs.Hands.{MayTurn as HandMay}
use Rattle.sw_world_crew_fits.proofs.Workers.{worker_may}
use Rattle.sw_world_crew_fits.proofs.Taskers.{tasker_may}
use Rattle.sw_world_stands.proofs.Gets.{some_same, get_same}
use Rattle.sw_world_asks.proofs.Due.{turn_due}
use Rattle.sw_world_steps.specs.Server.{IsServed, server, AState}
use Rattle.sw_world_steps.specs.Shared.{SharedStands}
use Rattle.sw_world_steps.proofs.Reactors.{reactor_before}
use Rattle.sw_world_whole.specs.Whole.{Stands}
use Rattle.sw_world_state.specs.declared.state.State.{State}
use Rattle.sw_world_state.specs.State.{parts_of, views}
use Rattle.sw_world_state.specs.Feeding.{FeedsTaken}
use Rattle.sw_world_state.specs.Turning.{MakesRoom, MayTurnAs}
use Rattle.sw_world_state.specs.Steps.{on_turn, MayGo, MayStep}
use Rattle.sw_world_goes.specs.Ready.{Ready}
use Rattle.sw_world_goes.proofs.Lists.{get_less}
use Rattle.sw_world_goes.proofs.Went.{number_by, fed_same_got, fed_new}

-- an actor's number is below their count
below : (t : Terms) (y : ActorId) → there t y ≡ true → number_of t y < t.worker_num + t.tasker_num + t.reactor_num + 1
below t (Worker n) e = let l : n < t.worker_num = test_lt n t.worker_num e in omega (arith, l)
below t (Tasker n) e = let l : n < t.tasker_num = test_lt n t.tasker_num e in omega (arith, l)
below t (Reactor n) e = let l : n < t.reactor_num = test_lt n t.reactor_num e in omega (arith, l)
below t Door e = omega arith

-- where a turn is due only what is next was taken out
calls_same : (q r : Rows) (at : ℕ) (ask : Asking) (got : Getting) → Calls q at ask (Some got) r → r ≡ q
calls_same q r at asks.Take got h = absurd (let e = h.0 in cc)
calls_same q r at (asks.Push to m) got h = absurd (let e = h.0 in cc)
calls_same q r at asks.Finished got h = absurd (let e = h.0 in cc)
calls_same q r at asks.Nothing got h = h.1
calls_same q r at asks.Rest got h = h.1

row_same : (q r : Rows) (at : ℕ) (x : Next) (got : Getting) → RowGoes q at x (Some got) r → r ≡ q
row_same q r at (nexts.Gave g) got h = h.1
row_same q r at (nexts.Asked ask) got h = calls_same q r at ask got h

place_there : (s r : Rows) (at : ℕ) (got : Getting) → GoesRow s at (Some got) r → at < length r.all
place_there s r at got (x, (q, ((a, (b, (is, p, all))), h))) =
    let same : r ≡ q = row_same q r at x got h in
    let len : length r.all ≡ length s.all = ap (λ (w : Rows). length w.all) same ∙ ap (λ (w : Rows). length w.all) all ∙ length-set s.all at b in
    subst (λ (n : ℕ). at < n) (sym len) (get_less s.all at a is)

-- the board on a turn
board_at : (t : Terms) (at : ℕ) (o : PlainWords) (p : Ports) → BoardStands t o p → BoardStands t (record o { turn = at }) p
board_at t at o p st = record { workers = st.workers; taskers = st.taskers; actors = st.actors; marks = st.marks; words = st.words; stopped = st.stopped; worker = st.worker; tasker = st.tasker; counts = st.counts }

module _ {H T : Type 0} (t : Terms) (served : IsServed t) (crews : Crews) (shape : Shape) (worker : H → Log) (tasker : T → Log) (c : Core AState) (s : State H T) (st : Stands t served crews shape (views worker tasker) (parts_of s) c) (ready : Ready t s) where
  -- a reactor
  reactor_may : (k : ℕ) (got made : Getting) (r : Rows) (owners : List Owner) (f : Front) → there t (Reactor k) ≡ true → GoesRow s.places (number_of t (Reactor k)) (Some got) r → MakesRoom s.reactors k owners → FeedsTaken s.front got made f →
      (k < length owners) × IfSome (slice_get owners k) (λ o. ReactorMay o made s.book (record s.board { turn = number_of t (Reactor k) }))
  reactor_may k got made r owners f here goes (o0, (o1, (is0, (same, kept, room), all))) feeds =
      let lt : k < t.reactor_num = test_lt k t.reactor_num here in
      let due = turn_due t (LegalFor shape) (server t served crews) c (Reactor k) s.places r got st.law st.sound here st.rows goes in
      let a = st.actors (Reactor k) here in
      let x : Table = a.1.1.0 in
      let it : ReactorIs t o0.reactor o0.ends.kept x = subst (λ (y : Owner). ReactorIs t y.reactor y.ends.kept x) (some_same a.0 o0 (sym a.1.0 ∙ is0)) a.1.1.1.1 in
      let now : ReactorIs t o1.reactor o1.ends.kept x = subst (λ (y : CodeReactor MemoryLink ℕ). ReactorIs t y o1.ends.kept x) (sym same) (subst (λ (ks : List (MemoryLink × Ended)). ReactorIs t o0.reactor ks x) (sym kept) it) in
      let shared : SharedStands t shape s.front s.book (record s.board { turn = number_of t (Reactor k) }) s.shelf st.door c.ports =
      record { front = st.shared.front; book = st.shared.book; board = board_at t (number_of t (Reactor k)) s.board c.ports st.shared.board; table = st.shared.table } in
      let before = reactor_before Puts kept_of t served crews shape k c x st.door o1.reactor s.front s.book (record s.board { turn = number_of t (Reactor k) }) s.shelf o1.ends got made r st.law lt a.1.1.1.0 shared due refl now
      (fed_same_got t s.front f got made feeds) (fed_new t s.front f got made (Reactor k) feeds due.new) (room_keeps o1.ends room) in
      let able : IsReadyOwner o1 = subst (λ (y : CodeReactor MemoryLink ℕ). IsReady number y) (sym same) (ready.owners k o0 is0) in (
        subst (λ (n : ℕ). k < n) (sym (ap (λ (l : List Owner). length l) all ∙ length-set s.reactors k o1 ∙ ready.reactors)) lt,
        subst (λ (y : Option Owner). IfSome y (λ o. ReactorMay o made s.book (record s.board { turn = number_of t (Reactor k) }))) (sym (ap (λ (l : List Owner). slice_get l k) all ∙ get_same s.reactors k o0 o1 is0))
            (may_turn t k c.ports x (diary_of st.law.0 (Reactor k)) o1 made s.book (record s.board { turn = number_of t (Reactor k) }) before able),
      )

  -- any actor
  turn_may : (y : ActorId) (got : Getting) (r : Rows) → there t y ≡ true → GoesRow s.places (number_of t y) (Some got) r → MayTurnAs y (on_turn (number_of t y) (record s { places = r })) got
  turn_may Door got r here goes =
      let d = st.shared.front.door in
      let slots : s.front.door.max_conn ≡ t.max_conn = d.slots in
      let some : 1 ≤ t.max_conn = served.slots in
      let reactors : s.front.door.reactors ≡ t.reactor_num = d.reactors in
      let more : 1 ≤ t.reactor_num = ready.some in
      (omega (arith, slots, some), omega (arith, reactors, more))
  turn_may (Reactor k) got r here goes =
      (subst (λ (n : ℕ). k < n) (sym ready.reactors) (test_lt k t.reactor_num here), λ owners made f room feeds. reactor_may k got made r owners f here goes room feeds)
  turn_may (Worker k) got r here goes =
      let a = st.actors (Worker k) here in
      let x : HandState = a.1.1.0 in
      let w = a.1.1.1.1 in (
        subst (λ (n : ℕ). k < n) (sym ready.workers) (test_lt k t.worker_num here),
        subst (λ (y : Option (CodeHand (Line H))). IfSome y (λ h. HandMay h s.shelf (record s.board { turn = number_of t (Worker k) }))) (sym a.1.0)
            (worker_may worker t crews shape k a.0 x (record s.board { turn = number_of t (Worker k) }) s.shelf c.ports (record { is = w.is; numbered = w.numbered; row = w.row; tells = w.tells }) (board_at t (number_of t (Worker k)) s.board c.ports st.shared.board) st.shared.table),
      )
  turn_may (Tasker k) got r here goes =
      let a = st.actors (Tasker k) here in
      let x : HandState = a.1.1.0 in
      let w = a.1.1.1.1 in (
        subst (λ (n : ℕ). k < n) (sym ready.taskers) (test_lt k t.tasker_num here),
        subst (λ (y : Option (CodeHand T)). IfSome y (λ h. HandMay h s.shelf (record s.board { turn = number_of t (Tasker k) }))) (sym a.1.0)
            (tasker_may tasker t shape k a.0 x (record s.board { turn = number_of t (Tasker k) }) s.shelf c.ports (record { is = w.is; numbered = w.numbered; row = w.row; tells = w.tells }) (board_at t (number_of t (Tasker k)) s.board c.ports st.shared.board) st.shared.table),
      )

  go_may : (y : ActorId) (got : Getting) (r : Rows) → there t y ≡ true → GoesRow s.places (number_of t y) (Some got) r → MayGo y (number_of t y) (record s { places = r }) got
  go_may y got r here goes =
      let low : number_of t y < t.worker_num + t.tasker_num + t.reactor_num + 1 = below t y here in
      let few : t.worker_num + t.tasker_num + t.reactor_num + 1 ≤ 2 ^ 32 = ready.few in
      record {
        actors = subst (λ (n : ℕ). number_of t y < n) (sym st.shared.board.actors) low;
        place = place_there s.places r (number_of t y) got goes;
        word = omega (arith, low, few);
        turn = turn_may y got r here goes;
      }

  -- A STEP MAY BE MADE
  pub may_step : MayStep s
  may_step =
      let slots : s.max_conn ≡ t.max_conn = ready.slots in
      let some : 1 ≤ t.max_conn = served.slots in
      let reactors : length s.reactors ≡ t.reactor_num = ready.reactors in
      let more : 1 ≤ t.reactor_num = ready.some in
      record {
        slots = omega (arith, slots, some);
        reactors = omega (arith, reactors, more);
        turns = λ y at got r e goes. pick y at got r (there t y) refl (sym (number_by t s.places c.nexts c.pipes st.rows y) ∙ e) goes;
      }
    where
      pick : (y : ActorId) (at : ℕ) (got : Getting) (r : Rows) (b : Bool) → there t y ≡ b → (if b then Some (number_of t y) else None) ≡ Some at → GoesRow s.places at (Some got) r → MayGo y at (record s { places = r }) got
      pick y at got r true here e goes =
          let same : number_of t y ≡ at = some_same (number_of t y) at e in
          subst (λ (n : ℕ). MayGo y n (record s { places = r }) got) same (go_may y got r here (subst (λ (n : ℕ). GoesRow s.places n (Some got) r) (sym same) goes))
      pick y at got r false here e goes = absurd (cc)
