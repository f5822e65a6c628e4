-- Turns of the code are steps of the world.
use Rattle.std.proofs.Common.{◌≡◌, ◌⊎◌, ℕ, ◌<◌, ◌≤◌, true, false, List, length, refl, ap, ◌∙◌, sym, subst, arith, inl, inr, Some, slice_get, slice_set}
use Rattle.sw_step.specs.declared.actor.ActorId.{ActorId}
use Rattle.sw_step.specs.declared.actor.ActorId.TheVariants.{Door, Reactor, Worker, Tasker}
use Rattle.sw_port_book.specs.Plain.{Words}
use Rattle.sw_port_board.specs.PlainBoard.{PlainWords}
use Rattle.sw_record.specs.Terms.{Terms}
use Rattle.sw_record.specs.Words.{EventGiven, AnswerGiven}
use Rattle.sw_table_laws.specs.Table.{Shape}
use Rattle.sw_join.specs.Legal.{LegalFor}
use Rattle.sw_tmodel.specs.Plain.{PlainTable}
use Rattle.sw_world_ports.specs.Calls.{Did}
use Rattle.sw_world_ports.specs.Ports.{Ports, all_ported, set_at}
use Rattle.sw_world_laws.specs.World.{Core, Goes as GoesStep, there, IsTurn}
use Rattle.sw_world_laws.specs.History.{diary_of}
use Rattle.sw_world_laws.specs.Law.{Law}
use Rattle.sw_world_laws.proofs.Reached.{next_keeps}
use Rattle.sw_world_laws.proofs.Locals.{lt_test}
use Rattle.sw_world_fits.specs.Board.{number_of, BoardStands}
use Rattle.sw_hand.specs.Ports.{Acting}
use Rattle.sw_hand.specs.Hand.{IsHand, HasRow}
use Rattle.sw_hand.specs.declared.hand.Hand.{Hand as CodeHand}
use Rattle.sw_hand_calls.specs.Calls.{turn_calls_of, TurnsBy}
use Rattle.sw_worker.specs.Generations.{Line, Acts}
use Rattle.sw_hand_laws.specs.Kept.{GotFits}
use Rattle.sw_world_hands.specs.Hands.{HandState, Crews, HandHolds, hand_got}
use Rattle.sw_world_hand_fits.specs.Plain.{plain_rules}
use Rattle.sw_world_hand_fits.specs.Hands.{Numbers, Tells}
use Rattle.sw_world_hand_fits.proofs.Workers.{worker_goes, worker_tells, tasker_tells}
use Rattle.sw_world_places.specs.Ends.{Keeping, HasRoom, Puts}
use Rattle.sw_world_places.specs.Pipes.{Asking, Getting}
use Rattle.sw_world_places.specs.Places.{Rows, Goes}
use Rattle.sw_world_front.specs.declared.front.Front.{Front}
use Rattle.sw_world_front.specs.Front.{TurnsFront}
use Rattle.sw_world_door.specs.Doors.{DoorState}
use Rattle.sw_reactor_table.specs.Reactor.{Reactor as Table}
use Rattle.sw_reactor.specs.Serving.{Turns}
use Rattle.sw_reactor_fits.specs.Told.{BringsNew}
use Rattle.sw_world_reactor_fits.specs.Plain.{memory_tells, plain_ports}
use Rattle.sw_world_stands.specs.Asked.{got_of}
use Rattle.sw_world_stands.specs.New.{AskNew}
use Rattle.sw_world_stands.specs.Links.{LinksStand}
use Rattle.sw_world_stands.proofs.Gets.{some_same, get_same}
use Rattle.sw_world_stands.proofs.Rows.{set_same}
use Rattle.sw_world_asks.specs.Due.{TurnIsDue, TurnIsStep}
use Rattle.sw_world_asks.proofs.Due.{turn_due, turn_steps, turn_leaves}
use Rattle.sw_world_steps.specs.Server.{IsServed, server, AState, of_door, of_reactor, of_hand}
use Rattle.sw_world_steps.specs.Shared.{SharedStands}
use Rattle.sw_world_steps.specs.Turns.{itself, went, failed, Keeps, DoorGoes, ReactorGoes, HandWent}
use Rattle.sw_world_steps.proofs.Door.{door_goes}
use Rattle.sw_world_steps.proofs.Reactors.{reactor_goes}
use Rattle.sw_world_steps.proofs.Hands.{hand_goes}
use Rattle.sw_world_whole.specs.Parts.{Parts, Views}
use Rattle.sw_world_whole.specs.Whole.{WorkerStands, TaskerStands, ActorStands, Stands, GoesOn, FrontSame, IsStep, IsLostStep, on_turn, AsksNext}
use Rattle.sw_world_whole.proofs.Others.{one_more, same_actors, other_reactors, other_workers, other_taskers}

board_turn : (t : Terms) (y : ActorId) (o : PlainWords) (p : Ports) → BoardStands t o p → BoardStands t (on_turn t y o) p
board_turn t y o p st = record { workers = st.workers; taskers = st.taskers; actors = st.actors; marks = st.marks; words = st.words; stopped = st.stopped; worker = st.worker; tasker = st.tasker; counts = st.counts }

-- ends with room keep what is put
keeps_all : (e : Keeping) → HasRoom e → Keeps Puts (λ (k : Keeping). k.kept) e
keeps_all e room l ended true j h = (refl, h)
keeps_all e room l ended false j h = absurd (let less : length e.kept < e.room = room in let more : e.room ≤ length e.kept = h.1 in omega (arith, less, more))

-- handlers of a worker act on sessions other than 0 where each does
line_numbers : {H : Type 0} (acts : Acting H) → Numbers acts → Numbers (Acts acts)
line_numbers acts num g (EventGiven e) act k w = num w.0 (EventGiven e) act w.1.0 w.1.1.1
line_numbers acts num g (AnswerGiven a) act k w = num w.0 (AnswerGiven a) act w.1.0 w.1.1.1

module _ {O H T : Type 0} (t : Terms) (served : IsServed t) (crews : Crews) (shape : Shape) (v : Views O H T) (P : Parts O H T) (c : Core AState) (st : Stands t served crews shape v P c) where
  -- a turn that is due
  due : (y : ActorId) (got : Getting) (mid : Rows) → there t y ≡ true → Goes P.rows (number_of t y) (Some got) mid → TurnIsDue t (LegalFor shape) (server t served crews) c y got mid
  due y got mid here goes = turn_due t (LegalFor shape) (server t served crews) c y P.rows mid got st.law st.sound here st.rows goes

  -- with memory
  turns : (Q : Parts O H T) (y : ActorId) (got : Getting) (mid : Rows) (dids : List Did) (x : AState) (ask : Asking) (d : DoorState) → there t y ≡ true → TurnIsDue t (LegalFor shape) (server t served crews) c y got mid →
      IsTurn t (LegalFor shape) (server t served crews) c y (went dids x ask) (got_of got) → AskNew y ask → AsksNext t y mid ask Q.rows → set_at c.states y x Door ≡ of_door d →
      SharedStands t shape Q.front Q.book Q.board Q.shelf d (all_ported t c.ports y dids) → ((z : ActorId) → there t z ≡ true → ActorStands t crews v Q z (set_at c.states y x z)) → IsStep t served crews shape v c Q
  turns Q y got mid dids x ask d here is_due turn new asks door shared actors =
      let k : TurnIsStep t (LegalFor shape) (server t served crews) c y (went dids x ask) = turn_steps t (LegalFor shape) (server t served crews) c y mid got (went dids x ask) st.sound here is_due turn in
      record {
        step = GoesStep y (went dids x ask);
        may = k.may;
        stands = subst (Stands t served crews shape v Q) (sym k.is) (record {
          law = subst (Law t (LegalFor shape) (server t served crews)) k.is (next_keeps t (LegalFor shape) (server t served crews) c (GoesStep y (went dids x ask)) k.may st.law);
          sound = refl;
          door = d;
          is = door;
          shared = shared;
          rows = turn_leaves t (LegalFor shape) (server t served crews) c y mid Q.rows got ask (went dids x ask) here is_due refl refl new asks;
          actors = actors;
        });
      }

  -- without
  fails : (y : ActorId) (got : Getting) (mid : Rows) (dids : List Did) (x : AState) → there t y ≡ true → TurnIsDue t (LegalFor shape) (server t served crews) c y got mid →
      IsTurn t (LegalFor shape) (server t served crews) c y (failed dids x) (got_of got) → c.states y ≡ x → LinksStand t P.front.links (all_ported t c.ports y dids).given (all_ported t c.ports y dids).waiting → IsLostStep t served crews shape P c
  fails y got mid dids x here is_due turn still links =
      let k : TurnIsStep t (LegalFor shape) (server t served crews) c y (failed dids x) = turn_steps t (LegalFor shape) (server t served crews) c y mid got (failed dids x) st.sound here is_due turn in
      record {
        step = GoesStep y (failed dids x);
        may = k.may;
        law = next_keeps t (LegalFor shape) (server t served crews) c (GoesStep y (failed dids x)) k.may st.law;
        lost = ap (λ (d : Core AState). d.lost) k.is;
        states = λ z. ap (λ (d : Core AState). d.states z) k.is ∙ set_same c.states y x still z;
        links = subst (λ (d : Core AState). LinksStand t P.front.links d.ports.given d.ports.waiting) (sym k.is) links;
      }

  -- THE DOOR
  pub door_turns : (got : Getting) (mid u : Rows) (h : Front) (b : Words) (o : PlainWords) (ask : Asking) → Goes P.rows (number_of t Door) (Some got) mid → TurnsFront P.front P.book (on_turn t Door P.board) got h b o ask → AsksNext t Door mid ask u → IsStep t served crews shape v c (record P { front = h; rows = u; book = b; board = o })
  door_turns got mid u h b o ask goes turn asks =
      let is_due = due Door got mid refl goes in
      let s = st.shared in
      let k : DoorGoes t served crews shape c got h b o P.shelf ask = door_goes t served crews shape c st.door P.front h P.book b (on_turn t Door P.board) o P.shelf got ask mid st.law st.is (record { front = s.front; book = s.book; board = board_turn t Door P.board c.ports s.board; table = s.table }) is_due refl turn in
      let Q : Parts O H T = record P { front = h; rows = u; book = b; board = o } in
      turns Q Door got mid k.dids (of_door k.state) ask k.state refl is_due k.turn k.new asks refl k.stands
      (one_more t crews v P Q c.states Door (of_door k.state) tt (λ z x ne old. same_actors t crews v P Q refl refl refl z x old) st.actors)

  -- A REACTOR, whose links' scripts went on before
  pub reactor_turns : (n : ℕ) (got made : Getting) (mid u : Rows) (f : Front) (o1 o2 : O) (b : Words) (o : PlainWords) (ask : Asking) → n < t.reactor_num → Goes P.rows (number_of t (Reactor n)) (Some got) mid →
      ((o0 : O) → slice_get P.owners n ≡ Some o0 → GoesOn t v o0 o1) → FrontSame t P.front f → got_of made ≡ got_of got → BringsNew memory_tells made → Turns (plain_ports Puts) (v.reactor o1) made P.book (on_turn t (Reactor n) P.board) (v.ends o1) ask (v.reactor o2) b o (v.ends o2) → AsksNext t (Reactor n) mid ask u →
      IsStep t served crews shape v c (record P { front = f; rows = u; book = b; board = o; owners = slice_set P.owners n o2 })
  reactor_turns n got made mid u f o1 o2 b o ask lt goes on front same new turn asks =
      let here : there t (Reactor n) ≡ true = lt_test n t.reactor_num lt in
      let is_due = due (Reactor n) got mid here goes in
      let s = st.shared in
      let a = st.actors (Reactor n) here in
      let x : Table = a.1.1.0 in
      let go = on a.0 a.1.0 in
      let k : ReactorGoes (λ (e : Keeping). e.kept) t served crews shape n c st.door got (v.reactor o2) (v.ends o2) f b o P.shelf ask =
      reactor_goes Puts (λ (e : Keeping). e.kept) t served crews shape n c x st.door (v.reactor o1) (v.reactor o2) f P.book b (on_turn t (Reactor n) P.board) o P.shelf (v.ends o1) (v.ends o2) got made ask mid st.law lt a.1.1.1.0
      (record { front = front st.door c.ports s.front; book = s.book; board = board_turn t (Reactor n) P.board c.ports s.board; table = s.table })
      is_due refl (go.same x a.1.1.1.1) same new (keeps_all (v.ends o1) go.room) turn in
      let Q : Parts O H T = record P { front = f; rows = u; book = b; board = o; owners = slice_set P.owners n o2 } in
      turns Q (Reactor n) got mid k.dids (of_reactor k.state) ask st.door here is_due k.turn k.new asks st.is k.stands
      (one_more t crews v P Q c.states (Reactor n) (of_reactor k.state) (o2, (get_same P.owners n a.0 o2 a.1.0, (k.state, (refl, k.is)))) (λ z w ne old. other_reactors t crews v P Q n o2 refl refl refl z w ne old) st.actors)

  -- A WORKER
  pub worker_turns : (acts : Acting H) (n : ℕ) (got : Getting) (mid u : Rows) (h k : CodeHand (Line H)) (b : Words) (q : PlainTable) (o : PlainWords) (ask : Asking) → Numbers acts → Tells v.worker acts → n < t.worker_num → Goes P.rows (number_of t (Worker n)) (Some got) mid → slice_get P.workers n ≡ Some h → IsHand k →
      TurnsBy (plain_rules (Acts acts)) h P.book P.shelf (on_turn t (Worker n) P.board) got k b q o ask → AsksNext t (Worker n) mid ask u → HasRow t.columns k.house k.row →
      ((k.lost ≡ true) × IsLostStep t served crews shape P c) ⊎ ((k.lost ≡ false) × IsStep t served crews shape v c (record P { rows = u; book = b; board = o; shelf = q; workers = slice_set P.workers n k }))
  worker_turns acts n got mid u h k b q o ask num tells lt goes is code w asks row =
      let here : there t (Worker n) ≡ true = lt_test n t.worker_num lt in
      let is_due = due (Worker n) got mid here goes in
      let s = st.shared in
      let a = st.actors (Worker n) here in
      let x : HandState = a.1.1.0 in
      let stands : WorkerStands t crews v.worker (Worker n) h x = subst (λ (g : CodeHand (Line H)). WorkerStands t crews v.worker (Worker n) g x) (some_same a.0 h (sym a.1.0 ∙ is)) a.1.1.1.1 in
      let g : HandWent t served crews shape (Worker n) c st.door x got k P.front b o q ask (turn_calls_of (plain_rules (Acts acts)) h P.book P.shelf (on_turn t (Worker n) P.board) got k b q o ask w.0) =
      hand_goes (Acts acts) t served crews shape (Worker n) c x st.door h k P.front P.book b (on_turn t (Worker n) P.board) o P.shelf q got ask mid st.law (inl (n, (lt, refl))) a.1.1.1.0
      (record { front = s.front; book = s.book; board = board_turn t (Worker n) P.board c.ports s.board; table = s.table })
      is_due refl stands.is.hand code (line_numbers acts num) stands.numbered w in
      let Q : Parts O H T = record P { rows = u; book = b; board = o; shelf = q; workers = slice_set P.workers n k } in
      let quiet : HandHolds t crews.limit (crews.left (Worker n)) (Worker n) x (got_of got) (diary_of st.law.0 (Worker n)) =
      subst (λ (z : AState). (server t served crews).Quiet (Worker n) z (got_of got) (diary_of st.law.0 (Worker n))) a.1.1.1.0 (is_due.quiet st.law.0 st.law.1) in
      let fits : GotFits t x.stage (hand_got (got_of got)) = quiet.fits in
      elim g.came [
        | inl m ↦ inl (m.0, fails (Worker n) got mid g.dids (of_hand x) here is_due m.1 a.1.1.1.0 g.stands.front.links)
        | inr m ↦ inr (
          m.0,
          turns Q (Worker n) got mid g.dids (of_hand m.1.gone.state) ask st.door here is_due m.1.turn m.1.new asks st.is g.stands
              (one_more t crews v P Q c.states (Worker n) (of_hand m.1.gone.state) (
                k,
                (
                  get_same P.workers n h k is,
                  (
                    m.1.gone.state,
                    (
                      refl,
                      record {
                        is = worker_goes acts t crews (Worker n) itself x (got_of got) h k P.book b P.shelf q (on_turn t (Worker n) P.board) o ask (turn_calls_of (plain_rules (Acts acts)) h P.book P.shelf (on_turn t (Worker n) P.board) got k b q o ask w.0) g.dids stands.is fits w.1 m.1.gone;
                        numbered = m.1.numbered;
                        row = row;
                        tells = worker_tells v.worker acts t crews (Worker n) itself x (got_of got) h k P.book b P.shelf q (on_turn t (Worker n) P.board) o ask (turn_calls_of (plain_rules (Acts acts)) h P.book P.shelf (on_turn t (Worker n) P.board) got k b q o ask w.0) g.dids tells stands.is stands.tells fits w.1 m.1.gone;
                      },
                    ),
                  ),
                ),
              )
              (λ z w2 ne old. other_workers t crews v P Q n k refl refl refl z w2 ne old) st.actors),
        )
      ]

  -- A TASK WORKER
  pub tasker_turns : (acts : Acting T) (n : ℕ) (got : Getting) (mid u : Rows) (h k : CodeHand T) (b : Words) (q : PlainTable) (o : PlainWords) (ask : Asking) → Numbers acts → Tells v.tasker acts → n < t.tasker_num → Goes P.rows (number_of t (Tasker n)) (Some got) mid → slice_get P.taskers n ≡ Some h → IsHand k →
      TurnsBy (plain_rules acts) h P.book P.shelf (on_turn t (Tasker n) P.board) got k b q o ask → AsksNext t (Tasker n) mid ask u → HasRow t.columns k.house k.row →
      ((k.lost ≡ true) × IsLostStep t served crews shape P c) ⊎ ((k.lost ≡ false) × IsStep t served crews shape v c (record P { rows = u; book = b; board = o; shelf = q; taskers = slice_set P.taskers n k }))
  tasker_turns acts n got mid u h k b q o ask num tells lt goes is code w asks row =
      let here : there t (Tasker n) ≡ true = lt_test n t.tasker_num lt in
      let is_due = due (Tasker n) got mid here goes in
      let s = st.shared in
      let a = st.actors (Tasker n) here in
      let x : HandState = a.1.1.0 in
      let stands : TaskerStands t v.tasker (Tasker n) h x = subst (λ (g : CodeHand T). TaskerStands t v.tasker (Tasker n) g x) (some_same a.0 h (sym a.1.0 ∙ is)) a.1.1.1.1 in
      let g : HandWent t served crews shape (Tasker n) c st.door x got k P.front b o q ask (turn_calls_of (plain_rules acts) h P.book P.shelf (on_turn t (Tasker n) P.board) got k b q o ask w.0) =
      hand_goes acts t served crews shape (Tasker n) c x st.door h k P.front P.book b (on_turn t (Tasker n) P.board) o P.shelf q got ask mid st.law (inr (n, (lt, refl))) a.1.1.1.0
      (record { front = s.front; book = s.book; board = board_turn t (Tasker n) P.board c.ports s.board; table = s.table })
      is_due refl stands.is code num stands.numbered w in
      let Q : Parts O H T = record P { rows = u; book = b; board = o; shelf = q; taskers = slice_set P.taskers n k } in
      elim g.came [
        | inl m ↦ inl (m.0, fails (Tasker n) got mid g.dids (of_hand x) here is_due m.1 a.1.1.1.0 g.stands.front.links)
        | inr m ↦ inr (
          m.0,
          turns Q (Tasker n) got mid g.dids (of_hand m.1.gone.state) ask st.door here is_due m.1.turn m.1.new asks st.is g.stands
              (one_more t crews v P Q c.states (Tasker n) (of_hand m.1.gone.state) (
                k,
                (
                  get_same P.taskers n h k is,
                  (
                    m.1.gone.state,
                    (
                      refl,
                      record {
                        is = m.1.gone.code;
                        numbered = m.1.numbered;
                        row = row;
                        tells = tasker_tells v.tasker acts t crews.limit (Tasker n) itself x (got_of got) h k P.book b P.shelf q (on_turn t (Tasker n) P.board) o ask (turn_calls_of (plain_rules acts) h P.book P.shelf (on_turn t (Tasker n) P.board) got k b q o ask w.0) g.dids tells stands.tells w.1 m.1.gone;
                      },
                    ),
                  ),
                ),
              )
              (λ z w2 ne old. other_taskers t crews v P Q n k refl refl refl z w2 ne old) st.actors),
        )
      ]
