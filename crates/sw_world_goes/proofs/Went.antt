-- A step of an actor.
use Rattle.std.proofs.Common.{◌≡◌, ◌⊎◌, ℕ, ◌+◌, ◌<◌, ◌≤◌, Bool, true, false, if◌then◌else◌, List, [], length, refl, ap, ◌∙◌, sym, subst, zero-add, inl, inr, Option, Some, None, slice_get, slice_set, IfSome}
use Rattle.std.proofs.lemmas.List.{length-set}
use Rattle.sw_step.specs.declared.actor.ActorId.{ActorId}
use Rattle.sw_step.specs.declared.actor.ActorId.TheVariants.{Door, Reactor, Worker, Tasker}
use Rattle.sw_data.specs.declared.messages.Msg.TheVariants as msgs
use Rattle.sw_data.specs.declared.messages.Got.TheVariants as gots
use Rattle.sw_link.specs.declared.memory_link.LinkStep.{LinkStep}
use Rattle.sw_link.specs.declared.memory_link.MemoryLink.{MemoryLink}
use Rattle.sw_column.specs.declared.column.Column.{Column}
use Rattle.sw_record.specs.Words.{Log}
use Rattle.sw_record.specs.Terms.{Terms}
use Rattle.sw_table_laws.specs.Table.{Shape}
use Rattle.sw_join.specs.Legal.{LegalFor}
use Rattle.sw_past.specs.Messages.{Message}
use Rattle.sw_world_laws.specs.Turns.{AskNothing}
use Rattle.sw_world_laws.specs.World.{Pending, Core, Outcome, Goes as GoesStep, there, next}
use Rattle.sw_world_laws.proofs.Locals.{test_lt, lt_test}
use Rattle.sw_world_fits.specs.Board.{number_of}
use Rattle.sw_hand.specs.Ports.{Acting}
use Rattle.sw_hand.specs.Hand.{HasRow}
use Rattle.sw_hand.specs.declared.hand.Hand.{Hand as CodeHand}
use Rattle.sw_worker.specs.Generations.{Line}
use Rattle.sw_world_hands.specs.Hands.{Crews}
use Rattle.sw_world_hand_fits.specs.Hands.{Numbers, Tells}
use Rattle.sw_reactor_fits.specs.Told.{BringsNew}
use Rattle.sw_world_reactor_fits.specs.Plain.{memory_tells}
use Rattle.sw_world_places.specs.Pipes.{Sent, Asking, Getting}
use Rattle.sw_world_places.specs.Places.{Rows, AtRow, Goes as GoesRow, number_in}
use Rattle.sw_world_places.specs.declared.place.Next.TheVariants.{Asked}
use Rattle.sw_world_front.specs.declared.front.Front.{Front}
use Rattle.sw_world_reactors.specs.declared.owner.Owner.{Owner}
use Rattle.sw_world_reactors.specs.Owners.{IsReadyOwner, TurnsOwner}
use Rattle.sw_world_front_fits.specs.Front.{FrontStands}
use Rattle.sw_world_stands.specs.Asked.{got_of}
use Rattle.sw_world_stands.specs.New.{GotNew}
use Rattle.sw_world_stands.specs.Rows.{RowsStand}
use Rattle.sw_world_stands.proofs.Gets.{some_same, get_same}
use Rattle.sw_world_asks.proofs.Due.{turn_due, other_steps}
use Rattle.sw_world_steps.specs.Server.{IsServed, server, AState}
use Rattle.sw_world_whole.specs.Whole.{Stands, FrontSame}
use Rattle.sw_world_whole.specs.Scripts.{got_fed}
use Rattle.sw_world_whole.proofs.Calls.{calls}
use Rattle.sw_world_whole.proofs.Fed.{got_same, got_new, reactor_stays, front_stays}
use Rattle.sw_world_whole.proofs.Going.{door_turns, reactor_turns, worker_turns, tasker_turns}
use Rattle.sw_world_state.specs.declared.state.State.{State}
use Rattle.sw_world_state.specs.State.{parts_of, views}
use Rattle.sw_world_state.specs.Feeding.{FeedsMessage, FeedsTaken}
use Rattle.sw_world_state.specs.Turning.{TurnsAs}
use Rattle.sw_world_state.specs.Steps.{on_turn, GoesBy, GoesFrom}
use Rattle.sw_world_goes.specs.Ready.{Ready, Goes}
use Rattle.sw_world_goes.proofs.Lists.{set_again, get_changed}

-- an actor's number, if it is there
pub number_by : (t : Terms) (r : Rows) (nexts : ActorId → Pending) (pipes : ActorId → List Message) → RowsStand t r nexts pipes → (y : ActorId) → number_in r y ≡ (if there t y then Some (number_of t y) else None)
number_by t r nexts pipes h Door = rw (h.workers, h.taskers, h.reactors) refl
number_by t r nexts pipes h (Reactor n) = rw (h.workers, h.taskers, h.reactors) refl
number_by t r nexts pipes h (Worker n) = rw (h.workers, zero-add) refl
number_by t r nexts pipes h (Tasker n) = rw (h.workers, h.taskers) refl

-- what a reactor's turn begins with: a link with the steps that were kept for it
pub record Fed (t : Terms) (f : Front) (got made : Getting) (g : Front) : Type 0 where
  pub steps : List LinkStep
  pub made_is : made ≡ got_fed steps got
  pub front : FrontSame t f g

message_is : (t : Terms) (f g : Front) (m k : Sent) → FeedsMessage f m k g → Fed t f (gots.Took m) (gots.Took k) g
message_is t f g (msgs.Fresh link ip ticket) k (l, ((ss, (takes, is, all)), made)) =
    record { steps = ss; made_is = ap (λ (m : Sent). gots.Took m) (made ∙ ap (λ (x : MemoryLink). msgs.Fresh x ip ticket) all); front = front_stays t f g ticket ss is takes }
message_is t f g (msgs.Send s b) k (made, is) = record { steps = []; made_is = ap (λ (m : Sent). gots.Took m) made; front = λ d p st. subst (λ (x : Front). FrontStands t x d p) (sym is) st }
message_is t f g (msgs.Close s) k (made, is) = record { steps = []; made_is = ap (λ (m : Sent). gots.Took m) made; front = λ d p st. subst (λ (x : Front). FrontStands t x d p) (sym is) st }
message_is t f g (msgs.Reset s) k (made, is) = record { steps = []; made_is = ap (λ (m : Sent). gots.Took m) made; front = λ d p st. subst (λ (x : Front). FrontStands t x d p) (sym is) st }
message_is t f g (msgs.Bye s) k (made, is) = record { steps = []; made_is = ap (λ (m : Sent). gots.Took m) made; front = λ d p st. subst (λ (x : Front). FrontStands t x d p) (sym is) st }
message_is t f g (msgs.Event e) k (made, is) = record { steps = []; made_is = ap (λ (m : Sent). gots.Took m) made; front = λ d p st. subst (λ (x : Front). FrontStands t x d p) (sym is) st }
message_is t f g (msgs.Over id) k (made, is) = record { steps = []; made_is = ap (λ (m : Sent). gots.Took m) made; front = λ d p st. subst (λ (x : Front). FrontStands t x d p) (sym is) st }
message_is t f g msgs.NoMore k (made, is) = record { steps = []; made_is = ap (λ (m : Sent). gots.Took m) made; front = λ d p st. subst (λ (x : Front). FrontStands t x d p) (sym is) st }

pub fed_is : (t : Terms) (f g : Front) (got made : Getting) → FeedsTaken f got made g → Fed t f got made g
fed_is t f g (gots.Took m) made (k, (h, is)) = let w = message_is t f g m k h in record { steps = w.steps; made_is = is ∙ w.made_is; front = w.front }
fed_is t f g gots.Start made (e, is) = record { steps = []; made_is = e; front = λ d p st. subst (λ (x : Front). FrontStands t x d p) (sym is) st }
fed_is t f g gots.Empty made (e, is) = record { steps = []; made_is = e; front = λ d p st. subst (λ (x : Front). FrontStands t x d p) (sym is) st }
fed_is t f g gots.Pushed made (e, is) = record { steps = []; made_is = e; front = λ d p st. subst (λ (x : Front). FrontStands t x d p) (sym is) st }
fed_is t f g (gots.Full m) made (e, is) = record { steps = []; made_is = e; front = λ d p st. subst (λ (x : Front). FrontStands t x d p) (sym is) st }
fed_is t f g gots.Nothing made (e, is) = record { steps = []; made_is = e; front = λ d p st. subst (λ (x : Front). FrontStands t x d p) (sym is) st }

pub fed_same_got : (t : Terms) (f g : Front) (got made : Getting) → FeedsTaken f got made g → got_of made ≡ got_of got
fed_same_got t f g got made h = let w = fed_is t f g got made h in ap got_of w.made_is ∙ got_same w.steps got

pub fed_new : (t : Terms) (f g : Front) (got made : Getting) (y : ActorId) → FeedsTaken f got made g → GotNew y got → BringsNew memory_tells made
fed_new t f g got made y h new = let w = fed_is t f g got made h in subst (BringsNew memory_tells) (sym w.made_is) (got_new w.steps y got new)

-- an actor that found memory isn't lost
found_not : (b : Bool) → false ≡ b → b ≡ true → ⊥
found_not b e f = let q : false ≡ true = e ∙ f in cc

-- a hand that found memory
only_found : {A B : Type 0} (b : Bool) → false ≡ b → ((b ≡ true) × A) ⊎ ((b ≡ false) × B) → B
only_found b e (inl (l, a)) = absurd (found_not b e l)
only_found b e (inr (l, x)) = x

module _ {H T : Type 0} (t : Terms) (served : IsServed t) (crews : Crews) (shape : Shape) (worker : H → Log) (tasker : T → Log) (acts : Acting H) (does : Acting T) (num : Numbers acts) (nums : Numbers does) (tells : Tells worker acts) (told : Tells tasker does) (c : Core AState) (s : State H T) (st : Stands t served crews shape (views worker tasker) (parts_of s) c) (ready : Ready t s) where
  ready_rows : (r : Rows) → Ready t (record s { places = r })
  ready_rows r = record { slots = ready.slots; some = ready.some; few = ready.few; reactors = ready.reactors; workers = ready.workers; taskers = ready.taskers; owners = ready.owners }

  -- a turn of the door
  door_went : (got : Getting) (mid : Rows) (n m : State H T) (ask : Asking) → GoesRow s.places (number_of t Door) (Some got) mid → TurnsAs acts does Door (on_turn (number_of t Door) (record s { places = mid })) got ask m →
      AtRow m.places (number_of t Door) (λ a b. b ≡ record a { next = Asked ask }) n.places → n ≡ record m { places = n.places } → Goes t served crews shape worker tasker c n
  door_went got mid n m ask goes (turn, is) asks e =
      let done : n ≡ record s { front = m.front; places = n.places; book = m.book; board = m.board } = e ∙ ap (λ (x : State H T). record x { places = n.places }) is in
      let rows : m.places ≡ mid = ap (λ (x : State H T). x.places) is in
      subst (Goes t served crews shape worker tasker c) (sym done)
      (record {
        step = door_turns t served crews shape (views worker tasker) (parts_of s) c st got mid n.places m.front m.book m.board ask goes turn (subst (λ (r : Rows). AtRow r (number_of t Door) (λ a b. b ≡ record a { next = Asked ask }) n.places) rows asks);
        ready = record { slots = ready.slots; some = ready.some; few = ready.few; reactors = ready.reactors; workers = ready.workers; taskers = ready.taskers; owners = ready.owners };
      })

  -- a turn of a reactor
  reactor_went : (k : ℕ) (got : Getting) (mid : Rows) (n m : State H T) (ask : Asking) → k < t.reactor_num → GoesRow s.places (number_of t (Reactor k)) (Some got) mid → TurnsAs acts does (Reactor k) (on_turn (number_of t (Reactor k)) (record s { places = mid })) got ask m →
      AtRow m.places (number_of t (Reactor k)) (λ a b. b ≡ record a { next = Asked ask }) n.places → n ≡ record m { places = n.places } → Goes t served crews shape worker tasker c n
  reactor_went k got mid n m ask lt goes (owners, (made, ((o0, (o1, (is0, (same_reactor, same_kept, room), all0))), feeds, (o, (o2, (is1, (turn, able), all1))), is))) asks e =
      let here : there t (Reactor k) ≡ true = lt_test k t.reactor_num lt in
      let due = turn_due t (LegalFor shape) (server t served crews) c (Reactor k) s.places mid got st.law st.sound here st.rows goes in
      let rows : m.places ≡ mid = ap (λ (x : State H T). x.places) is in
      let mine : o ≡ o1 = some_same o o1 (sym is1 ∙ ap (λ (l : List Owner). slice_get l k) all0 ∙ get_same s.reactors k o0 o1 is0) in
      let all : m.reactors ≡ slice_set s.reactors k o2 = all1 ∙ ap (λ (l : List Owner). slice_set l k o2) all0 ∙ set_again s.reactors k o1 o2 in
      let done : n ≡ record s { front = m.front; places = n.places; book = m.book; board = m.board; reactors = slice_set s.reactors k o2 } =
      e ∙ ap (λ (x : State H T). record x { places = n.places }) is ∙ ap (λ (r : List Owner). record s { front = m.front; places = n.places; book = m.book; board = m.board; reactors = r }) all in
      let w = fed_is t s.front m.front got made feeds in
      subst (Goes t served crews shape worker tasker c) (sym done)
      (record {
        step = reactor_turns t served crews shape (views worker tasker) (parts_of s) c st k got made mid n.places m.front o1 o2 m.book m.board ask lt goes
            (λ o3 is3. reactor_stays t (views worker tasker) o3 o1 (same_reactor ∙ ap (λ (x : Owner). x.reactor) (some_same o0 o3 (sym is0 ∙ is3))) (same_kept ∙ ap (λ (x : Owner). x.ends.kept) (some_same o0 o3 (sym is0 ∙ is3))) room)
            w.front (fed_same_got t s.front m.front got made feeds) (fed_new t s.front m.front got made (Reactor k) feeds due.new)
            (subst (λ (x : Owner). TurnsOwner x made s.book (record s.board { turn = number_of t (Reactor k) }) ask o2 m.book m.board) mine turn)
            (subst (λ (r : Rows). AtRow r (number_of t (Reactor k)) (λ a b. b ≡ record a { next = Asked ask }) n.places) rows asks);
        ready = record {
          slots = ready.slots;
          some = ready.some;
          few = ready.few;
          reactors = length-set s.reactors k o2 ∙ ready.reactors;
          workers = ready.workers;
          taskers = ready.taskers;
          owners = λ i x q. get_changed IsReadyOwner s.reactors k i o2 x ready.owners able q;
        };
      })

  -- a turn of a worker
  worker_went : (k : ℕ) (got : Getting) (mid : Rows) (n m : State H T) (ask : Asking) → k < t.worker_num → GoesRow s.places (number_of t (Worker k)) (Some got) mid → TurnsAs acts does (Worker k) (on_turn (number_of t (Worker k)) (record s { places = mid })) got ask m →
      AtRow m.places (number_of t (Worker k)) (λ a b. b ≡ record a { next = Asked ask }) n.places → n ≡ record m { places = n.places } → Goes t served crews shape worker tasker c n
  worker_went k got mid n m ask lt goes ((h, (g, (is0, (turn, (hand, house, kind, row)), all))), found, columns, is) asks e =
      let rows : m.places ≡ mid = ap (λ (x : State H T). x.places) is in
      let done : n ≡ record s { places = n.places; book = m.book; board = m.board; shelf = m.shelf; crew = record s.crew { workers = slice_set s.crew.workers k g } } =
      e ∙ ap (λ (x : State H T). record x { places = n.places }) is ∙ ap (λ (r : List (CodeHand (Line H))). record s { places = n.places; book = m.book; board = m.board; shelf = m.shelf; crew = record s.crew { workers = r } }) all in
      let here : false ≡ g.lost = subst (λ (x : Option (CodeHand (Line H))). IfSome x (λ y. false ≡ y.lost)) (ap (λ (l : List (CodeHand (Line H))). slice_get l k) all ∙ get_same s.crew.workers k h g is0) found in
      subst (Goes t served crews shape worker tasker c) (sym done)
      (record {
        step = only_found g.lost here (worker_turns t served crews shape (views worker tasker) (parts_of s) c st acts k got mid n.places h g m.book m.shelf m.board ask num tells lt goes is0 hand turn
            (subst (λ (r : Rows). AtRow r (number_of t (Worker k)) (λ a b. b ≡ record a { next = Asked ask }) n.places) rows asks)
            (subst (λ (cs : List Column). HasRow cs g.house g.row) (columns ∙ st.shared.table.columns) row));
        ready = record { slots = ready.slots; some = ready.some; few = ready.few; reactors = ready.reactors; workers = length-set s.crew.workers k g ∙ ready.workers; taskers = ready.taskers; owners = ready.owners };
      })

  -- a turn of a task worker
  tasker_went : (k : ℕ) (got : Getting) (mid : Rows) (n m : State H T) (ask : Asking) → k < t.tasker_num → GoesRow s.places (number_of t (Tasker k)) (Some got) mid → TurnsAs acts does (Tasker k) (on_turn (number_of t (Tasker k)) (record s { places = mid })) got ask m →
      AtRow m.places (number_of t (Tasker k)) (λ a b. b ≡ record a { next = Asked ask }) n.places → n ≡ record m { places = n.places } → Goes t served crews shape worker tasker c n
  tasker_went k got mid n m ask lt goes ((h, (g, (is0, (turn, (hand, house, kind, row)), all))), found, columns, is) asks e =
      let rows : m.places ≡ mid = ap (λ (x : State H T). x.places) is in
      let done : n ≡ record s { places = n.places; book = m.book; board = m.board; shelf = m.shelf; crew = record s.crew { taskers = slice_set s.crew.taskers k g } } =
      e ∙ ap (λ (x : State H T). record x { places = n.places }) is ∙ ap (λ (r : List (CodeHand T)). record s { places = n.places; book = m.book; board = m.board; shelf = m.shelf; crew = record s.crew { taskers = r } }) all in
      let here : false ≡ g.lost = subst (λ (x : Option (CodeHand T)). IfSome x (λ y. false ≡ y.lost)) (ap (λ (l : List (CodeHand T)). slice_get l k) all ∙ get_same s.crew.taskers k h g is0) found in
      subst (Goes t served crews shape worker tasker c) (sym done)
      (record {
        step = only_found g.lost here (tasker_turns t served crews shape (views worker tasker) (parts_of s) c st does k got mid n.places h g m.book m.shelf m.board ask nums told lt goes is0 hand turn
            (subst (λ (r : Rows). AtRow r (number_of t (Tasker k)) (λ a b. b ≡ record a { next = Asked ask }) n.places) rows asks)
            (subst (λ (cs : List Column). HasRow cs g.house g.row) (columns ∙ st.shared.table.columns) row));
        ready = record { slots = ready.slots; some = ready.some; few = ready.few; reactors = ready.reactors; workers = ready.workers; taskers = length-set s.crew.taskers k g ∙ ready.taskers; owners = ready.owners };
      })

  -- a turn of any of them
  turn_went : (y : ActorId) → there t y ≡ true → (got : Getting) (mid : Rows) (n m : State H T) (ask : Asking) → GoesRow s.places (number_of t y) (Some got) mid → TurnsAs acts does y (on_turn (number_of t y) (record s { places = mid })) got ask m →
      AtRow m.places (number_of t y) (λ a b. b ≡ record a { next = Asked ask }) n.places → n ≡ record m { places = n.places } → Goes t served crews shape worker tasker c n
  turn_went Door here got mid n m ask goes turn asks e = door_went got mid n m ask goes turn asks e
  turn_went (Reactor k) here got mid n m ask goes turn asks e = reactor_went k got mid n m ask (test_lt k t.reactor_num here) goes turn asks e
  turn_went (Worker k) here got mid n m ask goes turn asks e = worker_went k got mid n m ask (test_lt k t.worker_num here) goes turn asks e
  turn_went (Tasker k) here got mid n m ask goes turn asks e = tasker_went k got mid n m ask (test_lt k t.tasker_num here) goes turn asks e

  -- AN ACTOR GOES ON, if it is there
  pub actor_goes : (y : ActorId) (n : State H T) → GoesFrom acts does y (number_in s.places y) s n → Goes t served crews shape worker tasker c n
  actor_goes y n h = pick (there t y) refl (subst (λ (x : Option ℕ). GoesFrom acts does y x s n) (number_by t s.places c.nexts c.pipes st.rows y) h)
    where
      away : there t y ≡ false → n ≡ s → Goes t served crews shape worker tasker c n
      away gone e =
          let o : Outcome AState = record { dids = []; state = c.states y; ask = AskNothing; fails = false } in
          let k = other_steps t (LegalFor shape) (server t served crews) c y o gone in
          subst (Goes t served crews shape worker tasker c) (sym e)
          (record { step = record { step = GoesStep y o; may = k.0; stands = subst (Stands t served crews shape (views worker tasker) (parts_of s)) (sym k.1) st }; ready = ready })

      going : there t y ≡ true → (due : Option Getting) (r : Rows) → GoesRow s.places (number_of t y) due r → GoesBy acts does y (number_of t y) (record s { places = r }) due n → Goes t served crews shape worker tasker c n
      going here None r goes e = subst (Goes t served crews shape worker tasker c) (sym e) (record { step = calls t served crews shape (views worker tasker) (parts_of s) c st y r here goes; ready = ready_rows r })
      going here (Some got) r goes (ask, (m, (turn, asks, e))) = turn_went y here got r n m ask goes turn asks e

      pick : (b : Bool) → there t y ≡ b → GoesFrom acts does y (if b then Some (number_of t y) else None) s n → Goes t served crews shape worker tasker c n
      pick true e (due, (r, (goes, by))) = going e due r goes by
      pick false e q = away e q
