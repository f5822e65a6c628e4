-- A turn of one actor, and what it needs.
use Rattle.std.specs.Prelude.{◌≡◌, ℕ, ◌<◌, false, List, length, slice_get, IfSome}
use Rattle.sw_step.specs.declared.actor.ActorId.{ActorId}
use Rattle.sw_step.specs.declared.actor.ActorId.TheVariants.{Door, Reactor, Worker, Tasker}
use Rattle.sw_hand.specs.Ports.{Acting}
use Rattle.sw_hand_calls.specs.Calls.{TurnsBy}
use Rattle.sw_worker.specs.Worker.{WorkerTurns}
use Rattle.sw_world_places.specs.Ends.{HasRoom}
use Rattle.sw_world_places.specs.Pipes.{Asking, Getting}
use Rattle.sw_world_front.specs.declared.front.Front.{Front}
use Rattle.sw_world_front.specs.Front.{TurnsFront}
use Rattle.sw_world_reactors.specs.declared.owner.Owner.{Owner}
use Rattle.sw_world_reactors.specs.Owners.{AtOwner, MayTurn as ReactorMay, IsReadyOwner, TurnsOwner}
use Rattle.sw_world_crew.specs.Hands.{AtHand, MayTurn as HandMay, GoesOn, plain_rules_of}
use Rattle.sw_world_state.specs.declared.state.State.{State}
use Rattle.sw_world_state.specs.Feeding.{FeedsTaken}

-- room is made among a reactor's ends
abbrev pub MakesRoom : List Owner → ℕ → List Owner → Type 0
MakesRoom all k more = AtOwner all k (λ o q. (q.reactor ≡ o.reactor) × (q.ends.kept ≡ o.ends.kept) × HasRoom q.ends) more

-- a reactor's turn: with room among its ends, and with a link that was given what was kept for it
abbrev pub ReactorTurns : {H T : Type 0} → ℕ → State H T → Getting → Asking → State H T → Type 0
ReactorTurns k s got ask n =
    (owners : List Owner) × ((made : Getting) × (MakesRoom s.reactors k owners × FeedsTaken s.front got made n.front
    × AtOwner owners k (λ o q. TurnsOwner o made s.book s.board ask q n.book n.board × IsReadyOwner q) n.reactors
    × (n ≡ record s { front = n.front; book = n.book; board = n.board; reactors = n.reactors })))

-- a turn of an actor that found memory; the Table keeps its columns
abbrev pub TurnsAs : {H T : Type 0} → Acting H → Acting T → ActorId → State H T → Getting → Asking → State H T → Type 0
TurnsAs acts does Door s got ask n = TurnsFront s.front s.book s.board got n.front n.book n.board ask × (n ≡ record s { front = n.front; book = n.book; board = n.board })
TurnsAs acts does (Reactor k) s got ask n = ReactorTurns k s got ask n
TurnsAs acts does (Worker k) s got ask n =
    AtHand s.crew.workers k (λ h g. WorkerTurns (plain_rules_of acts) h s.book s.shelf s.board got g n.book n.shelf n.board ask × GoesOn h g n.shelf) n.crew.workers
    × IfSome (slice_get n.crew.workers k) (λ g. false ≡ g.lost)
    × (n.shelf.columns ≡ s.shelf.columns)
    × (n ≡ record s { book = n.book; board = n.board; shelf = n.shelf; crew = record s.crew { workers = n.crew.workers } })
TurnsAs acts does (Tasker k) s got ask n =
    AtHand s.crew.taskers k (λ h g. TurnsBy (plain_rules_of does) h s.book s.shelf s.board got g n.book n.shelf n.board ask × GoesOn h g n.shelf) n.crew.taskers
    × IfSome (slice_get n.crew.taskers k) (λ g. false ≡ g.lost)
    × (n.shelf.columns ≡ s.shelf.columns)
    × (n ≡ record s { book = n.book; board = n.board; shelf = n.shelf; crew = record s.crew { taskers = n.crew.taskers } })

-- what it needs: an actor that is there, whose turn may be made with this
abbrev pub MayTurnAs : {H T : Type 0} → ActorId → State H T → Getting → Type 0
MayTurnAs Door s got = (0 < s.front.door.max_conn) × (0 < s.front.door.reactors)
MayTurnAs (Reactor k) s got =
    (k < length s.reactors)
    × ((owners : List Owner) (made : Getting) (f : Front) → MakesRoom s.reactors k owners → FeedsTaken s.front got made f →
    (k < length owners) × IfSome (slice_get owners k) (λ o. ReactorMay o made s.book s.board))
MayTurnAs (Worker k) s got = (k < length s.crew.workers) × IfSome (slice_get s.crew.workers k) (λ h. HandMay h s.shelf s.board)
MayTurnAs (Tasker k) s got = (k < length s.crew.taskers) × IfSome (slice_get s.crew.taskers k) (λ h. HandMay h s.shelf s.board)
