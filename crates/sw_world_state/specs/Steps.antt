-- A step, and what it needs.
use Rattle.std.specs.Prelude.{◌≡◌, ℕ, ◌<◌, ◌^◌, length, Option, Some, None}
use Rattle.sw_step.specs.declared.actor.ActorId.{ActorId}
use Rattle.sw_step.specs.declared.step.Step.{Step}
use Rattle.sw_step.specs.declared.step.Step.TheVariants as steps
use Rattle.sw_link.specs.declared.memory_link.LinkStep.TheVariants as scripts
use Rattle.sw_hand.specs.Ports.{Acting}
use Rattle.sw_world_places.specs.Pipes.{Asking, Getting}
use Rattle.sw_world_places.specs.Places.{Rows, AtRow, Goes, number_in}
use Rattle.sw_world_places.specs.declared.place.Next.TheVariants.{Asked}
use Rattle.sw_world_front.specs.Front.{arrived, net_ended}
use Rattle.sw_world_state.specs.declared.state.State.{State}
use Rattle.sw_world_state.specs.Feeding.{Scripts}
use Rattle.sw_world_state.specs.Turning.{TurnsAs, MayTurnAs}

-- on an actor's turn
abbrev pub on_turn : {H T : Type 0} → ℕ → State H T → State H T
on_turn at s = record s { board = record s.board { turn = at } }

-- a turn, and what it asks is next
abbrev pub Turns : {H T : Type 0} → Acting H → Acting T → ActorId → ℕ → State H T → Getting → State H T → Type 0
Turns {H} {T} acts does y at s got n =
    (ask : Asking) × ((m : State H T) × (TurnsAs acts does y (on_turn at s) got ask m
    × AtRow m.places at (λ a b. b ≡ record a { next = Asked ask }) n.places × (n ≡ record m { places = n.places })))

-- behind what is next for an actor: its pipe call was made, or a turn is
abbrev pub GoesBy : {H T : Type 0} → Acting H → Acting T → ActorId → ℕ → State H T → Option Getting → State H T → Type 0
GoesBy acts does y at s None n = n ≡ s
GoesBy acts does y at s (Some got) n = Turns acts does y at s got n

-- an actor goes on, if it is there
abbrev pub GoesFrom : {H T : Type 0} → Acting H → Acting T → ActorId → Option ℕ → State H T → State H T → Type 0
GoesFrom acts does y None s n = n ≡ s
GoesFrom acts does y (Some at) s n = (due : Option Getting) × ((r : Rows) × (Goes s.places at due r × GoesBy acts does y at (record s { places = r }) due n))

-- a step
abbrev pub Steps : {H T : Type 0} → Acting H → Acting T → State H T → Step → State H T → Type 0
Steps acts does s (steps.Arrive ip) n = n ≡ record s { front = arrived ip s.front }
Steps acts does s (steps.Piece link bytes) n = Scripts s link (scripts.Piece bytes) n
Steps acts does s (steps.End link) n = Scripts s link scripts.End n
Steps acts does s (steps.Wait link k) n = Scripts s link (scripts.Wait k) n
Steps acts does s (steps.Room link k) n = Scripts s link (scripts.Room k) n
Steps acts does s (steps.FailRead link k) n = Scripts s link (scripts.FailRead k) n
Steps acts does s (steps.FailWrite link k) n = Scripts s link (scripts.FailWrite k) n
Steps acts does s steps.NetEnd n = n ≡ record s { front = net_ended s.front }
Steps acts does s (steps.Turn y) n = GoesFrom acts does y (number_in s.places y) s n

-- what the turn of an actor needs that is due
pub record MayGo {H T : Type 0} (y : ActorId) (at : ℕ) (s : State H T) (got : Getting) : Type 0 where
  pub actors : at < s.board.sizes.actors
  pub place : at < length s.places.all
  pub word : at < 2 ^ 32
  pub turn : MayTurnAs y (on_turn at s) got

-- the same of any that is due now; and there are reactors
pub record MayStep {H T : Type 0} (s : State H T) : Type 0 where
  pub slots : 0 < s.max_conn
  pub reactors : 0 < length s.reactors
  pub turns : (y : ActorId) (at : ℕ) (got : Getting) (r : Rows) → number_in s.places y ≡ Some at → Goes s.places at (Some got) r → MayGo y at (record s { places = r }) got
