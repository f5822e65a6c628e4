-- The actors of a server: the door, its reactors, its workers and its task workers.
use Rattle.std.specs.Prelude.{◌≡◌, ◌⊎◌, ◌<◌, ◌≤◌, false}
use Rattle.std.proofs.Common.{inl, inr}
use Rattle.sw_frame.specs.Cut.{IsFit}
use Rattle.sw_record.specs.Terms.{Terms}
use Rattle.sw_world_laws.specs.Actors.{Actors}
use Rattle.sw_world_laws.proofs.Mix.{mix}
use Rattle.sw_world_door.specs.Doors.{DoorState}
use Rattle.sw_world_door.proofs.Family.{doors}
use Rattle.sw_world_door.proofs.Resting.{Resting, resting}
use Rattle.sw_reactor_table.specs.Reactor.{Reactor as Table}
use Rattle.sw_reactor_fits.specs.Fits.{Sizes}
use Rattle.sw_world_reactor.proofs.Family.{reactors}
use Rattle.sw_world_hands.specs.Hands.{HandState, Crews}
use Rattle.sw_world_hands.proofs.Family.{hands}

-- settings under which the code runs
pub record IsServed (t : Terms) : Type 0 where
  pub sizes : Sizes t
  pub slots : 1 ≤ t.max_conn
  pub fit : IsFit t.framing
  pub calm : t.start_fault ≡ false

-- all actors; those that aren't there rest
abbrev pub server : (t : Terms) → IsServed t → Crews → Actors t
server t served crews = mix t (doors t) (mix t (reactors t served.sizes.workers served.fit served.calm) (mix t (hands t crews) (resting t)))

-- a state of one of them
abbrev pub AState : Type 0
AState = DoorState ⊎ (Table ⊎ (HandState ⊎ Resting))

abbrev pub of_door : DoorState → AState
of_door s = inl s

abbrev pub of_reactor : Table → AState
of_reactor s = inr (inl s)

abbrev pub of_hand : HandState → AState
of_hand s = inr (inr (inl s))
