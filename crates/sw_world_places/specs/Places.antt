-- The places of all actors, and their pipe calls.
use Rattle.std.specs.Prelude.{◌≡◌, ℕ, ◌+◌, nat_lt, if◌then◌else◌, [], List, length, replicate, slice_get, slice_set, Option, Some, None}
use Rattle.sw_step.specs.declared.actor.ActorId.{ActorId}
use Rattle.sw_step.specs.declared.actor.ActorId.TheVariants as actors
use Rattle.sw_data.specs.declared.messages.Ask.TheVariants as asks
use Rattle.sw_data.specs.declared.messages.Got.TheVariants as gots
use Rattle.sw_data.specs.declared.messages.Target.{Target}
use Rattle.sw_data.specs.declared.messages.Target.TheVariants as targets
use Rattle.sw_world_places.specs.Pipes.{Sent, Asking, Getting, taken, left, pushed, with_pushed}
use Rattle.sw_world_places.specs.Place.{fresh, next_left}
use Rattle.sw_world_places.specs.declared.place.Next.{Next}
use Rattle.sw_world_places.specs.declared.place.Next.TheVariants.{Asked, Gave}
use Rattle.sw_world_places.specs.declared.place.Place.{Place}

-- all places, and how many actors there are of each kind
pub record Rows : Type 0 where
  pub all : List Place
  pub workers : ℕ
  pub taskers : ℕ
  pub reactors : ℕ

-- a place for each, and one for the door
abbrev pub IsRows : Rows → Type 0
IsRows r = length r.all ≡ r.workers + r.taskers + r.reactors + 1

-- before all turns
abbrev pub new_rows : ℕ → ℕ → ℕ → ℕ → Rows
new_rows workers taskers reactors room = record { all = replicate (workers + taskers + reactors + 1) (fresh (record { waiting = []; room = room })); workers = workers; taskers = taskers; reactors = reactors }

-- an actor's number: workers first, then task workers, then reactors, then the door
abbrev pub number_in : Rows → ActorId → Option ℕ
number_in r (actors.Worker n) = if nat_lt n r.workers then Some (0 + n) else None
number_in r (actors.Tasker n) = if nat_lt n r.taskers then Some (r.workers + n) else None
number_in r (actors.Reactor n) = if nat_lt n r.reactors then Some (r.workers + r.taskers + n) else None
number_in r actors.Door = Some (r.workers + r.taskers + r.reactors)

-- whom a push is for
abbrev pub actor_of : Target → ActorId
actor_of (targets.Reactor n) = actors.Reactor n
actor_of (targets.Worker n) = actors.Worker n
actor_of (targets.Tasker n) = actors.Tasker n

-- the place of this number is changed so, and all others stay
abbrev pub AtRow : Rows → ℕ → (Place → Place → Type 0) → Rows → Type 0
AtRow r at P s = (c : Place) × ((d : Place) × ((slice_get r.all at ≡ Some c) × P c d × (s ≡ record r { all = slice_set r.all at d })))

-- a push to the actor of this number, if it is there
abbrev pub PushesTo : Rows → Option ℕ → Sent → Getting → Rows → Type 0
PushesTo r None m got s = (got ≡ gots.Full m) × (s ≡ r)
PushesTo r (Some to) m got s = AtRow r to (λ c d. (got ≡ pushed c.inbox m) × (d ≡ record c { inbox = with_pushed c.inbox m })) s

abbrev pub Pushes : Rows → Target → Sent → Getting → Rows → Type 0
Pushes r target m got s = PushesTo r (number_in r (actor_of target)) m got s

-- what was asked for is done, or a turn is due
abbrev pub Calls : Rows → ℕ → Asking → Option Getting → Rows → Type 0
Calls r at asks.Take due s = (due ≡ None) × AtRow r at (λ c d. d ≡ record { next = Gave (taken c.inbox.waiting); inbox = record c.inbox { waiting = left c.inbox.waiting } }) s
Calls r at (asks.Push target m) due s = (due ≡ None) × ((got : Getting) × ((q : Rows) × (Pushes r target m got q × AtRow q at (λ c d. d ≡ record c { next = Gave got }) s)))
Calls r at asks.Finished due s = (due ≡ None) × (s ≡ r)
Calls r at asks.Nothing due s = (due ≡ Some gots.Nothing) × (s ≡ r)
Calls r at asks.Rest due s = (due ≡ Some gots.Nothing) × (s ≡ r)

-- what is next is done, or a turn is due
abbrev pub GoesBy : Rows → ℕ → Next → Option Getting → Rows → Type 0
GoesBy r at (Gave got) due s = (due ≡ Some got) × (s ≡ r)
GoesBy r at (Asked ask) due s = Calls r at ask due s

-- what is next for the actor of this number
abbrev pub Goes : Rows → ℕ → Option Getting → Rows → Type 0
Goes r at due s = (next : Next) × ((q : Rows) × (AtRow r at (λ c d. (next ≡ c.next) × (d ≡ record c { next = next_left c.next })) q × GoesBy q at next due s))
