-- What a hand sees of the server's settings, and which hand it is.
use Rattle.std.specs.Prelude.{ℕ, ◌<◌, ◌+◌, ◌-◌, ◌%◌, ◌^◌, ◌==◌, ◌||◌, nat_lt, if◌then◌else◌, Bool}
use Rattle.sw_data.specs.declared.messages.Target.{Target}
use Rattle.sw_data.specs.declared.messages.Target.TheVariants as targets
use Rattle.sw_hand.specs.declared.house.House.{House}
use Rattle.sw_hand.specs.declared.house.Kind.{Kind}
use Rattle.sw_hand.specs.declared.house.Kind.TheVariants.{Worker, Tasker}

-- there are descriptors and reactors, and not more actors than a number of 32 bits counts
abbrev pub IsHouse : House → Type 0
IsHouse h = (0 < h.max_conn) × (0 < h.reactors) × (h.reactors + h.taskers < 2 ^ 32)

-- each connection keeps its worker
abbrev pub keeps : House → Bool
keeps h = (h.mode == 2) || (h.mode == 4)

-- a session's descriptor, and its reactor
abbrev pub fd_of : House → ℕ → ℕ
fd_of h s = s % h.max_conn

abbrev pub reactor_of : House → ℕ → ℕ
reactor_of h s = fd_of h s % h.reactors

-- the hand's number
abbrev pub number_of : Kind → ℕ
number_of (Worker w) = w
number_of (Tasker k) = k

-- how many NoMore come to a hand: one from each reactor, and to a task worker one from each worker
abbrev pub enders : House → Kind → ℕ
enders h (Worker w) = h.reactors
enders h (Tasker k) = h.workers

-- to whom a hand pushes NoMore: to each reactor, and a worker to each task worker behind them
abbrev pub farewells : House → Kind → ℕ
farewells h (Worker w) = h.reactors + h.taskers
farewells h (Tasker k) = h.reactors

abbrev pub farewell : House → ℕ → Target
farewell h n = if nat_lt n h.reactors then targets.Reactor n else targets.Tasker (n - h.reactors)
