-- What stands among the calls that an actor made.
use Rattle.std.specs.Prelude.{ℕ, ◌==◌, Bool, true, List, [], ◌∷◌}
use Rattle.sw_base.specs.declared.table.CallFault.TheVariants.{Spent as PlacesSpent}
use Rattle.sw_lists.specs.Lists.{collect, when}
use Rattle.sw_port_board.specs.Board.{counter_number}
use Rattle.sw_record.specs.Words.{Counter}
use Rattle.sw_record.specs.Places.{Ran}
use Rattle.sw_past.specs.Claims.{Claim}
use Rattle.sw_world_ports.specs.Calls.{Did, Accepts, Looks, Lives, Other, Binds, Granted, Had, NotThere, Frees, Stops, SeesStop, Adds, Sums, Tables, TableRefuses}

-- the links that the net gave, with what their claims answered
abbrev pub accept_in : Did → List (ℕ × Claim)
accept_in (Accepts ip c) = (ip, c) ∷ []
accept_in _ = []

-- the sessions that were found to live
abbrev pub live_in : Did → List ℕ
live_in (Looks s (Lives u)) = s ∷ []
live_in (Binds s u Granted) = s ∷ []
live_in (Binds s u (Had v)) = s ∷ []
live_in _ = []

-- sessions with the other number that their slot held
abbrev pub other_in : Did → List (ℕ × ℕ)
other_in (Looks s (Other n)) = (s, n) ∷ []
other_in (Binds s u (NotThere n)) = (s, n) ∷ []
other_in _ = []

-- granted binds
abbrev pub pass_in : Did → List (ℕ × ℕ)
pass_in (Binds s u Granted) = (s, u) ∷ []
pass_in _ = []

-- uids that were found
abbrev pub found_in : Did → List (ℕ × ℕ)
found_in (Looks s (Lives u)) = (s, u) ∷ []
found_in (Binds s u (Had v)) = (s, v) ∷ []
found_in _ = []

-- uids that binds found
abbrev pub had_in : Did → List (ℕ × ℕ)
had_in (Binds s u (Had v)) = (s, v) ∷ []
had_in _ = []

-- releases, with the uids that they answered
abbrev pub free_in : Did → List (ℕ × ℕ)
free_in (Frees s u) = (s, u) ∷ []
free_in _ = []

-- the first of two
abbrev pub first_of : ℕ × ℕ → List ℕ
first_of p = p.0 ∷ []

-- all of these
abbrev pub firsts : List (ℕ × ℕ) → List ℕ
firsts ps = collect first_of ps

-- calls of the Table with their places
abbrev pub seat_in : Did → List (ℕ × Ran)
seat_in (Tables at x) = (at, x) ∷ []
seat_in _ = []

-- how many places were used where a call was refused for want of one
abbrev pub spent_in : Did → List ℕ
spent_in (TableRefuses c (PlacesSpent n)) = n ∷ []
spent_in _ = []

-- where the stop word was set
abbrev pub stop_in : Did → List ℕ
stop_in Stops = 0 ∷ []
stop_in _ = []

-- where it was seen set
abbrev pub saw_stop_in : Did → List ℕ
saw_stop_in (SeesStop true) = 0 ∷ []
saw_stop_in _ = []

-- two counters are the same
abbrev pub same_counter : Counter → Counter → Bool
same_counter c d = counter_number c == counter_number d

-- what was added to a counter
abbrev pub add_in : Counter → Did → List ℕ
add_in c (Adds d) = when (same_counter d c) 0
add_in c _ = []

-- the sums that were made
abbrev pub sum_in : Did → List (Counter × ℕ)
sum_in (Sums c n) = (c, n) ∷ []
sum_in _ = []
