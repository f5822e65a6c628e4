-- Which rule fits an event.
use Rattle.std.specs.Prelude.{ℕ, List, [], position, nat_eq, Bool, Option, Some, None}
use Rattle.std.specs.List.{starts_with}
use Rattle.sw_data.specs.declared.events.Event.{Event}
use Rattle.sw_data.specs.declared.events.Event.TheVariants as events
use Rattle.sw_script.specs.declared.rule.On.{On}
use Rattle.sw_script.specs.declared.rule.On.TheVariants.{Connect, Packet, Closed, Finish, Task}
use Rattle.sw_script.specs.declared.rule.Rule.{Rule}

abbrev pub kind_of : Event → On
kind_of (events.Connect s) = Connect
kind_of (events.Packet s i b) = Packet
kind_of (events.Closed s) = Closed
kind_of (events.Finish id b) = Finish
kind_of (events.Task w id b) = Task

-- the session that an event is about
abbrev pub session_of : Event → Option ℕ
session_of (events.Connect s) = Some s
session_of (events.Packet s i b) = Some s
session_of (events.Closed s) = Some s
session_of (events.Finish id b) = None
session_of (events.Task w id b) = None

-- the bytes of an event; none on Connect and Closed
abbrev pub bytes_of : Event → List ℕ
bytes_of (events.Connect s) = []
bytes_of (events.Packet s i b) = b
bytes_of (events.Closed s) = []
bytes_of (events.Finish id b) = b
bytes_of (events.Task w id b) = b

-- the prefix begins these bytes
abbrev pub begins : List ℕ → List ℕ → Bool
begins prefix bytes = starts_with nat_eq bytes prefix

-- where the first rule stands whose prefix begins these bytes, if there is one
abbrev pub first_fit : List Rule → List ℕ → Option ℕ
first_fit rules bytes = position (λ (r : Rule). begins r.prefix bytes) rules
