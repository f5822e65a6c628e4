-- The texts of events.
use Rattle.std.specs.Prelude.{ℕ, List, ◌++◌, codes}
use Rattle.sw_text.specs.Hex.{bytes_text}
use Rattle.sw_data.specs.declared.events.Event.{Event}
use Rattle.sw_data.specs.declared.events.Event.TheVariants.{Connect, Packet, Closed, Finish, Task}
use Rattle.sw_log_text.specs.Values.{label_text}

-- a space, and two digits for each byte or a dash
abbrev pub bytes_behind : List ℕ → List ℕ
bytes_behind bytes = codes " " ++ bytes_text bytes

abbrev pub session_text : List ℕ → ℕ → List ℕ
session_text word s = label_text word s

abbrev pub packet_text : ℕ → ℕ → List ℕ → List ℕ
packet_text s i b = session_text (codes "packet ") s ++ label_text (codes " ") i ++ bytes_behind b

abbrev pub finish_text : ℕ → List ℕ → List ℕ
finish_text id b = label_text (codes "finish ") id ++ bytes_behind b

abbrev pub task_text : ℕ → ℕ → List ℕ → List ℕ
task_text w id b = label_text (codes "task ") w ++ label_text (codes " ") id ++ bytes_behind b

-- what a handler is told
abbrev pub event_text : Event → List ℕ
event_text (Connect s) = session_text (codes "connect ") s
event_text (Packet s i b) = packet_text s i b
event_text (Closed s) = session_text (codes "closed ") s
event_text (Finish id b) = finish_text id b
event_text (Task w id b) = task_text w id b
