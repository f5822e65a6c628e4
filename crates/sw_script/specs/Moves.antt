-- Acts as a script writes them.
use Rattle.std.specs.Prelude.{ℕ, List, codes, Bool, Option, Some, None, option_map, if◌then◌else◌}
use Rattle.std.specs.Str.{bytes_eq}
use Rattle.sw_text.specs.Then.{◌>>=◌}
use Rattle.sw_text.specs.Numbers.{number_within}
use Rattle.sw_text.specs.Parts.{part_at}
use Rattle.sw_base.specs.declared.counter.Counter.{Counter}
use Rattle.sw_base.specs.declared.counter.Counter.TheVariants.{Accepted, Ended, Packets, Sends, Tasks, Finishes}
use Rattle.sw_data.specs.declared.acts.Dst.{Dst}
use Rattle.sw_data.specs.declared.acts.Dst.TheVariants.{Any, At}
use Rattle.sw_call.specs.Calls.{verb_of}
use Rattle.sw_script.specs.declared.moves.Who.{Who}
use Rattle.sw_script.specs.declared.moves.Who.TheVariants.{Own, Other}
use Rattle.sw_script.specs.declared.moves.Move.{Move}
use Rattle.sw_script.specs.declared.moves.Move.TheVariants.{Send, Close, Reset, Bind, Exist, Info, Task, Finish, Keyed, Count, Stats, Shutdown}
use Rattle.sw_script.specs.Bytes.{form_of}

-- a number that fits 32 bits
abbrev pub small_of : List ℕ → Option ℕ
small_of text = number_within 0 4294967295 text

-- `self`, where the event has a session, or a session's number
abbrev pub who_of : Bool → List ℕ → Option Who
who_of own text = if bytes_eq text (codes "self") then (if own then Some Own else None) else option_map Other (number_within 1 4294967295 text)

-- send S BYTES
unfoldable pub send_of : Bool → List ℕ → Option Move
send_of own text = do
  p ← part_at 32 text
  s ← who_of own p.0
  b ← form_of p.1
  Some (Send s b)

-- bind S UID
unfoldable pub bind_of : Bool → List ℕ → Option Move
bind_of own text = do
  p ← part_at 32 text
  s ← who_of own p.0
  uid ← small_of p.1
  Some (Bind s uid)

-- any, or a task worker's number
abbrev pub dst_of : List ℕ → Option Dst
dst_of text = if bytes_eq text (codes "any") then Some Any else option_map At (small_of text)

-- task any BYTES, task N BYTES
unfoldable pub task_of : List ℕ → Option Move
task_of text = do
  p ← part_at 32 text
  d ← dst_of p.0
  b ← form_of p.1
  Some (Task d b)

-- a call on a key, with the key in a form of bytes
unfoldable pub keyed_of : List ℕ → Option Move
keyed_of text = do
  v ← verb_of text
  key ← form_of v.1
  Some (Keyed v.0 key)

-- table CALL
abbrev pub table_of : List ℕ → Option Move
table_of text = if bytes_eq text (codes "count") then Some Count else keyed_of text

abbrev pub counter_of : List ℕ → Option Counter
counter_of text = if bytes_eq text (codes "accepted") then Some Accepted
    else if bytes_eq text (codes "ended") then Some Ended
    else if bytes_eq text (codes "packets") then Some Packets
    else if bytes_eq text (codes "sends") then Some Sends
    else if bytes_eq text (codes "tasks") then Some Tasks
    else if bytes_eq text (codes "finishes") then Some Finishes
    else None

-- the act of this word, with what stands behind it
abbrev pub named : Bool → List ℕ → List ℕ → Option Move
named own word text = if bytes_eq word (codes "send") then send_of own text
    else if bytes_eq word (codes "close") then option_map Close (who_of own text)
    else if bytes_eq word (codes "reset") then option_map Reset (who_of own text)
    else if bytes_eq word (codes "bind") then bind_of own text
    else if bytes_eq word (codes "exist") then option_map Exist (who_of own text)
    else if bytes_eq word (codes "info") then option_map Info (who_of own text)
    else if bytes_eq word (codes "task") then task_of text
    else if bytes_eq word (codes "finish") then option_map Finish (form_of text)
    else if bytes_eq word (codes "table") then table_of text
    else if bytes_eq word (codes "stats") then option_map Stats (counter_of text)
    else None

unfoldable pub worded : Bool → List ℕ → Option Move
worded own text = do
  p ← part_at 32 text
  named own p.0 p.1

-- an act, in a rule whose event has a session of its own or not; `done` isn't written
abbrev pub move_of : Bool → List ℕ → Option Move
move_of own text = if bytes_eq text (codes "shutdown") then Some Shutdown else worded own text
