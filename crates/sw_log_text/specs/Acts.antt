-- The texts of acts.
use Rattle.std.specs.Prelude.{ℕ, List, ◌++◌, codes}
use Rattle.sw_base.specs.declared.table.Call.{Call}
use Rattle.sw_base.specs.declared.counter.Counter.{Counter}
use Rattle.sw_base.specs.declared.counter.Counter.TheVariants as counters
use Rattle.sw_data.specs.declared.acts.Dst.{Dst}
use Rattle.sw_data.specs.declared.acts.Dst.TheVariants.{Any, At}
use Rattle.sw_data.specs.declared.acts.Act.{Act}
use Rattle.sw_data.specs.declared.acts.Act.TheVariants.{Send, Close, Reset, Bind, Exist, Info, Task, Finish, Table, Stats, Shutdown, Done}
use Rattle.sw_log_text.specs.Values.{label_text}
use Rattle.sw_log_text.specs.Events.{bytes_behind, session_text}
use Rattle.sw_log_text.specs.Calls.{call_text}

abbrev pub send_text : ℕ → List ℕ → List ℕ
send_text s b = session_text (codes "send ") s ++ bytes_behind b

abbrev pub bind_text : ℕ → ℕ → List ℕ
bind_text s uid = session_text (codes "bind ") s ++ label_text (codes " ") uid

abbrev pub dst_text : Dst → List ℕ
dst_text Any = codes "task any"
dst_text (At n) = label_text (codes "task ") n

abbrev pub task_text : Dst → List ℕ → List ℕ
task_text d b = dst_text d ++ bytes_behind b

abbrev pub finish_text : List ℕ → List ℕ
finish_text b = codes "finish" ++ bytes_behind b

abbrev pub table_text : Call → List ℕ
table_text c = codes "table " ++ call_text c

abbrev pub counter_text : Counter → List ℕ
counter_text counters.Accepted = codes "accepted"
counter_text counters.Ended = codes "ended"
counter_text counters.Packets = codes "packets"
counter_text counters.Sends = codes "sends"
counter_text counters.Tasks = codes "tasks"
counter_text counters.Finishes = codes "finishes"

abbrev pub stats_text : Counter → List ℕ
stats_text c = codes "stats " ++ counter_text c

-- what a handler does
abbrev pub act_text : Act → List ℕ
act_text (Send s b) = send_text s b
act_text (Close s) = session_text (codes "close ") s
act_text (Reset s) = session_text (codes "reset ") s
act_text (Bind s uid) = bind_text s uid
act_text (Exist s) = session_text (codes "exist ") s
act_text (Info s) = session_text (codes "info ") s
act_text (Task d b) = task_text d b
act_text (Finish b) = finish_text b
act_text (Table c) = table_text c
act_text (Stats c) = stats_text c
act_text Shutdown = codes "shutdown"
act_text Done = codes "done"
