-- Records that are wrong. Each piece is a packet; a link has two, of the bytes 97 and 98. There are two workers, one task
-- worker and one reactor; session 2 is worker 0's and session 1 worker 1's where connections are tied to a worker.
use Rattle.std.specs.Prelude.{ℕ, [], ◌∷◌, Some, false}
use Rattle.sw_base.specs.declared.table.Call.TheVariants.{Count as Counting}
use Rattle.sw_base.specs.declared.table.CallFault.TheVariants.{Busy, Spent}
use Rattle.sw_base.specs.declared.table.Reply.TheVariants.{Yes}
use Rattle.sw_base.specs.declared.table.WordId.TheVariants.{Pool}
use Rattle.sw_frame.specs.declared.framing.Framing.TheVariants.{Raw}
use Rattle.sw_record.specs.declared.record.LinkRecord.{LinkRecord}
use Rattle.sw_record.specs.declared.record.LinkState.TheVariants.{Live, Over}
use Rattle.sw_record.specs.declared.record.Record.{Record}
use Rattle.sw_record.specs.Words.{Event, Connect, Packet, Finish, Task, Act, Send, Bind, TaskAct, FinishAct, Table, Stats, Done, Any, Answer, Sent, BindOk, Posted, Finished, TableIs, TableRefused, Count, NoSession, Bound, TaskFull, Given, EventGiven, AnswerGiven, Cause, PeerEnd, Ended, AcceptedCount, SendsCount, Log}
use Rattle.sw_record.specs.Terms.{Terms, Outside}

-- the settings in a dispatch mode
abbrev pub in_mode : ℕ → Terms
in_mode m = record { framing = Raw; mode = m; worker_num = 2; tasker_num = 1; reactor_num = 1; max_conn = 1024; session_last = 0; buffer_size = 8; pipe_capacity = 9; columns = []; table_last_call = 1; start_fault = false; listen_fault = false }

-- what a handler was given, and its act
abbrev pub told : Event → Act → Given × Act
told e act = (EventGiven e, act)

-- and where it was given an answer
abbrev pub answered : Answer → Act → Given × Act
answered a act = (AnswerGiven a, act)

-- a handler that does nothing about an event
abbrev pub heard : Event → Given × Act
heard e = told e Done

-- what is said of the link of session s
abbrev pub said : ℕ → ℕ → Cause → Ended
said s n cause = record { session = Some s; fd = s; ip = 0; uid = 0; dispatched = n; split = n; cause = cause }

-- a link that lives
abbrev pub live : ℕ → LinkRecord
live s = record { ip = 0; state = Live (said s 2 PeerEnd); pieces = (97 ∷ []) ∷ (98 ∷ []) ∷ []; written = [] }

-- a link that ended
abbrev pub over : Ended → LinkRecord
over e = record { ip = 0; state = Over e; pieces = (97 ∷ []) ∷ (98 ∷ []) ∷ []; written = [] }

-- a link, and the logs of the two workers and of the task worker
abbrev pub with_logs : LinkRecord → Log → Log → Log → Record
with_logs l first second tasks = record { links = l ∷ []; workers = first ∷ second ∷ []; taskers = tasks ∷ [] }

-- no read answered End, and no count of faults rose
abbrev pub quiet : Outside
quiet = record { at_end = false ∷ false ∷ []; failed = false ∷ false ∷ [] }

-- a call of the Table that was answered at a place
abbrev pub at_place : ℕ → Act → Given × Act
at_place n act = answered (TableIs n Yes []) act

-- a call of the Table, the refusal of one that found a lock taken, and of one that found no place left
abbrev pub calls : Act
calls = Table Counting

abbrev pub busy : Answer
busy = TableRefused (Busy Pool 0)

abbrev pub spent : ℕ → Answer
spent n = TableRefused (Spent n)

-- logs
abbrev pub answer_twice : Log
answer_twice = told (Packet 2 0 (97 ∷ [])) (Send 2 (97 ∷ [])) ∷ answered Sent Done ∷ answered Sent Done ∷ []

abbrev pub binds : Log
binds = told (Packet 2 0 (97 ∷ [])) (Bind 2 7) ∷ answered BindOk Done ∷ []

abbrev pub finishes : Log
finishes = told (Packet 2 0 (97 ∷ [])) (FinishAct (97 ∷ [])) ∷ answered Finished Done ∷ []

abbrev pub own_refused : Log
own_refused = told (Connect 2) (Send 2 (97 ∷ [])) ∷ answered (NoSession 0) Done ∷ []

abbrev pub posts : ℕ → Log
posts id = told (Connect 2) (TaskAct Any (97 ∷ [])) ∷ answered (Posted id) Done ∷ []

abbrev pub tasker_posts : Log
tasker_posts = told (Task 0 0 (97 ∷ [])) (TaskAct Any (97 ∷ [])) ∷ answered (Posted 0) Done ∷ []

abbrev pub packet : ℕ → ℕ → ℕ → Given × Act
packet s i b = heard (Packet s i (b ∷ []))

abbrev pub task : ℕ → ℕ → Given × Act
task id b = heard (Task 0 id (b ∷ []))

abbrev pub stranger_sent : Log
stranger_sent = told (Packet 2 0 (97 ∷ [])) (Send 5 (97 ∷ [])) ∷ answered Sent Done ∷ []

abbrev pub refused_for_itself : Log
refused_for_itself = told (Finish 0 []) (Send 2 (97 ∷ [])) ∷ answered (NoSession 2) Done ∷ []

abbrev pub full : Log
full = told (Connect 2) (TaskAct Any (97 ∷ [])) ∷ answered TaskFull Done ∷ []

abbrev pub counts_five : Log
counts_five = told (Connect 2) (Stats AcceptedCount) ∷ answered (Count 5) Done ∷ []

abbrev pub counts_none : Log
counts_none = told (Connect 2) (Send 2 (97 ∷ [])) ∷ answered Sent (Stats SendsCount) ∷ answered (Count 0) Done ∷ []

abbrev pub found_bound : Log
found_bound = told (Connect 2) (Bind 2 7) ∷ answered (Bound 9) Done ∷ []

abbrev pub call_at : ℕ → Log
call_at n = told (Connect 2) calls ∷ at_place n Done ∷ []

abbrev pub calls_fall : Log
calls_fall = told (Connect 2) calls ∷ at_place 1 calls ∷ at_place 0 Done ∷ []

abbrev pub call_refused : Answer → Log
call_refused a = told (Connect 2) calls ∷ answered a Done ∷ []

-- its worker was told place 5 before it posted the task, and the task worker place 3 behind it
abbrev pub saw_five : Log
saw_five = told (Connect 2) calls ∷ at_place 5 (TaskAct Any (97 ∷ [])) ∷ answered (Posted 0) Done ∷ []

abbrev pub saw_three : Log
saw_three = told (Task 0 0 (97 ∷ [])) calls ∷ at_place 3 Done ∷ []
