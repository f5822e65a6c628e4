-- What is refused, rule by rule.
use Rattle.std.specs.Prelude.{List, [], ◌∷◌, None}
use Rattle.sw_record.specs.declared.record.LinkRecord.{LinkRecord}
use Rattle.sw_record.specs.Words.{Connect, Closed, Finish, Send, PeerEnd, ServerClose, WriteFault, Stop, NoSlot}
use Rattle.sw_record.specs.Terms.{HasLogs}
use Rattle.sw_record.specs.Dialogue.{Dialogues}
use Rattle.sw_record.specs.Fits.{AnswersFit}
use Rattle.sw_record.specs.Order.{InOrderKept, InOrderUid, NoStranger}
use Rattle.sw_record.specs.Scattered.{Scattered}
use Rattle.sw_record.specs.Own.{Own}
use Rattle.sw_record.specs.Whole.{Whole, WholeKept}
use Rattle.sw_record.specs.Tasks.{TasksRight}
use Rattle.sw_record.specs.Causes.{CausesRight}
use Rattle.sw_record.specs.Counts.{CountsRight}
use Rattle.sw_record.specs.Uids.{UidsRight}
use Rattle.sw_record.specs.Places.{Ran, Placed}
use Rattle.sw_record.specs.Sessions.{SessionsOnce}
use Rattle.sw_record.specs.Drained.{AllSettled}
use Rattle.sw_record.specs.AfterSeen.{AfterSeen}
use Rattle.sw_record_refused.specs.Wrong.{in_mode, told, heard, said, live, over, with_logs, quiet, busy, spent, answer_twice, binds, finishes, own_refused, posts, tasker_posts, packet, task, stranger_sent, refused_for_itself, full, counts_five, counts_none, found_bound, call_at, calls_fall, call_refused, saw_five, saw_three}

-- logs and dialogues
pub record RefusedLogs : Type 0 where
  -- a worker's log is missing
  pub missing : ¬ HasLogs (in_mode 2) (record { links = []; workers = [] ∷ []; taskers = [] ∷ [] })
  -- an answer without an act
  pub answer_twice : ¬ Dialogues (with_logs (live 2) answer_twice [] [])

-- answers that don't fit
pub record RefusedAnswers : Type 0 where
  -- a uid was bound in a mode that binds none
  pub bind : ¬ AnswersFit (in_mode 2) (with_logs (live 2) binds [] [])
  -- a finish outside a task was granted
  pub finish : ¬ AnswersFit (in_mode 2) (with_logs (live 2) finishes [] [])
  -- a send to a session of the worker's own was refused
  pub own : ¬ AnswersFit (in_mode 2) (with_logs (live 2) own_refused [] [])
  -- the first task has the id 1
  pub first_id : ¬ AnswersFit (in_mode 2) (with_logs (live 2) (posts 1) [] [])
  -- a call of the Table was answered where there is none
  pub no_table : ¬ AnswersFit (in_mode 2) (with_logs (live 2) (call_at 0) [] [])
  -- a task worker posted a task
  pub tasker : ¬ AnswersFit (in_mode 2) (with_logs (live 2) [] [] tasker_posts)

-- orders where a connection keeps its worker
pub record RefusedOrders : Type 0 where
  -- the second packet came first, or the first one twice, or one at another worker
  pub swapped : ¬ InOrderKept (in_mode 2) (with_logs (live 2) (packet 2 1 98 ∷ packet 2 0 97 ∷ []) [] [])
  pub twice : ¬ InOrderKept (in_mode 2) (with_logs (live 2) (packet 2 0 97 ∷ packet 2 0 97 ∷ []) [] [])
  pub elsewhere : ¬ InOrderKept (in_mode 2) (with_logs (live 2) [] (packet 2 0 97 ∷ []) [])
  -- Connect behind a packet, Closed before one
  pub late_connect : ¬ InOrderKept (in_mode 2) (with_logs (live 2) (packet 2 0 97 ∷ heard (Connect 2) ∷ []) [] [])
  pub early_closed : ¬ InOrderKept (in_mode 2) (with_logs (live 2) (heard (Closed 2) ∷ packet 2 0 97 ∷ []) [] [])
  -- an event of a number that is no link's session
  pub stranger : ¬ NoStranger (with_logs (live 2) (packet 4 0 97 ∷ []) [] [])

-- orders and uids in the mode by uid
pub record RefusedUids : Type 0 where
  -- the packet behind the split came to the worker of the descriptor
  pub side : ¬ InOrderUid (in_mode 5) (with_logs (over (record (said 1 2 PeerEnd) { uid = 4; split = 1 })) [] (packet 1 1 98 ∷ []) [])
  -- two Connects
  pub connects : ¬ InOrderUid (in_mode 5) (with_logs (live 1) (heard (Connect 1) ∷ []) (heard (Connect 1) ∷ []) [])
  -- two binds of a session, a uid that nobody bound, and one that a bind found so
  pub twice : ¬ UidsRight (in_mode 5) (with_logs (live 2) binds binds [])
  pub unbound : ¬ UidsRight (in_mode 5) (with_logs (over (record (said 2 2 PeerEnd) { uid = 7 })) [] [] [])
  pub found : ¬ UidsRight (in_mode 5) (with_logs (live 2) found_bound [] [])

-- orders where no connection has a worker
pub record RefusedScattered : Type 0 where
  -- a packet at two workers, falling numbers, bytes that were not cut, a Connect
  pub twice : ¬ Scattered (in_mode 1) (with_logs (live 1) (packet 1 0 97 ∷ []) (packet 1 0 97 ∷ []) [])
  pub falling : ¬ Scattered (in_mode 1) (with_logs (live 1) (packet 1 1 98 ∷ packet 1 0 97 ∷ []) [] [])
  pub invented : ¬ Scattered (in_mode 1) (with_logs (live 1) (packet 1 5 97 ∷ []) [] [])
  pub connect : ¬ Scattered (in_mode 1) (with_logs (live 1) (heard (Connect 1) ∷ []) [] [])

-- ends with something missing
pub record RefusedWhole : Type 0 where
  -- the peer ended, and its second packet was never pushed; more packets were pushed than were cut
  pub missing : (own : Own (with_logs (over (said 2 1 PeerEnd)) [] [] [])) → ¬ Whole (in_mode 2) (with_logs (over (said 2 1 PeerEnd)) [] [] []) own
  pub too_many : (own : Own (with_logs (over (said 2 3 ServerClose)) [] [] [])) → ¬ Whole (in_mode 2) (with_logs (over (said 2 3 ServerClose)) [] [] []) own
  -- the worker was never told Closed
  pub unclosed : ¬ WholeKept (in_mode 2) (with_logs (over (said 2 0 ServerClose)) (heard (Connect 2) ∷ []) [] [])

-- tasks
pub record RefusedTasks : Type 0 where
  -- a task has other bytes than its post, or stands twice
  pub bytes : ¬ TasksRight (with_logs (live 2) (posts 0) [] (task 0 99 ∷ []))
  pub twice : ¬ TasksRight (with_logs (live 2) (posts 0) [] (task 0 97 ∷ task 0 97 ∷ []))
  -- a finish of a task that nobody was given, and the first id is 1
  pub finish : ¬ TasksRight (with_logs (live 2) (heard (Finish 0 []) ∷ []) [] [])
  pub ids : ¬ TasksRight (with_logs (live 2) (posts 1) [] [])

-- causes, grants and refusals
pub record RefusedCauses : Type 0 where
  -- no read answered End, no count of faults rose, nobody closed, nobody asked to end
  pub peer : (own : Own (with_logs (over (said 2 2 PeerEnd)) [] [] [])) → ¬ CausesRight (in_mode 2) (with_logs (over (said 2 2 PeerEnd)) [] [] []) quiet own
  pub write : (own : Own (with_logs (over (said 2 2 WriteFault)) [] [] [])) → ¬ CausesRight (in_mode 2) (with_logs (over (said 2 2 WriteFault)) [] [] []) quiet own
  pub close : (own : Own (with_logs (over (said 2 2 ServerClose)) [] [] [])) → ¬ CausesRight (in_mode 2) (with_logs (over (said 2 2 ServerClose)) [] [] []) quiet own
  pub stop : (own : Own (with_logs (over (said 2 2 Stop)) [] [] [])) → ¬ CausesRight (in_mode 2) (with_logs (over (said 2 2 Stop)) [] [] []) quiet own
  -- a send to no link's session was granted, one was refused for the session itself, and a pipe was full of nothing
  pub granted : (own : Own (with_logs (live 2) stranger_sent [] [])) → ¬ CausesRight (in_mode 2) (with_logs (live 2) stranger_sent [] []) quiet own
  pub refused : (own : Own (with_logs (live 2) refused_for_itself [] [])) → ¬ CausesRight (in_mode 2) (with_logs (live 2) refused_for_itself [] []) quiet own
  pub full : (own : Own (with_logs (live 2) full [] [])) → ¬ CausesRight (in_mode 2) (with_logs (live 2) full [] []) quiet own

-- counts
pub record RefusedCounts : Type 0 where
  -- five links of one, and none of one's own sends
  pub most : ¬ CountsRight (with_logs (live 2) counts_five [] [])
  pub least : ¬ CountsRight (with_logs (live 2) counts_none [] [])

-- whatever history is legal
abbrev pub AnyLegal : List Ran → Type 0
AnyLegal history = Unit {0}

-- places of calls of the Table
pub record RefusedPlaces : Type 0 where
  -- a place in two logs, falling places, a call that a lock refused, and places that were spent too early
  pub twice : ¬ Placed (in_mode 2) AnyLegal (with_logs (live 2) (call_at 0) (call_at 0) [])
  pub falling : ¬ Placed (in_mode 2) AnyLegal (with_logs (live 2) calls_fall [] [])
  pub busy : ¬ Placed (in_mode 2) AnyLegal (with_logs (live 2) (call_refused busy) [] [])
  pub spent : ¬ Placed (in_mode 2) AnyLegal (with_logs (live 2) (call_refused (spent 5)) [] [])
  -- what a task worker calls comes before what its poster had seen
  pub unseen : ¬ AfterSeen (with_logs (live 2) saw_five [] saw_three)

-- sessions
pub record RefusedSessions : Type 0 where
  -- a number twice, a number that was passed by, another descriptor, and a slot that was free
  pub twice : (net : List LinkRecord) → ¬ SessionsOnce (in_mode 2) (record { links = live 1 ∷ live 1 ∷ []; workers = []; taskers = [] }) net
  pub passed_by : ¬ SessionsOnce (in_mode 2) (record { links = live 3 ∷ []; workers = []; taskers = [] }) (live 3 ∷ [])
  pub descriptor : (net : List LinkRecord) → ¬ SessionsOnce (in_mode 2) (record { links = over (record (said 1 2 PeerEnd) { fd = 5 }) ∷ []; workers = []; taskers = [] }) net
  pub no_slot : (net : List LinkRecord) → ¬ SessionsOnce (in_mode 2) (record { links = over (record (said 1 2 NoSlot) { session = None; fd = 0 }) ∷ []; workers = []; taskers = [] }) net

-- records that something is still on its way of
pub record RefusedEnds : Type 0 where
  -- a link lives, a task wasn't given, a handler isn't done
  pub lives : ¬ AllSettled (in_mode 2) (with_logs (live 2) [] [] [])
  pub ungiven : ¬ AllSettled (in_mode 2) (with_logs (over (said 2 2 PeerEnd)) (posts 0) [] [])
  pub undone : ¬ AllSettled (in_mode 2) (with_logs (over (said 2 2 PeerEnd)) (told (Connect 2) (Send 2 (97 ∷ [])) ∷ []) [] [])
