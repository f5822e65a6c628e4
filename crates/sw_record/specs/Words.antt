-- The words of a record, handed on from where they are declared: events, acts, answers, causes, links, logs. Where two
-- share a spelling one has another name here: a task is posted by TaskAct and finished by FinishAct, a look's answer is
-- InfoIs, the Table's TableIs, the cause of a reset is ResetCause, and counters end in Count.
use Rattle.std.specs.Prelude.{List}
use Rattle.sw_data.specs.declared.given.Given.{Given}
use Rattle.sw_data.specs.declared.acts.Act.{Act}
pub use Rattle.sw_data.specs.declared.events.Event.{Event}
pub use Rattle.sw_data.specs.declared.events.Event.TheVariants.{Connect, Packet, Closed, Finish, Task}
pub use Rattle.sw_data.specs.declared.acts.Act.TheVariants.{Send, Close, Reset, Bind, Exist, Info, Task as TaskAct, Finish as FinishAct, Table, Stats, Shutdown, Done}
pub use Rattle.sw_data.specs.declared.acts.Dst.{Dst}
pub use Rattle.sw_data.specs.declared.acts.Dst.TheVariants.{Any, At}
pub use Rattle.sw_data.specs.declared.answers.Answer.{Answer}
pub use Rattle.sw_data.specs.declared.answers.Answer.TheVariants.{Sent, Asked, BindOk, Exists, Info as InfoIs, Posted, Finished, Table as TableIs, TableRefused, Count, NoSession, Bound, BadUid, WrongMode, TaskFull, BadTarget, NoTaskWorkers, IdsSpent, NotHere, NoTable}
pub use Rattle.sw_data.specs.declared.given.Given.TheVariants.{Event as EventGiven, Answer as AnswerGiven}
pub use Rattle.sw_data.specs.declared.ended.Cause.{Cause}
pub use Rattle.sw_data.specs.declared.ended.Cause.TheVariants.{PeerEnd, ServerClose, Reset as ResetCause, ReadFault, WriteFault, TooLong, BadLength, Overflow, Stop, NoSlot, NumbersSpent, NoMemory}
pub use Rattle.sw_data.specs.declared.ended.Ended.{Ended}
pub use Rattle.sw_base.specs.declared.table.Call.{Call}
pub use Rattle.sw_base.specs.declared.table.Reply.{Reply}
pub use Rattle.sw_base.specs.declared.table.Value.{Value}
pub use Rattle.sw_base.specs.declared.table.CallFault.{CallFault}
pub use Rattle.sw_base.specs.declared.counter.Counter.{Counter}
pub use Rattle.sw_base.specs.declared.counter.Counter.TheVariants.{Accepted as AcceptedCount, Ended as EndedCount, Packets as PacketsCount, Sends as SendsCount, Tasks as TasksCount, Finishes as FinishesCount}
pub use Rattle.sw_data.specs.declared.given.Given.{Given}
pub use Rattle.sw_data.specs.declared.acts.Act.{Act}

-- what a handler was given and what it did, in order
abbrev pub Log : Type 0
Log = List (Given × Act)
