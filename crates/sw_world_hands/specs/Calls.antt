-- The calls that a turn of a hand's table makes on what actors share, with their answers, in order.
use Rattle.std.specs.Prelude.{ℕ, ◌%◌, ◌^◌, ◌-◌, ◌==◌, Bool, true, false, if◌then◌else◌, List, [], ◌∷◌, Option, Result, Ok, Err}
use Rattle.sw_step.specs.declared.actor.ActorId.{ActorId}
use Rattle.sw_step.specs.declared.actor.ActorId.TheVariants.{Worker}
use Rattle.sw_column.specs.declared.column.Column.{Column}
use Rattle.sw_port_book.specs.declared.answers.Look.{Look}
use Rattle.sw_port_book.specs.declared.answers.BindFault.{BindFault}
use Rattle.sw_port_shelf.specs.declared.shelf.Placed.{Placed}
use Rattle.sw_record.specs.Words.{Event, Act, Send, Close, Reset, Bind, Exist, Info, TaskAct, FinishAct, Table, Stats, Shutdown, Done, Dst, Any, At, Answer, Sent, Posted, Finished, Call, Value, CallFault, SendsCount, TasksCount, FinishesCount}
use Rattle.sw_record.specs.Terms.{Terms}
use Rattle.sw_record.specs.Fits.{is_own}
use Rattle.sw_past.specs.Messages.{Message, EventMsg}
use Rattle.sw_past.specs.Views.{for_hand}
use Rattle.sw_world_ports.specs.Calls.{Did, Looks, Binds, Marks, Idles, Stops, Adds, Sums, Tables, TableRefuses}
use Rattle.sw_world_fits.specs.Book.{seen_of, got_of as bind_got}
use Rattle.sw_hand_laws.specs.Hand.{Got, Took, Empty, Pushed, Ports, Stage, Idle, Acting, Sending, Leaving, Stopping, Stopped, Hand, is_there}

-- a session that isn't known is looked at
abbrev pub looks : ℕ → Look → Bool → List Did
looks s look true = []
looks s look false = Looks s (seen_of look) ∷ []

-- a bind, in the mode by uid
abbrev pub binds : ℕ → ℕ → Result (Unit {0}) BindFault → Bool → List Did
binds s u r true = Binds s u (bind_got r) ∷ []
binds s u r false = []

-- a task that is pushed to anyone looks for an idle task worker from the position of its id on
abbrev pub searches : Terms → ℕ → Dst → Option ℕ → List Did
searches t next (At k) idle = []
searches t next Any idle = Idles true (next % t.tasker_num) idle ∷ []

abbrev pub posts_fit : Terms → ℕ → Dst → Option ℕ → Bool → List Did
posts_fit t next d idle true = []
posts_fit t next d idle false = searches t next d idle

abbrev pub posts_to : Terms → ℕ → Dst → Option ℕ → Bool → List Did
posts_to t next d idle true = posts_fit t next d idle (next == 2 ^ 64 - 1)
posts_to t next d idle false = []

abbrev pub posts_some : Terms → ℕ → Dst → Option ℕ → Bool → List Did
posts_some t next d idle true = []
posts_some t next d idle false = posts_to t next d idle (is_there t d)

-- a task of a worker
abbrev pub posts : Terms → ActorId → ℕ → Dst → Option ℕ → List Did
posts t (Worker w) next d idle = posts_some t next d idle (t.tasker_num == 0)
posts t _ next d idle = []

-- a call of the Table, by what it came to
abbrev pub called : Call → List Value → Result Placed CallFault → Did
called c cells (Ok p) = Tables p.at (c, (p.reply, cells))
called c cells (Err fault) = TableRefuses c fault

-- where there is one
abbrev pub calls : Call → Ports → List Column → List Did
calls c p [] = []
calls c p (x ∷ xs) = called c p.cells p.called ∷ []

-- an act is made
abbrev pub makes : Terms → ActorId → Hand → Event → Ports → Act → List Did
makes t y h e p (Send s b) = looks s p.look (is_own t h.own e s)
makes t y h e p (Close s) = looks s p.look (is_own t h.own e s)
makes t y h e p (Reset s) = looks s p.look (is_own t h.own e s)
makes t y h e p (Bind s u) = binds s u p.binding (t.mode == 5)
makes t y h e p (Exist s) = looks s p.look (is_own t h.own e s)
makes t y h e p (Info s) = looks s p.look (if t.mode == 5 then false else is_own t h.own e s)
makes t y h e p (TaskAct d b) = posts t y h.next d p.idle
makes t y h e p (FinishAct b) = []
makes t y h e p (Table c) = calls c p t.columns
makes t y h e p (Stats c) = Sums c p.sum ∷ []
makes t y h e p Shutdown = Stops ∷ []
makes t y h e p Done = []

-- a push that was made is counted
abbrev pub counts : Answer → List Did
counts Sent = Adds SendsCount ∷ []
counts (Posted n) = Adds TasksCount ∷ []
counts Finished = Adds FinishesCount ∷ []
counts _ = []

abbrev pub sends : Answer → Got → List Did
sends a Pushed = counts a
sends a _ = []

-- a hand that is given an event is busy, and one without a message idle
abbrev pub hears : List Event → List Did
hears [] = []
hears (e ∷ es) = Marks false ∷ []

abbrev pub takes : ActorId → Message → List Did
takes y (EventMsg e) = hears (for_hand y e)
takes y _ = []

abbrev pub idles : ActorId → Got → List Did
idles y (Took from m) = takes y m
idles y Empty = Marks true ∷ []
idles y _ = []

-- a whole turn
abbrev pub turn_calls : Terms → ActorId → Ports → Stage → Hand → Got → List Did
turn_calls t y p Idle h got = idles y got
turn_calls t y p (Acting e act) h got = makes t y h e p act
turn_calls t y p (Sending e act to m a) h got = sends a got
turn_calls t y p (Leaving e to m) h got = []
turn_calls t y p (Stopping k) h got = []
turn_calls t y p Stopped h got = []
