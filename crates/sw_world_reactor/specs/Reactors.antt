-- The reactor as an actor of the world: its turn, by its table, and its local law.
use Rattle.std.specs.Prelude.{◌≡◌, ◌⊎◌, ℕ, ◌≤◌, Bool, true, false, nat_lt, if◌then◌else◌, List, [], ◌∷◌, length}
use Rattle.sw_lists.specs.Lists.{collect, Each}
use Rattle.sw_data.specs.declared.messages.Got.{Got as TableGot}
use Rattle.sw_data.specs.declared.messages.Got.TheVariants as gots
use Rattle.sw_step.specs.declared.actor.ActorId.{ActorId}
use Rattle.sw_step.specs.declared.actor.ActorId.TheVariants.{Door, Reactor, Worker, Tasker}
use Rattle.sw_record.specs.Words.{PacketsCount, EndedCount, Cause, PeerEnd, ReadFault, WriteFault}
use Rattle.sw_record.specs.declared.record.LinkState.{LinkState}
use Rattle.sw_record.specs.declared.record.LinkState.TheVariants.{Waiting, Live, Over}
use Rattle.sw_record.specs.declared.record.LinkRecord.{LinkRecord}
use Rattle.sw_record.specs.Terms.{Terms}
use Rattle.sw_past.specs.Messages.{Message, FreshMsg, SendMsg, CloseMsg, ResetMsg, Bye, EventMsg, OverMsg, NoMore}
use Rattle.sw_past.specs.Past.{Mail, bare}
use Rattle.sw_past.specs.Views.{no_more}
use Rattle.sw_world_ports.specs.Calls.{Did, IsReactor}
use Rattle.sw_world_ports.specs.Made.{found_in, free_in, saw_stop_in, add_in}
use Rattle.sw_world_laws.specs.Turns.{Ask, AskTake, AskPush, AskNothing, AskRest, AskFinished, Got, GotStart, GotTook, GotEmpty, GotPushed, GotFull, GotNothing, Diary, no_diary}
use Rattle.sw_world_laws.specs.Shows.{Tells}
use Rattle.sw_world_laws.specs.Account.{is_session}
use Rattle.sw_world_laws.specs.Actors.{Feed}
use Rattle.sw_reactor_table.specs.Conn.{Answers}
use Rattle.sw_reactor_table.specs.Reactor.{Reactor as Table, Ask as TableAsk, Take, Push, Nothing, Rest, Finished, settled, turn, started}
use Rattle.sw_reactor_table.specs.Quiet.{IsIdle}
use Rattle.sw_reactor_table.specs.Runs.{Called, Runs}
use Rattle.sw_reactor_laws.specs.Ending.{Counts, IsGiving, IsDone}
use Rattle.sw_reactor_laws.specs.Stopped.{stop_read}
use Rattle.sw_reactor_laws.specs.Histories.{counted_in, freed_in}
use Rattle.sw_world_reactor.specs.Calls.{TurnCalls}

-- the table's words for what a turn begins and ends with
abbrev pub table_got : Got → TableGot Message
table_got GotStart = gots.Start
table_got (GotTook m) = gots.Took m
table_got GotEmpty = gots.Empty
table_got GotPushed = gots.Pushed
table_got (GotFull m) = gots.Full m
table_got GotNothing = gots.Nothing

-- a reactor pushes to workers alone
abbrev pub world_ask : TableAsk → Ask
world_ask Take = AskTake
world_ask (Push w m) = AskPush (Worker w) m
world_ask Nothing = AskNothing
world_ask Rest = AskRest
world_ask Finished = AskFinished

-- a turn: the table's, whatever its links answer, with the table's calls
pub record ReactorTurn (t : Terms) (s : Table) (got : Got) (dids : List Did) (u : Table) (ask : Ask) : Type 0 where
  pub starved : Bool
  pub answers : Answers
  pub idle : IsIdle t answers
  pub calls : TurnCalls t answers (table_got got) s.last (settled t starved (table_got got) s) dids
  pub state : u ≡ turn t starved answers (table_got got) s
  pub asks : ask ≡ world_ask u.last

-- of a reactor that is there
abbrev pub RTurn : Terms → ActorId → Table → Got → Feed → List Did → Table → Ask → Type 0
RTurn t y s got feed dids u ask = IsReactor t y × ReactorTurn t s got dids u ask

-- a reactor that is there
abbrev pub is_reactor : Terms → ActorId → Bool
is_reactor t Door = false
is_reactor t (Reactor n) = nat_lt n t.reactor_num
is_reactor t (Worker n) = false
is_reactor t (Tasker n) = false

-- a link ended so
abbrev pub ended_by : (Cause → Bool) → ℕ → LinkState → Bool
ended_by f n Waiting = false
ended_by f n (Live e) = false
ended_by f n (Over e) = if is_session n e.session then f e.cause else false

-- a link of this session ended so
abbrev pub any_ended : (Cause → Bool) → ℕ → List LinkRecord → Bool
any_ended f n [] = false
any_ended f n (l ∷ ls) = if ended_by f n l.state then true else any_ended f n ls

-- by the peer, or by a fault
abbrev pub is_peer_end : Cause → Bool
is_peer_end PeerEnd = true
is_peer_end _ = false

abbrev pub is_fault : Cause → Bool
is_fault ReadFault = true
is_fault WriteFault = true
is_fault _ = false

-- what its links tell, as far as its table knows it: an end and a fault by the cause that they were of
abbrev pub told_by : Table → ℕ → Tells
told_by s n = record { at_end = any_ended is_peer_end n s.over; failed = any_ended is_fault n s.over }

-- what looks found and releases answered agrees with these uids
pub record AllTold (word : ℕ → ℕ) (dids : List Did) : Type 0 where
  pub found : Each (λ (p : ℕ × ℕ). (p.1 ≡ 0) ⊎ (p.1 ≡ word p.0)) (collect found_in dids)
  pub freed : Each (λ (p : ℕ × ℕ). p.1 ≡ word p.0) (collect free_in dids)

-- a run of the table, and what the calls so far are of it
pub record RunWith (t : Terms) (word : ℕ → ℕ) (took pushed : Mail) (s : Table) (dids : List Did) : Type 0 where
  pub run : Runs t word took pushed s
  pub frees : collect free_in dids ≡ freed_in run
  pub ends : length (collect (add_in EndedCount) dids) ≤ length (collect free_in dids)
  pub packets : length (collect (add_in PacketsCount) dids) ≡ length (counted_in run)
  pub stops : stop_read run ≡ true → ¬ (collect saw_stop_in dids ≡ [])

-- it pushes to workers alone
abbrev pub GoesToWorker : ActorId × Message → Type 0
GoesToWorker e = (w : ℕ) × (e.0 ≡ Worker w)

-- a NoMore is pushed once one came
abbrev pub IsBegunMsg : Mail → Message → Type 0
IsBegunMsg took NoMore = ¬ (collect no_more (bare took) ≡ [])
IsBegunMsg took (FreshMsg ip n) = Unit {0}
IsBegunMsg took (SendMsg n b) = Unit {0}
IsBegunMsg took (CloseMsg n) = Unit {0}
IsBegunMsg took (ResetMsg n) = Unit {0}
IsBegunMsg took (Bye n) = Unit {0}
IsBegunMsg took (EventMsg e) = Unit {0}
IsBegunMsg took (OverMsg id) = Unit {0}

-- the same of an ask
abbrev pub IsBegun : Mail → TableAsk → Type 0
IsBegun took (Push w m) = IsBegunMsg took m
IsBegun took Take = Unit {0}
IsBegun took Nothing = Unit {0}
IsBegun took Rest = Unit {0}
IsBegun took Finished = Unit {0}

-- behind a turn, before the pipe call that it asks for: its counts of NoMore, that it pushes none before one came, whom it
-- pushed to, and a run for all uids that agree
pub record Ran (t : Terms) (took pushed : Mail) (s : Table) (dids : List Did) : Type 0 where
  pub counts : Counts t took pushed s
  pub giving : IsGiving s.given s.last
  pub done : s.last ≡ Finished → IsDone t s
  pub only : Each GoesToWorker pushed
  pub begun : IsBegun took s.last
  pub ended : ¬ (collect no_more (bare pushed) ≡ []) → ¬ (collect no_more (bare took) ≡ [])
  pub runs : (word : ℕ → ℕ) → AllTold word dids → RunWith t word took pushed s dids

-- behind the pipe call
pub record Behind (t : Terms) (s : Table) (got : TableGot Message) (d : Diary) : Type 0 where
  pub took : Mail
  pub pushed : Mail
  pub ran : Ran t took pushed s d.dids
  pub call : Called s took pushed d.took d.pushed got

-- its law with nothing on its way
abbrev pub QuietBy : Terms → Table → Got → Diary → Type 0
QuietBy t s GotStart d = (s ≡ started) × (d ≡ no_diary)
QuietBy t s (GotTook m) d = Behind t s (gots.Took m) d
QuietBy t s GotEmpty d = Behind t s gots.Empty d
QuietBy t s GotPushed d = Behind t s gots.Pushed d
QuietBy t s (GotFull m) d = Behind t s (gots.Full m) d
QuietBy t s GotNothing d = Behind t s gots.Nothing d

-- of a reactor that is there
abbrev pub RQuiet : Terms → ActorId → Table → Got → Diary → Type 0
RQuiet t y s got d = IsReactor t y × QuietBy t s got d

-- and once it is finished
abbrev pub RDone : Terms → ActorId → Table → Diary → Type 0
RDone t y s d = IsReactor t y × ((s.last ≡ Finished) × Ran t d.took d.pushed s d.dids)
