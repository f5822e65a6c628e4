-- What the law of each actor shows at every moment.
use Rattle.std.specs.Prelude.{◌≡◌, ◌⊎◌, ℕ, ◌+◌, ◌<◌, ◌≤◌, ◌%◌, Bool, true, List, [], ◌∷◌, ◌++◌, length, Some}
use Rattle.sw_lists.specs.Lists.{collect, IsPrefix, Each, Has}
use Rattle.sw_lists.specs.Numbers.{Distinct}
use Rattle.sw_step.specs.declared.actor.ActorId.{ActorId}
use Rattle.sw_step.specs.declared.actor.ActorId.TheVariants.{Door, Reactor, Worker, Tasker}
use Rattle.sw_record.specs.declared.record.LinkRecord.{LinkRecord}
use Rattle.sw_record.specs.declared.record.LinkState.TheVariants.{Live, Over}
use Rattle.sw_record.specs.Words.{Act, Stats, Answer, Count, Counter, AcceptedCount, EndedCount, PacketsCount, Shutdown, ServerClose, ResetCause, Stop, NoSlot, NumbersSpent, Ended, Log}
use Rattle.sw_record.specs.Terms.{Terms, session_of, ended_of}
use Rattle.sw_record.specs.Answers.{answers_of}
use Rattle.sw_record.specs.Causes.{IsAsked, granted, refused, task_full, ShowsCause}
use Rattle.sw_record.specs.Counts.{total, counted, tally, count_in}
use Rattle.sw_record.specs.Logs.{told_of}
use Rattle.sw_record.specs.Places.{placed, busy_in, spent_in as spent_of}
use Rattle.sw_record.specs.Sessions.{sess}
use Rattle.sw_record.specs.Tasks.{posts}
use Rattle.sw_record.specs.Uids.{binds, bound_in, info_in}
use Rattle.sw_record.specs.Whole.{IsOwnEnd}
use Rattle.sw_past.specs.Claims.{Claim, Drew, Full, Spent, drew_in}
use Rattle.sw_past.specs.Messages.{Message, FreshMsg}
use Rattle.sw_past.specs.Past.{Mail, bare, of}
use Rattle.sw_past.specs.Views.{fresh_in, close_of, reset_of, no_more}
use Rattle.sw_past.specs.Routes.{IsHand, IsRouted, IsFair}
use Rattle.sw_join.specs.Laws.{ReactorLaw, HandLaw}
use Rattle.sw_join.specs.Modes.{AimOf, EndOf}
use Rattle.sw_join.specs.Causes.{AskLaw}
use Rattle.sw_join.specs.Tasks.{PostLaw, FinishLaw}
use Rattle.sw_world_ports.specs.Calls.{Did, Sums}
use Rattle.sw_world_ports.specs.Made.{accept_in, live_in, other_in, pass_in, found_in, had_in, free_in, firsts, seat_in, spent_in, stop_in, saw_stop_in, add_in, sum_in}
use Rattle.sw_world_laws.specs.Turns.{Diary}

-- links by their addresses and sessions, as they were pushed
abbrev pub fresh_pair : Message → List (ℕ × ℕ)
fresh_pair (FreshMsg ip s) = (ip, s) ∷ []
fresh_pair _ = []

-- by an address, and the session that a claim drew
abbrev pub pair_by : ℕ → Claim → List (ℕ × ℕ)
pair_by ip (Drew s) = (ip, s) ∷ []
pair_by ip Full = []
pair_by ip Spent = []

-- and as they were drawn
abbrev pub drew_pair : ℕ × Claim → List (ℕ × ℕ)
drew_pair x = pair_by x.0 x.1

-- no link comes behind a NoMore
abbrev pub ComeFirst : List Message → Type 0
ComeFirst [] = Unit {0}
ComeFirst (m ∷ ms) = (¬ (no_more m ≡ []) → collect fresh_in ms ≡ []) × ComeFirst ms

-- NoMore of all that push to a hand came
abbrev pub EndsCame : Terms → ActorId → Mail → Type 0
EndsCame t (Worker w) took = t.reactor_num ≤ length (collect no_more (bare took))
EndsCame t (Tasker k) took = t.worker_num ≤ length (collect no_more (bare took))
EndsCame t (Reactor n) took = Unit {0}
EndsCame t Door took = Unit {0}

-- what the door's law shows
pub record DoorShows (t : Terms) (d : Diary) : Type 0 where
  pub routed : IsRouted t Door d.pushed
  pub order : ComeFirst (bare d.pushed)
  pub fresh : IsPrefix (collect fresh_pair (bare d.pushed)) (collect drew_pair (collect accept_in d.dids))
  pub stops : ¬ (collect stop_in d.dids ≡ []) → t.listen_fault ≡ true
  -- what it counted: the links that it accepted, and those without a session
  pub accepted : length (collect (add_in AcceptedCount) d.dids) ≤ length (collect accept_in d.dids)
  pub refused : length (collect (add_in EndedCount) d.dids) + length (collect drew_in (collect accept_in d.dids)) ≤ length (collect accept_in d.dids)

-- what is said of a kept link: its descriptor, its address, and no cause of a link without a session
pub record FitsKept (t : Terms) (s : ℕ) (l : LinkRecord) : Type 0 where
  pub ended : Ended
  pub is : ended_of l.state ≡ Some ended
  pub fd : ended.fd ≡ s % t.max_conn
  pub ip : ended.ip ≡ l.ip
  pub cause : (¬ (ended.cause ≡ NoSlot)) × (¬ (ended.cause ≡ NumbersSpent))

-- what a reactor's link tells beside its record: whether a read answered End, and whether its count of faults rose
pub record Tells : Type 0 where
  pub at_end : Bool
  pub failed : Bool

-- what looks found and releases answered agrees with one uid of each session; before it is bound a look finds none
pub record HasWord (dids : List Did) : Type 0 where
  pub word : ℕ → ℕ
  pub found : Each (λ (p : ℕ × ℕ). (p.1 ≡ 0) ⊎ (p.1 ≡ word p.0)) (collect found_in dids)
  pub freed : Each (λ (p : ℕ × ℕ). p.1 ≡ word p.0) (collect free_in dids)

-- what a reactor's law shows of what came fairly, beside its ReactorLaw
pub record ReactorMore (t : Terms) (kept : List LinkRecord) (told : ℕ → Tells) (d : Diary) : Type 0 where
  -- it releases a session as it ends its link
  pub freed_once : Distinct (firsts (collect free_in d.dids))
  pub freed_fresh : Each (λ s. Has s (collect fresh_in (bare d.took))) (firsts (collect free_in d.dids))
  pub freed_kept : (s : ℕ) → Has s (firsts (collect free_in d.dids)) → ((l : LinkRecord) × (Has l kept × (session_of l.state ≡ Some s))) × ((l : LinkRecord) → Has l kept → session_of l.state ≡ Some s → (e : Ended) × (l.state ≡ Over e))
  -- it pushes one NoMore to each at most, and none before one came
  pub last : (x : ActorId) → length (collect no_more (of x d.pushed)) ≤ 1
  pub ended : ¬ (collect no_more (bare d.pushed) ≡ []) → ¬ (collect no_more (bare d.took) ≡ [])
  -- it counts an end as it releases, and a packet as it notes its push
  pub ends : length (collect (add_in EndedCount) d.dids) ≤ length (collect free_in d.dids)
  pub packets : length (collect (add_in PacketsCount) d.dids) ≤ total kept
  -- each of its links has a session, and no two the same
  pub sessions : Each (λ l. (s : ℕ) × (session_of l.state ≡ Some s)) kept
  pub distinct : Distinct (collect sess kept)
  pub fits : (s : ℕ) (l : LinkRecord) → Has l kept → session_of l.state ≡ Some s → FitsKept t s l
  -- an ended link shows its cause: by what came, by a stop word that was seen set, and by what the link itself tells
  pub closed : (s : ℕ) (l : LinkRecord) (e : Ended) → Has l kept → session_of l.state ≡ Some s → l.state ≡ Over e → e.cause ≡ ServerClose → ¬ (collect (close_of s) (bare d.took) ≡ [])
  pub resets : (s : ℕ) (l : LinkRecord) (e : Ended) → Has l kept → session_of l.state ≡ Some s → l.state ≡ Over e → e.cause ≡ ResetCause → ¬ (collect (reset_of s) (bare d.took) ≡ [])
  pub stops : (l : LinkRecord) (e : Ended) → Has l kept → l.state ≡ Over e → e.cause ≡ Stop → IsOwnEnd t e → ¬ (collect saw_stop_in d.dids ≡ [])
  pub shows : (s : ℕ) (l : LinkRecord) (e : Ended) → Has l kept → session_of l.state ≡ Some s → l.state ≡ Over e → ShowsCause t l (Some (told s).at_end) (Some (told s).failed) e.cause
  -- a link's uid is what the release answered, and before what a look found
  pub over : (s : ℕ) (l : LinkRecord) (e : Ended) → Has l kept → session_of l.state ≡ Some s → l.state ≡ Over e → IsOwnEnd t e → Has (s, e.uid) (collect free_in d.dids)
  pub live : (s : ℕ) (l : LinkRecord) (e : Ended) → Has l kept → session_of l.state ≡ Some s → l.state ≡ Live e → (e.uid ≡ 0) ⊎ Has (s, e.uid) (collect found_in d.dids)

-- what a hand's law shows
pub record HandShows (t : Terms) (y : ActorId) (log : Log) (d : Diary) : Type 0 where
  pub law : HandLaw t y d.took d.pushed log
  -- it pushes NoMore once that of all came
  pub ended : ¬ (collect no_more (bare d.pushed) ≡ []) → EndsCame t y d.took
  -- what it asks of reactors is in its log, and what it was answered of sessions its calls found
  pub asks : Each (λ (e : ActorId × Message). AskLaw log e.1) d.pushed
  pub grants : Each (λ s. Has s (collect live_in d.dids) ⊎ (¬ (told_of s log ≡ []))) (collect granted (answers_of log))
  pub refusals : Each (λ (p : ℕ × ℕ). Has p (collect other_in d.dids)) (collect refused (answers_of log))
  pub task_full : ¬ (collect task_full (answers_of log) ≡ []) → (n : ℕ) × ((n < t.tasker_num) × ((m : Message) × Has (Tasker n, m) d.refused))
  pub room : (n : ℕ) → length (of (Tasker n) d.pushed) ≤ length (posts log) + 1
  pub stops : ¬ (collect stop_in d.dids ≡ []) → IsAsked log Shutdown
  -- binds and uids
  pub binds_are : binds log ≡ collect pass_in d.dids
  pub bound : Each (λ (p : ℕ × ℕ). Has p (collect had_in d.dids)) (collect bound_in (answers_of log))
  pub info : Each (λ (p : ℕ × (ℕ × ℕ)). (p.1.0 ≡ p.0 % t.max_conn) × ((p.1.1 ≡ 0) ⊎ Has (p.0, p.1.1) (collect found_in d.dids))) (collect info_in (answers_of log))
  -- calls of the Table: those with a place, none refused for a lock, and those refused for want of a place
  pub logged : placed log ≡ collect seat_in d.dids
  pub no_busy : collect busy_in (answers_of log) ≡ []
  pub spent : Each (λ n. Has n (collect spent_in d.dids)) (collect spent_of (answers_of log))
  -- its counts: what it was told are sums that it made, it adds as it gives the answer, and of each counter at least the
  -- answers before a count were counted by itself before the sum was made
  pub counts : Each (λ (p : Counter × ℕ). Has p (collect sum_in d.dids)) (collect count_in (answers_of log))
  pub adds : (c : Counter) → length (collect (add_in c) d.dids) ≤ length (tally c log)
  pub least : (before behind : List (Act × Answer)) (c : Counter) (n : ℕ) → answers_of log ≡ before ++ (Stats c, Count n) ∷ behind → (first : List Did) × ((later : List Did) × ((d.dids ≡ first ++ Sums c n ∷ later) × (length (collect (counted c) before) ≤ length (collect (add_in c) first))))

-- what the law of each actor shows, at every moment
pub record Shows (t : Terms) (y : ActorId) (log : Log) (kept : List LinkRecord) (told : ℕ → Tells) (d : Diary) : Type 0 where
  pub door : y ≡ Door → DoorShows t d
  pub reactor : (n : ℕ) → n < t.reactor_num → y ≡ Reactor n → HasWord d.dids → ReactorLaw t (AimOf t) (EndOf t) n d.took d.pushed kept × (IsFair t n d.took → ReactorMore t kept told d)
  pub hand : IsHand t y → HandShows t y log d
  pub worker : (w : ℕ) → w < t.worker_num → y ≡ Worker w → PostLaw w d.pushed log
  pub tasker : (k : ℕ) → k < t.tasker_num → y ≡ Tasker k → FinishLaw d.pushed log

-- what holds of an actor that found no memory: it is a hand, and its handler's log is as it was
pub record LostShows (t : Terms) (y : ActorId) (log : Log) (d : Diary) : Type 0 where
  pub hand : IsHand t y
  pub law : HandLaw t y d.took d.pushed log
