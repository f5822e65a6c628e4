-- What a reactor shows beside its law, of what came fairly: what it counted and released, which links it has, and what their
-- ends rest on. And what it shows once it is finished.
use Rattle.std.specs.Prelude.{◌≡◌, ◌⊎◌, ℕ, ◌+◌, ◌<◌, ◌≤◌, List, [], length, Some}
use Rattle.sw_lists.specs.Lists.{collect, Each, Has}
use Rattle.sw_lists.specs.Numbers.{Distinct}
use Rattle.sw_step.specs.declared.actor.ActorId.TheVariants.{Worker}
use Rattle.sw_record.specs.Counts.{total}
use Rattle.sw_record.specs.Rounds.{rounds}
use Rattle.sw_record.specs.Terms.{Terms, session_of}
use Rattle.sw_record.specs.Whole.{IsAllCut}
use Rattle.sw_record.specs.Words.{Ended}
use Rattle.sw_record.specs.declared.record.LinkRecord.{LinkRecord}
use Rattle.sw_record.specs.declared.record.LinkState.TheVariants.{Live, Over}
use Rattle.sw_past.specs.Past.{Mail, bare, of}
use Rattle.sw_past.specs.Views.{fresh_in, fresh_of, no_more}
use Rattle.sw_join.specs.Drained.{LastMarked}
use Rattle.sw_reactor_table.specs.Reactor.{Reactor, kept}
use Rattle.sw_reactor_table.specs.Quiet.{IsCaused, session_over}
use Rattle.sw_reactor_table.specs.Runs.{Runs}
use Rattle.sw_reactor_laws.specs.Ending.{LinksFirst}
use Rattle.sw_reactor_laws.specs.Stopped.{CalmLink, stop_read}
use Rattle.sw_reactor_laws.specs.Round.{packets_at}
use Rattle.sw_reactor_laws.specs.Histories.{counted_in, freed_in, freed_of, firsts, reads_in, writes_in}
use Rattle.sw_reactor_laws.specs.Rests.{LinkRests}

-- a link that ended by ServerClose or Reset was asked to
abbrev pub WasAsked : Mail → LinkRecord → Type 0
WasAsked took l = (s : ℕ) (e : Ended) → session_of l.state ≡ Some s → l.state ≡ Over e → IsCaused s (Some e.cause) took

-- a link has a session
abbrev pub HasSession : LinkRecord → Type 0
HasSession l = (s : ℕ) × (session_of l.state ≡ Some s)

-- a link ended
abbrev pub IsEnd : LinkRecord → Type 0
IsEnd l = (e : Ended) × (l.state ≡ Over e)

-- it ended with all its packets cut and pushed
abbrev pub EndsAllCut : LinkRecord → Type 0
EndsAllCut l = (e : Ended) × ((l.state ≡ Over e) × IsAllCut e.cause)

-- a link tells the uid of its session: once it ended, and where its reactor has seen it
abbrev pub TellsWord : (ℕ → ℕ) → LinkRecord → Type 0
TellsWord word l = ((s : ℕ) (e : Ended) → session_of l.state ≡ Some s → l.state ≡ Over e → e.uid ≡ word s) × ((s : ℕ) (e : Ended) → session_of l.state ≡ Some s → l.state ≡ Live e → (e.uid ≡ 0) ⊎ (e.uid ≡ word s))

-- at every moment
pub record ReactorMore (t : Terms) (word : ℕ → ℕ) (took pushed : Mail) (r : Reactor) (run : Runs t word took pushed r) : Type 0 where
  -- the packets that it counted are as many as its links show
  pub packets : length (counted_in run) ≡ total (kept t r)
  -- it released each session once, of a link that came and that it ended, with the uid that the link's end tells
  pub freed : freed_in run ≡ collect freed_of (kept t r)
  pub once : Distinct (firsts (freed_in run))
  pub came : Each (λ s. Has s (collect fresh_in (bare took))) (firsts (freed_in run))
  pub release : (s : ℕ) → Has s (firsts (freed_in run)) → ((l : LinkRecord) × (Has l (kept t r) × (session_of l.state ≡ Some s))) × ((l : LinkRecord) → Has l (kept t r) → session_of l.state ≡ Some s → IsEnd l)
  -- each of its links has a session, and no two the same
  pub sessions : Each HasSession (kept t r)
  pub distinct : Distinct (collect session_over (kept t r))
  -- what each end rests on, and what it tells
  pub asked : Each (WasAsked took) (kept t r)
  pub stops : Each (CalmLink (stop_read run)) (kept t r)
  pub rests : Each (LinkRests t (reads_in run) (writes_in run)) (kept t r)
  pub uids : Each (TellsWord word) (kept t r)

-- once it is finished
pub record ReactorDone (t : Terms) (took pushed : Mail) (r : Reactor) : Type 0 where
  -- all its links ended, and each that came is one
  pub over : Each IsEnd (kept t r)
  pub settled : (s : ℕ) → ¬ (collect (fresh_of s) (bare took) ≡ []) → (l : LinkRecord) × (Has l (kept t r) × (session_of l.state ≡ Some s))
  -- NoMore came from all, and is the last that it pushed to each worker
  pub all : 1 + (t.worker_num + t.tasker_num) ≤ length (collect no_more (bare took))
  pub last : LinksFirst took → (j : ℕ) → LastMarked no_more (of (Worker j) pushed)
  -- in mode 1, where no packet was dropped, each worker got the packets of its turns
  pub round : t.mode ≡ 1 → Each EndsAllCut (kept t r) → (j : ℕ) → j < t.worker_num → packets_at j pushed ≡ rounds t.worker_num (total (kept t r)) j
