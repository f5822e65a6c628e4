-- What stands before a turn of the reactor's code over plain ports, and behind it.
use Rattle.std.specs.Prelude.{◌≡◌, ℕ, ◌<◌, ◌≤◌, ◌%◌, ◌^◌, Bool, true, List, [], ◌∷◌, ◌++◌}
use Rattle.sw_data.specs.declared.ended.Ended.{Ended}
use Rattle.sw_data.specs.declared.messages.Got.{Got as CodeGot}
use Rattle.sw_data.specs.declared.messages.Msg.{Msg}
use Rattle.sw_frame.specs.Cut.{IsFit}
use Rattle.sw_lists.specs.Lists.{collect, Each, Has}
use Rattle.sw_link.specs.declared.memory_link.MemoryLink.{MemoryLink}
use Rattle.sw_port_board.specs.PlainBoard.{PlainWords}
use Rattle.sw_port_book.specs.Plain.{Words}
use Rattle.sw_step.specs.declared.actor.ActorId.{ActorId}
use Rattle.sw_step.specs.declared.actor.ActorId.TheVariants.{Reactor as AReactor}
use Rattle.sw_record.specs.Counts.{greatest}
use Rattle.sw_record.specs.Words.{Counter}
use Rattle.sw_record.specs.Terms.{Terms}
use Rattle.sw_record.specs.Places.{Ran}
use Rattle.sw_past.specs.Past.{bare}
use Rattle.sw_past.specs.Views.{fresh_in}
use Rattle.sw_past.specs.Routes.{IsFair}
use Rattle.sw_world_ports.specs.Calls.{Did}
use Rattle.sw_world_ports.specs.Made.{free_in, firsts}
use Rattle.sw_world_ports.specs.Ports.{Ports, AllAnswer, all_ported}
use Rattle.sw_world_laws.specs.Turns.{Diary}
use Rattle.sw_world_laws.specs.Shows.{HasWord}
use Rattle.sw_world_fits.specs.Book.{BookStands}
use Rattle.sw_world_fits.specs.Board.{number_of, BoardStands}
use Rattle.sw_reactor_table.specs.Reactor.{Reactor as Table}
use Rattle.sw_reactor.specs.declared.reactor.Reactor.{Reactor}
use Rattle.sw_reactor.specs.Turn.{Asks}
use Rattle.sw_reactor_fits.specs.Told.{BringsNew}
use Rattle.sw_reactor_fits.specs.Fits.{Sizes}
use Rattle.sw_world_reactor.specs.Reactors.{ReactorTurn, QuietBy}
use Rattle.sw_world_reactor_fits.specs.Plain.{memory_tells, got_of, ask_of, ReactorIs}

-- before a turn of reactor n, with what its ends keep and with its diary
pub record Before {E : Type 0} (puts : E → MemoryLink → Ended → Bool → E → Type 0) (kept_of : E → List (MemoryLink × Ended)) (t : Terms) (n : ℕ) (p : Ports) (s : Table) (d : Diary) (r : Reactor MemoryLink ℕ) (got : CodeGot (Msg MemoryLink ℕ)) (b : Words) (o : PlainWords) (e : E) : Type 0 where
  -- the settings
  pub lt : n < t.reactor_num
  pub some : 1 ≤ t.max_conn
  pub sizes : Sizes t
  pub fit : IsFit t.framing
  -- the reactor's law, what it found and took, and the sessions that came and weren't released
  pub quiet : QuietBy t s (got_of got) d
  pub word : HasWord d.dids
  pub fair : IsFair t n d.took
  pub low : Each (λ k. (¬ (k ≡ 0)) × (k < 2 ^ 32)) (collect fresh_in (bare d.took))
  pub there : (k : ℕ) → Has k (collect fresh_in (bare d.took)) → ¬ Has k (firsts (collect free_in d.dids)) → (p.words (k % t.max_conn)).0 ≡ k
  -- the code, its ports, and a taken link
  pub is : ReactorIs t r (kept_of e) s
  pub book : BookStands t b p
  pub board : BoardStands t o p
  pub turn : o.turn ≡ number_of t (AReactor n)
  pub counts : (k : Counter) (z : ActorId) → p.counts k z ≤ greatest
  pub new : BringsNew memory_tells got
  -- the ends keep a link that is put
  pub keeps : (l : MemoryLink) (ended : Ended) (kept : Bool) (g : E) → puts e l ended kept g → (kept ≡ true) × (kept_of g ≡ kept_of e ++ (l, ended) ∷ [])

-- behind it: the world's reactor made a turn, its calls have the ports' answers, and all stands so again
pub record TurnIs {E : Type 0} (kept_of : E → List (MemoryLink × Ended)) (t : Terms) (legal : List Ran → Type 0) (n : ℕ) (p : Ports) (s : Table) (got : CodeGot (Msg MemoryLink ℕ)) (q : Reactor MemoryLink ℕ) (a : Asks MemoryLink ℕ) (b : Words) (o u : PlainWords) (f : E) : Type 0 where
  pub dids : List Did
  pub state : Table
  pub turns : ReactorTurn t s (got_of got) dids state (ask_of a)
  pub answers : AllAnswer t legal p (AReactor n) dids
  pub is : ReactorIs t q (kept_of f) state
  pub book : BookStands t b (all_ported t p (AReactor n) dids)
  pub board : BoardStands t u (all_ported t p (AReactor n) dids)
  pub whose : u.turn ≡ o.turn
