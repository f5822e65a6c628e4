-- A serve of the next connection and a whole turn, by what the ports answer, each port's calls in their order.
use Rattle.std.specs.Prelude.{◌≡◌, ℕ, ◌==◌, Bool, true, false, nat_lt, List, [], ◌∷◌, length, slice_get, Option, IfSome}
use Rattle.std.specs.Bool.{MatchBool}
use Rattle.sw_base.specs.declared.counter.Counter.TheVariants as counters
use Rattle.sw_data.specs.declared.ended.Ended.{Ended}
use Rattle.sw_data.specs.declared.events.Event.{Event}
use Rattle.sw_data.specs.declared.messages.Msg.{Msg}
use Rattle.sw_data.specs.declared.messages.Got.{Got}
use Rattle.sw_data.specs.declared.messages.Got.TheVariants as gots
use Rattle.sw_data.specs.declared.messages.Ask.TheVariants as ask
use Rattle.sw_link.specs.declared.link.LinkWrite.{LinkWrite}
use Rattle.sw_link.specs.Reads.{Read}
use Rattle.sw_port_book.specs.declared.word.Word.{Word}
use Rattle.sw_port_board.specs.declared.board.BoardStep.{BoardStep}
use Rattle.sw_port_board.specs.declared.board.BoardStep.TheVariants as steps
use Rattle.sw_port_board.specs.declared.crew.Sizes.{Sizes}
use Rattle.sw_conn.specs.declared.conn.Kind.{Kind}
use Rattle.sw_conn.specs.declared.conn.Kind.TheVariants as kinds
use Rattle.sw_conn.specs.declared.serve.Step.{Step}
use Rattle.sw_conn.specs.declared.serve.Step.TheVariants as chosen
use Rattle.sw_conn.specs.Modes.{keeps}
use Rattle.sw_conn.specs.Conn.{kind_of, home, cleared}
use Rattle.sw_conn.specs.Serve.{FlushedBy, Chooses}
use Rattle.sw_reactor.specs.declared.reactor.Asked.{Asked}
use Rattle.sw_reactor.specs.declared.reactor.Asked.TheVariants as asks
use Rattle.sw_reactor.specs.declared.reactor.Reactor.{Reactor}
use Rattle.sw_reactor.specs.Line.{Lined, AtLine}
use Rattle.sw_reactor.specs.Reactor.{Settles}
use Rattle.sw_reactor.specs.Turn.{Asks, Takes, moved, Stays, Pushes, ends_ask, ends_asked}
use Rattle.sw_reactor.specs.Aims.{AimsSide, AimsIdle, next_turn, ReadsMore}
use Rattle.sw_reactor.specs.Leave.{Leaves}

-- how the ports answer: reads and writes of links, looks and releases of the book, steps of the board, puts of the ends
pub record Ports (L K B C E : Type 0) : Type 1 where
  pub number : K → ℕ
  pub reads : L → ℕ → Read → L → Type 0
  pub writes : L → List ℕ → LinkWrite → L → Type 0
  pub looks : B → ℕ → Word → B → Type 0
  pub releases : B → K → ℕ → B → Type 0
  pub goes : C → List BoardStep → C → Type 0
  pub sizes : C → Sizes
  pub puts : E → L → Ended → Bool → E → Type 0

abbrev pub ports_of : {L K B C E : Type 0} → (K → ℕ) → (L → ℕ → Read → L → Type 0) → (L → List ℕ → LinkWrite → L → Type 0) → (B → ℕ → Word → B → Type 0) → (B → K → ℕ → B → Type 0) → (C → List BoardStep → C → Type 0) → (C → Sizes) → (E → L → Ended → Bool → E → Type 0) → Ports L K B C E
ports_of number reads writes looks releases goes sizes puts =
    record {
      number = number;
      reads = reads;
      writes = writes;
      looks = looks;
      releases = releases;
      goes = goes;
      sizes = sizes;
      puts = puts;
    }

-- the worker of an event: its home in modes 2 and 4, its side in mode 5, and else the one whose turn it is or that is idle
abbrev pub Aims : {L K B C : Type 0} → (B → ℕ → Word → B → Type 0) → (C → List BoardStep → C → Type 0) → (C → Sizes) → Reactor L K → B → C → ℕ → Reactor L K → B → C → Type 0
Aims looks goes sizes r b o w q d u =
    MatchBool (keeps r.terms.mode)
    (IfSome (slice_get r.line.conns r.at) (λ c. w ≡ home r.terms c) × (q ≡ r) × (d ≡ b) × (u ≡ o))
    (MatchBool (r.terms.mode == 5)
    (AimsSide looks r b w q d × (u ≡ o))
    (AimsIdle goes sizes r o w u × (q ≡ r) × (d ≡ b)))

-- a packet counts for the turns of modes 1 and 3
abbrev pub counted : {L K : Type 0} → Kind → Reactor L K → Reactor L K
counted kinds.Packet r = record r { turn = next_turn r.terms.worker_num r.turn }
counted kinds.Connect r = r
counted kinds.Closed r = r
counted kinds.Other r = r

-- an event of the connection that is served goes to its worker
abbrev pub Tells : {L K B C : Type 0} → (B → ℕ → Word → B → Type 0) → (C → List BoardStep → C → Type 0) → (C → Sizes) → Event → Reactor L K → B → C → Asks L K → Reactor L K → B → C → Type 0
Tells {L} {K} looks goes sizes e r b o a q d u = (w : ℕ) × ((m : Reactor L K) × (Aims looks goes sizes r b o w m d u × Pushes w e (counted (kind_of e) m) a q))

-- what a step of the connection comes to
abbrev pub Steps : {L K B C E : Type 0} → Ports L K B C E → Step → Option LinkWrite → Reactor L K → B → C → E → Asks L K → Reactor L K → B → C → E → Type 0
Steps p (chosen.Again w e) wrote r b o f a q d u g = Pushes w e r a q × (d ≡ b) × (u ≡ o) × (g ≡ f)
Steps p (chosen.Tell e) wrote r b o f a q d u g = Tells p.looks p.goes p.sizes e r b o a q d u × (g ≡ f)
Steps p chosen.Read wrote r b o f a q d u g = ReadsMore p.reads wrote r a q × (d ≡ b) × (u ≡ o) × (g ≡ f)
Steps p chosen.Moved wrote r b o f a q d u g = (a ≡ ask.Nothing) × (q ≡ moved r) × (d ≡ b) × (u ≡ o) × (g ≡ f)
Steps p chosen.Stay wrote r b o f a q d u g = Stays wrote r a q × (d ≡ b) × (u ≡ o) × (g ≡ f)
Steps p (chosen.Leave e) wrote r b o f a q d u g = (a ≡ ask.Nothing) × Leaves p.releases p.goes p.puts e r b o f q d u g

-- the next connection writes first, and then makes its step
abbrev pub ServesNext : {L K B C E : Type 0} → Ports L K B C E → Reactor L K → B → C → E → Asks L K → Reactor L K → B → C → E → Type 0
ServesNext {L} {K} p r b o f a q d u g =
    (wrote : Option LinkWrite) × ((l : Lined L K) × (AtLine r.line r.at (λ x y. FlushedBy p.writes x wrote y) l
    × ((step : Step) × ((m : Lined L K) × (AtLine l r.at (λ x y. Chooses r.terms (cleared x) y step) m
    × Steps p step wrote (record r { line = m }) b o f a q d u g)))))

abbrev pub Serves : {L K B C E : Type 0} → Ports L K B C E → Reactor L K → B → C → E → Asks L K → Reactor L K → B → C → E → Type 0
Serves p r b o f a q d u g =
    MatchBool (nat_lt r.at (length r.line.conns))
    (ServesNext p r b o f a q d u g)
    ((a ≡ ends_ask r) × (q ≡ record r { asked = ends_asked r }) × (d ≡ b) × (u ≡ o) × (g ≡ f))

-- the push of a packet is counted
abbrev pub counts_kind : Kind → Bool
counts_kind kinds.Packet = true
counts_kind _ = false

abbrev pub counts_asked : Asked → Bool
counts_asked (asks.Event w s kind) = counts_kind kind
counts_asked _ = false

abbrev pub counts : {L K : Type 0} → Reactor L K → Got (Msg L K) → Bool
counts r gots.Pushed = counts_asked r.asked
counts r _ = false

abbrev pub CountsPacket : {C : Type 0} → (C → List BoardStep → C → Type 0) → Bool → C → C → Type 0
CountsPacket goes true o u = goes o (steps.Added counters.Packets ∷ []) u
CountsPacket goes false o u = u ≡ o

-- after a take a serve, and else a take
abbrev pub Chooses_by : {L K B C E : Type 0} → Ports L K B C E → Asked → Reactor L K → B → C → E → Asks L K → Reactor L K → B → C → E → Type 0
Chooses_by p asks.Take r b o f a q d u g = Serves p r b o f a q d u g
Chooses_by p _ r b o f a q d u g = Takes p.goes r o a q u × (d ≡ b) × (g ≡ f)

-- a whole turn: what the last pipe call gave is settled, and a packet that was pushed is counted; then the reactor chooses
abbrev pub Turns : {L K B C E : Type 0} → Ports L K B C E → Reactor L K → Got (Msg L K) → B → C → E → Asks L K → Reactor L K → B → C → E → Type 0
Turns {L} {K} {B} {C} {E} p r got b o f a q d u g =
    (m : Reactor L K) × (Settles p.number r got m
    × ((s : C) × (CountsPacket p.goes (counts r got) o s × Chooses_by p m.asked m b s f a q d u g)))
