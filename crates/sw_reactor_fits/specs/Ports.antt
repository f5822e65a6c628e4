-- What a reactor's ports do in a turn: the calls of the table, each with its answer, one after the other.
use Rattle.std.specs.Prelude.{◌≡◌, ◌⊎◌, Bool, true, false, List, [], ◌∷◌, ◌++◌}
use Rattle.sw_data.specs.declared.ended.Ended.{Ended}
use Rattle.sw_data.specs.declared.messages.Got.{Got}
use Rattle.sw_port_board.specs.Board.{members, FindsIdle}
use Rattle.sw_port_board.specs.declared.board.BoardStep.{BoardStep}
use Rattle.sw_port_board.specs.declared.board.BoardStep.TheVariants as steps
use Rattle.sw_port_board.specs.declared.crew.Crew.TheVariants.{Workers}
use Rattle.sw_port_book.specs.declared.answers.Look.{Look}
use Rattle.sw_port_book.specs.declared.answers.Look.TheVariants.{Live, Other as OtherLook}
use Rattle.sw_port_book.specs.Answers.{Looks as LooksBy}
use Rattle.sw_record.specs.Terms.{Terms}
use Rattle.sw_record.specs.declared.record.LinkRecord.{LinkRecord}
use Rattle.sw_past.specs.Messages.{Message}
use Rattle.sw_world_ports.specs.Calls.{Seen, Lives, Other, Did, Accepts, NoLink, NetOver, Looks, Binds, Frees, Marks, Idles, Stops, SeesStop, Adds, Sums, Tables, TableRefuses}
use Rattle.sw_reactor_table.specs.Conn.{Answers}
use Rattle.sw_reactor_table.specs.Reactor.{Reactor as Table, settled, turn}
use Rattle.sw_reactor_table.specs.Quiet.{IsIdle}
use Rattle.sw_reactor.specs.declared.reactor.Reactor.{Reactor}
use Rattle.sw_reactor.specs.Turn.{Asks}
use Rattle.sw_reactor.specs.Serving.{Ports}
use Rattle.sw_reactor_fits.specs.Told.{Telling, IsEndOf}
use Rattle.sw_reactor_fits.specs.Fits.{Fits, AsksSame}
use Rattle.sw_world_reactor.specs.Calls.{TurnCalls}

-- what a look answered
abbrev pub seen_of : Look → Seen
seen_of (Live u) = Lives u
seen_of (OtherLook n) = Other n

-- a call has this answer, and leaves book and board so
abbrev pub DidGo : {L K B C E : Type 0} → Ports L K B C E → Did → B → C → B → C → Type 0
DidGo p (Looks s x) b o d u = (look : Look) × (LooksBy p.looks b s look d × (seen_of look ≡ x) × (u ≡ o))
DidGo {L} {K} p (Frees s v) b o d u = (k : K) × ((p.number k ≡ s) × p.releases b k v d × (u ≡ o))
DidGo p (Idles true k x) b o d u = ⊥
DidGo p (Idles false k x) b o d u = FindsIdle p.goes (p.sizes o) Workers k o x u × (d ≡ b)
DidGo p (SeesStop v) b o d u = p.goes o (steps.SawStop v ∷ []) u × (d ≡ b)
DidGo p (Adds c) b o d u = p.goes o (steps.Added c ∷ []) u × (d ≡ b)
DidGo p (Accepts ip c) b o d u = ⊥
DidGo p NoLink b o d u = ⊥
DidGo p NetOver b o d u = ⊥
DidGo p (Binds s v x) b o d u = ⊥
DidGo p (Marks v) b o d u = ⊥
DidGo p Stops b o d u = ⊥
DidGo p (Sums c n) b o d u = ⊥
DidGo p (Tables at x) b o d u = ⊥
DidGo p (TableRefuses c fault) b o d u = ⊥

-- one after the other
abbrev pub DidsGo : {L K B C E : Type 0} → Ports L K B C E → List Did → B → C → B → C → Type 0
DidsGo p [] b o d u = (d ≡ b) × (u ≡ o)
DidsGo {L} {K} {B} {C} p (x ∷ xs) b o d u = (b1 : B) × ((o1 : C) × (DidGo p x b o b1 o1 × DidsGo p xs b1 o1 d u))

-- the links that ended: as before, or one more was put and kept
abbrev pub EndsGo : {L K B C E : Type 0} → Telling L K → Ports L K B C E → List LinkRecord → E → List LinkRecord → E → Type 0
EndsGo {L} view p over e more f =
    ((more ≡ over) × (f ≡ e))
    ⊎ ((x : L × Ended) × ((k : LinkRecord) × ((more ≡ over ++ k ∷ []) × IsEndOf view x k × p.puts e x.0 x.1 true f)))

-- what holds of the ports before a turn: the board has the settings' workers and keeps its sizes, and a put keeps its link
pub record AreSound {L K B C E : Type 0} (t : Terms) (p : Ports L K B C E) (o : C) (e : E) : Type 0 where
  pub workers : members Workers (p.sizes o) ≡ t.worker_num
  pub sizes : (c d : C) (xs : List BoardStep) → p.goes c xs d → p.sizes d ≡ p.sizes c
  pub keeps : (l : L) (ended : Ended) (f : E) → p.puts e l ended false f → ⊥

-- a turn is the table's, with answers that the ports gave
pub record IsTheTables {L K B C E : Type 0} (view : Telling L K) (t : Terms) (p : Ports L K B C E) (s : Table) (got : Got Message) (b : B) (o : C) (e : E) (q : Reactor L K) (a : Asks L K) (d : B) (u : C) (f : E) : Type 0 where
  pub starved : Bool
  pub answers : Answers
  pub fits : Fits view t q (turn t starved answers got s)
  pub asks : AsksSame (turn t starved answers got s).last a
  -- an idle worker is one that is there
  pub idle : IsIdle t answers
  -- the calls of the table, in their order
  pub dids : List Did
  pub calls : TurnCalls t answers got s.last (settled t starved got s) dids
  pub went : DidsGo p dids b o d u
  pub ends : EndsGo view p s.over e (turn t starved answers got s).over f
