-- The reactors of the core, each with its ends, and their turns over the plain ports.
use Rattle.std.specs.Prelude.{◌≡◌, ◌≢◌, ℕ, ◌<◌, List, [], ◌∷◌, All, length, slice_get, slice_set, Option, Some, None, Result, Ok, Err}
use Rattle.sw_conn.specs.declared.terms.Terms.{Terms}
use Rattle.sw_frame.specs.declared.framing.Framing.{Framing}
use Rattle.sw_link.specs.declared.memory_link.LinkStep.{LinkStep}
use Rattle.sw_link.specs.declared.memory_link.MemoryLink.{MemoryLink}
use Rattle.sw_link.specs.Memory.{IsReadBy, IsWriteBy, memory_read, memory_write, added}
use Rattle.sw_port_board.specs.Board.{members}
use Rattle.sw_port_board.specs.PlainBoard.{PlainWords, PlainGoes}
use Rattle.sw_port_board.specs.declared.crew.Crew.TheVariants.{Workers}
use Rattle.sw_port_book.specs.Plain.{Words, Stands, word_of, with_word, free}
use Rattle.sw_reactor.specs.Line.{link_of, with_link}
use Rattle.sw_reactor.specs.Reactor.{IsStarted}
use Rattle.sw_reactor.specs.Ready.{IsReady, AreApart, with_brought}
use Rattle.sw_reactor.specs.Serving.{Ports, ports_of, Turns}
use Rattle.sw_world_places.specs.Ends.{Keeping, Puts}
use Rattle.sw_world_places.specs.Pipes.{Asking, Getting}
use Rattle.sw_world_reactors.specs.declared.owner.Owner.{Owner}

-- a plain ticket is its session's number
abbrev pub number : ℕ → ℕ
number k = k

-- links in memory, the plain book, the plain board, and ends with room
abbrev pub core_ports : Ports MemoryLink ℕ Words PlainWords Keeping
core_ports =
    ports_of number
    (λ l n r k. IsReadBy (λ starved. memory_read starved n l) r k)
    (λ l piece w k. IsWriteBy (λ starved. memory_write starved piece l) w k)
    (λ b session found c. (found ≡ word_of b session) × (c ≡ b))
    (λ b ticket uid c. (uid ≡ (word_of b ticket).uid) × (c ≡ with_word b ticket free))
    PlainGoes (λ b. b.sizes) Puts

-- ready for a turn: there are workers, slots and room for a read, and each connection's session is its ticket's
abbrev pub IsReadyOwner : Owner → Type 0
IsReadyOwner o = IsReady number o.reactor

-- before its first turn, with nothing among its ends
abbrev pub IsNew : Terms → Framing → ℕ → Owner → Type 0
IsNew terms framing read_size o = IsStarted terms framing read_size o.reactor × IsReadyOwner o × (o.ends.kept ≡ [])

-- so many of them
abbrev pub AreNew : Terms → Framing → ℕ → ℕ → List Owner → Type 0
AreNew terms framing read_size count all = (length all ≡ count) × All (IsNew terms framing read_size) all

-- the one of this number is changed so, and all others stay
abbrev pub AtOwner : List Owner → ℕ → (Owner → Owner → Type 0) → List Owner → Type 0
AtOwner all n P more = (o : Owner) × ((q : Owner) × ((slice_get all n ≡ Some o) × P o q × (more ≡ slice_set all n q)))

-- its turn may be made with this: book and board have its sizes, and the sessions of its connections, with the one that comes, stand in
-- their words and differ
abbrev pub MayTurn : Owner → Getting → Words → PlainWords → Type 0
MayTurn o got b w =
    IsReadyOwner o
    × (length b.slots ≡ o.reactor.terms.max_conn)
    × (members Workers w.sizes ≡ o.reactor.terms.worker_num)
    × AreApart Stands (λ one other. one ≢ other) b (with_brought o.reactor got)

-- its turn
abbrev pub TurnsOwner : Owner → Getting → Words → PlainWords → Asking → Owner → Words → PlainWords → Type 0
TurnsOwner o got b w ask q c v = Turns core_ports o.reactor got b w o.ends ask q.reactor c v q.ends

-- a step more for its link of this session, if it has one: the step is taken, or want of memory left the link as it was
abbrev pub AddsTo : {F : Type 0} → ℕ → LinkStep → Option MemoryLink → Owner → Result (Option LinkStep) F → Owner → Type 0
AddsTo s step None o result q = (result ≡ Ok (Some step)) × (q ≡ o)
AddsTo s step (Some l) o (Ok left) q = (left ≡ None) × (q ≡ record o { reactor = record o.reactor { line = with_link o.reactor.line s (added step l) } })
AddsTo s step (Some l) o (Err fault) q = q ≡ record o { reactor = record o.reactor { line = with_link o.reactor.line s l } }

abbrev pub Adds : {F : Type 0} → ℕ → LinkStep → Owner → Result (Option LinkStep) F → Owner → Type 0
Adds s step o result q = AddsTo s step (link_of s o.reactor.line.conns) o result q
