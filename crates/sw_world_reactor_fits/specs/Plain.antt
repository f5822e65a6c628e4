-- The reactor over plain ports and links in memory: what its links tell, and how its code stands for the world's reactor.
use Rattle.std.specs.Prelude.{◌≡◌, ℕ, Bool, true, nat_lt, List, [], ◌∷◌, Some}
use Rattle.sw_lists.specs.Lists.{Has}
use Rattle.sw_data.specs.declared.ended.Ended.{Ended}
use Rattle.sw_data.specs.declared.messages.Ask.{Ask as CodeAsk}
use Rattle.sw_data.specs.declared.messages.Ask.TheVariants as asks
use Rattle.sw_data.specs.declared.messages.Got.{Got as CodeGot}
use Rattle.sw_data.specs.declared.messages.Got.TheVariants as gots
use Rattle.sw_data.specs.declared.messages.Msg.{Msg}
use Rattle.sw_data.specs.declared.messages.Target.{Target}
use Rattle.sw_data.specs.declared.messages.Target.TheVariants as targets
use Rattle.sw_link.specs.declared.memory_link.MemoryLink.{MemoryLink}
use Rattle.sw_link.specs.Memory.{IsReadBy, IsWriteBy, memory_read, memory_write, faults_of}
use Rattle.sw_port_board.specs.PlainBoard.{PlainWords, PlainGoes}
use Rattle.sw_port_book.specs.Plain.{Words, word_of, with_word, free}
use Rattle.sw_step.specs.declared.actor.ActorId.{ActorId}
use Rattle.sw_step.specs.declared.actor.ActorId.TheVariants.{Reactor as AReactor, Worker, Tasker}
use Rattle.sw_record.specs.declared.record.LinkRecord.{LinkRecord}
use Rattle.sw_record.specs.declared.record.LinkState.TheVariants.{Live, Over}
use Rattle.sw_record.specs.Words.{PeerEnd}
use Rattle.sw_record.specs.Terms.{Terms}
use Rattle.sw_conn.specs.declared.conn.Conn.{Conn}
use Rattle.sw_conn.specs.Conn.{account}
use Rattle.sw_conn_fits.specs.Shown.{settings}
use Rattle.sw_past.specs.Messages.{message_of}
use Rattle.sw_world_laws.specs.Turns.{Ask, AskTake, AskPush, AskNothing, AskRest, AskFinished, Got, GotStart, GotTook, GotEmpty, GotPushed, GotFull, GotNothing}
use Rattle.sw_reactor_table.specs.Reactor.{Reactor as Table}
use Rattle.sw_reactor.specs.declared.reactor.Reactor.{Reactor}
use Rattle.sw_reactor.specs.Serving.{Ports, ports_of}
use Rattle.sw_reactor_fits.specs.Told.{Telling, IsEndOf}
use Rattle.sw_reactor_fits.specs.Fits.{Fits}

-- a plain ticket is its session's number
abbrev pub itself : ℕ → ℕ
itself k = k

-- what a link in memory tells
abbrev pub memory_tells : Telling MemoryLink ℕ
memory_tells = record { number = itself; pieces = λ l. l.pieces; written = λ l. l.written; at_end = λ l. l.at_end; failed = λ l. nat_lt 0 (faults_of l) }

-- links in memory, the plain book, the plain board, and these ends
abbrev pub plain_ports : {E : Type 0} → (E → MemoryLink → Ended → Bool → E → Type 0) → Ports MemoryLink ℕ Words PlainWords E
plain_ports puts =
    ports_of itself
    (λ l n r k. IsReadBy (λ starved. memory_read starved n l) r k)
    (λ l piece w k. IsWriteBy (λ starved. memory_write starved piece l) w k)
    (λ b session found c. (found ≡ word_of b session) × (c ≡ b))
    (λ b ticket uid c. (uid ≡ (word_of b ticket).uid) × (c ≡ with_word b ticket free))
    PlainGoes (λ b. b.sizes) puts

-- the world's words for what a turn of the code begins with
abbrev pub got_of : CodeGot (Msg MemoryLink ℕ) → Got
got_of gots.Start = GotStart
got_of (gots.Took m) = GotTook (message_of itself m)
got_of gots.Empty = GotEmpty
got_of gots.Pushed = GotPushed
got_of (gots.Full m) = GotFull (message_of itself m)
got_of gots.Nothing = GotNothing

-- whom a push is for
abbrev pub actor_of : Target → ActorId
actor_of (targets.Reactor n) = AReactor n
actor_of (targets.Worker n) = Worker n
actor_of (targets.Tasker n) = Tasker n

-- and for what it asks
abbrev pub ask_of : CodeAsk (Msg MemoryLink ℕ) → Ask
ask_of asks.Take = AskTake
ask_of (asks.Push to m) = AskPush (actor_of to) (message_of itself m)
ask_of asks.Nothing = AskNothing
ask_of asks.Rest = AskRest
ask_of asks.Finished = AskFinished

-- the links that were put into its ends are those of the record
abbrev pub AreEnds : List (MemoryLink × Ended) → List LinkRecord → Type 0
AreEnds [] [] = Unit {0}
AreEnds [] (k ∷ ks) = ⊥
AreEnds (x ∷ xs) [] = ⊥
AreEnds (x ∷ xs) (k ∷ ks) = IsEndOf memory_tells x k × AreEnds xs ks

-- a reactor of the code, with what its ends keep, is this one of the world
pub record ReactorIs (t : Terms) (r : Reactor MemoryLink ℕ) (kept : List (MemoryLink × Ended)) (s : Table) : Type 0 where
  pub fits : Fits memory_tells t r s
  pub ends : AreEnds kept s.over

-- the link of a connection, in the record
abbrev pub live_of : Terms → Conn MemoryLink ℕ → LinkRecord
live_of t c = record { ip = c.ip; state = Live (account (settings t) c c.uid PeerEnd); pieces = c.link.pieces; written = c.link.written }

-- and one that ended
abbrev pub over_of : MemoryLink × Ended → LinkRecord
over_of x = record { ip = (x.1).ip; state = Over x.1; pieces = (x.0).pieces; written = (x.0).written }

-- two links tell the same
pub record TellsSame (l m : MemoryLink) : Type 0 where
  pub pieces : m.pieces ≡ l.pieces
  pub written : m.written ≡ l.written
  pub at_end : m.at_end ≡ l.at_end
  pub faults : faults_of m ≡ faults_of l

-- the link of a session has told this, where it ended
pub record EndTold (xs : List (MemoryLink × Ended)) (n : ℕ) (tells : MemoryLink → Bool) : Type 0 where
  pub link : MemoryLink
  pub ended : Ended
  pub there : Has (link, ended) xs
  pub session : ended.session ≡ Some n
  pub told : tells link ≡ true
