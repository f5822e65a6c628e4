-- What each turn needs, and keeps: of the reactor itself, and of the tickets.
use Rattle.std.specs.Prelude.{◌≡◌, ◌<◌, ℕ, List, [], ◌∷◌, ◌++◌, length, map, slice_get, Some}
use Rattle.sw_data.specs.declared.messages.Msg.{Msg}
use Rattle.sw_data.specs.declared.messages.Msg.TheVariants as msgs
use Rattle.sw_data.specs.declared.messages.Got.{Got}
use Rattle.sw_data.specs.declared.messages.Got.TheVariants as gots
use Rattle.sw_conn.specs.declared.conn.Conn.{Conn}
use Rattle.sw_reactor.specs.declared.reactor.Reactor.{Reactor}

-- the tickets of connections
abbrev pub tickets_of : {L K : Type 0} → List (Conn L K) → List K
tickets_of {L} {K} conns = map (λ (c : Conn L K). c.ticket) conns

-- there are workers and slots, and room for a read; where there are connections one of them is next; and the session of each is
-- its ticket's
pub record IsReady {L K : Type 0} (number : K → ℕ) (r : Reactor L K) : Type 0 where
  pub workers : 0 < r.terms.worker_num
  pub slots : 0 < r.terms.max_conn
  pub room : r.line.room ≡ r.terms.max_conn
  pub buffer : 0 < length r.buffer.items
  pub next : 0 < r.at → r.at < length r.line.conns
  pub own : map (λ (c : Conn L K). c.session) r.line.conns ≡ map number (tickets_of r.line.conns)

-- the tickets of a reactor's connections, in order of arrival
abbrev pub tickets : {L K : Type 0} → Reactor L K → List K
tickets r = tickets_of r.line.conns

-- the ticket that a pipe call brought
abbrev pub brought_by : {L K : Type 0} → Msg L K → List K
brought_by (msgs.Fresh link ip ticket) = ticket ∷ []
brought_by _ = []

abbrev pub brought : {L K : Type 0} → Got (Msg L K) → List K
brought (gots.Took m) = brought_by m
brought _ = []

abbrev pub with_brought : {L K : Type 0} → Reactor L K → Got (Msg L K) → List K
with_brought r got = tickets r ++ brought got

-- each of these tickets is one of the book that wasn't released, and any two of them differ
pub record AreApart {B K : Type 0} (holds : B → K → Type 0) (differ : K → K → Type 0) (b : B) (ts : List K) : Type 0 where
  pub held : (k : ℕ) (t : K) → slice_get ts k ≡ Some t → holds b t
  pub two : (j k : ℕ) (t u : K) → slice_get ts j ≡ Some t → slice_get ts k ≡ Some u → ¬ (j ≡ k) → differ t u
