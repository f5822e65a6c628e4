-- How many packets were pushed, and in mode 1 how many went to each worker.
use Rattle.std.specs.Prelude.{◌≡◌, ℕ, ◌+◌, ◌≤◌, ◌==◌, if◌then◌else◌, List, [], ◌∷◌, length, Option, Some, None}
use Rattle.sw_lists.specs.Lists.{collect}
use Rattle.sw_step.specs.declared.actor.ActorId.TheVariants.{Worker}
use Rattle.sw_record.specs.Words.{Event, Connect, Packet, Closed, Finish, Task}
use Rattle.sw_record.specs.declared.record.LinkRecord.{LinkRecord}
use Rattle.sw_record.specs.Terms.{Terms, packets_cut}
use Rattle.sw_record.specs.Rounds.{rounds}
use Rattle.sw_record.specs.Counts.{total}
use Rattle.sw_past.specs.Past.{Mail, bare, of}
use Rattle.sw_past.specs.Views.{packet_msg}
use Rattle.sw_reactor_table.specs.Conn.{Conn}

-- the sum of f over a list
abbrev pub sum_of : {A : Type 0} → (A → ℕ) → List A → ℕ
sum_of f [] = 0
sum_of f (x ∷ xs) = f x + sum_of f xs

-- one for a packet
abbrev pub is_packet : Event → ℕ
is_packet (Connect s) = 0
is_packet (Packet s i b) = 1
is_packet (Closed s) = 0
is_packet (Finish id b) = 0
is_packet (Task w id b) = 0

-- one for a packet that goes to worker j
abbrev pub at_worker : ℕ → ℕ → Event → ℕ
at_worker j w e = if w == j then is_packet e else 0

-- one for a held packet of worker j
abbrev pub held_at : ℕ → Option (ℕ × Event) → ℕ
held_at j None = 0
held_at j (Some h) = at_worker j h.0 h.1

-- the same of a connection
abbrev pub holds_at : ℕ → Conn → ℕ
holds_at j c = held_at j c.held

-- the packets that a connection took from its cutter
abbrev pub taken_of : Conn → ℕ
taken_of c = c.taken

-- the packets that it pushed
abbrev pub sent_of : Conn → ℕ
sent_of c = c.dispatched

-- the packets that were cut of a link
abbrev pub cut_of : Terms → LinkRecord → ℕ
cut_of t l = length (packets_cut t l.pieces)

-- the packets that were pushed to worker j
abbrev pub packets_at : ℕ → Mail → ℕ
packets_at j pushed = length (collect packet_msg (of (Worker j) pushed))

-- with nothing on its way: in mode 1 no worker has more than its turns, no turn is without a packet that was cut, and each
-- packet that was pushed is counted with its link
pub record Round (t : Terms) (pushed : Mail) (cs : List Conn) (ls : List LinkRecord) (k : ℕ) : Type 0 where
  pub spread : t.mode ≡ 1 → (j : ℕ) → packets_at j pushed + sum_of (holds_at j) cs ≤ rounds t.worker_num k j
  pub most : k ≤ sum_of taken_of cs + sum_of (cut_of t) ls
  pub sent : length (collect packet_msg (bare pushed)) ≡ sum_of sent_of cs + total ls
