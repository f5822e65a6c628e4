-- The plain book as the ports have it.
use Rattle.std.specs.Prelude.{◌≡◌, ℕ, ◌<◌, length, Result, Ok, Err}
use Rattle.sw_port_book.specs.declared.answers.Look.{Look}
use Rattle.sw_port_book.specs.declared.answers.Look.TheVariants.{Live, Other as OtherLook}
use Rattle.sw_port_book.specs.declared.answers.BindFault.{BindFault}
use Rattle.sw_port_book.specs.declared.answers.BindFault.TheVariants as fault
use Rattle.sw_port_book.specs.declared.answers.ClaimFault.{ClaimFault}
use Rattle.sw_port_book.specs.declared.answers.ClaimFault.TheVariants as claim
use Rattle.sw_port_book.specs.Plain.{Words, word_in}
use Rattle.sw_record.specs.Terms.{Terms}
use Rattle.sw_past.specs.Claims.{Claim, Drew, Full, Spent}
use Rattle.sw_world_ports.specs.Calls.{Seen, Lives, Other, BindGot, Granted, ZeroUid, Had, NotThere}
use Rattle.sw_world_ports.specs.Ports.{Ports}

-- the words of the slots
pub record SlotsStand (t : Terms) (b : Words) (words : ℕ → ℕ × ℕ) : Type 0 where
  pub size : length b.slots ≡ t.max_conn
  pub each : (i : ℕ) → i < t.max_conn → words i ≡ ((word_in b i).number, (word_in b i).uid)

-- and the last number
pub record BookStands (t : Terms) (b : Words) (p : Ports) : Type 0 where
  pub slots : SlotsStand t b p.words
  pub last : b.last ≡ p.last

-- what a look answered
abbrev pub seen_of : Look → Seen
seen_of (Live u) = Lives u
seen_of (OtherLook n) = Other n

-- what a bind answered
abbrev pub got_of : Result (Unit {0}) BindFault → BindGot
got_of (Ok x) = Granted
got_of (Err fault.BadUid) = ZeroUid
got_of (Err (fault.Other n)) = NotThere n
got_of (Err (fault.Bound v)) = Had v

-- what a claim answered
abbrev pub claim_of : Result ℕ ClaimFault → Claim
claim_of (Ok s) = Drew s
claim_of (Err (claim.Full n)) = Full
claim_of (Err claim.Spent) = Spent
