-- The code's links as the world has them: those that were accepted, with what their claims answered, and those that wait.
use Rattle.std.specs.Prelude.{◌≡◌, ℕ, List, map, ◌++◌, length, Option, Some, None}
use Rattle.sw_record.specs.Terms.{Terms}
use Rattle.sw_past.specs.Claims.{Claim, Drew, Full, Spent}
use Rattle.sw_world_places.specs.Links.{Arrivals}
use Rattle.sw_world_places.specs.Arrived.{Known}
use Rattle.sw_world_places.specs.declared.arrived.Claimed.{Claimed}
use Rattle.sw_world_places.specs.declared.arrived.Claimed.TheVariants as claims

-- a claim's answer
abbrev pub claim_of : Claimed → Claim
claim_of (claims.Drew s) = Drew s
claim_of claims.NoSlot = Full
claim_of claims.NumbersSpent = Spent

abbrev pub claims_of : Option Claimed → Option Claim
claims_of None = None
claims_of (Some c) = Some (claim_of c)

-- a link's address, and what its claim answered
abbrev pub entry : Known → ℕ × Option Claim
entry l = (l.ip, claims_of l.claim)

-- the same of one that was accepted, and of one that waits
abbrev pub done : ℕ × Claim → ℕ × Option Claim
done x = (x.0, Some x.1)

abbrev pub wait : ℕ → ℕ × Option Claim
wait ip = (ip, None)

pub record LinksStand (t : Terms) (a : Arrivals) (given : List (ℕ × Claim)) (waiting : List ℕ) : Type 0 where
  pub entries : map entry a.all ≡ map done given ++ map wait waiting
  pub accepted : a.accepted ≡ length given
  pub slots : length a.slots ≡ t.max_conn
