-- What a net remembers stays true.
use Rattle.std.proofs.Common.{◌≡◌, ◌≤◌, ℕ, ◌+◌, min, Bool, true, false, arith}
use Rattle.std.proofs.Math.Nat.{min-le_left, min-le_right, le-min}
use Rattle.sw_causes.specs.Causes.{Rises, most}
use Rattle.sw_link.specs.declared.net.Accept.{Accept}
use Rattle.sw_link.specs.declared.net.Accept.TheVariants as accepts
use Rattle.sw_link.specs.Nets.{CountsAccept}
use Rattle.sw_players.specs.Hears.{Hears, failed_by}

rises_on : (a b c : ℕ) → Rises a b → b ≤ c → Rises a c
rises_on a b c r le = omega (arith, r, le)

rises_from : (a b c : ℕ) → a ≤ b → Rises b c → Rises a c
rises_from a b c le r =
    let left : min (a + 1) most ≤ a + 1 = min-le_left (a + 1) most in
    let right : min (a + 1) most ≤ most = min-le_right (a + 1) most in
    let under : min (a + 1) most ≤ min (b + 1) most = le-min (omega (arith, left, le)) right in
    omega (arith, under, r)

-- a count that doesn't fall
stays : (a b c : ℕ) (failed : Bool) → Hears a b failed → b ≤ c → Hears a c failed
stays a b c true h le = rises_on a b c h le
stays a b c false h le = omega (arith, h, le)

-- a failure more
fails : (a b c : ℕ) (failed : Bool) → Hears a b failed → Rises b c → b ≤ c → Hears a c true
fails a b c true h r le = rises_on a b c h le
fails a b c false h r le = rises_from a b c h r

pub counted_more : {L : Type 0} (a b c : ℕ) (failed : Bool) (x : Accept L) → Hears a b failed → CountsAccept b c x → Hears a c (failed_by x failed)
counted_more a b c failed (accepts.Got link ip) h le = stays a b c failed h le
counted_more a b c failed accepts.NotYet h le = stays a b c failed h le
counted_more a b c failed accepts.End h le = stays a b c failed h le
counted_more a b c failed accepts.Failed h (le, r) = fails a b c failed h r le

pub heard_more : {N L : Type 0} (faults : N → ℕ) (gives : N → Accept L → N → Type 0) (law : (m n : N) (x : Accept L) → gives m x n → CountsAccept (faults m) (faults n) x) (was m n : N) (failed : Bool) (x : Accept L) → Hears (faults was) (faults m) failed → gives m x n → Hears (faults was) (faults n) (failed_by x failed)
heard_more faults gives law was m n failed x h given = counted_more (faults was) (faults m) (faults n) failed x h (law m n x given)
