-- What the net over sockets counts: its faults, and the links that are still to be accepted.
use Rattle.std.specs.Prelude.{◌≡◌, ℕ, ◌-◌, ◌≤◌, ◌==◌, Bool, true, false, Option, Some, None}
use Rattle.std.proofs.Common.{arith, sym, subst}
use Rattle.sw_causes.specs.Causes.{Rises}
use Rattle.sw_link.specs.Nets.{CountsAccept}
use Rattle.sw_link.specs.declared.net.Accept.{Accept}
use Rattle.sw_link.specs.declared.net.Accept.TheVariants as accepts
use Rattle.sw_mio.specs.declared.mio_net.Taken.{Taken}
use Rattle.sw_mio.specs.declared.mio_net.Taken.TheVariants as taken

-- a port is answered without a fault, and none only at one
abbrev pub CountsListen : ℕ → ℕ → Option ℕ → Type 0
CountsListen old new (Some port) = new ≡ old
CountsListen old new None = (old ≤ new) × Rises old new

-- no link is to come any more; without a bound there always are more
abbrev pub is_over : Option ℕ → Bool
is_over None = false
is_over (Some n) = n == 0

-- one link less is to come
abbrev pub one_less : Option ℕ → Option ℕ
one_less None = None
one_less (Some n) = Some (n - 1)

-- a stream takes one off the links to come, and a failure is counted
abbrev pub Takes : ℕ → Option ℕ → Taken → ℕ → Option ℕ → Type 0
Takes faults left (taken.Stream stream ip) faults_new left_new = (faults ≤ faults_new) × (left_new ≡ one_less left)
Takes faults left taken.NotYet faults_new left_new = (faults ≤ faults_new) × (left_new ≡ left)
Takes faults left taken.Failed faults_new left_new = (faults ≤ faults_new) × Rises faults faults_new × (left_new ≡ left)

-- an accept answers End exactly where no link is to come, a link takes one off, and a failure is counted
abbrev pub Accepts : {L : Type 0} → ℕ → Option ℕ → Accept L → ℕ → Option ℕ → Type 0
Accepts faults left (accepts.Got link ip) faults_new left_new = (is_over left ≡ false) × (faults ≤ faults_new) × (left_new ≡ one_less left)
Accepts faults left accepts.NotYet faults_new left_new = (is_over left ≡ false) × (faults ≤ faults_new) × (left_new ≡ left)
Accepts faults left accepts.End faults_new left_new = (is_over left ≡ true) × (faults_new ≡ faults) × (left_new ≡ left)
Accepts faults left accepts.Failed faults_new left_new = (is_over left ≡ false) × (faults ≤ faults_new) × Rises faults faults_new × (left_new ≡ left)

least : (n : ℕ) → n ≤ n
least n = omega arith

-- so its count of faults is that of a net
pub accepts_count : {L : Type 0} (f : ℕ) (l : Option ℕ) (a : Accept L) (g : ℕ) (m : Option ℕ) → Accepts f l a g m → CountsAccept f g a
accepts_count f l (accepts.Got link ip) g m h = h.1
accepts_count f l accepts.NotYet g m h = h.1
accepts_count f l accepts.End g m h = subst (λ x. f ≤ x) (sym h.1) (least f)
accepts_count f l accepts.Failed g m h = (h.1, h.2)
