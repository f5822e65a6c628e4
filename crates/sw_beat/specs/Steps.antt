-- A clock that goes by steps.
use Rattle.std.specs.Prelude.{◌≡◌, ℕ, ◌+◌, min, Some, None}
use Rattle.std.proofs.Common.{ap, sym, ◌∙◌}
use Rattle.sw_causes.specs.Causes.{most}
use Rattle.sw_beat.specs.declared.clock.StepClock.{StepClock}
use Rattle.sw_beat.specs.Clocks.{IsForetold}

-- a clock that answers this moment first, and answered nothing yet
abbrev pub new_clock : ℕ → ℕ → StepClock
new_clock at step = record { at = at; step = step; last = None }

-- the clock behind an answer: a step later, up to the greatest moment
abbrev pub stepped : StepClock → StepClock
stepped c = record c { at = min (c.at + c.step) most; last = Some c.at }

-- it answers its moment, and goes on by its step
abbrev pub IsStep : StepClock → ℕ → StepClock → Type 0
IsStep c now d = (now ≡ c.at) × (d ≡ stepped c)

-- its last answer is told
pub steps_tell : (c d : StepClock) (now : ℕ) → IsStep c now d → d.last ≡ Some now
steps_tell c d now (e, f) = ap (λ (s : StepClock). s.last) f ∙ ap Some (sym e)

-- a fork is equal to the clock, so what it answers is known
pub forks_tell : (c f d : StepClock) (now : ℕ) → f ≡ c → IsStep f now d → IsForetold (Some (c.at, stepped c)) now d
forks_tell c f d now same (e, g) = (e ∙ ap (λ (s : StepClock). s.at) same, g ∙ ap stepped same)
