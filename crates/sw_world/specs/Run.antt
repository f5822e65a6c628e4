-- Runs of the core's code.
use Rattle.std.specs.Prelude.{◌≡◌, List, [], ◌∷◌}
use Rattle.sw_step.specs.declared.step.Step.{Step}
use Rattle.sw_hand.specs.Ports.{Acting}
use Rattle.sw_world_state.specs.declared.state.State.{State}
use Rattle.sw_world_state.specs.Steps.{Steps}

-- these steps, one after the other, lead from the first code to the second
abbrev pub Ran : {H T : Type 0} → Acting H → Acting T → State H T → List Step → State H T → Type 0
Ran acts does s [] n = n ≡ s
Ran {H} {T} acts does s (x ∷ xs) n = (m : State H T) × (Steps acts does s x m × Ran acts does m xs n)
