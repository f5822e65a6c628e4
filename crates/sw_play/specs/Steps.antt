-- The steps that the lines of a schedule stand for.
use Rattle.std.specs.Prelude.{ℕ, zero, suc, List, [], ◌∷◌, ◌++◌, replicate}
use Rattle.std.specs.List.{flat_map}
use Rattle.sw_step.specs.declared.actor.ActorId.{ActorId}
use Rattle.sw_step.specs.declared.actor.ActorId.TheVariants.{Door, Reactor, Worker, Tasker}
use Rattle.sw_step.specs.declared.step.Step.{Step}
use Rattle.sw_step.specs.declared.step.Step.TheVariants.{Turn}
use Rattle.sw_settings.specs.declared.values.Values.{Values}
use Rattle.sw_schedule.specs.declared.schedule.Line.{Line}
use Rattle.sw_schedule.specs.declared.schedule.Line.TheVariants as lines

-- one step of each of so many actors of a kind, in the order of their numbers
unfoldable pub each : (ℕ → ActorId) → ℕ → List Step
each kind zero = []
each kind (suc n) = each kind n ++ Turn (kind n) ∷ []

-- one step of each actor, in the order door, reactors, workers, task workers
unfoldable pub round : Values → List Step
round v = Turn Door ∷ each Reactor v.reactor_num ++ each Worker v.worker_num ++ each Tasker v.task_worker_num

-- so many rounds
unfoldable pub rounds : Values → ℕ → List Step
rounds v zero = []
rounds v (suc n) = rounds v n ++ round v

-- the steps of one line
abbrev pub steps_of_line : Values → Line → List Step
steps_of_line v (lines.Step one) = one ∷ []
steps_of_line v (lines.Turns actor n) = replicate n (Turn actor)
steps_of_line v (lines.Rounds n) = rounds v n

-- the steps of all lines, one line after the other
abbrev pub steps_of : Values → List Line → List Step
steps_of v ls = flat_map (steps_of_line v) ls
