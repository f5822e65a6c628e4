use Rattle.sw_frame_len.proofs.Lengths.{IsFirst-first_in, IsSteady-first_in}
use Rattle.sw_frame_len.proofs.laws.first_in_is_exact.Goals as goal

pub returns-clause-rows : goal.returns-clause-rows
returns-clause-rows c = IsFirst-first_in _ _

pub returns-clause-steady : goal.returns-clause-steady
returns-clause-steady c = IsSteady-first_in _
