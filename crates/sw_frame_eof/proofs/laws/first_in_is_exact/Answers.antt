use Rattle.sw_frame_eof.proofs.Marks.{IsFirst-first_in, IsSteady-first_in}
use Rattle.sw_frame_eof.proofs.laws.first_in_is_exact.Goals as goal

pub returns-clause-cases : goal.returns-clause-cases
returns-clause-cases c = IsFirst-first_in _ _ _ c.requires

pub returns-clause-steady : goal.returns-clause-steady
returns-clause-steady c = IsSteady-first_in _ _ c.requires
