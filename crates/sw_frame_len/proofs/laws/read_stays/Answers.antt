use Rattle.sw_frame_len.proofs.ReadOnce.{HasRead-later}
use Rattle.sw_frame_len.proofs.laws.read_stays.Goals as goal

pub returns-clause-later : goal.returns-clause-later
returns-clause-later c = HasRead-later _ _ _ _
