use Rattle.sw_frame_eof.proofs.Scans.{HasScanned-later, compared-few}
use Rattle.sw_frame_eof.proofs.laws.scan_stays.Goals as goal

pub returns-clause-later : goal.returns-clause-later
returns-clause-later c = HasScanned-later _ _ _ _ c.requires

pub returns-clause-few : goal.returns-clause-few
returns-clause-few c = compared-few _ _ _ c.requires
