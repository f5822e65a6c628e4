-- What the dispatch mode says of what a reactor pushed: at every moment and at an end.
use Rattle.std.specs.Prelude.{◌==◌, Bool, true, false}
use Rattle.sw_record.specs.Terms.{Terms, keeps}
use Rattle.sw_join.specs.Laws.{Aim, Ending}
use Rattle.sw_join.specs.Aims.{KeptAim, KeptEnd, UidAim, UidEnd, ScatterAim, ScatterEnd}

-- by whether the mode ties a connection to a worker, and whether it goes by uid
abbrev pub aim_by : Bool → Bool → Terms → Aim
aim_by true by_uid t s l pushed = KeptAim t s l pushed
aim_by false true t s l pushed = UidAim t s l pushed
aim_by false false t s l pushed = ScatterAim t s l pushed

-- the same at an end
abbrev pub end_by : Bool → Bool → Terms → Ending
end_by true by_uid t s l e pushed = KeptEnd t s l e pushed
end_by false true t s l e pushed = UidEnd t s l e pushed
end_by false false t s l e pushed = ScatterEnd t s l e pushed

-- by the settings' mode
abbrev pub AimOf : Terms → Aim
AimOf t = aim_by (keeps t.mode) (t.mode == 5) t

-- the same at an end
abbrev pub EndOf : Terms → Ending
EndOf t = end_by (keeps t.mode) (t.mode == 5) t
