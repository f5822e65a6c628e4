-- The lines that are printed for a load.
use Rattle.std.specs.Prelude.{ℕ, List, ◌++◌, codes}
use Rattle.std.specs.Fmt.{decimal}
use Rattle.sw_load.specs.declared.plan.Plan.{Plan}
use Rattle.sw_load.specs.declared.summary.Summary.{Summary}

-- a line of a word and a number
abbrev pub number_line : List ℕ → ℕ → List ℕ
number_line word n = word ++ decimal n ++ codes "\n"

-- the line of the load
abbrev pub load_line : Plan → List ℕ
load_line p = codes "load " ++ decimal p.seed ++ codes " " ++ decimal p.connections ++ number_line (codes " ") p.packets

-- all five
abbrev pub summary_text : Summary → List ℕ
summary_text s =
    load_line s.plan ++ number_line (codes "packets ") s.packets ++ number_line (codes "bytes ") s.bytes
    ++ number_line (codes "rows ") s.rows ++ number_line (codes "faults ") s.faults
