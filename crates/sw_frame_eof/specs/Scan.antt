-- How far bytes were searched for a mark, and what that cost.
use Rattle.std.specs.Prelude.{◌≡◌, ℕ, ◌+◌, ◌<◌, ◌≤◌, true, false, if◌then◌else◌, List, length}
use Rattle.sw_frame_eof.specs.Mark.{StandsAt}
use Rattle.sw_frame_eof.specs.declared.scan.EofScan.{EofScan}

-- nothing was searched yet
abbrev pub unscanned : EofScan
unscanned = record { passed = 0; found = false }

-- the mark stands at none of the places that were passed, each of which has room for it; if it was found, it stands behind them
pub record HasScanned (mark bytes : List ℕ) (scan : EofScan) : Type 0 where
  pub room : 0 < scan.passed → scan.passed + length mark ≤ length bytes + 1
  pub none : (k : ℕ) → k < scan.passed → ¬ StandsAt mark bytes k
  pub found : scan.found ≡ true → StandsAt mark bytes scan.passed

-- the places that the mark was compared with
abbrev pub compared : EofScan → ℕ
compared scan = if scan.found then scan.passed + 1 else scan.passed
