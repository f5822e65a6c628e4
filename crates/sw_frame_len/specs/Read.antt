-- Whether the field of the packet at the front was read.
use Rattle.std.specs.Prelude.{◌≡◌, ℕ, List, Option, Some, None}
use Rattle.sw_frame_len.specs.declared.rule.LengthRule.{LengthRule}
use Rattle.sw_frame_len.specs.declared.scan.LengthScan.{LengthScan}
use Rattle.sw_frame_len.specs.Length.{HasField, total}

-- nothing was read yet
abbrev pub unread : LengthScan
unread = record { total = None }

-- a length that is known is the one that the field in the bytes names
abbrev pub IsKnown : LengthRule → List ℕ → Option ℕ → Type 0
IsKnown rule bytes None = Unit {0}
IsKnown rule bytes (Some n) = HasField rule bytes × (n ≡ total rule bytes)

abbrev pub HasRead : LengthRule → List ℕ → LengthScan → Type 0
HasRead rule bytes scan = IsKnown rule bytes scan.total
