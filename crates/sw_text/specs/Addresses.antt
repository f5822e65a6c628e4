-- IPv4 addresses and their texts.
use Rattle.std.specs.Prelude.{ℕ, ◌+◌, ◌*◌, ◌/◌, ◌%◌, List, ◌++◌, Option, Some, codes}
use Rattle.std.specs.Fmt.{decimal}
use Rattle.sw_text.specs.Then.{◌>>=◌}
use Rattle.sw_text.specs.Numbers.{number_within}
use Rattle.sw_text.specs.Parts.{part_at}

-- a number from 0 to 255 and a dot behind it
unfoldable pub byte_at : List ℕ → Option (ℕ × List ℕ)
byte_at text = do
  p ← part_at 46 text
  n ← number_within 0 255 p.0
  Some (n, p.1)

-- the address that four numbers with dots are, the first one highest
unfoldable pub ip_of : List ℕ → Option ℕ
ip_of text = do
  a ← byte_at text
  b ← byte_at a.1
  c ← byte_at b.1
  d ← number_within 0 255 c.1
  Some (((a.0 * 256 + b.0) * 256 + c.0) * 256 + d)

-- an address as four decimal numbers with dots
abbrev pub ip_text : ℕ → List ℕ
ip_text ip = decimal (ip / 16777216) ++ codes "." ++ decimal (ip / 65536 % 256) ++ codes "." ++ decimal (ip / 256 % 256) ++ codes "." ++ decimal (ip % 256)
