-- The lines that tell what comes from outside.
use Rattle.std.specs.Prelude.{ℕ, List, [], ◌∷◌, nat_lt, length, Option, Some, None, if◌then◌else◌}
use Rattle.sw_text.specs.Then.{◌>>=◌}
use Rattle.sw_text.specs.Numbers.{number_of, number_within}
use Rattle.sw_text.specs.Parts.{part_at}
use Rattle.sw_text.specs.Hex.{bytes_of}
use Rattle.sw_text.specs.Addresses.{ip_of}
use Rattle.sw_step.specs.declared.step.Step.{Step}
use Rattle.sw_step.specs.declared.step.Step.TheVariants.{Arrive, Piece, End, Wait, Room, FailRead, FailWrite, NetEnd}
use Rattle.sw_schedule.specs.Peers.{Known, is_open, is_sending}

-- the number of a link that was opened
unfoldable pub link_of : Known → List ℕ → Option ℕ
link_of k text = do
  n ← number_within 0 4294967295 text
  (if nat_lt n (length k.ended) then Some n else None)

-- the number of a link whose end wasn't given
unfoldable pub sending_of : Known → List ℕ → Option ℕ
sending_of k text = do
  l ← link_of k text
  (if is_sending k l then Some l else None)

-- open IP, while links may arrive
unfoldable pub arrived : List ℕ → Option Step
arrived text = do
  ip ← ip_of text
  Some (Arrive ip)

unfoldable pub arrives : Known → List ℕ → Option Step
arrives k text = if is_open k then arrived text else None

-- netend, while links may arrive
abbrev pub net_ends : Known → Option Step
net_ends k = if is_open k then Some NetEnd else None

-- data L HEX, while that link's peer sends
unfoldable pub sent : Known → List ℕ → Option Step
sent k text = do
  p ← part_at 32 text
  l ← sending_of k p.0
  bytes ← bytes_of p.1
  Some (Piece l bytes)

-- end L, while that link's peer sends
unfoldable pub ended : Known → List ℕ → Option Step
ended k text = do
  l ← sending_of k text
  Some (End l)

-- wait L N, while that link's peer sends
unfoldable pub waits : Known → List ℕ → Option Step
waits k text = do
  p ← part_at 32 text
  l ← sending_of k p.0
  n ← number_of p.1
  Some (Wait l n)

-- a link that was opened, and a number behind it
unfoldable pub numbered : Known → List ℕ → Option (ℕ × ℕ)
numbered k text = do
  p ← part_at 32 text
  l ← link_of k p.0
  n ← number_of p.1
  Some (l, n)

-- room L N, failread L K, failwrite L K
unfoldable pub rooms : Known → List ℕ → Option Step
rooms k text = do
  p ← numbered k text
  Some (Room p.0 p.1)

unfoldable pub read_fails : Known → List ℕ → Option Step
read_fails k text = do
  p ← numbered k text
  Some (FailRead p.0 p.1)

unfoldable pub write_fails : Known → List ℕ → Option Step
write_fails k text = do
  p ← numbered k text
  Some (FailWrite p.0 p.1)
