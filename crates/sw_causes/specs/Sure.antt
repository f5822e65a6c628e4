-- A source that never fails.
use Rattle.std.specs.Prelude.{ℕ, List, drop}
use Rattle.sw_causes.specs.declared.sure.SureSource.{SureSource}

-- the bytes that a sure source has left
abbrev pub sure_left : SureSource → List ℕ
sure_left s = drop s.at s.bytes.items
