-- How a framing cuts the pieces of a byte stream into packets.
use Rattle.std.specs.Prelude.{◌≡◌, ℕ, ◌<◌, ◌≤◌, List, [], ◌∷◌, length, Option, None}
use Rattle.std.specs.List.{concat}
use Rattle.sw_cut.specs.declared.First.{First}
use Rattle.sw_cut.specs.Cut.{IsCut, parts_of, fault_of}
use Rattle.sw_frame_eof.specs.Mark as marks
use Rattle.sw_frame_len.specs.Length as lengths
use Rattle.sw_frame.specs.declared.framing.Framing.{Framing}
use Rattle.sw_frame.specs.declared.framing.Framing.TheVariants.{Raw, Eof, Length}

-- the framing can cut: its mark has 1 to 8 bytes, and its longest packet at least one
abbrev pub IsFit : Framing → Type 0
IsFit Raw = Unit {0}
IsFit (Eof mark max) = (0 < length mark) × (length mark ≤ 8) × (0 < max)
IsFit (Length rule) = Unit {0}

-- packets in order, the bytes behind them, and the fault there, if there is one
pub record Cut : Type 0 where
  pub packets : List (List ℕ)
  pub rest : List ℕ
  pub fault : Option First

-- the pieces that aren't empty
abbrev pub filled : List (List ℕ) → List (List ℕ)
filled [] = []
filled ([] ∷ pieces) = filled pieces
filled ((b ∷ bs) ∷ pieces) = (b ∷ bs) ∷ filled pieces

-- the joined pieces are cut so by what comes first in bytes
pub record IsCutBy (first : List ℕ → First) (pieces : List (List ℕ)) (c : Cut) : Type 0 where
  pub parts : IsCut first (concat pieces) c.packets c.rest
  pub fault : c.fault ≡ fault_of (first c.rest)

-- raw pieces are the packets
pub record IsRawCut (pieces : List (List ℕ)) (c : Cut) : Type 0 where
  pub packets : c.packets ≡ filled pieces
  pub rest : c.rest ≡ []
  pub fault : c.fault ≡ None

-- the framing cuts the pieces so
abbrev pub IsCutOf : Framing → List (List ℕ) → Cut → Type 0
IsCutOf Raw pieces c = IsRawCut pieces c
IsCutOf (Eof mark max) pieces c = IsCutBy (marks.first_in mark max) pieces c
IsCutOf (Length rule) pieces c = IsCutBy (lengths.first_in rule) pieces c

-- the cut by what comes first in bytes
abbrev pub cut_by : (List ℕ → First) → List ℕ → Cut
cut_by first bytes = record { packets = (parts_of first bytes).packets; rest = (parts_of first bytes).rest; fault = fault_of (first (parts_of first bytes).rest) }

-- the one cut of the pieces: IsCutOf says what it is
unfoldable pub cut : Framing → List (List ℕ) → Cut
cut Raw pieces = record { packets = filled pieces; rest = []; fault = None }
cut (Eof mark max) pieces = cut_by (marks.first_in mark max) (concat pieces)
cut (Length rule) pieces = cut_by (lengths.first_in rule) (concat pieces)
