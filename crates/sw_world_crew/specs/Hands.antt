-- The hands of the core, and their turns over the plain ports.
use Rattle.std.specs.Prelude.{◌≡◌, ℕ, List, slice_get, slice_set, Some}
use Rattle.sw_port_board.specs.PlainBoard.{PlainWords, PlainGoes}
use Rattle.sw_port_book.specs.Plain.{Words, word_of, bound}
use Rattle.sw_tmodel.specs.Plain.{PlainTable, IsCall}
use Rattle.sw_hand.specs.Hand.{IsHand, IsCrew, HasRow}
use Rattle.sw_hand.specs.Ports.{Acting}
use Rattle.sw_hand.specs.declared.hand.Hand.{Hand}
use Rattle.sw_hand_calls.specs.Calls.{Rules, rules_of}

-- the plain book, Table and board, with any handler
abbrev pub plain_rules_of : {H : Type 0} → Acting H → Rules H Words PlainTable PlainWords
plain_rules_of acts = rules_of (λ b session found c. (found ≡ word_of b session) × (c ≡ b)) (λ b session uid found c. (found ≡ word_of b session) × (c ≡ bound b session uid found)) (λ p call q row new result. IsCall p call q row new result) acts PlainGoes (λ b. b.sizes)

-- the hand of this number is changed so, and all others stay
abbrev pub AtHand : {H : Type 0} → List (Hand H) → ℕ → (Hand H → Hand H → Type 0) → List (Hand H) → Type 0
AtHand {H} all n P more = (h : Hand H) × ((k : Hand H) × ((slice_get all n ≡ Some h) × P h k × (more ≡ slice_set all n k)))

-- its turn may be made: the board has its crews, and its row the Table's columns
abbrev pub MayTurn : {H : Type 0} → Hand H → PlainTable → PlainWords → Type 0
MayTurn h q w = IsCrew h.house w.sizes × HasRow q.columns h.house h.row

-- behind a turn it is a hand of the same house and kind, whose row has the Table's columns
abbrev pub GoesOn : {H : Type 0} → Hand H → Hand H → PlainTable → Type 0
GoesOn h k q = IsHand k × (k.house ≡ h.house) × (k.kind ≡ h.kind) × HasRow q.columns k.house k.row
