-- What a hand's turn needs of the board and of the row's buffer.
use Rattle.std.proofs.Common.{◌≡◌, List, sym, subst}
use Rattle.sw_base.specs.declared.table.Value.{Value}
use Rattle.sw_column.specs.declared.column.Column.{Column}
use Rattle.sw_column.specs.Values.{HasKinds}
use Rattle.sw_port_board.specs.declared.crew.Sizes.{Sizes}
use Rattle.sw_hand.specs.Hand.{IsCrew, HasRow}
use Rattle.sw_hand.specs.declared.house.House.{House}

-- the crews of a board of the same sizes are the same server's
pub crew_still : (h k : House) (y z : Sizes) → IsCrew h y → k ≡ h → z ≡ y → IsCrew k z
crew_still h k y z crew house sizes = subst (λ (n : House). IsCrew n z) (sym house) (subst (λ (n : Sizes). IsCrew h n) (sym sizes) crew)

-- a buffer of the columns' kinds is the row's, whether there is a Table or not
pub row_there : (columns : List Column) (h : House) (row : List Value) → HasKinds columns row → HasRow columns h row
row_there columns h row kinds = λ _. kinds

-- and it stays so for the same columns, house and row
pub row_still : (columns others : List Column) (h k : House) (row other : List Value) → HasRow columns h row → others ≡ columns → k ≡ h → other ≡ row → HasRow others k other
row_still columns others h k row other has same house rows =
    subst (λ (x : List Column). HasRow x k other) (sym same)
    (subst (λ (x : House). HasRow columns x other) (sym house)
    (subst (λ (x : List Value). HasRow columns h x) (sym rows) has))
