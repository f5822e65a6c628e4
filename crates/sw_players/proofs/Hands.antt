-- A hand's turn leaves what it goes by.
use Rattle.std.proofs.Common.{◌≡◌, List, sym, subst}
use Rattle.sw_column.specs.declared.column.Column.{Column}
use Rattle.sw_port_board.specs.declared.crew.Sizes.{Sizes}
use Rattle.sw_hand.specs.Hand.{IsCrew, HasRow, Lasts}
use Rattle.sw_hand.specs.declared.hand.Hand.{Hand}
use Rattle.sw_hand.specs.declared.house.House.{House}
use Rattle.sw_players.specs.Turns.{IsAtHand}

pub stays : {H M : Type 0} (made : H → M) (sizes : Sizes) (columns : List Column) (h k : Hand H) → IsAtHand sizes columns h → Lasts made h k → HasRow columns k.house k.row → IsAtHand sizes columns k
stays made sizes columns h k was lasts row = (subst (λ (z : House). IsCrew z sizes) (sym lasts.0) was.0, row)
