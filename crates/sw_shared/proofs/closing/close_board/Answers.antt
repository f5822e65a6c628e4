use Rattle.std.proofs.Common.{rules}
use Rattle.sw_shared.proofs.Endings.{one_board, agreed_of, short_board}
use Rattle.sw_shared.proofs.closing.close_board.Goals.{in-Ok, in-Err}
use Rattle.sw_shared.proofs.closing.close_board.Goals as goal

pub close-requires : goal.close-requires
close-requires g c = one_board g.J.Naming.board c.in_ok-seats.seats.items c.args.seats.items c.in_ok-seats.ensures.same c.requires c.in_ok-seats.ensures.board

pub returns : goal.returns
returns g c = elim c.match-close.branch [
  | in-Ok w ↦ rw w.result-is (agreed_of c.in_ok-seats.seats.items c.args.seats.items c.in_ok-seats.ensures.same w.in-Ok.ensures.stops w.in-Ok.ensures.idle w.in-Ok.ensures.sums w.in-Ok.ensures.agree w.in-Ok.ensures.count)
  | in-Err w ↦ rw w.result-is (short_board c.in_ok-seats.seats.items c.args.seats.items c.in_ok-seats.ensures.same w.in-Err.ensures.count.0)
]
