use Rattle.std.proofs.Common.{◌≡◌, ap, ◌∙◌, arith}
use Rattle.std.specs.Arc.{arc_value}
use Rattle.sw_board.specs.Values.{BoardId, fresh_seats}
use Rattle.sw_board.specs.Places.{board_id}
use Rattle.sw_board.proofs.board.make.Goals as goal

pub returns : goal.returns
returns c =
    let inv = c.loop-actor.invariant in
    let board : BoardId = board_id (arc_value c.in_ok-words-2.words) in
    let all : c.loop-actor.actor ≡ c.args.actors = let t = c.loop-actor-test.false in let e = c.loop-actor.auto.actor-end in omega (arith, t, e) in
    (board, inv.0, inv.4 ∙ ap (fresh_seats board) all)
