use Rattle.std.proofs.Common.{◌≡◌, refl, subst}
use Rattle.sw_port_board.specs.PlainBoard.{PlainWords}
use Rattle.sw_world_state.specs.Turning.{TurnsAs}
use Rattle.sw_world_state.proofs.state.State.turn.Goals as goal

pub returns : goal.returns
returns g c = (
  c.in_ok-ask.ask,
  (
    c.ask.new.self,
    (
      subst (λ (b : PlainWords). TurnsAs g.H.Handler.acts g.T.Handler.acts c.args.actor (record c.args.self.now { board = b }) c.args.got c.in_ok-ask.ask c.ask.new.self) c.turn_of.ensures c.in_ok-ask.ensures.turns,
      c.asks.ensures,
      refl,
    ),
  ),
)
