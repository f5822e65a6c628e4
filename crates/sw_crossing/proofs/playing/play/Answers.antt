use Rattle.std.proofs.Crossing.{crosses}
use denote.Param.Send.{IsSend, sendable, param_send, given_send}
use Rattle.sw_players.specs.contracts.actor.Actor as actors
use Rattle.sw_crossing.specs.contracts.playing.play.{N-row, J-row, E-row, H-row, T-row, N-Link-row}
use Rattle.sw_crossing.proofs.playing.play.Goals as goal

-- the actors may go to threads
pub run-requires-send-P : goal.run-requires-send-P
run-requires-send-P g c κs lives =
    let row = actors.the_row (N-row g.row.N g.row.J g.row.E g.row.H g.row.T g.row.P g.row.R g.row.N-Link) (J-row g.row.N g.row.J g.row.E g.row.H g.row.T g.row.P g.row.R g.row.N-Link) (E-row g.row.N g.row.J g.row.E g.row.H g.row.T g.row.P g.row.R g.row.N-Link) (H-row g.row.N g.row.J g.row.E g.row.H g.row.T g.row.P g.row.R g.row.N-Link) (T-row g.row.N g.row.J g.row.E g.row.H g.row.T g.row.P g.row.R g.row.N-Link) (N-Link-row g.row.N g.row.J g.row.E g.row.H g.row.T g.row.P g.row.R g.row.N-Link) g.N.Net g.N.Link.Link g.J.Naming in
    let fact : IsSend row = search (sendable, crosses, c.actor_crosses.ensures) depth 10 in
    param_send 1 _ (given_send 0 _ row (param_send 0 row fact))
