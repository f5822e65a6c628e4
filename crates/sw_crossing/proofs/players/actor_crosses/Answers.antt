use Rattle.std.proofs.Crossing.{crosses}
use denote.Param.Send.{IsSend, sendable, enum_send}
use denote.Enum.Declared.{shape}
use Rattle.sw_players.specs.contracts.actor.Actor as actors
use Rattle.sw_players.specs.contracts.door.DoorPlayer as doors
use Rattle.sw_players.specs.contracts.reactor.ReactorPlayer as reactors
use Rattle.sw_players.specs.contracts.worker.WorkerPlayer as workers
use Rattle.sw_players.specs.contracts.tasker.TaskerPlayer as taskers
use Rattle.sw_crossing.specs.contracts.players.actor_crosses.{N-row, J-row, E-row, H-row, T-row, N-Link-row}
use Rattle.sw_crossing.proofs.players.actor_crosses.Goals as goal

-- an actor is a player of one of four kinds
pub returns : goal.returns
returns g c =
    let n = N-row g.row.N g.row.J g.row.E g.row.H g.row.T g.row.N-Link in
    let j = J-row g.row.N g.row.J g.row.E g.row.H g.row.T g.row.N-Link in
    let e = E-row g.row.N g.row.J g.row.E g.row.H g.row.T g.row.N-Link in
    let h = H-row g.row.N g.row.J g.row.E g.row.H g.row.T g.row.N-Link in
    let t = T-row g.row.N g.row.J g.row.E g.row.H g.row.T g.row.N-Link in
    let l = N-Link-row g.row.N g.row.J g.row.E g.row.H g.row.T g.row.N-Link in
    let door : IsSend (doors.the_field n j e l g.N.Net g.N.Link.Link g.J.Naming).row = search (sendable, crosses, c.door_crosses.ensures) depth 20 in
    let reads : IsSend (reactors.the_row l j e g.J.Naming) = record { owned = c.sent.ensures.owned; leaving = λ k d w. tt } in
    let reactor : IsSend (reactors.the_field l j e g.J.Naming).row = search (sendable, crosses, reads) depth 20 in
    let worker : IsSend (workers.the_field l j h g.J.Naming).row = search (sendable, crosses, c.worker_crosses.ensures) depth 20 in
    let tasker : IsSend (taskers.the_field l j t g.J.Naming).row = search (sendable, crosses, c.tasker_crosses.ensures) depth 20 in
    let all = enum_send (shape (actors.the_type n j e h t l g.N.Net g.N.Link.Link g.J.Naming)) ((door, tt), ((reactor, tt), ((worker, tt), ((tasker, tt), tt)))) in
    search (sendable, crosses, all) depth 10
