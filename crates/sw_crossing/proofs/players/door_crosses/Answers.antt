use Rattle.std.proofs.Crossing.{crosses}
use denote.Param.Send.{IsSend, sendable, struct_send}
use denote.Struct.Declared.{shape}
use Rattle.sw_pipe.specs.contracts.sender.Sender as senders
use Rattle.sw_pipe.specs.contracts.taker.Taker as takers
use Rattle.sw_shared.specs.contracts.tickets.NamedTicket as tickets
use Rattle.sw_data.specs.contracts.messages.Msg as messages
use Rattle.sw_players.specs.contracts.door.AtDoor as at_door
use Rattle.sw_players.specs.contracts.door.DoorPlayer.TheInside as inside
use Rattle.sw_crossing.specs.contracts.players.door_crosses.{N-row, J-row, E-row, N-Link-row}
use Rattle.sw_crossing.proofs.Crossing.{got}
use Rattle.sw_crossing.proofs.players.door_crosses.Goals as goal

-- the door is its fields
pub returns : goal.returns
returns g c =
    let n = N-row g.row.N g.row.J g.row.E g.row.N-Link in
    let j = J-row g.row.N g.row.J g.row.E g.row.N-Link in
    let e = E-row g.row.N g.row.J g.row.E g.row.N-Link in
    let l = N-Link-row g.row.N g.row.J g.row.E g.row.N-Link in
    let ticket : IsSend (tickets.the_row j g.J.Naming) = record { owned = c.sent-4.ensures.owned; leaving = λ k d w. tt } in
    let came = got l (tickets.the_row j g.J.Naming) c.type_bounds.send-N-Link ticket in
    let sends : IsSend (senders.the_row (messages.the_row l (tickets.the_row j g.J.Naming))) = record { owned = c.sent-5.ensures.owned; leaving = λ k d w. tt } in
    let takes : IsSend (takers.the_row (messages.the_row l (tickets.the_row j g.J.Naming))) = record { owned = c.sent-6.ensures.owned; leaving = λ k d w. tt } in
    let parts = struct_send (shape (at_door.the_type n j e l g.N.Net g.N.Link.Link g.J.Naming)) (
      search (sendable, crosses) depth 20,
      (
        record { owned = c.sent.ensures.owned; leaving = λ k d w. tt },
        (
          record { owned = c.sent-2.ensures.owned; leaving = λ k d w. tt },
          (
            record { owned = c.sent-3.ensures.owned; leaving = λ k d w. tt },
            (
              search (sendable, crosses, c.type_bounds.send-E) depth 20,
              (
                came,
                (
                  search (sendable, crosses, sends, takes) depth 60 fits 20000,
                  (
                    search (sendable, crosses) depth 60 fits 20000,
                    (search (sendable, crosses) depth 20, tt),
                  ),
                ),
              ),
            ),
          ),
        ),
      ),
    ) in
    let inner : IsSend (at_door.the_field n j e l g.N.Net g.N.Link.Link g.J.Naming).row = search (sendable, crosses, parts) depth 10 in
    let all = struct_send (shape (inside.the_type n j e l g.N.Net g.N.Link.Link g.J.Naming)) (inner, tt) in
    let fields : IsSend (inside.the_row n j e l g.N.Net g.N.Link.Link g.J.Naming) = search (sendable, crosses, all) depth 10 in
    search (sendable, crosses, fields) depth 10
