use Rattle.std.proofs.Crossing.{crosses}
use denote.Param.Send.{IsSend, sendable, struct_send}
use denote.Struct.Declared.{shape}
use Rattle.sw_pipe.specs.contracts.sender.Sender as senders
use Rattle.sw_pipe.specs.contracts.taker.Taker as takers
use Rattle.sw_shared.specs.contracts.tickets.NamedTicket as tickets
use Rattle.sw_data.specs.contracts.messages.Msg as messages
use Rattle.sw_players.specs.contracts.tasker.Tasking as tasking
use Rattle.sw_players.specs.contracts.tasker.TaskerPlayer.TheInside as inside
use Rattle.sw_crossing.specs.contracts.players.tasker_crosses.{L-row, J-row, T-row}
use Rattle.sw_crossing.proofs.Crossing.{got}
use Rattle.sw_crossing.proofs.players.tasker_crosses.Goals as goal

-- a task worker is its fields
pub returns : goal.returns
returns g c =
    let l = L-row g.row.L g.row.J g.row.T in
    let j = J-row g.row.L g.row.J g.row.T in
    let h = T-row g.row.L g.row.J g.row.T in
    let ticket : IsSend (tickets.the_row j g.J.Naming) = record { owned = c.sent-4.ensures.owned; leaving = λ k d w. tt } in
    let came = got l (tickets.the_row j g.J.Naming) c.type_bounds.send-L ticket in
    let sends : IsSend (senders.the_row (messages.the_row l (tickets.the_row j g.J.Naming))) = record { owned = c.sent-5.ensures.owned; leaving = λ k d w. tt } in
    let takes : IsSend (takers.the_row (messages.the_row l (tickets.the_row j g.J.Naming))) = record { owned = c.sent-6.ensures.owned; leaving = λ k d w. tt } in
    let parts = struct_send (shape (tasking.the_type l j h g.J.Naming)) (
      search (sendable, crosses) depth 20,
      (
        record { owned = c.sent.ensures.owned; leaving = λ k d w. tt },
        (
          record { owned = c.sent-2.ensures.owned; leaving = λ k d w. tt },
          (
            search (sendable, crosses, c.stand_crosses.ensures) depth 20,
            (
              record { owned = c.sent-3.ensures.owned; leaving = λ k d w. tt },
              (
                came,
                (
                  search (sendable, crosses, sends, takes) depth 60 fits 20000,
                  (
                    search (sendable, crosses) depth 60 fits 20000,
                    (search (sendable, crosses) depth 20, tt),
                  ),
                ),
              ),
            ),
          ),
        ),
      ),
    ) in
    let inner : IsSend (tasking.the_field l j h g.J.Naming).row = search (sendable, crosses, parts) depth 10 in
    let all = struct_send (shape (inside.the_type l j h g.J.Naming)) (inner, tt) in
    let fields : IsSend (inside.the_row l j h g.J.Naming) = search (sendable, crosses, all) depth 10 in
    search (sendable, crosses, fields) depth 10
