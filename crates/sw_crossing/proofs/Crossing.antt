-- That messages and what a pipe call gives may go to another thread.
use Rattle.std.proofs.Crossing.{crosses}
use denote.RattleType.{RattleType}
use denote.Param.Send.{IsSend, sendable}
use Rattle.sw_base.specs.contracts.octets.Octets as octets
use Rattle.sw_base.specs.contracts.session.Session as sessions
use Rattle.sw_data.specs.contracts.events.Event as events
use Rattle.sw_data.specs.contracts.messages.Msg as messages
use Rattle.sw_data.specs.contracts.messages.Got as gots

bytes : IsSend octets.the_row
bytes = search (sendable, crosses) depth 60 fits 20000

session : IsSend sessions.the_row
session = search (sendable, crosses) depth 60 fits 20000

event : IsSend events.the_field.row
event = search (sendable, crosses, bytes, session) depth 60 fits 20000

pub message : (L K : RattleType) → IsSend L → IsSend K → IsSend (messages.the_field L K).row
message L K l k = search (sendable, crosses, bytes, session, event, l, k) depth 60 fits 20000

pub got : (L K : RattleType) → IsSend L → IsSend K → IsSend (gots.the_field (messages.the_row L K)).row
got L K l k = let one = message L K l k in search (sendable, crosses, one) depth 60 fits 20000
