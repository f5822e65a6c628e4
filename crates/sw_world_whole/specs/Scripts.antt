-- Links whose scripts go on.
use Rattle.std.specs.Prelude.{List, [], ◌∷◌}
use Rattle.sw_data.specs.declared.messages.Msg.TheVariants as msgs
use Rattle.sw_data.specs.declared.messages.Got.TheVariants as gots
use Rattle.sw_link.specs.declared.memory_link.MemoryLink.{MemoryLink}
use Rattle.sw_link.specs.declared.memory_link.LinkStep.{LinkStep}
use Rattle.sw_link.specs.Memory.{added}
use Rattle.sw_world_places.specs.Pipes.{Sent, Getting}

-- a link with these steps more
abbrev pub fed : List LinkStep → MemoryLink → MemoryLink
fed [] l = l
fed (s ∷ ss) l = fed ss (added s l)

-- the same of the link that a message carries
abbrev pub message_fed : List LinkStep → Sent → Sent
message_fed ss (msgs.Fresh link ip ticket) = msgs.Fresh (fed ss link) ip ticket
message_fed ss (msgs.Send s b) = msgs.Send s b
message_fed ss (msgs.Close s) = msgs.Close s
message_fed ss (msgs.Reset s) = msgs.Reset s
message_fed ss (msgs.Bye s) = msgs.Bye s
message_fed ss (msgs.Event e) = msgs.Event e
message_fed ss (msgs.Over id) = msgs.Over id
message_fed ss msgs.NoMore = msgs.NoMore

-- and of the message that was taken
abbrev pub got_fed : List LinkStep → Getting → Getting
got_fed ss (gots.Took m) = gots.Took (message_fed ss m)
got_fed ss gots.Start = gots.Start
got_fed ss gots.Empty = gots.Empty
got_fed ss gots.Pushed = gots.Pushed
got_fed ss (gots.Full m) = gots.Full m
got_fed ss gots.Nothing = gots.Nothing
