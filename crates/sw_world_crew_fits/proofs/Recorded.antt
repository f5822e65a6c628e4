-- Handlers with their logs.
use Rattle.sw_record.specs.Words.{Act, Send, Close, Reset, Bind, Exist, Info, TaskAct, FinishAct, Table, Stats, Shutdown, Done}
use Rattle.sw_hand.specs.Ports.{Acting}
use Rattle.sw_hand_fits.specs.Matches.{IsNumbered}
use Rattle.sw_world_hand_fits.specs.Hands.{Numbers, Tells}
use Rattle.sw_world_crew.specs.Recorded.{log_of, recorded_acts}
use Rattle.sw_world_crew.specs.Recorded as kept

numbered : (act : Act) → kept.IsNumbered act → IsNumbered act
numbered (Send s b) h = h
numbered (Close s) h = h
numbered (Reset s) h = h
numbered (Bind s u) h = h
numbered (Exist s) h = h
numbered (Info s) h = h
numbered (TaskAct d b) h = tt
numbered (FinishAct b) h = tt
numbered (Table c) h = tt
numbered (Stats c) h = tt
numbered Shutdown h = tt
numbered Done h = tt

pub recorded_numbers : {H : Type 0} (acts : Acting H) → Numbers (recorded_acts acts)
recorded_numbers acts h given act k does of = numbered act does.2

pub recorded_tells : {H : Type 0} (acts : Acting H) → Tells log_of (recorded_acts acts)
recorded_tells acts h given act k does = does.1
