-- A handler with its log, whose acts are of sessions.
use Rattle.std.specs.Prelude.{◌≡◌, ◌<◌, List, [], ◌∷◌, ◌++◌}
use Rattle.sw_data.specs.declared.acts.Act.{Act}
use Rattle.sw_data.specs.declared.acts.Act.TheVariants.{Send, Close, Reset, Bind, Exist, Info, Task, Finish, Table, Stats, Shutdown, Done}
use Rattle.sw_data.specs.declared.given.Given.{Given}
use Rattle.sw_handler.specs.Log.{inner_of as inner_in, log_of as log_in}
use Rattle.sw_hand.specs.Ports.{Acting}
use Rattle.sw_world_crew.specs.declared.recorded.Recorded.{Recorded}

-- the handler itself
abbrev pub inner_of : {H : Type 0} → Recorded H → H
inner_of r = inner_in r.logged

-- what it was given and did
abbrev pub log_of : {H : Type 0} → Recorded H → List (Given × Act)
log_of r = log_in r.logged

-- an act's session is none of number 0
abbrev pub IsNumbered : Act → Type 0
IsNumbered (Send s b) = 0 < s
IsNumbered (Close s) = 0 < s
IsNumbered (Reset s) = 0 < s
IsNumbered (Bind s u) = 0 < s
IsNumbered (Exist s) = 0 < s
IsNumbered (Info s) = 0 < s
IsNumbered (Task d b) = Unit {0}
IsNumbered (Finish b) = Unit {0}
IsNumbered (Table c) = Unit {0}
IsNumbered (Stats c) = Unit {0}
IsNumbered Shutdown = Unit {0}
IsNumbered Done = Unit {0}

-- it acts as the handler, keeps the entry, and acts on sessions
abbrev pub recorded_acts : {H : Type 0} → Acting H → Acting (Recorded H)
recorded_acts acts old given act new = acts (inner_of old) given act (inner_of new) × (log_of new ≡ log_of old ++ (given, act) ∷ []) × IsNumbered act
