-- The parts of a handler that keeps its log.
use Rattle.std.specs.Prelude.{List}
use Rattle.sw_data.specs.declared.acts.Act.{Act}
use Rattle.sw_data.specs.declared.given.Given.{Given}
use Rattle.sw_handler.specs.declared.logged.Logged.{Logged}

-- the handler itself
abbrev pub inner_of : {H : Type 0} → Logged H → H
inner_of l = l.inner

-- what it was given and did
abbrev pub log_of : {H : Type 0} → Logged H → List (Given × Act)
log_of l = l.log
