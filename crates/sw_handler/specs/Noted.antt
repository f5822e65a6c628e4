-- The parts of a handler with a diary.
use Rattle.sw_handler.specs.declared.noted.Noted.{Noted}

-- the handler itself
abbrev pub inner_of : {H Y : Type 0} → Noted H Y → H
inner_of n = n.inner

-- its diary
abbrev pub diary_of : {H Y : Type 0} → Noted H Y → Y
diary_of n = n.diary
