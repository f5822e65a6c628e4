-- The numbers of statuses.
use Rattle.std.specs.Prelude.{ℕ}
use Rattle.sw_answer.specs.declared.status.Status.{Status}
use Rattle.sw_answer.specs.declared.status.Status.TheVariants as statuses

-- the number that the program ends with
abbrev pub status_number : Status → ℕ
status_number statuses.Ok = 0
status_number (statuses.BadLine n) = 1
status_number (statuses.Settings f) = 1
status_number statuses.InputLong = 1
status_number (statuses.No at) = 1
status_number (statuses.Unfit n name) = 1
status_number statuses.Usage = 2
status_number statuses.ReadFault = 3
status_number statuses.WriteFault = 4
status_number statuses.OutOfMemory = 5
