use Rattle.std.proofs.Common.{◌≡◌, ◌++◌, drop}
use Rattle.std.specs.Prelude.{string_bytes}
use Rattle.sw_record_text.specs.Links.{each_text}
use Rattle.sw_log_text.specs.Entries.{log_text}
use Rattle.sw_record_text.proofs.printing.put_logs.Given as goal

abbrev pub invariant-loop-at : goal.invariant-loop-at
invariant-loop-at l = string_bytes l.out ++ each_text (log_text l.kind) l.at (drop l.at l.logs) ≡ string_bytes l.fn.out ++ each_text (log_text l.kind) 0 l.logs
