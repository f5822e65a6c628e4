-- The text of a whole record.
use Rattle.std.specs.Prelude.{ℕ, List, ◌++◌, codes}
use Rattle.sw_log_text.specs.Entries.{log_text}
use Rattle.sw_record.specs.declared.record.Record.{Record}
use Rattle.sw_record_text.specs.Links.{each_text, link_text}

-- its links in order, then each worker's log, then each task worker's
abbrev pub record_text : Record → List ℕ
record_text r = each_text link_text 0 r.links ++ each_text (log_text (codes "w")) 0 r.workers ++ each_text (log_text (codes "t")) 0 r.taskers
