use Rattle.std.proofs.Common.{◌≡◌, ◌++◌, drop}
use Rattle.std.specs.Prelude.{string_bytes}
use Rattle.sw_record_text.specs.Links.{each_text, link_text}
use Rattle.sw_record_text.proofs.printing.put_links.Given as goal

abbrev pub invariant-loop-at : goal.invariant-loop-at
invariant-loop-at l = string_bytes l.out ++ each_text link_text l.at (drop l.at l.links) ≡ string_bytes l.fn.out ++ each_text link_text 0 l.links
