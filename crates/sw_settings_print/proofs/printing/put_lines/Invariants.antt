use Rattle.std.proofs.Common.{◌≡◌, ◌++◌, take}
use Rattle.std.specs.Prelude.{string_bytes}
use Rattle.std.specs.List.{flat_map}
use Rattle.sw_settings_print.specs.Print.{seen_text}
use Rattle.sw_settings_print.proofs.printing.put_lines.Given as goal

-- the lines so far were put behind what stood there
abbrev pub invariant-loop-line : goal.invariant-loop-line
invariant-loop-line l = string_bytes l.out ≡ string_bytes l.fn.out ++ flat_map seen_text (take l.line-index l.lines)
