-- A script, line by line.
use Rattle.std.specs.Prelude.{ℕ, ◌+◌, List, [], ◌∷◌, ◌++◌, nat_lt, Option, Some, None, Result, Ok, if◌then◌else◌}
use Rattle.sw_text.specs.Parts.{lines_of}
use Rattle.sw_lines.specs.Lines.{lines_read, IsRead as AreRead}
use Rattle.sw_script.specs.declared.rule.On.{On}
use Rattle.sw_script.specs.declared.rule.On.TheVariants.{Connect, Packet, Closed, Finish, Task}
use Rattle.sw_script.specs.declared.rule.Rule.{Rule}
use Rattle.sw_script.specs.declared.script.Script.{Script}
use Rattle.sw_script.specs.Rules.{rule_of}

-- ---- how it is read

abbrev pub no_rules : Script
no_rules = record { count = 0; connect = []; packet = []; closed = []; finish = []; task = [] }

-- the rules for events of this kind, in the order of their lines
abbrev pub rules_on : On → Script → List Rule
rules_on Connect s = s.connect
rules_on Packet s = s.packet
rules_on Closed s = s.closed
rules_on Finish s = s.finish
rules_on Task s = s.task

-- one rule more behind those of its kind
abbrev pub with_rule : On → Rule → Script → Script
with_rule Connect r s = record s { count = s.count + 1; connect = s.connect ++ r ∷ [] }
with_rule Packet r s = record s { count = s.count + 1; packet = s.packet ++ r ∷ [] }
with_rule Closed r s = record s { count = s.count + 1; closed = s.closed ++ r ∷ [] }
with_rule Finish r s = record s { count = s.count + 1; finish = s.finish ++ r ∷ [] }
with_rule Task r s = record s { count = s.count + 1; task = s.task ++ r ∷ [] }

abbrev pub with_ruled : Script → Option (On × Rule) → Option Script
with_ruled s None = None
with_ruled s (Some r) = Some (with_rule r.0 r.1 s)

-- the script with one line more, if that is a rule and one of the first 256
unfoldable pub line_read : Script → List ℕ → Option Script
line_read s line = if nat_lt s.count 256 then with_ruled s (rule_of line) else None

-- the script that a text is, or the number of its first line that isn't in the grammar
abbrev pub script_of : List ℕ → Result Script ℕ
script_of text = lines_read line_read 1 (Ok no_rules) (lines_of text)

-- ---- what that means, in terms of the lines alone

-- what a text is read as: a script where each line is a rule, and else the number, from 1, of the first line that is none
abbrev pub IsRead : List ℕ → Result Script ℕ → Type 0
IsRead text r = AreRead line_read 1 no_rules (lines_of text) r
