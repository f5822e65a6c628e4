-- A drill as far as it was read, and one line more.
use Rattle.std.specs.Prelude.{ℕ, List, [], ◌∷◌, ◌++◌, codes, Bool, true, false, Option, Some, None, Result, Ok, Err, if◌then◌else◌}
use Rattle.std.specs.Str.{bytes_eq}
use Rattle.sw_text.specs.Then.{◌>>=◌}
use Rattle.sw_text.specs.Numbers.{number_within}
use Rattle.sw_text.specs.Parts.{cut_at, part_at, lines_of}
use Rattle.sw_lines.specs.Lines.{lines_read}
use Rattle.sw_step.specs.declared.step.Step.{Step}
use Rattle.sw_step.specs.declared.step.Step.TheVariants as steps
use Rattle.sw_set_lines.specs.Values.{is_setting_name, value_of}
use Rattle.sw_set_lines.specs.Pairs.{with_pair}
use Rattle.sw_script.specs.declared.script.Script.{Script}
use Rattle.sw_script.specs.Script.{no_rules, line_read as rule_line}
use Rattle.sw_schedule.specs.Actors.{actor_of}
use Rattle.sw_schedule.specs.Peers.{Known, no_peers, opened, ended_at, closed}
use Rattle.sw_schedule.specs.Outside.{arrives, net_ends, sent, ended, waits, rooms, read_fails, write_fails}
use Rattle.sw_schedule.specs.declared.schedule.Line.{Line}
use Rattle.sw_schedule.specs.declared.schedule.Line.TheVariants as lines
use Rattle.sw_schedule.specs.declared.schedule.Schedule.{Schedule}
use Rattle.sw_schedule.specs.declared.draft.Draft.{Draft}

-- ---- schedule lines

-- turn A N, or turn A for one step
abbrev pub turns_of : List ℕ × Option (List ℕ) → Option Line
turns_of (name, None) = do
  a ← actor_of name
  Some (lines.Turns a 1)
turns_of (name, Some rest) = do
  a ← actor_of name
  n ← number_within 1 100000 rest
  Some (lines.Turns a n)

unfoldable pub turn_of : List ℕ → Option Line
turn_of text = turns_of (cut_at 32 text)

-- run N
unfoldable pub run_of : List ℕ → Option Line
run_of text = do
  n ← number_within 1 100000 text
  Some (lines.Rounds n)

-- what comes from outside, by the line's first word
abbrev pub outside : Known → List ℕ → List ℕ → Option Step
outside k word text = if bytes_eq word (codes "data") then sent k text
    else if bytes_eq word (codes "open") then arrives k text
    else if bytes_eq word (codes "end") then ended k text
    else if bytes_eq word (codes "wait") then waits k text
    else if bytes_eq word (codes "room") then rooms k text
    else if bytes_eq word (codes "failread") then read_fails k text
    else if bytes_eq word (codes "failwrite") then write_fails k text
    else None

unfoldable pub step_line : Known → List ℕ → List ℕ → Option Line
step_line k word text = do
  s ← outside k word text
  Some (lines.Step s)

-- the line with this first word, and this text behind it
abbrev pub named : Known → List ℕ → List ℕ → Option Line
named k word text = if bytes_eq word (codes "turn") then turn_of text
    else if bytes_eq word (codes "run") then run_of text
    else step_line k word text

-- ---- a text, line by line

-- what is known of the links' peers once this line is read too
abbrev pub after_step : Step → Known → Known
after_step (steps.Arrive ip) k = opened k
after_step (steps.Piece l bytes) k = k
after_step (steps.End l) k = ended_at l k
after_step (steps.Wait l n) k = k
after_step (steps.Room l n) k = k
after_step (steps.FailRead l n) k = k
after_step (steps.FailWrite l n) k = k
after_step steps.NetEnd k = closed k
after_step (steps.Turn a) k = k

abbrev pub after_line : Line → Known → Known
after_line (lines.Step s) k = after_step s k
after_line (lines.Turns a n) k = k
after_line (lines.Rounds n) k = k

abbrev pub with_line : Draft → Line → Draft
with_line d l = record d { peers = after_line l d.peers; lines = d.lines ++ l ∷ [] }

-- set NAME VALUE, for a name that wasn't set yet
unfoldable pub set_read : Draft → List ℕ → Option Draft
set_read d text = do
  p ← part_at 32 text
  value ← (if is_setting_name p.0 then value_of p.1 else None)
  pairs ← with_pair d.pairs p.0 value
  Some (record d { pairs = pairs })

-- no line of the schedule came yet
abbrev pub is_in_front : List Line → Bool
is_in_front [] = true
is_in_front (l ∷ ls) = false

-- such a line stands in front of all rules and all lines of the schedule
abbrev pub set_at : Draft → List ℕ → Option Draft
set_at d text = if d.ruled then None else if is_in_front d.lines then set_read d text else None

-- the draft with one rule more
abbrev pub with_script : Draft → Option Script → Option Draft
with_script d None = None
with_script d (Some s) = Some (record d { script = s; ruled = true })

abbrev pub rule_read : Draft → List ℕ → Option Draft
rule_read d line = with_script d (rule_line d.script line)

-- a rule stands in front of all lines of the schedule
abbrev pub rule_at : Draft → List ℕ → Option Draft
rule_at d line = if is_in_front d.lines then rule_read d line else None

-- each other line belongs to the schedule
unfoldable pub schedule_read : Draft → List ℕ → List ℕ → Option Draft
schedule_read d word text = do
  l ← named d.peers word text
  Some (with_line d l)

-- netend is the only line of one word
unfoldable pub word_alone : Draft → List ℕ → Option Draft
word_alone d line = if bytes_eq line (codes "netend") then (do
  s ← net_ends d.peers
  Some (with_line d (lines.Step s))) else None

abbrev pub worded : Draft → List ℕ → List ℕ × List ℕ → Option Draft
worded d line p = if bytes_eq p.0 (codes "set") then set_at d p.1 else if bytes_eq p.0 (codes "on") then rule_at d line else schedule_read d p.0 p.1

abbrev pub line_by : Draft → List ℕ → Option (List ℕ × List ℕ) → Option Draft
line_by d line None = word_alone d line
line_by d line (Some p) = worded d line p

-- the draft with one line more, if it is in the grammar there
unfoldable pub line_read : Draft → List ℕ → Option Draft
line_read d line = line_by d line (part_at 32 line)

abbrev pub fresh : Draft
fresh = record { pairs = []; script = no_rules; ruled = false; peers = no_peers; lines = [] }

abbrev pub finished : Result Draft ℕ → Result Schedule ℕ
finished (Err n) = Err n
finished (Ok d) = Ok (record { pairs = d.pairs; script = d.script; lines = d.lines })

-- the schedule that a text is, or the number of its first line that isn't in the grammar
abbrev pub schedule_of : List ℕ → Result Schedule ℕ
schedule_of text = finished (lines_read line_read 1 (Ok fresh) (lines_of text))
