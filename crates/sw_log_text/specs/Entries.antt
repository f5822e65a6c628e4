-- The lines of a log.
use Rattle.std.specs.Prelude.{ℕ, List, ◌++◌, codes}
use Rattle.std.specs.Fmt.{decimal}
use Rattle.std.specs.List.{flat_map}
use Rattle.sw_data.specs.declared.given.Given.{Given}
use Rattle.sw_data.specs.declared.given.Given.TheVariants.{Event, Answer}
use Rattle.sw_data.specs.declared.acts.Act.{Act}
use Rattle.sw_log_text.specs.Events.{event_text}
use Rattle.sw_log_text.specs.Answers.{answer_text}
use Rattle.sw_log_text.specs.Acts.{act_text}

abbrev pub given_text : Given → List ℕ
given_text (Event e) = event_text e
given_text (Answer a) = answer_text a

-- w or t, a number and a space
abbrev pub name_text : List ℕ → ℕ → List ℕ
name_text kind n = kind ++ decimal n ++ codes " "

-- who was given it, what was given, and what was done
unfoldable pub entry_text : List ℕ → ℕ → Given × Act → List ℕ
entry_text kind n e = name_text kind n ++ given_text e.0 ++ codes " -> " ++ act_text e.1 ++ codes "\n"

-- a log, one line an entry
abbrev pub log_text : List ℕ → ℕ → List (Given × Act) → List ℕ
log_text kind n log = flat_map (entry_text kind n) log
