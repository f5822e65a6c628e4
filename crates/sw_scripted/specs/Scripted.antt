-- What a handler that follows a script does.
use Rattle.std.specs.Prelude.{ℕ, List, [], ◌∷◌, length, drop, map, slice_get, Option, Some, None}
use Rattle.sw_data.specs.declared.acts.Act.{Act}
use Rattle.sw_data.specs.declared.acts.Act.TheVariants.{Done}
use Rattle.sw_data.specs.declared.events.Event.{Event}
use Rattle.sw_data.specs.declared.given.Given.{Given}
use Rattle.sw_data.specs.declared.given.Given.TheVariants as givens
use Rattle.sw_log_text.specs.Answers.{answer_text}
use Rattle.sw_script.specs.declared.rule.Rule.{Rule}
use Rattle.sw_script.specs.declared.moves.Move.{Move}
use Rattle.sw_script.specs.declared.script.Script.{Script}
use Rattle.sw_script.specs.Script.{rules_on}
use Rattle.sw_scripted.specs.declared.scripted.Scripted.{Scripted}
use Rattle.sw_scripted.specs.declared.playing.Playing.{Playing}
use Rattle.sw_scripted.specs.Fitting.{kind_of, session_of, bytes_of, first_fit}
use Rattle.sw_scripted.specs.Making.{From, move_for, act_of}

-- ---- what it does: the acts still to come are its whole state

-- what an event gives to the acts of a rule
abbrev pub from_of : Event → Rule → From
from_of e r = record { session = session_of e; bytes = bytes_of e; tail = drop (length r.prefix) (bytes_of e) }

abbrev pub moves_by : Event → Option Rule → List Move
moves_by e None = []
moves_by e (Some r) = map (move_for (from_of e r)) r.moves

abbrev pub rule_by : List Rule → Option ℕ → Option Rule
rule_by rules None = None
rule_by rules (Some at) = slice_get rules at

-- the first rule that fits an event, if there is one
abbrev pub rule_for : Script → Event → Option Rule
rule_for s e = rule_by (rules_on (kind_of e) s) (first_fit (rules_on (kind_of e) s) (bytes_of e))

-- the acts on an event: those of the first rule that fits
abbrev pub moves_on : Script → Event → List Move
moves_on s e = moves_by e (rule_for s e)

-- the next act, with the text of the last answer, and those behind it; behind the last one it is done
abbrev pub next_of : List ℕ → List Move → Act × List Move
next_of answer [] = (Done, [])
next_of answer (m ∷ ms) = (act_of m answer, ms)

-- the act on what the handler is given, and the acts that are still to come then: before a rule's first act there is no answer
abbrev pub on_given : Script → List Move → Given → Act × List Move
on_given s to_come (givens.Event e) = next_of [] (moves_on s e)
on_given s to_come (givens.Answer a) = next_of (answer_text a) to_come

-- ---- where it stands

-- what the event gave
abbrev pub kept_from : Playing → Rule → From
kept_from p r = record { session = p.session; bytes = p.bytes; tail = drop (length r.prefix) p.bytes }

abbrev pub rest_of : Playing → Option Rule → List Move
rest_of p None = []
rest_of p (Some r) = map (move_for (kept_from p r)) (drop p.made r.moves)

-- the rule that is followed
abbrev pub rule_at : Script → Playing → Option Rule
rule_at s p = slice_get (rules_on p.on s) p.rule

abbrev pub rest_at : Script → Option Playing → List Move
rest_at s None = []
rest_at s (Some p) = rest_of p (rule_at s p)

-- its script
abbrev pub script_of : Scripted → Script
script_of h = h.script

-- the acts that are still to come
abbrev pub to_come : Scripted → List Move
to_come h = rest_at h.script h.playing
