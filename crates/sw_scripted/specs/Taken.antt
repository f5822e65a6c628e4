-- What an act takes its session and its bytes from, without where they lie in memory.
use Rattle.std.specs.Prelude.{ℕ, List, [], Option, Some, None}
use Rattle.std.specs.Borrow.{Bor}
use Rattle.sw_data.specs.declared.answers.Answer.{Answer}
use Rattle.sw_log_text.specs.Answers.{answer_text}
use Rattle.sw_script.specs.declared.moves.Who.{Who}
use Rattle.sw_script.specs.declared.moves.Who.TheVariants.{Own, Other}
use Rattle.sw_scripted.specs.declared.making.Taken.{Taken}
use Rattle.sw_scripted.specs.Making.{From}

-- what the event gives
abbrev pub given_by : Taken → From
given_by t = record { session = t.session; bytes = t.bytes.now; tail = t.tail.now }

-- the text of the last answer
abbrev pub text_seen : Option (Bor Answer) → List ℕ
text_seen None = []
text_seen (Some a) = answer_text a.now

-- the session, where it is known
abbrev pub said : Who → Option ℕ
said Own = None
said (Other s) = Some s
