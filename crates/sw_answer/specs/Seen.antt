-- What a command answers for an input, seen as bytes.
use Rattle.std.specs.Prelude.{ℕ, List, Result, Ok, Err}
use Rattle.sw_answer.specs.declared.refusal.Refusal.{Refusal}

-- what a result says, with the text seen as bytes
abbrev pub text_seen : {S : Type 0} → (S → List ℕ) → Result S Refusal → Result (List ℕ) Refusal
text_seen view (Ok s) = Ok (view s)
text_seen view (Err refusal) = Err refusal
