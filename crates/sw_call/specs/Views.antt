-- What contracts see of the values that texts are read as.
use Rattle.std.specs.Prelude.{ℕ, List, Option}
use Rattle.std.specs.Borrow.{Bor}
use Rattle.std.specs.Option.{option_map}
use Rattle.sw_call.specs.declared.verbs.Verb.{Verb}

-- a verb and the text of its key, without where it lies in memory
abbrev pub verb_seen : Option (Verb × Bor (List ℕ)) → Option (Verb × List ℕ)
verb_seen o = option_map (λ (p : Verb × Bor (List ℕ)). (p.0, p.1.now)) o
