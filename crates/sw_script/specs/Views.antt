-- Parts of a text, without where they lie in memory.
use Rattle.std.specs.Prelude.{ℕ, List, Option}
use Rattle.std.specs.Borrow.{Bor}
use Rattle.std.specs.Option.{option_map, option_copied}
use Rattle.sw_script.specs.declared.rule.On.{On}

-- the first act and the text of the others
abbrev pub act_seen : Option (Bor (List ℕ) × Option (Bor (List ℕ))) → Option (List ℕ × Option (List ℕ))
act_seen o = option_map (λ (p : Bor (List ℕ) × Option (Bor (List ℕ))). (p.0.now, option_copied p.1)) o

-- a kind of events, and two parts
abbrev pub head_seen : Option (On × Bor (List ℕ) × Bor (List ℕ)) → Option (On × List ℕ × List ℕ)
head_seen o = option_map (λ (p : On × Bor (List ℕ) × Bor (List ℕ)). (p.0, p.1.now, p.2.now)) o
