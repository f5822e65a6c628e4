-- What contracts see of lent texts.
use Rattle.std.specs.Prelude.{ℕ, List, Option}
use Rattle.std.specs.Borrow.{Bor}
use Rattle.std.specs.Global.{Vec}
use Rattle.std.specs.Option.{option_map}

-- the bytes, without where they lie in memory
abbrev pub items_of : Option (Vec ℕ) → Option (List ℕ)
items_of v = option_map (λ (b : Vec ℕ). b.items) v

-- two parts of a text, without where they lie in memory
abbrev pub parts_seen : Option (Bor (List ℕ) × Bor (List ℕ)) → Option (List ℕ × List ℕ)
parts_seen o = option_map (λ (p : Bor (List ℕ) × Bor (List ℕ)). (p.0.now, p.1.now)) o

-- a number and the rest of a text, without where it lies in memory
abbrev pub number_seen : Option (ℕ × Bor (List ℕ)) → Option (ℕ × List ℕ)
number_seen o = option_map (λ (p : ℕ × Bor (List ℕ)). (p.0, p.1.now)) o
