-- Histories: calls in the order of their places, the first at place 0. What a seat has seen is such a list, where each call stands beside the number of times that the seat itself drew it.
use Rattle.std.specs.Prelude.{◌≡◌, ℕ, zero, suc, ◌+◌, List, [], ◌∷◌, ◌++◌, replicate}

-- 1 where the place p is below n, else 0
abbrev pub below : ℕ → ℕ → ℕ
below p zero = 0
below zero (suc n) = 1
below (suc p) (suc n) = below p n

module _ {Q : Type 0} where
  -- the calls that were seen
  abbrev pub calls : List (ℕ × Q) → List Q
  calls [] = []
  calls (x ∷ xs) = x.1 ∷ calls xs

  -- calls that the seat saw and did not draw
  abbrev pub others : List Q → List (ℕ × Q)
  others [] = []
  others (q ∷ qs) = (0, q) ∷ others qs

  -- calls that the seat drew, each once
  abbrev pub owns : List Q → List (ℕ × Q)
  owns [] = []
  owns (q ∷ qs) = (1, q) ∷ owns qs

  -- the history begins with the calls that were seen
  abbrev pub Begins : List (ℕ × Q) → List Q → Type 0
  Begins [] history = Unit {0}
  Begins (x ∷ xs) [] = ⊥
  Begins (x ∷ xs) (q ∷ qs) = (x.1 ≡ q) × Begins xs qs

  -- the history begins with each of these lists of calls
  abbrev pub AllBegin : List (List Q) → List Q → Type 0
  AllBegin [] history = Unit {0}
  AllBegin (xs ∷ xss) history = Begins (others xs) history × AllBegin xss history

  -- each of the calls is such, with its place; the first has place n
  abbrev pub Each : (ℕ → Q → Type 0) → ℕ → List Q → Type 0
  Each P n [] = Unit {0}
  Each P n (q ∷ qs) = P n q × Each P (suc n) qs

  -- how often the seat drew the place p
  abbrev pub times_drawn : ℕ → List (ℕ × Q) → ℕ
  times_drawn p [] = 0
  times_drawn zero (x ∷ xs) = x.0
  times_drawn (suc p) (x ∷ xs) = times_drawn p xs

  -- what two seats have seen, with the draws of both
  abbrev pub merged : List (ℕ × Q) → List (ℕ × Q) → List (ℕ × Q)
  merged [] ys = ys
  merged (x ∷ xs) [] = x ∷ xs
  merged (x ∷ xs) (y ∷ ys) = (x.0 + y.0, x.1) ∷ merged xs ys

  -- the seat's own draws with their places, where the list begins at place n
  abbrev pub draws_from : ℕ → List (ℕ × Q) → List (ℕ × Q)
  draws_from n [] = []
  draws_from n (x ∷ xs) = replicate x.0 (n, x.1) ++ draws_from (n + 1) xs

  -- the seat's own draws, each a place and a call
  abbrev pub draws_of : List (ℕ × Q) → List (ℕ × Q)
  draws_of seen = draws_from 0 seen

  -- the calls of a history with their places n, n + 1 and so on, each once
  abbrev pub placed_from : ℕ → List Q → List (ℕ × Q)
  placed_from n [] = []
  placed_from n (q ∷ qs) = (n, q) ∷ placed_from (n + 1) qs

  -- the calls of a history with their places 0 to N - 1, each once
  abbrev pub placed : List Q → List (ℕ × Q)
  placed qs = placed_from 0 qs

  -- the seat has seen the whole history and drew each of its calls, each once
  pub record DrewAll (seen : List (ℕ × Q)) (history : List Q) : Type 0 where
    pub seen_all : calls seen ≡ history
    pub drew_all : draws_of seen ≡ placed history

module _ {Q T : Type 0} (effect : Q → T → T) where
  -- the state after calls
  abbrev pub after : T → List Q → T
  after t [] = t
  after t (q ∷ qs) = after (effect q t) qs
