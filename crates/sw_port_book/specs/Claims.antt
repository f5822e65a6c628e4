-- What a claim did: its tries, and how they ended.
use Rattle.std.specs.Prelude.{◌≡◌, ℕ, ◌+◌, ◌%◌, ◌<◌, ◌≤◌, ◌⊎◌, List, [], ◌∷◌, length, slice_index, EachIndex, Result, Ok, Err}
use Rattle.sw_port_book.specs.declared.answers.ClaimFault.{ClaimFault}
use Rattle.sw_port_book.specs.declared.answers.ClaimFault.TheVariants.{Full, Spent}

-- x is one of the list
abbrev pub In : {A : Type 0} → A → List A → Type 0
In x [] = ⊥
In x (y ∷ ys) = (x ≡ y) ⊎ In x ys

-- no number stands in the list twice
abbrev pub Distinct : List ℕ → Type 0
Distinct numbers =
    (j k : ℕ) → j < length numbers → k < length numbers → slice_index numbers j ≡ slice_index numbers k → j ≡ k

-- the tries behind `last` found these numbers: each was claimed earlier, and its slot is the one that was tried
abbrev pub Tried : ℕ → List ℕ → ℕ → List ℕ → Type 0
Tried size claimed last found =
    EachIndex found (λ k. In (slice_index found k) claimed × (slice_index found k % size ≡ (last + 1 + k) % size))

-- how the tries ended, once these numbers were found, and the last number drawn then
abbrev pub Ends : ℕ → ℕ → List ℕ → Result ℕ ClaimFault → ℕ → Type 0
Ends size last found (Ok number) after =
    (number ≡ last + 1 + length found) × (after ≡ number) × (length found < size) × (number ≤ 4294967295)
Ends size last found (Err (Full n)) after =
    (n ≡ size) × (length found ≡ size) × Distinct found × (after ≡ last + size) × (after ≤ 4294967295)
Ends size last found (Err Spent) after = (after ≡ last + length found) × (after ≡ 4294967295) × (length found < size)

-- a claim that answered so, where the answers of the claims before it were these
abbrev pub Claims : ℕ → List ℕ → ℕ → Result ℕ ClaimFault → ℕ → Type 0
Claims size claimed last answer after = (found : List ℕ) × Tried size claimed last found × Ends size last found answer after

-- the answer with the ticket's number in place of the ticket
abbrev pub answer_of : {K : Type 0} → (K → ℕ) → Result K ClaimFault → Result ℕ ClaimFault
answer_of number (Ok ticket) = Ok (number ticket)
answer_of number (Err fault) = Err fault

-- the number that was claimed, if there is one
abbrev pub numbers_of : Result ℕ ClaimFault → List ℕ
numbers_of (Ok number) = number ∷ []
numbers_of (Err fault) = []
