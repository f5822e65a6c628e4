-- What lines come to that are read one after the other, each where it stands.
use Rattle.std.specs.Prelude.{◌≡◌, ℕ, ◌+◌, List, [], ◌∷◌, ◌++◌, length, Option, Some, None, Result, Ok, Err}

-- ---- what that means, in terms of the lines alone

-- each of the lines is in the grammar where it stands, and they lead from one reader to another
abbrev pub Leads : {S : Type 0} → (S → List ℕ → Option S) → S → List (List ℕ) → S → Type 0
Leads with_line s [] e = s ≡ e
Leads {S} with_line s (l ∷ ls) e = (m : S) × (with_line s l ≡ Some m) × Leads with_line m ls e

-- the line behind these lines is the first one out of the grammar
abbrev pub IsFirstOut : {S : Type 0} → (S → List ℕ → Option S) → S → List (List ℕ) → List (List ℕ) → Type 0
IsFirstOut {S} with_line s ls front = (e : S) × (l : List ℕ) × (rest : List (List ℕ)) × Leads with_line s front e × (with_line e l ≡ None) × (ls ≡ front ++ l ∷ rest)

-- what the lines come to: a reader where each line is in the grammar, and else the number of the first line that is out of it,
-- where the first of all has this number
abbrev pub IsRead : {S : Type 0} → (S → List ℕ → Option S) → ℕ → S → List (List ℕ) → Result S ℕ → Type 0
IsRead with_line first s ls (Ok e) = Leads with_line s ls e
IsRead with_line first s ls (Err n) = (front : List (List ℕ)) × IsFirstOut with_line s ls front × (n ≡ first + length front)

-- ---- how it is computed

abbrev pub numbered : {S : Type 0} → ℕ → Option S → Result S ℕ
numbered n None = Err n
numbered n (Some s) = Ok s

-- the reader after the lines, or the number of the first line that isn't in the grammar
unfoldable pub lines_read : {S : Type 0} → (S → List ℕ → Option S) → ℕ → Result S ℕ → List (List ℕ) → Result S ℕ
lines_read with_line n (Err e) ls = Err e
lines_read with_line n (Ok s) [] = Ok s
lines_read with_line n (Ok s) (l ∷ ls) = lines_read with_line (n + 1) (numbered n (with_line s l)) ls
