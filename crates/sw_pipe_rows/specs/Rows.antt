-- Pipes whose senders lie in rows: each row has one sender for each pipe, in the order of the pipes.
use Rattle.std.specs.Prelude.{◌≡◌, ◌≤◌, ℕ, zero, suc, true, List, [], ◌∷◌, ◌++◌, All}
use Rattle.sw_pipe.specs.declared.mail.Mail.{Mail}
use Rattle.sw_pipe.specs.Mails.{of, Behind}
use Rattle.sw_pipe.specs.Values.{Pushed, Took, any_full, pushed_in}

-- each row, with one more at its end
abbrev pub glue : {X : Type 0} → List (List X) → List X → List (List X)
glue [] xs = []
glue (r ∷ rs) [] = r ∷ rs
glue (r ∷ rs) (x ∷ xs) = (r ++ x ∷ []) ∷ glue rs xs

-- the senders of each row have the row's number, the first of these rows this one
abbrev pub Numbered : {M : Type 0} → ℕ → List (List (Pushed M)) → Type 0
Numbered n [] = Unit {0}
Numbered n (r ∷ rs) = All (λ s. s.number ≡ n) r × Numbered (suc n) rs

-- senders one behind the other by their numbers, the first of them with this one
abbrev pub Counted : {M : Type 0} → ℕ → List (Pushed M) → Type 0
Counted n [] = Unit {0}
Counted n (s ∷ ss) = (s.number ≡ n) × Counted (suc n) ss

-- what the ends of a closed pipe tell together: of each sender what it pushed is what was taken and then what is left, nobody else
-- sent, each message stands behind what its sender had learnt to be taken, and Full came only where the room was used up once
pub record Tells {M : Type 0} (t : Took M) (left : List (ℕ × Mail M)) (ss : List (Pushed M)) : Type 0 where
  pub each : All (λ (s : Pushed M). s.pushed ≡ of s.number t.taken ++ of s.number left) ss
  pub none_else : (p : ℕ) → t.pipe.senders ≤ p → of p (t.taken ++ left) ≡ []
  pub behind : Behind (t.taken ++ left)
  pub full : any_full ss ≡ true → t.pipe.capacity ≤ pushed_in ss

-- the last pipe was closed with the last sender of each row, and the others with the rest
pub record Last {M : Type 0} (closed : List (Took M) → List (List (Pushed M)) → List (List (ℕ × Mail M)) → Type 0) (ts : List (Took M)) (rows : List (List (Pushed M))) (lefts : List (List (ℕ × Mail M))) : Type 0 where
  pub taker : Took M
  pub takers : List (Took M)
  pub column : List (Pushed M)
  pub others : List (List (Pushed M))
  pub left : List (ℕ × Mail M)
  pub before : List (List (ℕ × Mail M))
  pub takers_are : ts ≡ takers ++ taker ∷ []
  pub rows_are : rows ≡ glue others column
  pub lefts_are : lefts ≡ before ++ left ∷ []
  pub tells : Tells taker left column
  pub rest : closed takers others before

-- each of so many pipes was closed with its senders of the rows
abbrev pub Closed : {M : Type 0} → ℕ → List (Took M) → List (List (Pushed M)) → List (List (ℕ × Mail M)) → Type 0
Closed zero ts rows lefts = (ts ≡ []) × (lefts ≡ [])
Closed (suc n) ts rows lefts = Last (Closed n) ts rows lefts
