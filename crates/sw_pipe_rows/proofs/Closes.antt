-- One pipe more is closed.
use Rattle.std.proofs.Common.{◌≡◌, ◌+◌, ℕ, suc, List, [], ◌∷◌, ◌++◌, ap, subst, length, length-append, arith}
use Rattle.sw_pipe.specs.declared.mail.Mail.{Mail}
use Rattle.sw_pipe.specs.Values.{Pushed, Took}
use Rattle.sw_pipe_rows.specs.Rows.{glue, Tells, Closed}

module _ {M : Type 0} where
  pub closed_more : (ts ts' : List (Took M)) (t : Took M) (rows others : List (List (Pushed M))) (column : List (Pushed M)) (lefts before : List (List (ℕ × Mail M))) (left : List (ℕ × Mail M))
      → ts ≡ ts' ++ t ∷ [] → rows ≡ glue others column → lefts ≡ before ++ left ∷ [] → Tells t left column → Closed (length ts') ts' others before → Closed (length ts) ts rows lefts
  closed_more ts ts' t rows others column lefts before left ts_are rows_are lefts_are tells rest =
      let a : length ts ≡ length (ts' ++ t ∷ []) = ap length ts_are in
      let b : length (ts' ++ t ∷ []) ≡ length ts' + 1 = length-append ts' (t ∷ []) in
      let n : suc (length ts') ≡ length ts = omega (arith, a, b) in
      subst (λ n. Closed n ts rows lefts) n (record { taker = t; takers = ts'; column = column; others = others; left = left; before = before; takers_are = ts_are; rows_are = rows_are; lefts_are = lefts_are; tells = tells; rest = rest })
