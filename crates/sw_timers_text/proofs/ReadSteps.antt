-- Lines read one behind the other.
use Rattle.std.proofs.Common.{◌≡◌, ℕ, ◌+◌, List, [], ◌∷◌, ◌++◌, Option, Some, None, Result, Ok, Err, refl, ap, sym, ◌∙◌, append_assoc, append-nil}
use Rattle.sw_timers_text.specs.declared.line.Line.{Line}
use Rattle.sw_timers_text.specs.Grammar.{line_of, with_line, behind_line, lines_from}

-- these lines, and those that are read behind them
abbrev pub onto : List Line → Result (List Line) ℕ → Result (List Line) ℕ
onto front (Ok es) = Ok (front ++ es)
onto front (Err n) = Err n

onto_with : (front : List Line) (e : Line) (r : Result (List Line) ℕ) → onto front (with_line e r) ≡ onto (front ++ e ∷ []) r
onto_with front e (Ok es) = ap Ok (sym (append_assoc front (e ∷ []) es))
onto_with front e (Err n) = refl

pub onto_nothing : (r : Result (List Line) ℕ) → onto [] r ≡ r
onto_nothing (Ok es) = refl
onto_nothing (Err n) = refl

read_by : (n : ℕ) (front : List Line) (o : Option Line) (l : List ℕ) (text ls : List (List ℕ)) (total : Result (List Line) ℕ) → line_of l ≡ o → text ≡ l ∷ ls → onto front (lines_from n text) ≡ total
    → onto front (behind_line n o (lines_from (n + 1) ls)) ≡ total
unfolding lines_from
read_by n front o l text ls total is cut so_far = ap (λ (x : Option Line). onto front (behind_line n x (lines_from (n + 1) ls))) (sym is) ∙ ap (λ (t : List (List ℕ)). onto front (lines_from n t)) (sym cut) ∙ so_far

pub read_next : (n : ℕ) (front : List Line) (e : Line) (l : List ℕ) (text ls : List (List ℕ)) (total : Result (List Line) ℕ) → line_of l ≡ Some e → text ≡ l ∷ ls → onto front (lines_from n text) ≡ total
    → onto (front ++ e ∷ []) (lines_from (n + 1) ls) ≡ total
read_next n front e l text ls total is cut so_far = sym (onto_with front e (lines_from (n + 1) ls)) ∙ read_by n front (Some e) l text ls total is cut so_far

pub read_bad : (n : ℕ) (front : List Line) (l : List ℕ) (text ls : List (List ℕ)) (total : Result (List Line) ℕ) → line_of l ≡ None → text ≡ l ∷ ls → onto front (lines_from n text) ≡ total → Err n ≡ total
read_bad n front l text ls total is cut so_far = read_by n front None l text ls total is cut so_far

pub read_done : (n : ℕ) (front : List Line) (text : List (List ℕ)) (total : Result (List Line) ℕ) → text ≡ [] → onto front (lines_from n text) ≡ total → Ok front ≡ total
unfolding lines_from
read_done n front text total none so_far = ap Ok (sym (append-nil front)) ∙ ap (λ (t : List (List ℕ)). onto front (lines_from n t)) (sym none) ∙ so_far
