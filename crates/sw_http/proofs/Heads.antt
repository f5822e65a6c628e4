-- Where no head ended, none is.
use Rattle.std.proofs.Common.{◌≡◌, ℕ, ◌+◌, ◌-◌, ◌≤◌, Bool, true, false, List, ◌++◌, length, take, drop, refl, sym, ap, ◌∙◌, arith, append_assoc, length-append}
use Rattle.std.specs.Prelude.{nat_lt}
use Rattle.std.proofs.Math.Seq.{take-append-add, take-append_seam}
use Rattle.std.proofs.lemmas.List.{length-take-le, take-append-drop}
use Rattle.std.proofs.lemmas.Bool.{ltb-true, ltb-false}
use Rattle.httparse.specs.Grammar.{RequestHead, IsRequestHead, HasNoRequest, print_request}
use Rattle.sw_http.specs.Lines.{ending_of, HasNoEnd}
use Rattle.sw_http.proofs.Endings.{head_ends}

-- a text that begins the bytes begins their front, where that is long enough
front_of : (p text rest : List ℕ) (m : ℕ) → p ≡ text ++ rest → length text ≤ m → take m p ≡ text ++ take (m - length text) rest
front_of p text rest m joined le =
    let long : m ≡ length text + (m - length text) = omega (arith, le) in
    ap (take m) joined ∙ ap (λ n. take n (text ++ rest)) long ∙ take-append-add text rest (m - length text)

by_place : (p : List ℕ) (m n : ℕ) (h : RequestHead) (behind : List ℕ) (t : Bool) → nat_lt m (length (print_request h)) ≡ t → length (print_request h) ≤ n
    → IsRequestHead h → p ≡ print_request h ++ behind → HasNoRequest (take m p) → HasNoEnd p m n → ⊥
by_place p m n h behind true lt le is joined none no_end =
    let text : take (length (print_request h)) p ≡ print_request h = ap (take (length (print_request h))) joined ∙ take-append_seam (print_request h) behind in
    no_end (length (print_request h)) (ltb-true m (length (print_request h)) lt) le (ap ending_of text ∙ head_ends h is)
by_place p m n h behind false ge le is joined none no_end =
    none h (take (m - length (print_request h)) behind) (is, front_of p (print_request h) behind m joined (ltb-false m (length (print_request h)) ge))

-- where no head begins the first bytes, and no empty line ends behind them, no head begins more of them
pub no_head : (p : List ℕ) (m n : ℕ) → n ≤ length p → HasNoRequest (take m p) → HasNoEnd p m n → HasNoRequest (take n p)
no_head p m n within none no_end h rest reads =
    let whole : p ≡ print_request h ++ (rest ++ drop n p) = sym (take-append-drop n p) ∙ ap (λ z. z ++ drop n p) reads.1 ∙ append_assoc (print_request h) rest (drop n p) in
    let count : length (print_request h) + length rest ≡ n = sym (length-append (print_request h) rest) ∙ sym (ap length reads.1) ∙ length-take-le n p within in
    by_place p m n h (rest ++ drop n p) (nat_lt m (length (print_request h))) refl (omega (arith, count)) reads.0 whole none no_end
