-- The tries of a claim, one after the other.
use Rattle.std.proofs.Common.{◌≡◌, ◌<◌, ◌≤◌, ◌+◌, ◌*◌, ◌/◌, ◌%◌, ℕ, suc, List, [], ◌∷◌, ◌++◌, length, slice_index, length-append, lt_of_not-le, sym, ap, ◌∙◌, subst, arith}
use Rattle.std.proofs.Math.ListN.{get_or-append}
use Rattle.std.proofs.Math.Seq.{get_or-append_seam}
use Rattle.std.proofs.Math.Nat.{div-add-mod', mul-le-mul_right}
use mathlib.Core.Logic.{dite}
use native.Mathlib.Decide.{dec_le}
use Rattle.sw_port_book.specs.Claims.{In, Distinct, Tried}

-- two numbers that are less than n apart, and have one remainder by n, are one
pub one_turn : (a b n : ℕ) → a ≤ b → b < a + n → a % n ≡ b % n → a ≡ b
one_turn a b n le near same =
    let p = div-add-mod' a n in let q = div-add-mod' b n in
    dite (dec_le (b / n) (a / n))
    (λ low. let m : (b / n) * n ≤ (a / n) * n = mul-le-mul_right n low in omega (arith, p, q, m, same, le))
    (λ no. let m : (suc (a / n)) * n ≤ (b / n) * n = mul-le-mul_right n (lt_of_not-le no) in
    let s : (suc (a / n)) * n ≡ (a / n) * n + n = omega arith in
    absurd (omega (arith, p, q, m, s, same, near)))

pub none_tried : (size last : ℕ) (claimed : List ℕ) → Tried size claimed last []
none_tried size last claimed k lt = absurd (omega (arith, lt))

-- one more try found a number
pub tried_more : (size last met : ℕ) (claimed found : List ℕ) → Tried size claimed last found → In met claimed
    → met % size ≡ (last + length found + 1) % size → Tried size claimed last (found ++ met ∷ [])
tried_more size last met claimed found h is slot k lt =
    dite (dec_le (length found) k)
    (λ le.
    let here : k ≡ length found = let a = length-append found (met ∷ []) in omega (arith, a, lt, le) in
    let at : slice_index (found ++ met ∷ []) k ≡ met = ap (λ j. slice_index (found ++ met ∷ []) j) here ∙ get_or-append_seam found met [] 0 in
    (subst (λ x. In x claimed) (sym at) is, ap (λ x. x % size) at ∙ slot ∙ ap (λ x. x % size) (let e : last + length found + 1 ≡ last + 1 + k = omega (arith, here) in e)))
    (λ no.
    let below : k < length found = lt_of_not-le no in
    let at : slice_index (found ++ met ∷ []) k ≡ slice_index found k = get_or-append found (met ∷ []) 0 k below in
    (subst (λ x. In x claimed) (sym at) (h k below).0, ap (λ x. x % size) at ∙ (h k below).1))

-- the numbers that as many tries as there are slots found differ
pub all_differ : (size last : ℕ) (claimed found : List ℕ) → length found ≡ size → Tried size claimed last found → Distinct found
all_differ size last claimed found all h j k low high same =
    let slots : (last + 1 + j) % size ≡ (last + 1 + k) % size = sym (h j low).1 ∙ ap (λ x. x % size) same ∙ (h k high).1 in
    dite (dec_le j k)
    (λ le. let e = one_turn (last + 1 + j) (last + 1 + k) size (omega (arith, le)) (omega (arith, high, all)) slots in omega (arith, e))
    (λ no. let e = one_turn (last + 1 + k) (last + 1 + j) size (let l = lt_of_not-le no in omega (arith, l)) (omega (arith, low, all)) (sym slots) in omega (arith, e))
