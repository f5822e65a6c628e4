use Rattle.std.proofs.Common.{◌≡◌, ℕ, ◌+◌, ◌≤◌, ◌<◌, true, false, cond, List, [], ◌∷◌, ◌++◌, length, get_or, take, drop, Option, Some, None, refl, ap, sym, ◌∙◌, append_assoc, arith}
use Rattle.std.specs.Prelude.{nat_eq}
use Rattle.std.proofs.lemmas.List.{append-nil, at_drop_more, drop_all, take_more}
use Rattle.sw_text.specs.Parts.{onto, cut_at}
use Rattle.sw_text.specs.Numbers.{digit_more, digits_behind}
use Rattle.sw_text.specs.Hex.{digit_of, pair_of, pushed, unhex}

-- ---- digits

pub digits_next : (n i : ℕ) (text : List ℕ) (next total : Option ℕ) → i < length text → next ≡ digit_more n (get_or text i 0) → digits_behind (Some n) (drop i text) ≡ total → digits_behind next (drop (i + 1) text) ≡ total
unfolding digits_behind
digits_next n i text next total lt f so_far =
    let step : digits_behind (Some n) (drop i text) ≡ digits_behind (digit_more n (get_or text i 0)) (drop (i + 1) text) = at_drop_more (digits_behind (Some n)) text i 0 lt in
    rw f (sym step ∙ so_far)

pub digits_none : (text : List ℕ) (total : Option ℕ) → digits_behind None text ≡ total → None ≡ total
unfolding digits_behind
digits_none text total e = e

pub digits_done : (n i : ℕ) (text : List ℕ) (total : Option ℕ) → length text ≤ i → digits_behind (Some n) (drop i text) ≡ total → Some n ≡ total
unfolding digits_behind
digits_done n i text total le e = rw (drop_all i text le) at e

-- ---- cut

-- the parts with more before the first one
abbrev pub after_front : List ℕ → List ℕ × Option (List ℕ) → List ℕ × Option (List ℕ)
after_front front parts = (front ++ parts.0, parts.1)

pub cut_next : (sep : ℕ) (bytes : List ℕ) (n b : ℕ) → n < length bytes → b ≡ get_or bytes n 0 → nat_eq b sep ≡ false → cut_at sep bytes ≡ after_front (take n bytes) (cut_at sep (drop n bytes))
    → cut_at sep bytes ≡ after_front (take (n + 1) bytes) (cut_at sep (drop (n + 1) bytes))
unfolding cut_at
cut_next sep bytes n b lt e other so_far =
    let step : cut_at sep (drop n bytes) ≡ cond (nat_eq (get_or bytes n 0) sep) ([], Some (drop (n + 1) bytes)) (onto (get_or bytes n 0) (cut_at sep (drop (n + 1) bytes))) = at_drop_more (cut_at sep) bytes n 0 lt in
    let step2 : cut_at sep (drop n bytes) ≡ onto b (cut_at sep (drop (n + 1) bytes)) = rw (← e, other) at step in
    so_far ∙ rw (step2, take_more bytes n 0 lt, ← e, append_assoc) refl

pub cut_found : (sep : ℕ) (bytes : List ℕ) (n b : ℕ) → n < length bytes → b ≡ get_or bytes n 0 → nat_eq b sep ≡ true → cut_at sep bytes ≡ after_front (take n bytes) (cut_at sep (drop n bytes))
    → cut_at sep bytes ≡ (take n bytes, Some (drop (n + 1) bytes))
unfolding cut_at
cut_found sep bytes n b lt e same so_far =
    let step : cut_at sep (drop n bytes) ≡ cond (nat_eq (get_or bytes n 0) sep) ([], Some (drop (n + 1) bytes)) (onto (get_or bytes n 0) (cut_at sep (drop (n + 1) bytes))) = at_drop_more (cut_at sep) bytes n 0 lt in
    let step2 : cut_at sep (drop n bytes) ≡ ([], Some (drop (n + 1) bytes)) = rw (← e, same) at step in
    so_far ∙ rw step2 (ap (λ (x : List ℕ). (x, Some (drop (n + 1) bytes))) (append-nil (take n bytes)))

-- ---- hex

pub bytes_next : (out : List ℕ) (at : ℕ) (text : List ℕ) (next total : Option (List ℕ)) → at + 1 < length text
    → next ≡ pushed out (pair_of (digit_of (get_or text at 0)) (digit_of (get_or text (at + 1) 0))) → unhex (Some out) (drop at text) ≡ total → unhex next (drop (at + 2) text) ≡ total
unfolding unhex
bytes_next out at text next total lt e so_far =
    let one = at_drop_more (unhex (Some out)) text at 0 (omega arith) in
    let two : unhex (Some out) (get_or text at 0 ∷ drop (at + 1) text) ≡ unhex (pushed out (pair_of (digit_of (get_or text at 0)) (digit_of (get_or text (at + 1) 0)))) (drop (at + 1 + 1) text) = at_drop_more (λ (xs : List ℕ). unhex (Some out) (get_or text at 0 ∷ xs)) text (at + 1) 0 lt in
    let plus : at + 1 + 1 ≡ at + 2 = omega arith in
    let three = rw (plus, ← e) at two in
    sym three ∙ sym one ∙ so_far

pub bytes_none : (rest : List ℕ) (total : Option (List ℕ)) → unhex None rest ≡ total → None ≡ total
unfolding unhex
bytes_none rest total e = e

pub bytes_done : (out : List ℕ) (at : ℕ) (text : List ℕ) (total : Option (List ℕ)) → length text ≤ at → unhex (Some out) (drop at text) ≡ total → Some out ≡ total
unfolding unhex
bytes_done out at text total le so_far = rw (drop_all at text le) at so_far

pub bytes_odd : (out : List ℕ) (at : ℕ) (text : List ℕ) (total : Option (List ℕ)) → at < length text → length text ≤ at + 1 → unhex (Some out) (drop at text) ≡ total → None ≡ total
unfolding unhex
bytes_odd out at text total lt le so_far =
    let one = at_drop_more (unhex (Some out)) text at 0 lt in
    let last = rw (drop_all (at + 1) text le) at one in
    sym last ∙ so_far
