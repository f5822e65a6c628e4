-- The words of the slots, of which every eighth is used, where one of them changes.
use Rattle.std.proofs.Common.{◌≡◌, ◌≢◌, ◌<◌, ◌+◌, ◌*◌, ◌/◌, ◌%◌, ℕ, List, length, set, ap, ◌∙◌, slice_index, arith}
use Rattle.std.proofs.lemmas.List.{get_or-set_same, get_or-set_other}
use Rattle.std.proofs.lemmas.Nat.{div-mul-add, mod-mul-add}
use mathlib.Core.Logic.{dite}
use native.Mathlib.Decide.{ℕ_discrete}

-- a word has its number and uid
pub number_in : (r n u : ℕ) → r ≡ n * 4294967296 + u → u < 4294967296 → r / 4294967296 ≡ n
number_in r n u e h = ap (λ k. k / 4294967296) e ∙ div-mul-add n 4294967296 u h

pub uid_in : (r n u : ℕ) → r ≡ n * 4294967296 + u → u < 4294967296 → r % 4294967296 ≡ u
uid_in r n u e h = ap (λ k. k % 4294967296) e ∙ mod-mul-add n 4294967296 u h

-- the words of all slots, where that of slot i becomes another
pub word_after : (words : List ℕ) (max i j new : ℕ) (value value' : ℕ → ℕ) → length words ≡ 8 * max → j ≡ 8 * i → i < max
    → ((k : ℕ) → k < max → slice_index words (8 * k) ≡ value k) → new ≡ value' i → ((k : ℕ) → i ≢ k → k < max → value k ≡ value' k)
    → (k : ℕ) → k < max → slice_index (set words j new) (8 * k) ≡ value' k
word_after words max i j new value value' sized at lt h here others k low =
    dite (ℕ_discrete i k)
    (λ is.
    let same : 8 * k ≡ j = omega (arith, at, is) in
    ap (λ m. slice_index (set words j new) m) same ∙ get_or-set_same words j new 0 (omega (arith, sized, at, lt)) ∙ here ∙ ap value' is)
    (λ other. get_or-set_other words j (8 * k) new 0 (λ q. other (omega (arith, q, at))) ∙ h k low ∙ others k other low)
