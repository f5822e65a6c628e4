-- One byte more that was looked at.
use Rattle.std.proofs.Common.{◌≡◌, ◌≢◌, ℕ, ◌+◌, ◌<◌, ◌≤◌, Bool, true, false, List, length, take, get_or, refl, sym, ap, ◌∙◌, subst, arith}
use Rattle.std.specs.Prelude.{nat_lt}
use Rattle.std.proofs.lemmas.Bool.{ltb-true, ltb-false, false≢true}
use Rattle.std.proofs.lemmas.List.{take_more}
use Rattle.sw_http.specs.declared.ending.Ending.{Ending}
use Rattle.sw_http.specs.declared.ending.Ending.TheVariants.{Blank, Empty}
use Rattle.sw_http.specs.Lines.{ending_behind, ending_of, is_end, HasNoEnd, IsScanned}
use Rattle.sw_http.proofs.Endings.{ending-last}

pub scanned_more : (bytes : List ℕ) (at : ℕ) (ending : Ending) (b : ℕ) → at < length bytes → get_or bytes at 0 ≡ b → IsScanned bytes (record { at = at; ending = ending })
    → IsScanned bytes (record { at = at + 1; ending = ending_behind ending b })
scanned_more bytes at ending b lt read is =
    let more : ending_of (take (at + 1) bytes) ≡ ending_behind (ending_of (take at bytes)) b =
    ap ending_of (take_more bytes at 0 lt) ∙ ending-last Blank (take at bytes) (get_or bytes at 0) ∙ ap (ending_behind (ending_of (take at bytes))) read in
    record { within = omega (arith, lt); ending = ap (λ e. ending_behind e b) is.ending ∙ sym more }

by_last : (bytes : List ℕ) (from at k : ℕ) (t : Bool) → nat_lt at k ≡ t → HasNoEnd bytes from at → ending_of (take (at + 1) bytes) ≢ Empty → from < k → k ≤ at + 1 → ending_of (take k bytes) ≡ Empty → ⊥
by_last bytes from at k true lt none not_now after within ends =
    let same : k ≡ at + 1 = omega (arith, within, ltb-true at k lt) in
    not_now (subst (λ n. ending_of (take n bytes) ≡ Empty) same ends)
by_last bytes from at k false ge none not_now after within ends = none k after (ltb-false at k ge) ends

pub none_more : (bytes : List ℕ) (from at : ℕ) → HasNoEnd bytes from at → ending_of (take (at + 1) bytes) ≢ Empty → HasNoEnd bytes from (at + 1)
none_more bytes from at none not_now k after within ends = by_last bytes from at k (nat_lt at k) refl none not_now after within ends

pub none_yet : (bytes : List ℕ) (at : ℕ) → HasNoEnd bytes at at
none_yet bytes at k after within ends = absurd (omega (arith, after, within))

pub not_now : (bytes : List ℕ) (at : ℕ) (ending : Ending) → is_end ending ≡ false → ending ≡ ending_of (take at bytes) → ending_of (take at bytes) ≢ Empty
not_now bytes at ending other is now = absurd (false≢true (sym other ∙ ap is_end (is ∙ now)))
