-- Rows copied one behind the other.
use Rattle.std.proofs.Common.{◌≡◌, ℕ, zero, suc, ◌+◌, List, [], ◌∷◌, ◌++◌, map, take, Some, refl, ap, sym, ◌∙◌, arith}
use Rattle.std.specs.Prelude.{slice_get}
use Rattle.std.proofs.lemmas.List.{map-append}
use Rattle.sw_base.specs.declared.table.Value.{Value}
use Rattle.sw_tmodel.specs.declared.dump_row.DumpRow.{DumpRow}
use Rattle.sw_tmodel.specs.Dumps.{pair_of}
use Rattle.sw_row.specs.Packed.{Packed}
use Rattle.sw_bucket.specs.Rows.{entry_of}

same_some : (x y : Packed) → Some x ≡ Some y → x ≡ y
same_some x y e = cc

next_row : (rows : List Packed) (i : ℕ) (r : Packed) → slice_get rows i ≡ Some r → take (suc i) rows ≡ take i rows ++ r ∷ []
next_row [] i r e = absurd (cc)
next_row (x ∷ rows) zero r e = ap (λ (z : Packed). z ∷ []) (same_some x r e)
next_row (x ∷ rows) (suc i) r e = ap (λ (z : List Packed). x ∷ z) (next_row rows i r e)

-- one row more was copied
pub copied_more : (rows : List Packed) (i : ℕ) (r : Packed) (old new : List DumpRow) (d : DumpRow) → slice_get rows i ≡ Some r → pair_of d ≡ entry_of r → map pair_of old ≡ map entry_of (take i rows) → new ≡ old ++ d ∷ []
    → map pair_of new ≡ map entry_of (take (i + 1) rows)
copied_more rows i r old new d is e same grown =
    let next : suc i ≡ i + 1 = omega arith in
    ap (λ (v : List DumpRow). map pair_of v) grown
    ∙ map-append pair_of old (d ∷ [])
    ∙ ap (λ (ps : List (List ℕ × List Value)). ps ++ pair_of d ∷ []) same
    ∙ ap (λ (p : List ℕ × List Value). map entry_of (take i rows) ++ p ∷ []) e
    ∙ sym (map-append entry_of (take i rows) (r ∷ []))
    ∙ ap (λ (rs : List Packed). map entry_of rs) (sym (next_row rows i r is))
    ∙ ap (λ (n : ℕ). map entry_of (take n rows)) next
