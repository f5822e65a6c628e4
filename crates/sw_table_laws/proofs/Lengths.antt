-- How many rows a map has.
use Rattle.std.proofs.Common.{◌≡◌, ℕ, zero, suc, ◌<◌, Bool, true, false, cond, List, Option, Some, None, refl, ap, sym, ◌∙◌, arith}
use Rattle.std.specs.Prelude.{nat_eq}
use Rattle.std.specs.Ordering.{nat_cmp}
use Rattle.std.specs.Cmp.Lexicographic.{slice_cmp}
use Rattle.std.specs.FinMap as map
use Rattle.std.specs.FinMap.{len-empty, get-empty, empty_of_len}
use Rattle.sw_base.specs.declared.table.Value.{Value}
use Rattle.sw_table_laws.specs.Table.{State, bucket, part}
use Rattle.sw_table_laws.proofs.Maps.{same_state, get_part}

-- a map with a key has a row
pub not_empty : (m : State) (k : List ℕ) (v : List Value) (n : ℕ) → map.len m ≡ n → map.get m k ≡ Some v → 0 < n
not_empty m k v zero e is = absurd (clash (sym (get-empty (slice_cmp nat_cmp) k) ∙ ap (λ (x : State). map.get x k) (sym (empty_of_len m e)) ∙ is))
  where
    clash : {A : Type 0} {x : A} → None ≡ Some x → ⊥
    clash e = cc
not_empty m k v (suc n) e is = omega arith

abbrev nothing : State
nothing = map.empty

both_none : (t : Bool) (o : Option (List Value)) → o ≡ None → cond t o None ≡ None
both_none true o e = e
both_none false o e = refl

no_rows : (size b : ℕ) (q : List ℕ) → map.get (part size nothing b) q ≡ map.get nothing q
no_rows size b q = get_part size nothing b q ∙ both_none (nat_eq (bucket size q) b) (map.get nothing q) (get-empty (slice_cmp nat_cmp) q) ∙ sym (get-empty (slice_cmp nat_cmp) q)

-- an empty map has none in each bucket
pub no_rows_in : (size b : ℕ) → part size nothing b ≡ nothing
no_rows_in size b = same_state (part size nothing b) nothing (no_rows size b)

pub no_len : (size b : ℕ) → map.len (part size nothing b) ≡ 0
no_len size b = ap map.len (no_rows_in size b) ∙ len-empty (slice_cmp nat_cmp) (List Value)
