-- Rows in byte order of their keys are the entries of their map.
use Rattle.std.proofs.Common.{◌≡◌, ℕ, zero, suc, ◌+◌, ◌<◌, ◌≤◌, Bool, true, false, cond, ◌&&◌, T, List, [], ◌∷◌, length, get_or, Option, Some, None, refl, ap, sym, subst, ◌∙◌, true≢false, arith}
use Rattle.std.specs.Prelude.{map, slice_get, Contains, IsPermutation, unwrap_or, is_some}
use Rattle.std.specs.List.{AllByRecursion, IsDistinct}
use Rattle.std.specs.List.Sorted.{IsSortedBy, IsStrictlySortedBy}
use Rattle.std.specs.Ordering.{nat_cmp, is_lt, is_eq, eq_by_cmp, ordering_reverse}
use Rattle.std.specs.declared.cmp.Ordering.{Ordering}
use Rattle.std.specs.declared.cmp.Ordering.TheVariants.{Less, Equal, Greater}
use Rattle.std.specs.Cmp.{eq_by_cmp_equiv}
use Rattle.std.specs.Cmp.Lexicographic.{slice_cmp, nat_list_cmp_total, texts_ties}
use Rattle.std.specs.Str.{bytes_eq}
use Rattle.std.specs.FinMap as map_of
use Rattle.std.specs.FinMap.{entries, find, is_sorted, entries-from_sorted, get-from_sorted}
use Rattle.std.specs.FinMap.Entries.{below_all}
use Rattle.std.proofs.lemmas.List.Sorted.{IsPermutation-map, IsPermutation-sym, Contains-permutation}
use Rattle.std.proofs.lemmas.Map.Keys.{IsDistinct-IsPermutation, sorted_from_all_adjacent, apart_from_distinct}
use Rattle.sw_base.specs.declared.table.Value.{Value}
use Rattle.sw_table_laws.proofs.Maps.{eq_of, same_state}
use Rattle.sw_tmodel.specs.declared.dump_row.DumpRow.{DumpRow}
use Rattle.sw_tmodel.specs.Dumps.{pair_of}
use Rattle.sw_tmodel.specs.Store.{Distinct, state_of}
use Rattle.sw_tmodel.proofs.StoreSteps.{Entry, found, get_listed}

abbrev R : List ℕ → List ℕ → Ordering
R = slice_cmp nat_cmp

abbrev keys : List Entry → List (List ℕ)
keys es = map (λ (e : Entry). e.0) es

some_is : {A : Type 0} (x y : A) → Some x ≡ Some y → x ≡ y
some_is x y e = ap (λ (o : Option _). unwrap_or o x) e

none_some : {A : Type 0} (x : A) → None ≡ Some x → ⊥
none_some x e = true≢false (sym (ap is_some e))

-- ---- distinct keys, by what is found and by tests

apart_by : (b : Bool) (x o : Option (List Value)) (v : List Value) → x ≡ Some v → cond b x o ≡ None → (b ≡ false) × (o ≡ None)
apart_by true x o v is n = absurd (none_some v (sym n ∙ is))
apart_by false x o v is n = (refl, n)

all_apart : (k : List ℕ) (es : List Entry) → find R k es ≡ None → AllByRecursion (λ y. eq_by_cmp R k y ≡ false) (keys es)
all_apart k [] n = tt
all_apart k (e ∷ es) n =
    let parts = apart_by (eq_by_cmp R k e.0) (Some e.1) (find R k es) e.1 refl n in
    (parts.0, all_apart k es parts.1)

none_found : (k : List ℕ) (es : List Entry) → AllByRecursion (λ y. eq_by_cmp R k y ≡ false) (keys es) → find R k es ≡ None
none_found k [] h = refl
none_found k (e ∷ es) h = ap (λ b. cond b (Some e.1) (find R k es)) h.0 ∙ none_found k es h.1

tests_apart : (es : List Entry) → Distinct es → IsDistinct (eq_by_cmp R) (keys es)
unfolding IsDistinct
tests_apart [] d = tt
tests_apart (e ∷ es) d = (all_apart e.0 es d.0, tests_apart es d.1)

found_apart : (es : List Entry) → IsDistinct (eq_by_cmp R) (keys es) → Distinct es
unfolding IsDistinct
found_apart [] d = tt
found_apart (e ∷ es) d = (none_found e.0 es d.0, found_apart es d.1)

-- ---- what is found, wherever it stands

in_place : (es : List Entry) (i : ℕ) (x : Entry) → slice_get es i ≡ Some x → Contains es x
in_place [] i x is = absurd (none_some x is)
in_place (e ∷ es) zero x is = (0, omega arith, some_is e x is)
in_place (e ∷ es) (suc i) x is = let at = in_place es i x is in (suc at.0, omega (arith, at.1), at.2)

place_in : (es : List Entry) (x : Entry) → Contains es x → (i : ℕ) × (slice_get es i ≡ Some x)
place_in [] x (k, lt, is) = absurd (omega (arith, lt))
place_in (e ∷ es) x (zero, lt, is) = (0, ap Some is)
place_in (e ∷ es) x (suc k, lt, is) = let at = place_in es x (k, omega (arith, lt), is) in (suc at.0, at.1)

place_by : (b : Bool) (q : List ℕ) (e : Entry) (es : List Entry) (v : List Value) → eq_by_cmp R q e.0 ≡ b → cond b (Some e.1) (find R q es) ≡ Some v → ((find R q es ≡ Some v) → (i : ℕ) × (slice_get es i ≡ Some (q, v))) → (i : ℕ) × (slice_get (e ∷ es) i ≡ Some (q, v))
place_by true q e es v t is rest =
    let key : q ≡ e.0 = eq_of q e.0 (texts_ties q e.0 ∙ t) in
    let value : e.1 ≡ v = some_is e.1 v is in
    (0, λ i. Some (sym key i, value i))
place_by false q e es v t is rest = let at = rest is in (suc at.0, at.1)

place_found : (q : List ℕ) (es : List Entry) (v : List Value) → find R q es ≡ Some v → (i : ℕ) × (slice_get es i ≡ Some (q, v))
place_found q [] v is = absurd (none_some v is)
place_found q (e ∷ es) v is = place_by (eq_by_cmp R q e.0) q e es v refl is (place_found q es v)

hits : (es fs : List Entry) → Distinct fs → IsPermutation es fs → (q : List ℕ) (v : List Value) → find R q es ≡ Some v → find R q fs ≡ Some v
hits es fs d same q v is =
    let at = place_found q es v is in
    let there = place_in fs (q, v) (Contains-permutation es fs (q, v) same (in_place es at.0 (q, v) at.1)) in
    found fs there.0 q v d there.1

same_options : (a b : Option (List Value)) → ((v : List Value) → a ≡ Some v → b ≡ Some v) → ((v : List Value) → b ≡ Some v → a ≡ Some v) → a ≡ b
same_options None None f g = refl
same_options None (Some v) f g = g v refl
same_options (Some v) b f g = sym (f v refl)

same_found : (es fs : List Entry) → Distinct es → Distinct fs → IsPermutation es fs → (q : List ℕ) → find R q fs ≡ find R q es
same_found es fs d g same q = same_options (find R q fs) (find R q es) (hits fs es d (IsPermutation-sym es fs same) q) (hits es fs g same q)

-- ---- keys that rise

rises : (x y : List ℕ) (o p : Ordering) → R x y ≡ o → R y x ≡ p → o ≡ ordering_reverse p → is_lt p ≡ false → is_eq o ≡ false → o ≡ Less
rises x y Less p a b r lt eq = refl
rises x y Equal p a b r lt eq = absurd (true≢false eq)
rises x y Greater Less a b r lt eq = absurd (true≢false lt)
rises x y Greater Equal a b r lt eq = absurd (true≢false (sym (ap is_eq r)))
rises x y Greater Greater a b r lt eq = absurd (true≢false (sym (ap is_lt r)))

mapped : {A B : Type 0} (f : A → B) (xs : List A) (i : ℕ) (d : A) → get_or (map f xs) i (f d) ≡ f (get_or xs i d)
mapped f [] i d = refl
mapped f (x ∷ xs) zero d = refl
mapped f (x ∷ xs) (suc i) d = mapped f xs i d

length_mapped : {A B : Type 0} (f : A → B) (xs : List A) → length (map f xs) ≡ length xs
length_mapped f [] = refl
length_mapped f (x ∷ xs) = ap suc (length_mapped f xs)

abbrev key_of : DumpRow → List ℕ
key_of r = r.key

nothing : DumpRow
nothing = record { key = []; cells = [] }

strictly : (rows : List DumpRow) → IsSortedBy (λ (a b : DumpRow). is_lt (R a.key b.key)) rows → IsDistinct (eq_by_cmp R) (map key_of rows) → IsStrictlySortedBy R (map key_of rows)
unfolding nothing
strictly rows up apart = sorted_from_all_adjacent nat_list_cmp_total (map key_of rows) [] (λ k lt.
    let within : k + 1 < length rows = omega (arith, lt, length_mapped key_of rows) in
    let x : get_or (map key_of rows) k [] ≡ (get_or rows k nothing).key = mapped key_of rows k nothing in
    let y : get_or (map key_of rows) (k + 1) [] ≡ (get_or rows (k + 1) nothing).key = mapped key_of rows (k + 1) nothing in
    let lower : is_lt (R (get_or (map key_of rows) (k + 1) []) (get_or (map key_of rows) k [])) ≡ false = ap (λ (z : List ℕ). is_lt (R z (get_or (map key_of rows) k []))) y ∙ ap (λ (z : List ℕ). is_lt (R (get_or rows (k + 1) nothing).key z)) x ∙ up k nothing (omega arith) within in
    let other : is_eq (R (get_or (map key_of rows) k []) (get_or (map key_of rows) (k + 1) [])) ≡ false = apart_from_distinct (eq_by_cmp R) (map key_of rows) k (k + 1) [] apart (omega arith) lt in
    rises (get_or (map key_of rows) k []) (get_or (map key_of rows) (k + 1) []) _ _ refl refl (nat_list_cmp_total.antisymm (get_or (map key_of rows) k []) (get_or (map key_of rows) (k + 1) [])) lower other)

both : (a b : Bool) → T a → T b → T (a && b)
both true b p q = q
both false b p q = absurd p

lower : (x : List ℕ) (es : List Entry) → AllByRecursion (λ y. R x y ≡ Less) (keys es) → T (below_all R x es)
lower x [] h = tt
lower x (e ∷ es) h = both (is_lt (R x e.0)) (below_all R x es) (subst (λ o. T (is_lt o)) (sym h.0) tt) (lower x es h.1)

sorted_by : (es : List Entry) → IsStrictlySortedBy R (keys es) → T (is_sorted R es)
unfolding IsStrictlySortedBy
sorted_by [] h = tt
sorted_by (e ∷ es) h = both (below_all R e.0 es) (is_sorted R es) (lower e.0 es h.0) (sorted_by es h.1)

keys_are : (rows : List DumpRow) → keys (map pair_of rows) ≡ map key_of rows
keys_are [] = refl
keys_are (r ∷ rs) = ap (λ (ks : List (List ℕ)). r.key ∷ ks) (keys_are rs)

-- the rows, sorted by their keys, are the entries of the map that they are
pub in_order : (es : List Entry) (old new : List DumpRow) → Distinct es → map pair_of old ≡ es → IsPermutation old new → IsSortedBy (λ (a b : DumpRow). is_lt (R a.key b.key)) new → map pair_of new ≡ entries (state_of es)
in_order es old new d same moved up =
    let fs : List Entry = map pair_of new in
    let perm : IsPermutation es fs = subst (λ (xs : List Entry). IsPermutation xs fs) same (IsPermutation-map pair_of old new moved) in
    let apart : IsDistinct (eq_by_cmp R) (keys fs) = IsDistinct-IsPermutation (eq_by_cmp R) (eq_by_cmp_equiv nat_list_cmp_total).symm (keys es) (keys fs) (IsPermutation-map (λ (e : Entry). e.0) es fs perm) (tests_apart es d) in
    let strict : IsStrictlySortedBy R (keys fs) = subst (IsStrictlySortedBy R) (sym (keys_are new)) (strictly new up (subst (IsDistinct (eq_by_cmp R)) (keys_are new) apart)) in
    let sorted : T (is_sorted R fs) = sorted_by fs strict in
    let equal : map_of.from_sorted fs ≡ state_of es = same_state _ _ (λ q. get-from_sorted R fs q sorted ∙ same_found es fs d (found_apart fs apart) perm q ∙ sym (get_listed es q)) in
    sym (entries-from_sorted R fs sorted) ∙ ap entries equal
