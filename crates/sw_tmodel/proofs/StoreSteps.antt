use Rattle.std.proofs.Common.{◌≡◌, ℕ, zero, suc, ◌+◌, ◌<◌, Bool, true, false, cond, List, [], ◌∷◌, ◌++◌, length, set, Option, Some, None, refl, ap, sym, ◌∙◌, arith, true≢false}
use Rattle.std.specs.Prelude.{slice_get, remove, is_some}
use Rattle.std.specs.Ordering.{nat_cmp}
use Rattle.std.specs.Cmp.Lexicographic.{slice_cmp, texts_ties, nat_list_cmp_total}
use Rattle.std.specs.FinMap as map
use Rattle.std.specs.FinMap.{find, get-from_entries, from_entries_push, len-empty, len-insert, nat_cmp-IsAntisymmetric, slice_cmp-IsAntisymmetric}
use Rattle.std.specs.Str.{bytes_eq}
use Rattle.sw_base.specs.declared.table.Value.{Value}
use Rattle.sw_tmodel.specs.PlainRows.{key_at, row_at}
use Rattle.sw_tmodel.specs.Store.{Distinct, state_of}
use Rattle.sw_table_laws.proofs.Maps.{eq_of, eq_self, apart, same_state, get_inserted, get_removed}

abbrev pub Entry : Type 0
Entry = List ℕ × List Value

abbrev pub lookup : List ℕ → List Entry → Option (List Value)
lookup q es = find (slice_cmp nat_cmp) q es

-- ---- looking a key up in a list without doubles

first : (q : List ℕ) (e : Entry) (es : List Entry) → lookup q (e ∷ es) ≡ cond (bytes_eq q e.0) (Some e.1) (lookup q es)
first q e es = ap (λ b. cond b (Some e.1) (lookup q es)) (sym (texts_ties q e.0))

here : (k : List ℕ) (v : List Value) (es : List Entry) → lookup k ((k, v) ∷ es) ≡ Some v
here k v es = first k (k, v) es ∙ ap (λ b. cond b (Some v) (lookup k es)) (eq_self k)

beside : (q : List ℕ) (e : Entry) (es : List Entry) → bytes_eq q e.0 ≡ false → lookup q (e ∷ es) ≡ lookup q es
beside q e es ne = first q e es ∙ ap (λ b. cond b (Some e.1) (lookup q es)) ne

-- a key that is found in a list isn't one that is missed there
other_by : (b : Bool) (k j : List ℕ) (v : List Value) (es : List Entry) → bytes_eq k j ≡ b → lookup j es ≡ None → lookup k es ≡ Some v → bytes_eq k j ≡ false
other_by true k j v es e miss hit = let same : k ≡ j = eq_of k j e in absurd (some_none (sym hit ∙ ap (λ (x : List ℕ). lookup x es) same ∙ miss))
  where
    some_none : {A : Type 0} {x : A} → Some x ≡ None → ⊥
    some_none e = cc
other_by false k j v es e miss hit = e

other : (k j : List ℕ) (v : List Value) (es : List Entry) → lookup j es ≡ None → lookup k es ≡ Some v → bytes_eq k j ≡ false
other k j v es miss hit = other_by (bytes_eq k j) k j v es refl miss hit

bytes_sym : (b : Bool) (k j : List ℕ) → bytes_eq k j ≡ b → bytes_eq j k ≡ b
bytes_sym true k j e = ap (λ (x : List ℕ). bytes_eq j x) (eq_of k j e) ∙ eq_self j
bytes_sym false k j e = apart j k (λ same. true≢false (sym (ap (λ (x : List ℕ). bytes_eq k x) same ∙ eq_self k) ∙ e))

pub found : (es : List Entry) (at : ℕ) (k : List ℕ) (v : List Value) → Distinct es → slice_get es at ≡ Some (k, v) → lookup k es ≡ Some v
found [] at k v d is = absurd (cc)
found (e ∷ es) zero k v d is = let same : e ≡ (k, v) = cc in ap (λ (x : Entry). lookup k (x ∷ es)) same ∙ here k v es
found (e ∷ es) (suc at) k v d is =
    let tail = found es at k v d.1 is in
    beside k e es (other k e.0 v es d.0 tail) ∙ tail

swap : {A : Type 0} (a b : Bool) (x y z : A) → (a ≡ true → b ≡ true → ⊥) → cond a x (cond b y z) ≡ cond b y (cond a x z)
swap true true x y z apart = absurd (apart refl refl)
swap true false x y z apart = refl
swap false true x y z apart = refl
swap false false x y z apart = refl

shadow : {A : Type 0} (a : Bool) (x y z : A) → cond a x z ≡ cond a x (cond a y z)
shadow true x y z = refl
shadow false x y z = refl

not_both : (q k j : List ℕ) → bytes_eq k j ≡ false → bytes_eq q j ≡ true → bytes_eq q k ≡ true → ⊥
not_both q k j ne a b =
    let qj : q ≡ j = eq_of q j a in
    let qk : q ≡ k = eq_of q k b in
    true≢false (sym (eq_self k) ∙ ap (λ (x : List ℕ). bytes_eq k x) (sym qk ∙ qj) ∙ ne)

-- ---- another row under a key

pub put_found : (es : List Entry) (at : ℕ) (k : List ℕ) (v w : List Value) (q : List ℕ) → Distinct es → slice_get es at ≡ Some (k, v) → lookup q (set es at (k, w)) ≡ cond (bytes_eq q k) (Some w) (lookup q es)
put_found [] at k v w q d is = absurd (cc)
put_found (e ∷ es) zero k v w q d is =
    let same : e ≡ (k, v) = cc in
    first q (k, w) es ∙ shadow (bytes_eq q k) (Some w) (Some v) (lookup q es) ∙ ap (λ o. cond (bytes_eq q k) (Some w) o) (sym (first q (k, v) es) ∙ ap (λ (x : Entry). lookup q (x ∷ es)) (sym same))
put_found (e ∷ es) (suc at) k v w q d is =
    let tail = found es at k v d.1 is in
    let ne : bytes_eq k e.0 ≡ false = other k e.0 v es d.0 tail in
    first q e (set es at (k, w))
    ∙ ap (λ o. cond (bytes_eq q e.0) (Some e.1) o) (put_found es at k v w q d.1 is)
    ∙ swap (bytes_eq q e.0) (bytes_eq q k) (Some e.1) (Some w) (lookup q es) (not_both q k e.0 ne)
    ∙ ap (λ o. cond (bytes_eq q k) (Some w) o) (sym (first q e es))

pub put_distinct : (es : List Entry) (at : ℕ) (k : List ℕ) (v w : List Value) → Distinct es → slice_get es at ≡ Some (k, v) → Distinct (set es at (k, w))
put_distinct [] at k v w d is = d
put_distinct (e ∷ es) zero k v w d is = let same : e ≡ (k, v) = cc in (ap (λ (x : Entry). lookup x.0 es) (sym same) ∙ d.0, d.1)
put_distinct (e ∷ es) (suc at) k v w d is =
    let tail = found es at k v d.1 is in
    let ne : bytes_eq e.0 k ≡ false = bytes_sym false k e.0 (other k e.0 v es d.0 tail) in
    (put_found es at k v w e.0 d.1 is ∙ ap (λ b. cond b (Some w) (lookup e.0 es)) ne ∙ d.0, put_distinct es at k v w d.1 is)

-- ---- a row taken out

pub remove_found : (es : List Entry) (at : ℕ) (k : List ℕ) (v : List Value) (q : List ℕ) → Distinct es → slice_get es at ≡ Some (k, v) → lookup q (remove es at) ≡ cond (bytes_eq q k) None (lookup q es)
remove_found [] at k v q d is = absurd (cc)
remove_found (e ∷ es) zero k v q d is =
    let same : e ≡ (k, v) = cc in
    let miss : lookup k es ≡ None = ap (λ (x : Entry). lookup x.0 es) (sym same) ∙ d.0 in
    gone_here (bytes_eq q k) refl miss ∙ ap (λ o. cond (bytes_eq q k) None o) (sym (first q (k, v) es) ∙ ap (λ (x : Entry). lookup q (x ∷ es)) (sym same))
  where
    gone_here : (b : Bool) → bytes_eq q k ≡ b → lookup k es ≡ None → lookup q es ≡ cond b None (cond b (Some v) (lookup q es))
    gone_here true e miss = ap (λ (x : List ℕ). lookup x es) (eq_of q k e) ∙ miss
    gone_here false e miss = refl
remove_found (e ∷ es) (suc at) k v q d is =
    let tail = found es at k v d.1 is in
    let ne : bytes_eq k e.0 ≡ false = other k e.0 v es d.0 tail in
    first q e (remove es at)
    ∙ ap (λ o. cond (bytes_eq q e.0) (Some e.1) o) (remove_found es at k v q d.1 is)
    ∙ swap (bytes_eq q e.0) (bytes_eq q k) (Some e.1) None (lookup q es) (not_both q k e.0 ne)
    ∙ ap (λ o. cond (bytes_eq q k) None o) (sym (first q e es))

stays_missed : (b : Bool) (o : Option (List Value)) → o ≡ None → cond b None o ≡ None
stays_missed true o e = refl
stays_missed false o e = e

pub remove_distinct : (es : List Entry) (at : ℕ) (k : List ℕ) (v : List Value) → Distinct es → slice_get es at ≡ Some (k, v) → Distinct (remove es at)
remove_distinct [] at k v d is = absurd (cc)
remove_distinct (e ∷ es) zero k v d is = d.1
remove_distinct (e ∷ es) (suc at) k v d is = (remove_found es at k v e.0 d.1 is ∙ stays_missed (bytes_eq e.0 k) (lookup e.0 es) d.0, remove_distinct es at k v d.1 is)

-- ---- a row at the end

missed_by : (b : Bool) (k : List ℕ) (e : Entry) (es : List Entry) → bytes_eq k e.0 ≡ b → cond b (Some e.1) (lookup k es) ≡ None → (bytes_eq k e.0 ≡ false) × (lookup k es ≡ None)
missed_by true k e es is n = absurd (cc)
missed_by false k e es is n = (is, n)

missed : (k : List ℕ) (e : Entry) (es : List Entry) → lookup k (e ∷ es) ≡ None → (bytes_eq k e.0 ≡ false) × (lookup k es ≡ None)
missed k e es n = missed_by (bytes_eq k e.0) k e es refl (sym (first k e es) ∙ n)

pushed_missed : (es : List Entry) (k j : List ℕ) (v : List Value) → lookup j es ≡ None → bytes_eq j k ≡ false → lookup j (es ++ (k, v) ∷ []) ≡ None
pushed_missed [] k j v n ne = first j (k, v) [] ∙ ap (λ b. cond b (Some v) None) ne
pushed_missed (e ∷ es) k j v n ne =
    let parts = missed j e es n in
    first j e (es ++ (k, v) ∷ []) ∙ ap (λ b. cond b (Some e.1) (lookup j (es ++ (k, v) ∷ []))) parts.0 ∙ pushed_missed es k j v parts.1 ne

pub push_distinct : (es : List Entry) (k : List ℕ) (v : List Value) → Distinct es → lookup k es ≡ None → Distinct (es ++ (k, v) ∷ [])
push_distinct [] k v d n = (refl, tt)
push_distinct (e ∷ es) k v d n =
    let parts = missed k e es n in
    (pushed_missed es k e.0 v d.0 (bytes_sym false k e.0 parts.0), push_distinct es k v d.1 parts.1)

-- ---- the map that a list is

pub get_listed : (es : List Entry) (q : List ℕ) → map.get (state_of es) q ≡ lookup q es
get_listed es q = get-from_entries nat_list_cmp_total es q

counted_by : (o : Option (List Value)) (n : ℕ) → o ≡ None → cond (is_some o) n (n + 1) ≡ suc n
counted_by (Some x) n e = absurd (cc)
counted_by None n e = omega arith

pub len_listed : (es : List Entry) → Distinct es → map.len (state_of es) ≡ length es
len_listed [] d = len-empty (slice_cmp nat_cmp) (List Value)
len_listed (e ∷ es) d =
    len-insert nat_list_cmp_total (state_of es) e.0 e.1
    ∙ counted_by (map.get (state_of es) e.0) (map.len (state_of es)) (get_listed es e.0 ∙ d.0)
    ∙ ap suc (len_listed es d.1)

pub pushed : (es : List Entry) (k : List ℕ) (v : List Value) → lookup k es ≡ None → state_of (es ++ (k, v) ∷ []) ≡ map.insert (state_of es) k v
pushed es k v n = from_entries_push nat_list_cmp_total (slice_cmp-IsAntisymmetric nat_cmp-IsAntisymmetric) es k v n

pub put : (es : List Entry) (at : ℕ) (k : List ℕ) (v w : List Value) → Distinct es → slice_get es at ≡ Some (k, v) → state_of (set es at (k, w)) ≡ map.insert (state_of es) k w
put es at k v w d is = same_state _ _ (λ q.
    get_listed (set es at (k, w)) q ∙ put_found es at k v w q d is ∙ ap (λ o. cond (bytes_eq q k) (Some w) o) (sym (get_listed es q)) ∙ sym (get_inserted (state_of es) k w q))

pub taken_out : (es : List Entry) (at : ℕ) (k : List ℕ) (v : List Value) → Distinct es → slice_get es at ≡ Some (k, v) → state_of (remove es at) ≡ map.remove (state_of es) k
taken_out es at k v d is = same_state _ _ (λ q.
    get_listed (remove es at) q ∙ remove_found es at k v q d is ∙ ap (λ o. cond (bytes_eq q k) None o) (sym (get_listed es q)) ∙ sym (get_removed (state_of es) k q))

-- ---- places

pub there : (es : List Entry) (at : ℕ) → at < length es → slice_get es at ≡ Some (key_at es at, row_at es at)
there [] at lt = absurd (omega (arith, lt))
there (e ∷ es) zero lt = refl
there (e ∷ es) (suc at) lt = there es at (omega arith)

pub place_of : (es : List Entry) (at : ℕ) (k : List ℕ) (v : List Value) → slice_get es at ≡ Some (k, v) → at < length es
place_of [] at k v is = absurd (cc)
place_of (e ∷ es) zero k v is = omega arith
place_of (e ∷ es) (suc at) k v is = let rest = place_of es at k v is in omega arith
