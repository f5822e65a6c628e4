-- The rows of a bucket, a list, beside the map from keys to values that it is.
use Rattle.std.proofs.Common.{◌≡◌, ◌≢◌, ℕ, zero, suc, ◌+◌, ◌-◌, ◌<◌, ◌≤◌, Bool, true, false, cond, List, [], ◌∷◌, ◌++◌, length, map, take, drop, set, Option, Some, None, refl, ap, sym, ◌∙◌, subst, arith, true≢false}
use Rattle.std.specs.Prelude.{slice_get, slice_set, remove, All, IsTrue}
use Rattle.std.specs.Option.{option_map}
use Rattle.std.specs.Ordering.{nat_cmp}
use Rattle.std.specs.Cmp.Lexicographic.{slice_cmp, texts_ties, nat_list_cmp_total}
use Rattle.std.specs.Str.{bytes_eq}
use Rattle.std.specs.FinMap as fin
use Rattle.std.specs.FinMap.{find, len-insert, len-remove, len-empty}
use Rattle.std.proofs.lemmas.List.{take-map, drop-map, map-append, length-map, length-take-le}
use Rattle.std.proofs.lemmas.List.Elements.{All-nil, All-cons, All-head, All-tail, All-append, All-take, All-drop}
use Rattle.sw_base.specs.declared.table.Value.{Value}
use Rattle.sw_column.specs.declared.column.Column.{Column}
use Rattle.sw_column.specs.Values.{holds}
use Rattle.sw_table_laws.proofs.Maps.{eq_of, eq_self, apart, same_state, get_inserted}
use Rattle.sw_table_laws.proofs.RowLaws.{row_set}
use Rattle.sw_tmodel.specs.Store.{Distinct}
use Rattle.sw_tmodel.proofs.StoreSteps.{Entry, lookup, found as entry_found, get_listed, len_listed, pushed, put, put_distinct, taken_out, remove_distinct}
use Rattle.sw_row.specs.Packed.{Packed}
use Rattle.sw_chain.specs.Rows.{found, without, without_at, with_second, with_value}
use Rattle.sw_bucket.specs.Rows.{entry_of, rows_by, row_at, IsPacked, IsBucket}

-- ---- keys

pub flipped : (b : Bool) (k j : List ℕ) → bytes_eq k j ≡ b → bytes_eq j k ≡ b
flipped true k j e = ap (λ (x : List ℕ). bytes_eq j x) (eq_of k j e) ∙ eq_self j
flipped false k j e = apart j k (λ same. true≢false (sym (ap (λ (x : List ℕ). bytes_eq k x) same ∙ eq_self k) ∙ e))

first : (q : List ℕ) (e : Entry) (es : List Entry) → lookup q (e ∷ es) ≡ cond (bytes_eq q e.0) (Some e.1) (lookup q es)
first q e es = ap (λ b. cond b (Some e.1) (lookup q es)) (sym (texts_ties q e.0))

-- ---- where a key stands_at

-- the row of a key stands_at at this place
pub record Stands (rows : List Packed) (key : List ℕ) (at : ℕ) : Type 0 where
  pub within : at < length rows
  pub is : slice_get rows at ≡ Some (row_at rows at)
  pub named : (row_at rows at).key ≡ key

pub got : (rows : List Packed) (at : ℕ) → at < length rows → slice_get rows at ≡ Some (row_at rows at)
got [] at lt = absurd (omega (arith, lt))
got (r ∷ rows) zero lt = refl
got (r ∷ rows) (suc at) lt = got rows at (omega arith)

later : (r : Packed) (rows : List Packed) (key : List ℕ) (at : ℕ) → Stands rows key at → Stands (r ∷ rows) key (suc at)
later r rows key at s = let lt : at < length rows = s.within in record { within = omega arith; is = s.is; named = s.named }

stands_by : (b : Bool) (o : Option ℕ) (r : Packed) (rows : List Packed) (key : List ℕ) (at : ℕ) → bytes_eq r.key key ≡ b → ((i : ℕ) → o ≡ Some i → Stands rows key i) → cond b (Some 0) (option_map suc o) ≡ Some at → Stands (r ∷ rows) key at
stands_by true o r rows key at e rest is = let same : 0 ≡ at = cc in subst (Stands (r ∷ rows) key) same (record { within = omega arith; is = refl; named = eq_of r.key key e })
stands_by false None r rows key at e rest is = absurd (cc)
stands_by false (Some i) r rows key at e rest is = let same : suc i ≡ at = cc in subst (Stands (r ∷ rows) key) same (later r rows key i (rest i refl))

pub stands_at : (rows : List Packed) (key : List ℕ) (at : ℕ) → found rows key ≡ Some at → Stands rows key at
stands_at [] key at is = absurd (cc)
stands_at (r ∷ rows) key at is = stands_by (bytes_eq r.key key) (found rows key) r rows key at refl (λ i e. stands_at rows key i e) is

entry_at : (rows : List Packed) (at : ℕ) (r : Packed) → slice_get rows at ≡ Some r → slice_get (map entry_of rows) at ≡ Some (entry_of r)
entry_at [] at r is = absurd (cc)
entry_at (x ∷ rows) zero r is = let same : x ≡ r = cc in ap (λ (y : Packed). Some (entry_of y)) same
entry_at (x ∷ rows) (suc at) r is = entry_at rows at r is

entry_key : (rows : List Packed) (key : List ℕ) (at : ℕ) → Stands rows key at → slice_get (map entry_of rows) at ≡ Some (key, (row_at rows at).values)
entry_key rows key at s = entry_at rows at (row_at rows at) s.is ∙ ap (λ (k : List ℕ). Some (k, (row_at rows at).values)) s.named

pub get_found : (cs : List Column) (rows : List Packed) (key : List ℕ) (at : ℕ) → IsBucket cs rows → found rows key ≡ Some at → fin.get (rows_by rows) key ≡ Some (row_at rows at).values
get_found cs rows key at b is =
    get_listed (map entry_of rows) key ∙ entry_found (map entry_of rows) at key (row_at rows at).values b.distinct (entry_key rows key at (stands_at rows key at is))

pub get_at : (cs : List Column) (rows : List Packed) (at : ℕ) → IsBucket cs rows → at < length rows → fin.get (rows_by rows) (row_at rows at).key ≡ Some (row_at rows at).values
get_at cs rows at b lt =
    get_listed (map entry_of rows) (row_at rows at).key ∙ entry_found (map entry_of rows) at (row_at rows at).key (row_at rows at).values b.distinct (entry_at rows at (row_at rows at) (got rows at lt))

missed_by : (b : Bool) (o : Option ℕ) → cond b (Some 0) (option_map suc o) ≡ None → (b ≡ false) × (o ≡ None)
missed_by true o e = absurd (cc)
missed_by false None e = (refl, refl)
missed_by false (Some i) e = absurd (cc)

pub lookup_missing : (rows : List Packed) (key : List ℕ) → found rows key ≡ None → lookup key (map entry_of rows) ≡ None
lookup_missing [] key is = refl
lookup_missing (r ∷ rows) key is =
    let both = missed_by (bytes_eq r.key key) (found rows key) is in
    first key (entry_of r) (map entry_of rows) ∙ ap (λ b. cond b (Some r.values) (lookup key (map entry_of rows))) (flipped false r.key key both.0) ∙ lookup_missing rows key both.1

pub get_missing : (rows : List Packed) (key : List ℕ) → found rows key ≡ None → fin.get (rows_by rows) key ≡ None
get_missing rows key is = get_listed (map entry_of rows) key ∙ lookup_missing rows key is

pub len_rows : (cs : List Column) (rows : List Packed) → IsBucket cs rows → fin.len (rows_by rows) ≡ length rows
len_rows cs rows b = len_listed (map entry_of rows) b.distinct ∙ length-map rows entry_of

-- ---- no rows, and the first one

pub no_bucket : (cs : List Column) (rows : List Packed) → rows ≡ [] → IsBucket cs rows
no_bucket cs rows e = subst (IsBucket cs) (sym e) (record { distinct = tt; packed = All-nil (IsPacked cs) })

pub one_bucket : (cs : List Column) (r : Packed) → IsPacked cs r → IsBucket cs (r ∷ [])
one_bucket cs r p = record { distinct = (refl, tt); packed = All-cons (IsPacked cs) r [] p (All-nil (IsPacked cs)) }

pub one_rows : (rows : List Packed) (r : Packed) → rows ≡ [] → rows_by (r ∷ []) ≡ fin.insert (rows_by rows) r.key r.values
one_rows rows r e = pushed [] r.key r.values refl ∙ ap (λ (xs : List Packed). fin.insert (rows_by xs) r.key r.values) (sym e)

-- ---- a row behind the first

swap : {A : Type 0} (a b : Bool) (x y z : A) → (a ≡ true → b ≡ true → ⊥) → cond a x (cond b y z) ≡ cond b y (cond a x z)
swap true true x y z apart = absurd (apart refl refl)
swap true false x y z apart = refl
swap false true x y z apart = refl
swap false false x y z apart = refl

not_both : (q k j : List ℕ) → bytes_eq k j ≡ false → bytes_eq q k ≡ true → bytes_eq q j ≡ true → ⊥
not_both q k j ne a b = true≢false (sym (eq_self k) ∙ ap (λ (x : List ℕ). bytes_eq k x) (sym (eq_of q k a) ∙ eq_of q j b) ∙ ne)

second_missed : (h r : Packed) (rest : List Packed) → found (h ∷ rest) r.key ≡ None → (bytes_eq h.key r.key ≡ false) × (found rest r.key ≡ None)
second_missed h r rest is = missed_by (bytes_eq h.key r.key) (found rest r.key) is

pub second_rows : (rows : List Packed) (r : Packed) → 0 < length rows → found rows r.key ≡ None → rows_by (with_second rows r) ≡ fin.insert (rows_by rows) r.key r.values
second_rows [] r some is = absurd (omega (arith, some))
second_rows (h ∷ rest) r some is =
    let both = second_missed h r rest is in
    let es : List Entry = map entry_of rest in
    same_state _ _ (λ q.
    get_listed (entry_of h ∷ entry_of r ∷ es) q
    ∙ first q (entry_of h) (entry_of r ∷ es)
    ∙ ap (λ o. cond (bytes_eq q h.key) (Some h.values) o) (first q (entry_of r) es)
    ∙ swap (bytes_eq q h.key) (bytes_eq q r.key) (Some h.values) (Some r.values) (lookup q es) (not_both q h.key r.key both.0)
    ∙ ap (λ o. cond (bytes_eq q r.key) (Some r.values) o) (sym (get_listed (entry_of h ∷ es) q ∙ first q (entry_of h) es))
    ∙ sym (get_inserted (rows_by (h ∷ rest)) r.key r.values q))

pub second_bucket : (cs : List Column) (rows : List Packed) (r : Packed) → IsBucket cs rows → 0 < length rows → found rows r.key ≡ None → IsPacked cs r → IsBucket cs (with_second rows r)
second_bucket cs [] r b some is p = absurd (omega (arith, some))
second_bucket cs (h ∷ rest) r b some is p =
    let both = second_missed h r rest is in
    let es : List Entry = map entry_of rest in
    let head = All-head (IsPacked cs) h rest b.packed in
    let tail = All-tail (IsPacked cs) h rest b.packed in
    record {
      distinct = (
        first h.key (entry_of r) es ∙ ap (λ t. cond t (Some r.values) (lookup h.key es)) both.0 ∙ b.distinct.0,
        (lookup_missing rest r.key both.1, b.distinct.1),
      );
      packed = All-cons (IsPacked cs) h (r ∷ rest) head (All-cons (IsPacked cs) r rest p tail);
    }

-- ---- a row taken out

removed_entries : (rows : List Packed) (at : ℕ) → map entry_of (remove rows at) ≡ remove (map entry_of rows) at
removed_entries rows at =
    map-append entry_of (take at rows) (drop (suc at) rows) ∙ (λ i. sym (take-map entry_of at rows) i ++ sym (drop-map entry_of (suc at) rows) i)

pub without_is : (rows : List Packed) (key : List ℕ) (at : ℕ) → found rows key ≡ Some at → without rows key ≡ remove rows at
without_is rows key at is = ap (without_at rows) is

pub out_rows : (cs : List Column) (rows : List Packed) (key : List ℕ) (at : ℕ) → IsBucket cs rows → found rows key ≡ Some at → rows_by (remove rows at) ≡ fin.remove (rows_by rows) key
out_rows cs rows key at b is =
    ap fin.from_entries (removed_entries rows at) ∙ taken_out (map entry_of rows) at key (row_at rows at).values b.distinct (entry_key rows key at (stands_at rows key at is))

pub out_bucket : (cs : List Column) (rows : List Packed) (key : List ℕ) (at : ℕ) → IsBucket cs rows → found rows key ≡ Some at → IsBucket cs (remove rows at)
out_bucket cs rows key at b is = record {
  distinct = subst Distinct (sym (removed_entries rows at)) (remove_distinct (map entry_of rows) at key (row_at rows at).values b.distinct (entry_key rows key at (stands_at rows key at is)));
  packed = All-append (IsPacked cs) (take at rows) (drop (suc at) rows) (All-take (IsPacked cs) at rows b.packed) (All-drop (IsPacked cs) (suc at) rows b.packed);
}

-- ---- a value written

pub value_entries : (rows : List Packed) (at column : ℕ) (v : Value) → at < length rows → map entry_of (with_value rows at column v) ≡ set (map entry_of rows) at ((row_at rows at).key, slice_set (row_at rows at).values column v)
value_entries [] at column v lt = absurd (omega (arith, lt))
value_entries (r ∷ rows) zero column v lt = refl
value_entries (r ∷ rows) (suc at) column v lt = ap (λ (es : List Entry). entry_of r ∷ es) (value_entries rows at column v (omega arith))

pub value_rows : (cs : List Column) (rows : List Packed) (at column : ℕ) (v : Value) → IsBucket cs rows → at < length rows → rows_by (with_value rows at column v) ≡ fin.insert (rows_by rows) (row_at rows at).key (slice_set (row_at rows at).values column v)
value_rows cs rows at column v b lt =
    ap fin.from_entries (value_entries rows at column v lt)
    ∙ put (map entry_of rows) at (row_at rows at).key (row_at rows at).values (slice_set (row_at rows at).values column v) b.distinct (entry_at rows at (row_at rows at) (got rows at lt))

value_packed : (cs : List Column) (rows : List Packed) (at column : ℕ) (c : Column) (v : Value) → All (IsPacked cs) rows → slice_get cs column ≡ Some c → IsTrue (holds c.kind c.size v) → All (IsPacked cs) (with_value rows at column v)
value_packed cs [] at column c v p is h = p
value_packed cs (r ∷ rows) zero column c v p is h =
    let head = All-head (IsPacked cs) r rows p in
    All-cons (IsPacked cs) (record r { values = slice_set r.values column v }) rows (record { key = head.key; columns = head.columns; fit = row_set cs r.values column c v head.fit is h }) (All-tail (IsPacked cs) r rows p)
value_packed cs (r ∷ rows) (suc at) column c v p is h =
    All-cons (IsPacked cs) r (with_value rows at column v) (All-head (IsPacked cs) r rows p) (value_packed cs rows at column c v (All-tail (IsPacked cs) r rows p) is h)

pub value_bucket : (cs : List Column) (rows : List Packed) (at column : ℕ) (c : Column) (v : Value) → IsBucket cs rows → at < length rows → slice_get cs column ≡ Some c → IsTrue (holds c.kind c.size v) → IsBucket cs (with_value rows at column v)
value_bucket cs rows at column c v b lt is h = record {
  distinct = subst Distinct (sym (value_entries rows at column v lt)) (put_distinct (map entry_of rows) at (row_at rows at).key (row_at rows at).values (slice_set (row_at rows at).values column v) b.distinct (entry_at rows at (row_at rows at) (got rows at lt)));
  packed = value_packed cs rows at column c v b.packed is h;
}

pub value_row : (rows : List Packed) (at column : ℕ) (v : Value) → at < length rows → row_at (with_value rows at column v) at ≡ record (row_at rows at) { values = slice_set (row_at rows at).values column v }
value_row [] at column v lt = absurd (omega (arith, lt))
value_row (r ∷ rows) zero column v lt = refl
value_row (r ∷ rows) (suc at) column v lt = value_row rows at column v (omega arith)

-- the row at a place was packed for the columns
pub packed_at : (cs : List Column) (rows : List Packed) (at : ℕ) → All (IsPacked cs) rows → at < length rows → IsPacked cs (row_at rows at)
packed_at cs [] at p lt = absurd (omega (arith, lt))
packed_at cs (r ∷ rows) zero p lt = All-head (IsPacked cs) r rows p
packed_at cs (r ∷ rows) (suc at) p lt = packed_at cs rows at (All-tail (IsPacked cs) r rows p) (omega arith)

-- ---- the rows one after the other

some_none : {A : Type 0} {x : A} → Some x ≡ None → ⊥
some_none e = absurd (cc)

before_missing : (es : List Entry) (i : ℕ) (k : List ℕ) (v : List Value) → Distinct es → slice_get es i ≡ Some (k, v) → lookup k (take i es) ≡ None
before_missing [] i k v d is = absurd (cc)
before_missing (e ∷ es) zero k v d is = refl
before_missing (e ∷ es) (suc i) k v d is =
    let hit : lookup k es ≡ Some v = entry_found es i k v d.1 is in
    let ne : bytes_eq k e.0 ≡ false = apart k e.0 (λ same. some_none (sym hit ∙ ap (λ (x : List ℕ). lookup x es) same ∙ d.0)) in
    first k e (take i es) ∙ ap (λ b. cond b (Some e.1) (lookup k (take i es))) ne ∙ before_missing es i k v d.1 is

next_row : (rows : List Packed) (i : ℕ) (r : Packed) → slice_get rows i ≡ Some r → take (suc i) rows ≡ take i rows ++ r ∷ []
next_row [] i r e = absurd (cc)
next_row (x ∷ rows) zero r e = let same : x ≡ r = cc in ap (λ (y : Packed). y ∷ []) same
next_row (x ∷ rows) (suc i) r e = ap (λ (ys : List Packed). x ∷ ys) (next_row rows i r e)

-- the first rows don't have the next one's key
pub not_before : (cs : List Column) (rows : List Packed) (i : ℕ) (r : Packed) → IsBucket cs rows → slice_get rows i ≡ Some r → fin.get (rows_by (take i rows)) r.key ≡ None
not_before cs rows i r b is =
    get_listed (map entry_of (take i rows)) r.key
    ∙ ap (λ (es : List Entry). lookup r.key es) (sym (take-map entry_of i rows))
    ∙ before_missing (map entry_of rows) i r.key r.values b.distinct (entry_at rows i r is)

-- the first rows with the next one
pub rows_more : (cs : List Column) (rows : List Packed) (i : ℕ) (r : Packed) → IsBucket cs rows → slice_get rows i ≡ Some r → rows_by (take (suc i) rows) ≡ fin.insert (rows_by (take i rows)) r.key r.values
rows_more cs rows i r b is =
    ap rows_by (next_row rows i r is)
    ∙ ap fin.from_entries (map-append entry_of (take i rows) (r ∷ []))
    ∙ pushed (map entry_of (take i rows)) r.key r.values (sym (get_listed (map entry_of (take i rows)) r.key) ∙ not_before cs rows i r b is)

pub len_first : (cs : List Column) (rows : List Packed) (i : ℕ) → IsBucket cs rows → i ≤ length rows → fin.len (rows_by (take i rows)) ≡ i
len_first cs rows i b le =
    len_listed (map entry_of (take i rows)) (subst Distinct (take-map entry_of i rows) (first_distinct (map entry_of rows) i b.distinct)) ∙ length-map (take i rows) entry_of ∙ length-take-le i rows le
  where
    lookup_first : (es : List Entry) (n : ℕ) (k : List ℕ) → lookup k es ≡ None → lookup k (take n es) ≡ None
    lookup_first es zero k e = refl
    lookup_first [] (suc n) k e = refl
    lookup_first (x ∷ es) (suc n) k e =
        let both = missed_entry (bytes_eq k x.0) x.1 (lookup k es) (sym (first k x es) ∙ e) in
        first k x (take n es) ∙ ap (λ t. cond t (Some x.1) (lookup k (take n es))) both.0 ∙ lookup_first es n k both.1
      where
        missed_entry : (t : Bool) (v : List Value) (o : Option (List Value)) → cond t (Some v) o ≡ None → (t ≡ false) × (o ≡ None)
        missed_entry true v o e = absurd (cc)
        missed_entry false v o e = (refl, e)

    first_distinct : (es : List Entry) (n : ℕ) → Distinct es → Distinct (take n es)
    first_distinct es zero d = tt
    first_distinct [] (suc n) d = tt
    first_distinct (x ∷ es) (suc n) d = (lookup_first es n x.0 d.0, first_distinct es n d.1)
