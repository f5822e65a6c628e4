use Rattle.std.proofs.Common.{◌≡◌, ℕ, zero, suc, ◌+◌, ◌-◌, ◌*◌, ◌<◌, ◌≤◌, ◌⊎◌, inl, inr, Bool, true, false, cond, ◌||◌, List, [], ◌∷◌, ◌++◌, length, take, set, get_or, Option, Some, None, refl, ap, sym, ◌∙◌, subst, arith, eq-eqb, add-one, length-append, length-set, get_or-set_same, get_or-set_other}
use Rattle.std.specs.Prelude.{slice_get, nat_eq, nat_lt, unwrap_or, remove, replicate, is_some, sum, sum_by, IfNone, IfSome}
use Rattle.std.specs.Option.{option_map}
use Rattle.std.specs.Cmp.Lexicographic.{nat_list_cmp_total}
use Rattle.std.specs.FinMap as map
use Rattle.std.specs.FinMap.{len-insert, len-remove}
use Rattle.std.proofs.lemmas.List.Sums.{sum_by-set, sum_by_more, sum_by-cons}
use Rattle.std.proofs.lemmas.List.Folds.{sum_by-replicate}
use Rattle.std.proofs.lemmas.List.{take_all, length-replicate, get_or-replicate}
use Rattle.std.proofs.lemmas.Bool.Decides.{nat_tests}
use Rattle.sw_base.specs.declared.table.Value.{Value}
use Rattle.sw_column.specs.declared.column.Column.{Column}
use Rattle.sw_table_laws.specs.Table.{State, bucket, part, used, sum_below, has_room}
use Rattle.sw_tmodel.specs.PlainRows.{IsAt, key_at, row_at, with_row}
use Rattle.sw_tmodel.specs.Store.{Distinct, Stored, pooled, state_of, IsStored}
use Rattle.sw_table_laws.proofs.Maps.{get_own, get_part, part_inserted, part_beside, part_removed, part_left}
use Rattle.sw_table_laws.proofs.Lengths.{not_empty, no_len}
use Rattle.sw_tmodel.proofs.StoreSteps.{Entry, found, put, put_distinct, taken_out, remove_distinct, pushed, push_distinct, get_listed, there, place_of}

-- ---- sums of counts

sum_taken : (f : ℕ → ℕ) (g : ℕ → ℕ) (xs : List ℕ) (n : ℕ) → n ≤ length xs → ((b : ℕ) → b < length xs → f (get_or xs b 0) ≡ g b) → sum_by f (take n xs) ≡ sum_below g n
unfolding sum_below
sum_taken f g xs zero le e = refl
sum_taken f g xs (suc n) le e =
    let more : sum_by f (take (suc n) xs) ≡ sum_by f (take n xs) + f (get_or xs n 0) = rw add-one at (sum_by_more f xs n 0 (omega arith)) in
    let rest : sum_by f (take n xs) ≡ sum_below g n = sum_taken f g xs n (omega arith) e in
    let last : f (get_or xs n 0) ≡ g n = e n (omega arith) in
    omega arith

-- the rows in the pool, by the counts and by the rows
pub pooled_used : (counts : List ℕ) (s : State) → ((b : ℕ) → b < length counts → get_or counts b 0 ≡ map.len (part (length counts) s b)) → pooled counts ≡ used (length counts) s
pooled_used counts s each =
    ap (sum_by (λ n. n - 1)) (sym (take_all (length counts) counts (omega arith)))
    ∙ sum_taken (λ n. n - 1) (λ b. map.len (part (length counts) s b) - 1) counts (length counts) (omega arith) (λ b lt. ap (λ n. n - 1) (each b lt))

pub sum_bound : (xs : List ℕ) → sum xs ≤ pooled xs + length xs
sum_bound [] = omega arith
sum_bound (x ∷ xs) =
    let a : sum (x ∷ xs) ≡ x + sum xs = sum_by-cons (λ n. n) x xs in
    let b : pooled (x ∷ xs) ≡ (x - 1) + pooled xs = sum_by-cons (λ n. n - 1) x xs in
    let rest = sum_bound xs in
    omega arith

-- ---- room

pub room_is : (cs : List Column) (es : List Entry) (room : ℕ) (counts : List ℕ) (pool : ℕ) (k : List ℕ) → IsStored es room counts pool → bucket (length counts) k < length counts
    → (nat_eq (get_or counts (bucket (length counts) k) 0) 0 || nat_lt (pooled counts) pool) ≡ has_room (record { columns = cs; size = length counts; pool = pool }) (state_of es) k
room_is cs es room counts pool k d lt =
    ap (λ n. nat_eq n 0 || nat_lt (pooled counts) pool) (d.each (bucket (length counts) k) lt)
    ∙ ap (λ u. nat_eq (map.len (part (length counts) (state_of es) (bucket (length counts) k))) 0 || nat_lt u pool) (pooled_used counts (state_of es) d.each)

pub fits_in : (es : List Entry) (room : ℕ) (counts : List ℕ) (pool b : ℕ) → IsStored es room counts pool → b < length counts → pooled (set counts b (get_or counts b 0 + 1)) ≤ pool → length es < room
fits_in es room counts pool b d lt within =
    let bound = sum_bound (set counts b (get_or counts b 0 + 1)) in
    let sum1 : sum (set counts b (get_or counts b 0 + 1)) + get_or counts b 0 ≡ sum counts + (get_or counts b 0 + 1) = sum_by-set (λ n. n) counts b (get_or counts b 0 + 1) 0 lt in
    let len : length (set counts b (get_or counts b 0 + 1)) ≡ length counts = length-set counts b (get_or counts b 0 + 1) in
    let total : length es ≡ sum counts = d.total in
    let places : room ≡ length counts + pool = d.places in
    omega arith

-- ---- counts after a step

same_or_other : (t : Bool) (b c : ℕ) → nat_eq b c ≡ t → (b ≡ c) ⊎ (nat_eq b c ≡ false)
same_or_other true b c e = inl (grind (arith, nat_tests))
same_or_other false b c e = inr e

Each : (size : ℕ) (counts : List ℕ) (s : State) → Type 0
Each size counts s = (b : ℕ) → b < size → get_or counts b 0 ≡ map.len (part size s b)

-- the count of one bucket changes with its rows
each_changed : (counts : List ℕ) (s z : State) (b n : ℕ) → b < length counts → Each (length counts) counts s → n ≡ map.len (part (length counts) z b) → ((c : ℕ) → nat_eq b c ≡ false → part (length counts) z c ≡ part (length counts) s c)
    → Each (length counts) (set counts b n) z
unfolding Each
each_changed counts s z b n lt each made others c clt = elim (same_or_other (nat_eq b c) b c refl) [
  | inl same ↦ subst (λ x. get_or (set counts b n) x 0 ≡ map.len (part (length counts) z x)) same (get_or-set_same counts b n 0 lt ∙ made)
  | inr ne ↦ get_or-set_other counts b c n 0 (λ e. differs (nat_eq b c) refl ne (sym e)) ∙ each c clt ∙ ap map.len (sym (others c ne))
]
  where
    differs : (t : Bool) → nat_eq b c ≡ t → nat_eq b c ≡ false → b ≡ c → ⊥
    differs t e f same = absurd (grind (arith, nat_tests))

each_len : (counts new : List ℕ) (s : State) → length new ≡ length counts → Each (length counts) new s → Each (length new) new s
each_len counts new s len each = subst (λ n. Each n new s) (sym len) each

-- ---- a row at the end

one_more : (o : Option (List Value)) (n : ℕ) → o ≡ None → cond (is_some o) n (n + 1) ≡ n + 1
one_more (Some v) n e = absurd (cc)
one_more None n e = refl

pub stored_pushed : (es : List Entry) (room : ℕ) (counts : List ℕ) (pool : ℕ) (k : List ℕ) (v : List Value) → IsStored es room counts pool → bucket (length counts) k < length counts → map.get (state_of es) k ≡ None
    → IsStored (es ++ (k, v) ∷ []) room (set counts (bucket (length counts) k) (get_or counts (bucket (length counts) k) 0 + 1)) pool
unfolding Each
stored_pushed es room counts pool k v d lt miss =
    let b : ℕ = bucket (length counts) k in
    let n : ℕ = get_or counts b 0 in
    let len : length (set counts b (n + 1)) ≡ length counts = length-set counts b (n + 1) in
    let state : state_of (es ++ (k, v) ∷ []) ≡ map.insert (state_of es) k v = pushed es k v (sym (get_listed es k) ∙ miss) in
    let made : n + 1 ≡ map.len (part (length counts) (map.insert (state_of es) k v) b) =
    ap (λ m. m + 1) (d.each b lt)
    ∙ sym (ap map.len (part_inserted (length counts) (state_of es) b k v (eq-eqb b b refl))
    ∙ len-insert nat_list_cmp_total (part (length counts) (state_of es) b) k v
    ∙ one_more (map.get (part (length counts) (state_of es) b) k) (map.len (part (length counts) (state_of es) b)) (get_own (length counts) (state_of es) k ∙ miss)) in
    let each : Each (length counts) (set counts b (n + 1)) (map.insert (state_of es) k v) = each_changed counts (state_of es) (map.insert (state_of es) k v) b (n + 1) lt d.each made (λ c ne. part_beside (length counts) (state_of es) c k v ne) in
    record {
      distinct = push_distinct es k v d.distinct (sym (get_listed es k) ∙ miss);
      places = d.places ∙ ap (λ m. m + pool) (sym len);
      total =
          let sum1 : sum (set counts b (n + 1)) + n ≡ sum counts + (n + 1) = sum_by-set (λ m. m) counts b (n + 1) 0 lt in
          let size1 : length (es ++ (k, v) ∷ []) ≡ length es + 1 = length-append es ((k, v) ∷ []) in
          let total : length es ≡ sum counts = d.total in
          omega arith;
      some = let some : 0 < length counts = d.some in omega arith;
      each = subst (λ (z : State). Each (length (set counts b (n + 1))) (set counts b (n + 1)) z) (sym state) (each_len counts (set counts b (n + 1)) (map.insert (state_of es) k v) len each);
    }

-- ---- a row taken out

pub counted_some : (es : List Entry) (room : ℕ) (counts : List ℕ) (pool at : ℕ) (k : List ℕ) → IsStored es room counts pool → bucket (length counts) k < length counts → at < length es → key_at es at ≡ k → 0 < get_or counts (bucket (length counts) k) 0
counted_some es room counts pool at k d lt alt is =
    let b : ℕ = bucket (length counts) k in
    let hit : map.get (state_of es) k ≡ Some (row_at es at) = get_listed es k ∙ found es at k (row_at es at) d.distinct (there es at alt ∙ ap (λ (x : List ℕ). Some (x, row_at es at)) is) in
    let own : map.get (part (length counts) (state_of es) b) k ≡ Some (row_at es at) = get_own (length counts) (state_of es) k ∙ hit in
    subst (λ n. 0 < n) (sym (d.each b lt)) (not_empty (part (length counts) (state_of es) b) k (row_at es at) (map.len (part (length counts) (state_of es) b)) refl own)

one_less : (o : Option (List Value)) (n : ℕ) (v : List Value) → o ≡ Some v → cond (is_some o) (n - 1) n ≡ n - 1
one_less (Some w) n v e = refl
one_less None n v e = absurd (cc)

pub stored_removed : (es : List Entry) (room : ℕ) (counts : List ℕ) (pool at : ℕ) (k : List ℕ) → IsStored es room counts pool → bucket (length counts) k < length counts → at < length es → key_at es at ≡ k
    → IsStored (remove es at) room (set counts (bucket (length counts) k) (get_or counts (bucket (length counts) k) 0 - 1)) pool
unfolding Each
stored_removed es room counts pool at k d lt alt is =
    let b : ℕ = bucket (length counts) k in
    let n : ℕ = get_or counts b 0 in
    let v : List Value = row_at es at in
    let here : slice_get es at ≡ Some (k, v) = there es at alt ∙ ap (λ (x : List ℕ). Some (x, row_at es at)) is in
    let len : length (set counts b (n - 1)) ≡ length counts = length-set counts b (n - 1) in
    let state : state_of (remove es at) ≡ map.remove (state_of es) k = taken_out es at k v d.distinct here in
    let hit : map.get (state_of es) k ≡ Some v = get_listed es k ∙ found es at k v d.distinct here in
    let some_here : 0 < n = counted_some es room counts pool at k d lt alt is in
    let made : n - 1 ≡ map.len (part (length counts) (map.remove (state_of es) k) b) =
    ap (λ m. m - 1) (d.each b lt)
    ∙ sym (ap map.len (part_removed (length counts) (state_of es) b k)
    ∙ len-remove nat_list_cmp_total (part (length counts) (state_of es) b) k
    ∙ one_less (map.get (part (length counts) (state_of es) b) k) (map.len (part (length counts) (state_of es) b)) v (get_own (length counts) (state_of es) k ∙ hit)) in
    let each : Each (length counts) (set counts b (n - 1)) (map.remove (state_of es) k) = each_changed counts (state_of es) (map.remove (state_of es) k) b (n - 1) lt d.each made (λ c ne. part_left (length counts) (state_of es) c k ne) in
    record {
      distinct = remove_distinct es at k v d.distinct here;
      places = d.places ∙ ap (λ m. m + pool) (sym len);
      total =
          let sum1 : sum (set counts b (n - 1)) + n ≡ sum counts + (n - 1) = sum_by-set (λ m. m) counts b (n - 1) 0 lt in
          let size1 : suc (length (remove es at)) ≡ length es = removed_length es at alt in
          let total : length es ≡ sum counts = d.total in
          omega arith;
      some = let some : 0 < length counts = d.some in omega arith;
      each = subst (λ (z : State). Each (length (set counts b (n - 1))) (set counts b (n - 1)) z) (sym state) (each_len counts (set counts b (n - 1)) (map.remove (state_of es) k) len each);
    }
  where
    removed_length : (es : List Entry) (at : ℕ) → at < length es → suc (length (remove es at)) ≡ length es
    removed_length [] at lt = absurd (omega (arith, lt))
    removed_length (e ∷ es) zero lt = refl
    removed_length (e ∷ es) (suc at) lt = ap suc (removed_length es at (omega arith))

-- ---- another row under a key

stays : (o : Option (List Value)) (n : ℕ) (v : List Value) → o ≡ Some v → cond (is_some o) n (n + 1) ≡ n
stays (Some w) n v e = refl
stays None n v e = absurd (cc)

same_counts : (t : Bool) (size : ℕ) (s : State) (k : List ℕ) (v w : List Value) (c : ℕ) → nat_eq (bucket size k) c ≡ t → map.get s k ≡ Some v → map.len (part size (map.insert s k w) c) ≡ map.len (part size s c)
same_counts true size s k v w c e hit =
    ap map.len (part_inserted size s c k w e)
    ∙ len-insert nat_list_cmp_total (part size s c) k w
    ∙ stays (map.get (part size s c) k) (map.len (part size s c)) v (get_part size s c k ∙ ap (λ b. cond b (map.get s k) None) e ∙ hit)
same_counts false size s k v w c e hit = ap map.len (part_beside size s c k w e)

pub stored_put : (es : List Entry) (room : ℕ) (counts : List ℕ) (pool at : ℕ) (w : List Value) → IsStored es room counts pool → at < length es → IsStored (with_row es at w) room counts pool
stored_put es room counts pool at w d alt =
    let k : List ℕ = key_at es at in
    let v : List Value = row_at es at in
    let here : slice_get es at ≡ Some (k, v) = there es at alt in
    let hit : map.get (state_of es) k ≡ Some v = get_listed es k ∙ found es at k v d.distinct here in
    record {
      distinct = put_distinct es at k v w d.distinct here;
      places = d.places;
      total = length-set es at (k, w) ∙ d.total;
      some = d.some;
      each = λ c clt. d.each c clt ∙ sym (ap (λ (s : State). map.len (part (length counts) s c)) (put es at k v w d.distinct here) ∙ same_counts (nat_eq (bucket (length counts) k) c) (length counts) (state_of es) k v w c refl hit);
    }

pub state_put : (es : List Entry) (room : ℕ) (counts : List ℕ) (pool at : ℕ) (w : List Value) → IsStored es room counts pool → at < length es → state_of (with_row es at w) ≡ map.insert (state_of es) (key_at es at) w
state_put es room counts pool at w d alt = put es at (key_at es at) (row_at es at) w d.distinct (there es at alt)

pub state_removed : (es : List Entry) (room : ℕ) (counts : List ℕ) (pool at : ℕ) (k : List ℕ) → IsStored es room counts pool → at < length es → key_at es at ≡ k → state_of (remove es at) ≡ map.remove (state_of es) k
state_removed es room counts pool at k d alt is = taken_out es at k (row_at es at) d.distinct (there es at alt ∙ ap (λ (x : List ℕ). Some (x, row_at es at)) is)

-- ---- no rows

pub stored_none : (size pool room : ℕ) (counts : List ℕ) (es : List Entry) → 0 < size → es ≡ [] → counts ≡ replicate size 0 → room ≡ size + pool → IsStored es room counts pool
stored_none size pool room counts es some none made places =
    let len : length counts ≡ size = ap length made ∙ length-replicate size 0 in
    let total : sum counts ≡ size * 0 = ap sum made ∙ sum_by-replicate (λ n. n) size 0 in
    let empty : length es ≡ 0 = ap length none in
    record {
      distinct = subst Distinct (sym none) tt;
      places = omega arith;
      total = omega arith;
      some = omega arith;
      each = λ b lt.
          let within : b < size = omega arith in
          ap (λ (xs : List ℕ). get_or xs b 0) made ∙ get_or-replicate size b 0 0 within
          ∙ sym (ap (λ (xs : List Entry). map.len (part (length counts) (state_of xs) b)) none ∙ no_len (length counts) b);
    }

-- ---- what a search found

pub found_row : (es : List Entry) (at : ℕ) (k : List ℕ) → Distinct es → IsAt es at k → (at < length es) × (key_at es at ≡ k) × (map.get (state_of es) k ≡ Some (row_at es at))
found_row es at k d is =
    let row : row_at es at ≡ is.0 = ap (λ (o : Option Entry). unwrap_or (option_map (λ (e : Entry). e.1) o) []) is.1 in (
      place_of es at k is.0 is.1,
      ap (λ (o : Option Entry). unwrap_or (option_map (λ (e : Entry). e.0) o) []) is.1,
      get_listed es k ∙ found es at k is.0 d is.1 ∙ ap Some (sym row),
    )

-- ---- the same, as a store is seen

abbrev pub seen : List Column → List ℕ → ℕ → List Entry → Stored
seen cs counts pool es = record { shape = record { columns = cs; size = length counts; pool = pool }; entries = es }

pub bucket_seen : (cs : List Column) (counts : List ℕ) (pool : ℕ) (es : List Entry) (now : Stored) (k : List ℕ) (b : ℕ) → seen cs counts pool es ≡ now → b ≡ bucket now.shape.size k → b < now.shape.size → (b ≡ bucket (length counts) k) × (b < length counts)
bucket_seen cs counts pool es now k b view is lt =
    let size : now.shape.size ≡ length counts = ap (λ (s : Stored). s.shape.size) (sym view) in
    (is ∙ ap (λ n. bucket n k) size, subst (λ n. b < n) size lt)

pub room_seen : (cs : List Column) (counts : List ℕ) (pool : ℕ) (es : List Entry) (room : ℕ) (now : Stored) (k : List ℕ) (b : ℕ) → seen cs counts pool es ≡ now → IsStored es room counts pool → b ≡ bucket now.shape.size k → b < now.shape.size
    → (nat_eq (get_or counts b 0) 0 || nat_lt (pooled counts) pool) ≡ has_room now.shape (state_of now.entries) k
room_seen cs counts pool es room now k b view d is lt =
    let here = bucket_seen cs counts pool es now k b view is lt in
    ap (λ i. nat_eq (get_or counts i 0) 0 || nat_lt (pooled counts) pool) here.0
    ∙ room_is cs es room counts pool k d (subst (λ i. i < length counts) here.0 here.1)
    ∙ ap (λ (s : Stored). has_room s.shape (state_of s.entries) k) view

pub if_none : (o : Option ℕ) (A B : Type 0) → (A → B) → IfNone o A → IfNone o B
if_none None A B f h = f h
if_none (Some n) A B f h = h

pub if_some : (o : Option ℕ) (A B : ℕ → Type 0) → ((n : ℕ) → A n → B n) → IfSome o A → IfSome o B
if_some None A B f h = h
if_some (Some n) A B f h = f n h
