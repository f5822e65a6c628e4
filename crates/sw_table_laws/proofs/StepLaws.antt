use Rattle.std.proofs.Common.{◌≡◌, ◌≢◌, ℕ, ◌<◌, ◌≤◌, Bool, true, false, cond, ◌||◌, List, Option, Some, None, refl, ap, sym, ◌∙◌, arith, true≢false}
use Rattle.std.proofs.lemmas.Bool.Decides.{nat_tests}
use Rattle.std.specs.Prelude.{nat_eq, nat_lt, ℤ, is_some}
use Rattle.std.specs.FinMap as map
use Rattle.sw_base.specs.declared.table.Value.{Value}
use Rattle.sw_base.specs.declared.table.Call.TheVariants.{Set, Get, Exist, Del, Incr, Decr, Count}
use Rattle.sw_base.specs.declared.table.Reply.TheVariants.{Full, Yes, No}
use Rattle.sw_table_laws.specs.Table.{State, Shape, bucket, part, used, may_write, set_step, get_step, del_step, add_step}
use Rattle.sw_table_laws.specs.Laws.{KeepsOthers, FullIsFull, CountCounts, OtherBuckets}
use Rattle.sw_table_laws.proofs.Maps.{get_other, removed_other, part_beside, part_left}

-- ---- no other key is changed

keeps_set : (w : Bool) (s : State) (k q : List ℕ) (row : List Value) → q ≢ k → map.get (set_step w s k row).state q ≡ map.get s q
keeps_set true s k q row ne = get_other s k row q ne
keeps_set false s k q row ne = refl

keeps_get : (o : Option (List Value)) (s : State) (q : List ℕ) → map.get (get_step s o).state q ≡ map.get s q
keeps_get None s q = refl
keeps_get (Some row) s q = refl

keeps_del : (w : Bool) (s : State) (k q : List ℕ) → q ≢ k → map.get (del_step w s k).state q ≡ map.get s q
keeps_del true s k q ne = removed_other s k q ne
keeps_del false s k q ne = refl

keeps_add : (f w : Bool) (s : State) (k q : List ℕ) (row : List Value) (v : ℤ) → q ≢ k → map.get (add_step f w s k row v).state q ≡ map.get s q
keeps_add false w s k q row v ne = refl
keeps_add true false s k q row v ne = refl
keeps_add true true s k q row v ne = get_other s k row q ne

other_key : (k q : List ℕ) → ¬ (Some k ≡ Some q) → q ≢ k
other_key k q ne is = ne (ap Some (sym is))

pub keeps_others : KeepsOthers
keeps_others t s (Set k pairs) q ne = keeps_set _ s k q _ (other_key k q ne)
keeps_others t s (Get k) q ne = keeps_get (map.get s k) s q
keeps_others t s (Exist k) q ne = refl
keeps_others t s (Del k) q ne = keeps_del _ s k q (other_key k q ne)
keeps_others t s (Incr k name by) q ne = keeps_add _ _ s k q _ _ (other_key k q ne)
keeps_others t s (Decr k name by) q ne = keeps_add _ _ s k q _ _ (other_key k q ne)
keeps_others t s Count q ne = refl

pub count_counts : CountCounts
count_counts t s = (refl, refl)

-- ---- Full

none_of : (o : Option (List Value)) (a b : Bool) → (is_some o || (a || b)) ≡ false → (o ≡ None) × (a ≡ false) × (b ≡ false)
none_of (Some x) a b e = absurd (true≢false e)
none_of None true b e = absurd (true≢false e)
none_of None false true e = absurd (true≢false e)
none_of None false false e = (refl, refl, refl)

occupied : (n : ℕ) → nat_eq n 0 ≡ false → 0 < n
occupied n e = grind (arith, nat_tests)

used_up : (u p : ℕ) → nat_lt u p ≡ false → p ≤ u
used_up u p e = grind (arith, nat_tests)

full_so : (t : Shape) (s : State) (key : List ℕ) → may_write t s key ≡ false → (map.get s key ≡ None) × (0 < map.len (part t.size s (bucket t.size key))) × (t.pool ≤ used t.size s)
full_so t s key e =
    let all = none_of (map.get s key) (nat_eq (map.len (part t.size s (bucket t.size key))) 0) (nat_lt (used t.size s) t.pool) e in
    (all.0, occupied _ all.1, used_up _ _ all.2)

full_set : (w : Bool) (s : State) (k : List ℕ) (row : List Value) → (set_step w s k row).reply ≡ Full → w ≡ false
full_set true s k row e = cc
full_set false s k row e = refl

full_add : (f w : Bool) (s : State) (k : List ℕ) (row : List Value) (v : ℤ) → (add_step f w s k row v).reply ≡ Full → w ≡ false
full_add false w s k row v e = cc
full_add true true s k row v e = cc
full_add true false s k row v e = refl

never_get : (o : Option (List Value)) (s : State) → ¬ ((get_step s o).reply ≡ Full)
never_get None s e = cc
never_get (Some row) s e = cc

never_del : (w : Bool) (s : State) (k : List ℕ) → ¬ ((del_step w s k).reply ≡ Full)
never_del true s k e = cc
never_del false s k e = cc

never_exist : (w : Bool) → ¬ (cond w Yes No ≡ Full)
never_exist true e = cc
never_exist false e = cc

at_key : (t : Shape) (s : State) (k key : List ℕ) → Some k ≡ Some key → may_write t s k ≡ false → (map.get s key ≡ None) × (0 < map.len (part t.size s (bucket t.size key))) × (t.pool ≤ used t.size s)
at_key t s k key is e = let same : k ≡ key = cc in full_so t s key (ap (may_write t s) (sym same) ∙ e)

pub full_is_full : FullIsFull
full_is_full t s (Set k pairs) key is e = at_key t s k key is (full_set _ s k _ e)
full_is_full t s (Get k) key is e = absurd (never_get (map.get s k) s e)
full_is_full t s (Exist k) key is e = absurd (never_exist _ e)
full_is_full t s (Del k) key is e = absurd (never_del _ s k e)
full_is_full t s (Incr k name by) key is e = at_key t s k key is (full_add _ _ s k _ _ e)
full_is_full t s (Decr k name by) key is e = at_key t s k key is (full_add _ _ s k _ _ e)
full_is_full t s Count key is e = absurd (cc)

-- ---- other buckets

beside_set : (w : Bool) (size : ℕ) (s : State) (k : List ℕ) (row : List Value) (b : ℕ) → nat_eq (bucket size k) b ≡ false → part size (set_step w s k row).state b ≡ part size s b
beside_set true size s k row b ne = part_beside size s b k row ne
beside_set false size s k row b ne = refl

beside_get : (o : Option (List Value)) (size : ℕ) (s : State) (b : ℕ) → part size (get_step s o).state b ≡ part size s b
beside_get None size s b = refl
beside_get (Some row) size s b = refl

beside_del : (w : Bool) (size : ℕ) (s : State) (k : List ℕ) (b : ℕ) → nat_eq (bucket size k) b ≡ false → part size (del_step w s k).state b ≡ part size s b
beside_del true size s k b ne = part_left size s b k ne
beside_del false size s k b ne = refl

beside_add : (f w : Bool) (size : ℕ) (s : State) (k : List ℕ) (row : List Value) (v : ℤ) (b : ℕ) → nat_eq (bucket size k) b ≡ false → part size (add_step f w s k row v).state b ≡ part size s b
beside_add false w size s k row v b ne = refl
beside_add true false size s k row v b ne = refl
beside_add true true size s k row v b ne = part_beside size s b k row ne

unequal : (a b : ℕ) → ¬ (a ≡ b) → nat_eq a b ≡ false
unequal a b ne = grind (arith, nat_tests)

other_bucket : (size b : ℕ) (k key : List ℕ) → Some k ≡ Some key → b ≢ bucket size key → nat_eq (bucket size k) b ≡ false
other_bucket size b k key is ne = let same : k ≡ key = cc in unequal (bucket size k) b (λ e. ne (sym e ∙ ap (bucket size) same))

pub other_buckets : OtherBuckets
other_buckets t s (Set k pairs) key b is ne = beside_set _ t.size s k _ b (other_bucket t.size b k key is ne)
other_buckets t s (Get k) key b is ne = beside_get (map.get s k) t.size s b
other_buckets t s (Exist k) key b is ne = refl
other_buckets t s (Del k) key b is ne = beside_del _ t.size s k b (other_bucket t.size b k key is ne)
other_buckets t s (Incr k name by) key b is ne = beside_add _ _ t.size s k _ _ b (other_bucket t.size b k key is ne)
other_buckets t s (Decr k name by) key b is ne = beside_add _ _ t.size s k _ _ b (other_bucket t.size b k key is ne)
other_buckets t s Count key b is ne = refl
